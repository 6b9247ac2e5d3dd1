-- `write` meets its contract: the slice is filled only where nothing is refused.
use mathlib.Core.Path.{sym, ap, ◌∙◌}
use native.Mathlib.Omega.{arith}
use Rattle.lattice.specs.Outcome.{done}
use Rattle.lattice.proofs.OutcomeLaws.{first-passed, refused-first, handed_on}
use Rattle.table_file.specs.File.{file_of, write_outcome}
use Rattle.table_file.proofs.WriteLaws.{fit, fit-size, answered-refused, answered-done}
use Rattle.table_file.proofs.write.Goals as goal

pub put_file-requires : goal.put_file-requires
put_file-requires c =
    let f = fit _ _ _ (omega arith) (sym c.in_ok-check_write.ensures) in
    let s = fit-size _ _ f.0 in
    (s.0, s.1, omega (arith, s.2, f.1))

pub returns-in_err-check_write : goal.returns-in_err-check_write
unfolding write_outcome
returns-in_err-check_write c =
    let e = refused-first _ (sym c.in_err-check_write.ensures) in
    let answered = answered-refused _ _ _ _ _ e in
    record { result_value = handed_on _ _ c.from_residual.ensures ∙ answered.0; bytes_after = answered.1 }

pub returns : goal.returns
unfolding write_outcome file_of
returns c =
    let e = first-passed _ _ (sym c.in_ok-check_write.ensures) ∙ ap done (sym c.put_file.ensures.value) in
    let answered = answered-done _ _ _ _ _ e c.put_file.ensures.bytes_after in
    record { result_value = answered.0; bytes_after = answered.1 }
