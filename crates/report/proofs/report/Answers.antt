-- `report` meets its contract: a refused line, or the lines of the table.
use mathlib.Core.Path.{◌≡◌, refl, sym, ap, ◌∙◌}
use mathlib.Core.List.{List}
use Prim.Native.Nat.{ℕ, ◌≤◌}
use native.Mathlib.Omega.{arith}
use lib.ListN.{length}
use lib.Seq.{sets}
use Rattle.lattice.specs.Buffer.{overwrite}
use Rattle.lattice.proofs.BufferLaws.{sets-front}
use Rattle.text.specs.Lines.{refused_line}
use Rattle.report.specs.Report.{report_text}
use Rattle.report.proofs.LineLaws.{refused-low}
use Rattle.report.proofs.report.Goals as goal

-- a text at the front
text-put : (out text put now : List ℕ) (r : ℕ) → now ≡ sets out 0 put → r ≡ length put → put ≡ text → length put ≤ 16896
    → length out ≡ 16896 → ((r ≡ length text) × (r ≤ 16896)) × (now ≡ overwrite text out)
text-put out text put now r w e t h l =
    ((e ∙ ap length t, omega arith), w ∙ ap (sets out 0) t ∙ sets-front text out (omega (arith, ap length t)))

pub returns-in-Ok : goal.returns-in-Ok
returns-in-Ok c =
    let p = c.in-Ok.ensures in
    let text = report_text c.args.input.now in
    let both = text-put c.args.out.now text text _ c.in-Ok.end p.0.written (omega (arith, p.0.ended)) refl
    (omega (arith, p.0.ended, p.1)) (omega arith) in
    record { value = both.0; out_after = both.1 }

pub put_refused_line-requires : goal.put_refused_line-requires
put_refused_line-requires c = omega (arith, refused-low c.number.result (omega arith))

pub returns-in-Err : goal.returns-in-Err
returns-in-Err c =
    let p = c.put_refused_line in
    let e = c.in-Err.ensures in
    let both = text-put c.args.out.now (report_text c.args.input.now) (refused_line c.number.result) _ p.result
    (p.ensures.out_after ∙ ap (λ (l : List ℕ). sets l 0 (refused_line c.number.result)) e.1) p.ensures.value
    (ap refused_line c.number.ensures ∙ sym e.0) (omega (arith, refused-low c.number.result (omega arith))) (omega arith) in
    record { value = both.0; out_after = both.1 }
