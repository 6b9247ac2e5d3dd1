-- `put_number` meets its contract: the library writes the bytes of a number.
use mathlib.Core.Path.{◌≡◌, sym, ◌∙◌}
use Prim.Native.Nat.{◌+◌, ◌*◌, ◌-◌}
use native.Mathlib.Omega.{arith}
use Rattle.table_file.proofs.NumberLaws.{bytes-are, four-put}
use Rattle.table_file.proofs.put_number.Goals as goal

pub returns : goal.returns
returns c =
    let a = c.args in
    let e : 4 * a.k + 4 - 4 * a.k ≡ 4 = omega arith in
    four-put a.bytes.now _ (4 * a.k) _ a.v c.requires e (c.copy_from_slice.ensures.after ∙ c.to_le_bytes.ensures ∙ sym (bytes-are a.v))
