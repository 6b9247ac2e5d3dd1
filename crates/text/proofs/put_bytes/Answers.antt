-- `put_bytes` meets its contract: a part of the slice copied over.
use Prim.Native.Nat.{◌+◌, ◌-◌}
use mathlib.Core.Path.{◌≡◌, refl}
use native.Mathlib.Omega.{arith}
use lib.ListN.{length}
use Rattle.text.proofs.LineLaws.{part-put}
use Rattle.text.proofs.put_bytes.Goals as goal

pub returns : goal.returns
returns c =
    let a = c.args in
    let e : a.at + length a.bytes.now - a.at ≡ length a.bytes.now = omega arith in
    record { ended = refl; written = part-put a.out.now _ a.bytes.now a.at _ (omega arith) e c.copy_from_slice.ensures.after }
