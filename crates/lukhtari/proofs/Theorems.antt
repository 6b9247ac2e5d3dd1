-- What the keys promise: a reply depends on the key only by whether it holds the right.
use mathlib.Core.Path.{◌≡◌, sym, ap, ◌∙◌}
use Prim.Native.Nat.{ℕ}
use mathlib.Core.Bool.{Bool, false}
use Rattle.arith.specs.Choice.{pick}
use Rattle.lukhtari.specs.declared.keys.Right.{Right}
use Rattle.lukhtari.specs.Rights.{holds}
use Rattle.lukhtari.specs.Calls.{Call, form, answer, reply, left}
use Rattle.lukhtari.specs.Promises.{SameReply, NothingSaid}

module _ {right : Right} (call : Call right) (out : (form right).Lent) where
  -- the reply and the slice where the right is held, and where it is not
  abbrev replies : Bool → (form right).Reply
  replies held = pick held (answer call out).0 (form right).refusal

  abbrev leaves : Bool → (form right).Lent
  leaves held = pick held (answer call out).1 out

  refused-reply : (k : ℕ) → holds k right ≡ false → reply k call out ≡ (form right).refusal
  unfolding pick
  refused-reply k lacks = ap replies lacks

  unwritten : (k : ℕ) → holds k right ≡ false → left k call out ≡ out
  unfolding pick
  unwritten k lacks = ap leaves lacks

pub same-reply : SameReply
same-reply right call out k l hk hl = let e = hk ∙ sym hl in (ap (replies call out) e, ap (leaves call out) e)

pub nothing_said : NothingSaid
nothing_said right c d out other k l hk hl =
    let e = refused-reply c out k hk in (e, e ∙ sym (refused-reply d other l hl), unwritten c out k hk)
