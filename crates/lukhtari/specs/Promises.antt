-- What the keys promise.
use Rattle.std.specs.Prelude.{◌≡◌, ℕ, true, false}
use Rattle.lukhtari.specs.declared.keys.Right.{Right}
use Rattle.lukhtari.specs.Rights.{holds}
use Rattle.lukhtari.specs.Calls.{Call, form, reply, left}

-- for the same call two keys that both hold the right get the same reply, and the lent slice is left the same
abbrev pub SameReply : Type 0
SameReply =
    (right : Right) (call : Call right) (out : (form right).Lent) (k l : ℕ) → holds k right ≡ true → holds l right ≡ true
    → (reply k call out ≡ reply l call out) × (left k call out ≡ left l call out)

-- without the right the reply is the refusal, for any arguments the same, and the lent slice is left as it was
abbrev pub NothingSaid : Type 0
NothingSaid =
    (right : Right) (c d : Call right) (out other : (form right).Lent) (k l : ℕ) → holds k right ≡ false → holds l right ≡ false
    → (reply k c out ≡ (form right).refusal) × (reply k c out ≡ reply l d other) × (left k c out ≡ out)
