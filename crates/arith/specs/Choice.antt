-- A choice by a test, and a test of several numbers.
use Rattle.std.specs.Prelude.{Bool, true, false, ◌&&◌, ℕ, zero, suc}

module _ {A : Type 0} where
  -- the first where the test holds, else the second
  unfoldable pub pick : Bool → A → A → A
  pick true x y = x
  pick false x y = y

-- of all numbers below n
unfoldable pub all : ℕ → (ℕ → Bool) → Bool
all zero p = true
all (suc n) p = p n && all n p
