-- Finite sums and products.
use Rattle.std.specs.Prelude.{ℕ, zero, suc, ◌+◌, ◌*◌, List, [], ◌∷◌, ℤ, pos, ◌+ℤ◌, ◌*ℤ◌}

-- f 0 + .. + f (n - 1)
unfoldable pub sum : ℕ → (ℕ → ℤ) → ℤ
sum zero f = pos 0
sum (suc n) f = sum n f +ℤ f n

-- the same of natural numbers
unfoldable pub total : ℕ → (ℕ → ℕ) → ℕ
total zero f = 0
total (suc n) f = total n f + f n

-- the product of f over a list
unfoldable pub product : List ℕ → (ℕ → ℤ) → ℤ
product [] f = pos 1
product (a ∷ ls) f = f a *ℤ product ls f

-- the same of natural numbers
unfoldable pub times : List ℕ → (ℕ → ℕ) → ℕ
times [] f = 1
times (a ∷ ls) f = f a * times ls f
