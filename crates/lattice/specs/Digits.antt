-- Numbers of several digits, the lowest first, each digit with its own radix.
use Rattle.std.specs.Prelude.{ℕ, zero, suc, ◌+◌, ◌*◌, ◌/◌, ◌%◌}

-- p 0 + radix 0 · (p 1 + radix 1 · (..)), n digits
unfoldable pub number : ℕ → (ℕ → ℕ) → (ℕ → ℕ) → ℕ
number zero radix p = 0
number (suc n) radix p = p 0 + radix 0 * number n (λ a. radix (suc a)) (λ a. p (suc a))

-- how many such numbers there are
unfoldable pub span : ℕ → (ℕ → ℕ) → ℕ
span zero radix = 1
span (suc n) radix = radix 0 * span n (λ a. radix (suc a))

-- digit a of v
unfoldable pub digit : (ℕ → ℕ) → ℕ → ℕ → ℕ
digit radix v zero = v % radix 0
digit radix v (suc a) = digit (λ b. radix (suc b)) (v / radix 0) a
