-- A number of two digits; the digits of a number are those that it was made of.
use mathlib.Core.Path.{◌≡◌, sym, ap, subst, ◌∙◌, fun_ext}
use Prim.Native.Nat.{ℕ, zero, suc, ◌+◌, ◌*◌, ◌/◌, ◌%◌, ◌^◌, ◌≤◌, ◌<◌}
use native.Mathlib.Nat.{zero-mod, zero-div, mod-lt, mod-eq_of_lt, div-eq_of_lt, add-mul-mod_self_left, add-mul-div_left, mul-le-mul_left, pow-zero, pow-succ', zero-add, zero-lt-suc, not-suc-le-zero, div-lt_iff_lt-mul, mod-add-div, mul-add-div, mul-add-mod_self_left, add-zero, mul_comm}
use native.Mathlib.Omega.{arith}
use Rattle.lattice.specs.Digits.{number, span, digit}
use Rattle.lattice.specs.Axes.{Place, OnUsed}

-- ---- two digits

module _ (m x r : ℕ) (h : r < m) where
  pub high_digit : (m * x + r) / m ≡ x
  high_digit = mul-add-div (omega arith) x r ∙ ap (λ (k : ℕ). x + k) (div-eq_of_lt h) ∙ add-zero x

  pub low_digit : (m * x + r) % m ≡ r
  low_digit = mul-add-mod_self_left m x r ∙ mod-eq_of_lt h

  pub pair-in : (n : ℕ) → x < n → m * x + r < n * m
  pair-in n l = let w = mul-le-mul_left m l in omega (arith, mul_comm m n)

pub high-below : {m n v : ℕ} → 0 < m → v < m * n → v / m < n
high-below {m} {n} {v} k l = (div-lt_iff_lt-mul k).1 (omega (arith, mul_comm n m))

-- one of n groups of m
pub group-room : (m x n : ℕ) → x < n → m * x + m ≤ m * n
group-room m x n h = let w = mul-le-mul_left m h in omega arith

-- no group, and one group more
pub no-group : (m j : ℕ) → j < m * 0 → ⊥
no-group m j h = omega arith

pub next-group : (m x : ℕ) → m * x + m ≡ m * (x + 1)
next-group m x = omega arith

-- ---- all digits

digit-none : (radix : ℕ → ℕ) (a : ℕ) → digit radix 0 a ≡ 0
unfolding digit
digit-none radix zero = zero-mod (radix 0)
digit-none radix (suc a) = ap (λ (v : ℕ). digit (λ b. radix (suc b)) v a) (zero-div (radix 0)) ∙ digit-none (λ b. radix (suc b)) a

pub above_zero : {a b : ℕ} → a < b → 0 < b
above_zero h = omega arith

pub digit-number : (n : ℕ) (radix p : ℕ → ℕ) → ((a : ℕ) → a < n → p a < radix a) → ((a : ℕ) → n ≤ a → p a ≡ 0) → (a : ℕ)
    → digit radix (number n radix p) a ≡ p a
unfolding digit number
digit-number zero radix p h k a = digit-none radix a ∙ sym (k a (omega arith))
digit-number (suc n) radix p h k zero =
    let z : p 0 < radix 0 = h 0 (omega arith) in
    add-mul-mod_self_left (p 0) (radix 0) (number n (λ a. radix (suc a)) (λ a. p (suc a))) ∙ mod-eq_of_lt z
digit-number (suc n) radix p h k (suc a) =
    let z : p 0 < radix 0 = h 0 (omega arith) in
    ap (λ (v : ℕ). digit (λ b. radix (suc b)) v a)
    (add-mul-div_left (p 0) (number n (λ a. radix (suc a)) (λ a. p (suc a))) (above_zero z)
    ∙ ap (λ (v : ℕ). v + number n (λ a. radix (suc a)) (λ a. p (suc a))) (div-eq_of_lt z)
    ∙ zero-add (number n (λ a. radix (suc a)) (λ a. p (suc a))))
    ∙ digit-number n (λ b. radix (suc b)) (λ b. p (suc b)) (λ b l. h (suc b) (omega arith)) (λ b l. k (suc b) (omega arith)) a

pub digit-below : (radix : ℕ → ℕ) (v a : ℕ) → 0 < radix a → digit radix v a < radix a
unfolding digit
digit-below radix v zero h = mod-lt v h
digit-below radix v (suc a) h = digit-below (λ b. radix (suc b)) (v / radix 0) a h

pub number-below : (n : ℕ) (radix p : ℕ → ℕ) → ((a : ℕ) → a < n → p a < radix a) → number n radix p < span n radix
unfolding number span
number-below zero radix p h = omega arith
number-below (suc n) radix p h =
    let z : p 0 < radix 0 = h 0 (omega arith) in
    let y = mul-le-mul_left (radix 0) (number-below n (λ a. radix (suc a)) (λ a. p (suc a)) (λ a l. h (suc a) (omega arith))) in
    omega arith

pub span-power : (m n : ℕ) → span n (λ b. m) ≡ m ^ n
unfolding span
span-power m zero = sym (pow-zero m)
span-power m (suc n) = ap (λ (k : ℕ). m * k) (span-power m n) ∙ sym (pow-succ' m n)

-- a number below the span is made of its digits, and has no others
rest_below : (v r k : ℕ) → v < r * k → (0 < r) × (v / r < k)
rest_below v zero k h = absurd (none h)
  where
    none : v < 0 * k → ⊥
    none h = omega arith
rest_below v (suc r) k h = (omega arith, (div-lt_iff_lt-mul (zero-lt-suc r)).1 (omega arith))

pub number-digit : (n : ℕ) (radix : ℕ → ℕ) (v : ℕ) → v < span n radix → number n radix (digit radix v) ≡ v
unfolding number digit span
number-digit zero radix v h = omega arith
number-digit (suc n) radix v h =
    let k = rest_below v (radix 0) (span n (λ a. radix (suc a))) h in
    ap (λ (i : ℕ). v % radix 0 + radix 0 * i) (number-digit n (λ a. radix (suc a)) (v / radix 0) k.1) ∙ mod-add-div v (radix 0)

pub digit-beyond : (n : ℕ) (radix : ℕ → ℕ) (v : ℕ) → v < span n radix → (a : ℕ) → n ≤ a → digit radix v a ≡ 0
unfolding digit span
digit-beyond zero radix v h a l = ap (λ (i : ℕ). digit radix i a) (let e : v ≡ 0 = omega arith in e) ∙ digit-none radix a
digit-beyond (suc n) radix v h zero l = absurd (not-suc-le-zero l)
digit-beyond (suc n) radix v h (suc a) l =
    digit-beyond n (λ b. radix (suc b)) (v / radix 0) (rest_below v (radix 0) (span n (λ b. radix (suc b))) h).1 a (omega arith)

-- a digit depends on the radices up to it
pub digit-same : (f h : ℕ → ℕ) (v a : ℕ) → ((b : ℕ) → b ≤ a → f b ≡ h b) → digit f v a ≡ digit h v a
unfolding digit
digit-same f h v zero e = ap (λ (k : ℕ). v % k) (e 0 (omega arith))
digit-same f h v (suc a) e =
    rw (e 0 (omega arith)) (digit-same (λ b. f (suc b)) (λ b. h (suc b)) (v / h 0) a (λ b l. e (suc b) (omega arith)))

-- ---- one radix for all axes

-- digits below w on the used axes, 0 on the others
abbrev pub Digits : ℕ → ℕ → Place → Type 0
Digits n w p = OnUsed n (λ a i. i < w) p

module _ (n w : ℕ) where
  pub digits_in : (v : ℕ) → 0 < w → v < w ^ n → Digits n w (digit (λ b. w) v)
  digits_in v some h = record {
    used = λ a l. digit-below (λ b. w) v a some;
    unused = λ a l. digit-beyond n (λ b. w) v (rw (span-power w n) h) a l;
  }

  pub number_in : (p : Place) → Digits n w p → number n (λ b. w) p < w ^ n
  number_in p d = subst (λ (k : ℕ). number n (λ b. w) p < k) (span-power w n) (number-below n (λ b. w) p d.used)

  pub of-digits : (v : ℕ) → v < w ^ n → number n (λ b. w) (digit (λ b. w) v) ≡ v
  of-digits v h = number-digit n (λ b. w) v (rw (span-power w n) h)

  pub of_number : (p : Place) → Digits n w p → digit (λ b. w) (number n (λ b. w) p) ≡ p
  of_number p d = fun_ext (λ a. digit-number n (λ b. w) p d.used d.unused a)
