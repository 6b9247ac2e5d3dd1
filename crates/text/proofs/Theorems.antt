-- The decimal text of a number is right: it reads back as the number, has digits only, and no leading zero but that of 0.
use mathlib.Core.Path.{◌≡◌, refl, sym, ap, subst, ◌∙◌}
use mathlib.Core.List.{List, [], ◌∷◌, ◌++◌}
use Prim.Native.Nat.{ℕ, zero, suc, ◌+◌, ◌-◌, ◌*◌, ◌/◌, ◌%◌, ◌<◌, ◌≤◌}
use native.Mathlib.Omega.{arith}
use borrow.Author.Tests.{ltb-true, ltb-false}
use lib.Dec.{ltb}
use lib.ListN.{length, get_or, get_or-append}
use Rattle.text.specs.Decimal.{decimal}
use Rattle.arith.proofs.Choices.{split}
use Rattle.text.proofs.DecimalLaws.{one-digit, more-digits, one-length, more-length}

-- the number that digits make after `front`
unfoldable pub read_after : ℕ → List ℕ → ℕ
read_after front [] = front
read_after front (b ∷ bs) = read_after (10 * front + (b - 48)) bs

read-append : (front : ℕ) (bs cs : List ℕ) → read_after front (bs ++ cs) ≡ read_after (read_after front bs) cs
unfolding read_after
read-append front [] cs = refl
read-append front (b ∷ bs) cs = read-append (10 * front + (b - 48)) bs cs

-- what holds of numbers below 10, and of n where it holds of n / 10, holds of every number
by-tens : (P : ℕ → Type 0) → ((n : ℕ) → n < 10 → P n) → ((n : ℕ) → 10 ≤ n → P (n / 10) → P n) → (n : ℕ) → P n
by-tens P small large n = below (suc n) n (omega arith)
  where
    below : (k n : ℕ) → n < k → P n
    below zero n h = absurd (omega arith)
    below (suc k) n h =
        split (ltb n 10) (λ t. small n (ltb-true n 10 t))
        (λ t. let l = ltb-false n 10 t in large n l (below k (n / 10) (omega arith)))

pub decimal-reads : (n : ℕ) → read_after 0 (decimal n) ≡ n
unfolding read_after
decimal-reads = by-tens (λ n. read_after 0 (decimal n) ≡ n)
    (λ n h. ap (read_after 0) (one-digit n h) ∙ omega arith)
    (λ n h p.
    ap (read_after 0) (more-digits n h)
    ∙ read-append 0 (decimal (n / 10)) ((48 + n % 10) ∷ [])
    ∙ ap (λ (k : ℕ). 10 * k + (48 + n % 10 - 48)) p
    ∙ omega arith)

-- the first byte of a number above 0 is a digit from 1 to 9
pub no-leading-zero : (n : ℕ) → 1 ≤ n → (49 ≤ get_or (decimal n) 0 0) × (get_or (decimal n) 0 0 ≤ 57)
no-leading-zero = by-tens (λ n. 1 ≤ n → (49 ≤ get_or (decimal n) 0 0) × (get_or (decimal n) 0 0 ≤ 57))
    (λ n h l. subst (λ (ds : List ℕ). (49 ≤ get_or ds 0 0) × (get_or ds 0 0 ≤ 57)) (sym (one-digit n h)) (omega arith, omega arith))
    (λ n h p l.
    let e : get_or (decimal n) 0 0 ≡ get_or (decimal (n / 10)) 0 0
    = ap (λ (ds : List ℕ). get_or ds 0 0) (more-digits n h) ∙ get_or-append (decimal (n / 10)) ((48 + n % 10) ∷ []) 0 0 (some (n / 10)) in
    let q = p (omega arith) in
    (omega (arith, e, q.0), omega (arith, e, q.1)))
  where
    some : (n : ℕ) → 0 < length (decimal n)
    some n = split (ltb n 10) (λ t. omega (arith, one-length n (ltb-true n 10 t))) (λ t. omega (arith, more-length n (ltb-false n 10 t)))
