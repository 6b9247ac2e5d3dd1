-- The first digits of a number, up to the units, are top / bottom; it is whole where those after them are 0.
use mathlib.Core.Path.{◌≡◌, refl, sym, ap, subst, ◌∙◌}
use mathlib.Core.Bool.{true, ◌&&◌}
use mathlib.Core.List.{List, [], ◌∷◌, ◌++◌}
use Prim.Native.Nat.{ℕ, zero, suc, ◌+◌, ◌-◌, ◌*◌, ◌/◌, ◌%◌, ◌^◌, ◌≤◌, ◌<◌}
use native.Mathlib.Decide.{dec_le}
use native.Mathlib.Nat.{mul_assoc, one-le-pow, div-add-mod', mod-lt, div-eq_of_lt, mul-add-div_right, mul-lt-mul_of_pos_right, mul-div_cancel, mul-mod_left, pow-le-pow_right, lt_of_lt_of_le}
use lib.Pow.{pow-add}
use native.Mathlib.Omega.{arith}
use borrow.Author.Tests.{eq-eqb}
use lib.Dec.{eqb, eqb-suc-zero}
use lib.ListN.{length, take, drop, length-append, length-drop, take-append-drop}
use Rattle.arith.proofs.Choices.{pick_true, pick-false, split}
use Rattle.import.specs.declared.Sum.{Sum}
use Rattle.import.specs.Bytes.{skip}
use Rattle.import.specs.Grammar.{Number, Digit, Digits, no-digits, digit, is_digit, digits, frac_part, exp_part, number_in}
use Rattle.import.specs.Value.{decimal_from, decimal, mantissa, raised, lowered, top, bottom, is_whole, units}
use Rattle.import.specs.Parts.{capped, sum, add_digits, kept, kept_of, Measured}
use Rattle.import.proofs.SumLaws.{capped_small, capped-large, capped-or, decimal-append, decimal-below, digits_append, digits-drop, digits_are, add-append, add-taken, add-part}
use Rattle.import.proofs.BytesLaws.{leading-front, skip-short, beyond-short}

-- two quotients with remainders by one number
pub same-quotient : (u h x y k : ℕ) → 0 < k → u * k + x ≡ h * k + y → x < k → y < k → u ≡ h
same-quotient u h x y k p e lx ly =
    sym (quotient u x lx) ∙ ap (λ (n : ℕ). n / k) e ∙ quotient h y ly
  where
    quotient : (v z : ℕ) → z < k → (v * k + z) / k ≡ v
    quotient v z l = mul-add-div_right p v z ∙ omega (arith, div-eq_of_lt l)

-- two numbers are 0 together where positive multiples of them are equal
pub same-zero : (r t s a : ℕ) → 0 < s → 0 < a → r * s ≡ t * a → eqb r 0 ≡ eqb t 0
same-zero zero zero s a p q e = refl
same-zero zero (suc t) s a p q e = absurd (some t a q (sym e))
  where
    some : (n m : ℕ) → 0 < m → suc n * m ≡ 0 * s → ⊥
    some n m h k = omega arith
same-zero (suc r) zero s a p q e = absurd (some r s p e)
  where
    some : (n m : ℕ) → 0 < m → suc n * m ≡ 0 * a → ⊥
    some n m h k = omega arith
same-zero (suc r) (suc t) s a p q e = eqb-suc-zero r ∙ sym (eqb-suc-zero t)

-- top = m·A, bottom = B, and m with five more zeros has the first digits h and the rest t of as many digits as Q says
module _ (m h t A B Q : ℕ) (pa : 0 < A) (pb : 0 < B) (e : m * 100000 ≡ h * Q + t) (f : Q * A ≡ B * 100000) (l : t < Q) where
  scaled : (u r : ℕ) → u * B + r ≡ m * A → u * (B * 100000) + r * 100000 ≡ h * (B * 100000) + t * A
  scaled u r g =
      out ∙ ap (λ (n : ℕ). n * 100000) g ∙ turned ∙ ap (λ (n : ℕ). n * A) e ∙ apart ∙ ap (λ (n : ℕ). h * n + t * A) f
    where
      out : u * (B * 100000) + r * 100000 ≡ (u * B + r) * 100000
      out = omega arith

      turned : m * A * 100000 ≡ m * 100000 * A
      turned = omega arith

      apart : (h * Q + t) * A ≡ h * (Q * A) + t * A
      apart = omega arith

  abbrev rest : ℕ
  rest = m * A % B

  whole_scaled : m * A / B * (B * 100000) + rest * 100000 ≡ h * (B * 100000) + t * A
  whole_scaled = scaled (m * A / B) rest (div-add-mod' (m * A) B)

  below : t * A < B * 100000
  below = rw f at (mul-lt-mul_of_pos_right l pa)

  rest_below : rest * 100000 < B * 100000
  rest_below = mul-lt-mul_of_pos_right (mod-lt (m * A) pb) (omega arith)

  pub part-units : m * A / B ≡ h
  part-units = same-quotient (m * A / B) h (rest * 100000) (t * A) (B * 100000) (omega arith) whole_scaled rest_below below

  pub part-whole : eqb (m * A % B) 0 ≡ eqb t 0
  part-whole = same-zero rest t 100000 A (omega arith) pa (same (rw part-units at whole_scaled))
    where
      same : h * (B * 100000) + rest * 100000 ≡ h * (B * 100000) + t * A → rest * 100000 ≡ t * A
      same k = omega arith

-- ---- powers of ten

abbrev pub ten : ℕ → ℕ
ten k = 10 ^ k

pub ten-some : (k : ℕ) → 0 < ten k
ten-some k = one-le-pow k 10 (omega arith)

pub ten-add : (i j k : ℕ) → k ≡ i + j → ten k ≡ ten i * ten j
ten-add i j k e = ap ten e ∙ pow-add 10 i j

-- five zeros more than the digits: some are not taken
module _ (m h t a b q : ℕ) (e : m * 100000 ≡ h * ten q + t) (l : t < ten q) (f : q + a ≡ b + 5) where
  abbrev scales : ten q * ten a ≡ ten b * 100000
  scales = sym (ten-add q a (q + a) refl) ∙ ap ten f ∙ ten-add b 5 (b + 5) refl

  pub ten-units : m * ten a / ten b ≡ h
  ten-units = part-units m h t (ten a) (ten b) (ten q) (ten-some a) (ten-some b) e scales l

  pub ten-whole : eqb (m * ten a % ten b) 0 ≡ eqb t 0
  ten-whole = part-whole m h t (ten a) (ten b) (ten q) (ten-some a) (ten-some b) e scales l

-- and all are taken
module _ (m a b : ℕ) (l : b + 5 ≤ a) where
  abbrev shifted : m * ten a ≡ m * ten (a - b) * ten b
  shifted = ap (λ (n : ℕ). m * n) (ten-add (a - b) b a (omega arith)) ∙ sym (mul_assoc m (ten (a - b)) (ten b))

  pub all_whole : eqb (m * ten a % ten b) 0 ≡ true
  all_whole = eq-eqb (m * ten a % ten b) 0 (ap (λ (n : ℕ). n % ten b) shifted ∙ mul-mod_left (m * ten (a - b)) (ten b))

  pub all-units : capped (m * 100000) ≡ capped (m * ten a / ten b)
  all-units = sym (ap (λ (n : ℕ). capped (n / ten b)) shifted ∙ ap capped (mul-div_cancel (m * ten (a - b)) (ten-some b)) ∙ large m)
    where
      large : (m : ℕ) → capped (m * ten (a - b)) ≡ capped (m * 100000)
      large zero = ap capped (omega arith)
      large (suc m) =
          let p : 100000 ≤ ten (a - b) = pow-le-pow_right {n = 10} (omega arith) {i = 5} {j = a - b} (omega arith) in
          capped-large (suc m * ten (a - b)) (omega arith) ∙ sym (capped-large (suc m * 100000) (omega arith))

-- ---- the digits of a number with five zeros more

abbrev pub zeros : List ℕ
zeros = 48 ∷ 48 ∷ 48 ∷ 48 ∷ 48 ∷ []

zero-digits : Digits zeros
zero-digits = digit z (digit z (digit z (digit z (digit z no-digits))))
  where
    z : Digit 48
    z = (omega arith, omega arith)

module _ (ds : List ℕ) (d : Digits ds) where
  abbrev padded : List ℕ
  padded = ds ++ zeros

  padded-length : length padded ≡ length ds + 5
  padded-length = length-append ds zeros

  padded-is : decimal padded ≡ decimal ds * 100000
  unfolding decimal_from
  padded-is = decimal-append ds zeros ∙ omega arith

  -- the first p digits and the other q
  module _ (p q : ℕ) (e : p + q ≡ length ds + 5) where
    other : length (drop p padded) ≡ q
    other = length-drop p padded ∙ omega (arith, padded-length)

    parts : decimal ds * 100000 ≡ decimal (take p padded) * ten q + decimal (drop p padded)
    parts =
        sym padded-is ∙ ap decimal (sym (take-append-drop p padded)) ∙ decimal-append (take p padded) (drop p padded)
        ∙ ap (λ (k : ℕ). decimal (take p padded) * ten k + decimal (drop p padded)) other

    parts_below : decimal (drop p padded) < ten q
    parts_below = rw other at (decimal-below (digits-drop p (digits_append d zero-digits)))

  abbrev summed : ℕ → Sum
  summed p = add_digits (sum 0 p true) padded

  -- the units are m·10^a / 10^b: with p digits taken of length ds + 5
  pub record Units (a b p : ℕ) : Type 0 where
    pub value : (summed p).value ≡ capped (decimal ds * ten a / ten b)
    pub whole : (summed p).whole ≡ eqb (decimal ds * ten a % ten b) 0

  nothing : capped 0 ≡ 0
  nothing = capped_small 0 (omega arith)

  from_nothing : (p : ℕ) → summed p ≡ add_digits (sum (capped 0) p true) padded
  from_nothing p = ap (λ (v : ℕ). add_digits (sum v p true) padded) (sym nothing)

  -- p digits are taken, or all
  at_part : (a b p q h t : ℕ) → p ≤ length ds + 5 → summed p ≡ sum (capped h) 0 (true && eqb t 0)
      → decimal ds * 100000 ≡ h * ten q + t → t < ten q → q + a ≡ b + 5 → Units a b p
  at_part a b p q h t l s e k f = record {
    value = ap (λ (x : Sum). x.value) s ∙ ap capped (sym (ten-units (decimal ds) h t a b q e k f));
    whole = ap (λ (x : Sum). x.whole) s ∙ sym (ten-whole (decimal ds) h t a b q e k f);
  }

  summed-part : (p : ℕ) → p ≤ length ds + 5
      → summed p ≡ sum (capped (decimal (take p padded))) 0 (true && eqb (decimal (drop p padded)) 0)
  summed-part p l = from_nothing p ∙ add-part 0 p true padded (omega (arith, padded-length))

  summed-none : summed 0 ≡ sum (capped 0) 0 (true && eqb (decimal padded) 0)
  unfolding decimal_from
  summed-none = summed-part 0 (omega arith)

  units-part : (a b p : ℕ) → p + b ≡ length ds + a → p ≤ length ds + 5 → Units a b p
  units-part a b p f l =
      let q = length ds + 5 - p in
      let e : p + q ≡ length ds + 5 = omega arith in
      at_part a b p q (decimal (take p padded)) (decimal (drop p padded)) l (summed-part p l) (parts p q e) (parts_below p q e)
      (omega arith)

  units-all : (a b p : ℕ) → b + 5 ≤ a → length ds + 5 ≤ p → Units a b p
  units-all a b p f l = record {
    value = ap (λ (x : Sum). x.value) s ∙ ap capped padded-is ∙ all-units (decimal ds) a b f;
    whole = ap (λ (x : Sum). x.whole) s ∙ sym (all_whole (decimal ds) a b f);
  }
    where
      s : summed p ≡ sum (capped (decimal padded)) (p - length padded) true
      s = from_nothing p ∙ add-taken 0 p true padded (omega (arith, padded-length))

  -- with the exponent up to `most`: e more, or e fewer
  pub units-raised : (i f e p : ℕ) → length ds ≡ i + f → f ≤ 64 → p ≡ i + 2 + capped e → Units (2 + e) f p
  units-raised i f e p n k g = capped-or e
      (λ c. near (dec_le p (length ds + 5)) (omega (arith, c)))
      (λ c l. units-all (2 + e) f p (omega arith) (omega (arith, c)))
    where
      near : Dec (p ≤ length ds + 5) → p ≡ i + 2 + e → Units (2 + e) f p
      near (yes l) h = units-part (2 + e) f p (omega arith) l
      near (no l) h = units-all (2 + e) f p (omega (arith, l)) (omega (arith, l))

  pub units-lowered : (i f e p : ℕ) → length ds ≡ i + f → i ≤ 64 → p ≡ i + 2 - capped e → Units 2 (f + e) p
  units-lowered i f e p n k g = capped-or e
      (λ c. near (dec_le e (i + 2)) (omega (arith, c)))
      (λ c l. far (omega (arith, c)) (omega arith))
    where
      far : p ≡ 0 → i + 2 < e → Units 2 (f + e) p
      far z l =
          at_part 2 (f + e) p (f + e + 3) 0 (decimal padded) (omega arith) (ap summed z ∙ summed-none)
          (sym padded-is ∙ omega arith)
          (lt_of_lt_of_le (decimal-below (digits_append d zero-digits)) (pow-le-pow_right (omega arith) (omega (arith, padded-length))))
          (omega arith)

      near : Dec (e ≤ i + 2) → p ≡ i + 2 - e → Units 2 (f + e) p
      near (yes l) h = units-part 2 (f + e) p (omega arith) (omega arith)
      near (no l) h = far (omega (arith, l)) (omega (arith, l))

-- ---- a number's units

module _ (n : Number) (d : Digits (n.whole ++ n.fraction)) (i : length n.whole ≤ 64) (f : length n.fraction ≤ 64) where
  measured-by : (a b p : ℕ) → 2 + raised n ≡ a → length n.fraction + lowered n ≡ b → Units (n.whole ++ n.fraction) d a b p
      → Measured n (add_digits (sum 0 p true) (padded (n.whole ++ n.fraction) d))
  unfolding units is_whole top bottom mantissa
  measured-by a b p ea eb u = record { size = rw (ea, eb) u.value; is-whole = rw (ea, eb) u.whole }

  abbrev ds : List ℕ
  ds = n.whole ++ n.fraction

  abbrev x : ℕ
  x = decimal n.exponent

  size : length ds ≡ length n.whole + length n.fraction
  size = length-append n.whole n.fraction

  number-measured : (p : ℕ) → p ≡ kept (length n.whole) n.lowers (capped (decimal n.exponent))
      → Measured n (add_digits (sum 0 p true) (padded (n.whole ++ n.fraction) d))
  unfolding kept raised lowered
  number-measured p e = split n.lowers
      (λ l. measured-by 2 (length n.fraction + x) p
      (ap (λ (k : ℕ). 2 + k) (pick_true n.lowers 0 x l)) (ap (λ (k : ℕ). length n.fraction + k) (pick_true n.lowers x 0 l))
      (units-lowered ds d (length n.whole) (length n.fraction) x p size i (e ∙ pick_true n.lowers _ _ l)))
      (λ l. measured-by (2 + x) (length n.fraction) p
      (ap (λ (k : ℕ). 2 + k) (pick-false n.lowers 0 x l))
      (ap (λ (k : ℕ). length n.fraction + k) (pick-false n.lowers x 0 l) ∙ omega arith)
      (units-raised ds d (length n.whole) (length n.fraction) x p size f (e ∙ pick-false n.lowers _ _ l)))

-- a token's digits, one part after the other
pub measured : (token : List ℕ) → length token ≤ 64 → (s : Sum)
    → s ≡ add_digits (add_digits (add_digits (sum 0 (kept_of (length (digits (skip 45 45 token))) (exp_part token)) true)
    (digits (skip 45 45 token)))
    (digits (skip 46 46 (frac_part token)))) zeros
    → Measured (number_in token) s
unfolding number_in kept_of
measured token h s e =
    let w = digits (skip 45 45 token) in
    let f = digits (skip 46 46 (frac_part token)) in
    let p = kept_of (length w) (exp_part token) in
    let start = sum 0 p true in
    subst (Measured (number_in token)) (sym (e ∙ ap (λ (x : Sum). add_digits x zeros) (sym (add-append start w f))
    ∙ sym (add-append start (w ++ f) zeros)))
    (number-measured (number_in token) (digits_append (digits_are (skip 45 45 token)) (digits_are (skip 46 46 (frac_part token))))
    (omega (arith, (leading-front is_digit (skip 45 45 token)).0, skip-short 45 45 token))
    (omega (
      arith,
      (leading-front is_digit (skip 46 46 (frac_part token))).0,
      skip-short 46 46 (frac_part token),
      beyond-short is_digit (skip 45 45 token),
      skip-short 45 45 token,
    ))
    p refl)
