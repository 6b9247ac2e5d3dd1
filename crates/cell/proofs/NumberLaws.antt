-- The entries of corner records and their numbers along the axes: each is found again by the other.
use mathlib.Core.Path.{◌≡◌, refl, sym, ap, ◌∙◌, fun_ext}
use Prim.Native.Nat.{ℕ, zero, suc, ◌+◌, ◌*◌, ◌/◌, ◌%◌, ◌^◌, ◌<◌}
use native.Mathlib.Nat.{mod-lt, div-add-mod, div-lt_iff_lt-mul, mul-zero, zero-div, zero-mod, pow-zero, pow-suc, one-le-pow}
use native.Mathlib.Omega.{arith}
use lib.Dec.{lit<}
use Rattle.lattice.specs.Digits.{number, digit}
use Rattle.lattice.specs.Axes.{Place}
use Rattle.lattice.proofs.DigitsLaws.{digit-below, high_digit, low_digit, pair-in, Digits, digits_in, number_in, of-digits, of_number}
use Rattle.cell.specs.Coefficients.{coefficient_count}
use Rattle.cell.specs.Corners.{corner_numbers, corner_entry}

pub count-split : (m n : ℕ) → coefficient_count m n ≡ 2 ^ n * m ^ n
count-split m zero = omega (arith, pow-zero (2 * m), pow-zero m, pow-zero 2)
count-split m (suc n) =
    pow-suc (2 * m) n ∙ ap (λ (a : ℕ). a * (2 * m)) (count-split m n) ∙ four (2 ^ n) (m ^ n) m
    ∙ sym (ap (λ (k : ℕ). k * m ^ suc n) (pow-suc 2 n) ∙ ap (λ (k : ℕ). 2 ^ n * 2 * k) (pow-suc m n))
  where
    four : (a b m : ℕ) → a * b * (2 * m) ≡ a * 2 * (b * m)
    four a b m = omega arith

module _ (m n : ℕ) (some : 0 < m) where
  pub record-some : 0 < m ^ n
  record-some = one-le-pow n m some

  -- the corner of an entry, and its number in the record
  pub corner-low : (i : ℕ) → i < coefficient_count m n → i / m ^ n < 2 ^ n
  corner-low i h = (div-lt_iff_lt-mul record-some).1 (rw (count-split m n) at h)

  pub order-low : (i : ℕ) → i % m ^ n < m ^ n
  order-low i = mod-lt i record-some

  pub numbers-in : (i : ℕ) → i < coefficient_count m n → Digits n (2 * m) (corner_numbers m n i)
  unfolding corner_numbers
  numbers-in i h =
      let e = digits_in n 2 (i / m ^ n) (lit< tt) (corner-low i h) in
      let o = digits_in n m (i % m ^ n) some (order-low i) in
      record {
        used = λ a l. pair-in m (digit (λ b. 2) (i / m ^ n) a) (digit (λ b. m) (i % m ^ n) a) (o.used a l) 2 (e.used a l);
        unused = λ a l. rw (e.unused a l, o.unused a l, mul-zero m) refl;
      }

  module _ (t : Place) (d : Digits n (2 * m) t) where
    ends-in : Digits n 2 (λ a. t a / m)
    ends-in = record {
      used = λ a l. (div-lt_iff_lt-mul some).1 (d.used a l);
      unused = λ a l. ap (λ (k : ℕ). k / m) (d.unused a l) ∙ zero-div m;
    }

    orders-in : Digits n m (λ a. t a % m)
    orders-in = record { used = λ a l. mod-lt (t a) some; unused = λ a l. ap (λ (k : ℕ). k % m) (d.unused a l) ∙ zero-mod m }

    pub entry_in : corner_entry m n t < coefficient_count m n
    unfolding corner_entry
    entry_in =
        rw (count-split m n)
        (pair-in (m ^ n) (number n (λ a. 2) (λ a. t a / m)) (number n (λ a. m) (λ a. t a % m)) (number_in n m (λ a. t a % m) orders-in)
        (2 ^ n) (number_in n 2 (λ a. t a / m) ends-in))

    pub numbers-entry : corner_numbers m n (corner_entry m n t) ≡ t
    unfolding corner_numbers corner_entry
    numbers-entry = fun_ext (λ a.
        ap (λ (k : ℕ). m * digit (λ b. 2) k a + digit (λ b. m) ((m ^ n * ends + orders) % m ^ n) a) (high_digit (m ^ n) ends orders low)
        ∙ ap (λ (k : ℕ). m * digit (λ b. 2) ends a + digit (λ b. m) k a) (low_digit (m ^ n) ends orders low)
        ∙ ap (λ (p : Place). m * p a + digit (λ b. m) orders a) (of_number n 2 (λ a. t a / m) ends-in)
        ∙ ap (λ (p : Place). m * (t a / m) + p a) (of_number n m (λ a. t a % m) orders-in) ∙ div-add-mod (t a) m)
      where
        ends : ℕ
        ends = number n (λ a. 2) (λ a. t a / m)

        orders : ℕ
        orders = number n (λ a. m) (λ a. t a % m)

        low : orders < m ^ n
        low = number_in n m (λ a. t a % m) orders-in

  pub entry-numbers : (i : ℕ) → i < coefficient_count m n → corner_entry m n (corner_numbers m n i) ≡ i
  unfolding corner_numbers corner_entry
  entry-numbers i h =
      let e = digits_in n 2 (i / m ^ n) (lit< tt) (corner-low i h) in
      let order : (a : ℕ) → digit (λ b. m) (i % m ^ n) a < m = (λ a. digit-below (λ b. m) (i % m ^ n) a some) in
      ap (λ (p : Place). m ^ n * number n (λ a. 2) p + number n (λ a. m) (λ a. corner_numbers m n i a % m))
      (fun_ext (λ a. high_digit m (digit (λ b. 2) (i / m ^ n) a) (digit (λ b. m) (i % m ^ n) a) (order a)))
      ∙ ap (λ (p : Place). m ^ n * number n (λ a. 2) (digit (λ b. 2) (i / m ^ n)) + number n (λ a. m) p)
      (fun_ext (λ a. low_digit m (digit (λ b. 2) (i / m ^ n) a) (digit (λ b. m) (i % m ^ n) a) (order a)))
      ∙ ap (λ (k : ℕ). m ^ n * k + number n (λ a. m) (digit (λ b. m) (i % m ^ n))) (of-digits n 2 (i / m ^ n) (corner-low i h))
      ∙ ap (λ (k : ℕ). m ^ n * (i / m ^ n) + k) (of-digits n m (i % m ^ n) (order-low i))
      ∙ div-add-mod i (m ^ n)
