-- Digits summed up from the front: the number that they make, up to `most`, and those that are not taken.
use mathlib.Core.Path.{◌≡◌, refl, sym, ap, ◌∙◌}
use mathlib.Core.Bool.{Bool, true, ◌&&◌, and_assoc, and-true}
use mathlib.Core.List.{List, [], ◌∷◌, ◌++◌}
use Prim.Native.Nat.{ℕ, zero, suc, ◌+◌, ◌-◌, ◌*◌, ◌^◌, ◌≤◌, ◌<◌}
use native.Mathlib.Decide.{dec_le}
use native.Mathlib.Nat.{pow-succ', mul-le-mul_right, one-le-pow}
use native.Mathlib.Omega.{arith}
use borrow.Author.Tests.{leb-true, le-leb, lt-leb, eq-eqb, ne_eqb}
use lib.Dec.{leb, eqb, eqb-suc-zero}
use lib.ListN.{length, take, drop, take-append-drop}
use lib.Seq.{length-take-le}
use Rattle.arith.specs.Choice.{pick}
use Rattle.arith.proofs.Choices.{pick_true, pick-false, on-pick, and-true as both}
use Rattle.import.specs.declared.Sum.{Sum}
use Rattle.import.specs.Bytes.{leading}
use Rattle.import.specs.Grammar.{Digit, Digits, no-digits, digit, is_digit}
use Rattle.import.specs.Value.{decimal_from, decimal}
use Rattle.import.specs.Parts.{most, capped, sum, add_digit, add_digits}

-- ---- a number up to `most`

pub capped_small : (v : ℕ) → v ≤ most → capped v ≡ v
unfolding capped
capped_small v h = pick_true (leb v most) v most (le-leb v most h)

pub capped-large : (v : ℕ) → most ≤ v → capped v ≡ most
unfolding capped
capped-large v h = go (dec_le v most)
  where
    go : Dec (v ≤ most) → pick (leb v most) v most ≡ most
    go (yes l) = pick_true (leb v most) v most (le-leb v most l) ∙ omega arith
    go (no l) = pick-false (leb v most) v most (lt-leb v most (omega (arith, l)))

pub capped-high : (v : ℕ) → capped v ≤ most
unfolding capped
capped-high v = go (dec_le v most)
  where
    go : Dec (v ≤ most) → pick (leb v most) v most ≤ most
    go (yes l) = rw (pick_true (leb v most) v most (le-leb v most l)) l
    go (no l) = rw (pick-false (leb v most) v most (lt-leb v most (omega (arith, l)))) (omega arith)

-- it is v, or both are `most` or more
pub capped-or : {P : Type 0} (v : ℕ) → (capped v ≡ v → P) → (capped v ≡ most → most ≤ v → P) → P
capped-or {P} v f g = go (dec_le v most)
  where
    go : Dec (v ≤ most) → P
    go (yes l) = f (capped_small v l)
    go (no l) = let h : most ≤ v = omega (arith, l) in g (capped-large v h) h

-- a digit more of a number up to `most`
pub capped-more : (h d : ℕ) → capped (10 * capped h + d) ≡ capped (10 * h + d)
capped-more h d = capped-or h
    (λ e. ap (λ (k : ℕ). capped (10 * k + d)) e)
    (λ e l. ap (λ (k : ℕ). capped (10 * k + d)) e ∙ capped-large (10 * most + d) (omega arith)
    ∙ sym (capped-large (10 * h + d) (omega arith)))

-- ---- the number that digits make

-- the first digit is worth the most
tens : (n d p q r s : ℕ) → q ≡ 10 * p → r ≡ (10 * n + d) * p + s → r ≡ n * q + ((10 * 0 + d) * p + s)
tens n d p q r s e f = rw (f, e) (omega arith)

pub from_is : (n : ℕ) (ds : List ℕ) → decimal_from n ds ≡ n * 10 ^ length ds + decimal ds
unfolding decimal_from
from_is n [] = omega arith
from_is n (b ∷ bs) =
    tens n (b - 48) (10 ^ length bs) (10 ^ suc (length bs)) (decimal_from n (b ∷ bs)) (decimal bs) (pow-succ' 10 (length bs))
    (from_is (10 * n + (b - 48)) bs)
    ∙ ap (λ (k : ℕ). n * 10 ^ suc (length bs) + k) (sym (from_is (10 * 0 + (b - 48)) bs))

pub from-append : (n : ℕ) (a b : List ℕ) → decimal_from n (a ++ b) ≡ decimal_from (decimal_from n a) b
unfolding decimal_from
from-append n [] b = refl
from-append n (x ∷ a) b = from-append (10 * n + (x - 48)) a b

pub decimal-append : (a b : List ℕ) → decimal (a ++ b) ≡ decimal a * 10 ^ length b + decimal b
decimal-append a b = from-append 0 a b ∙ from_is (decimal a) b

below-tens : (d p s : ℕ) → d ≤ 9 → s < p → (10 * 0 + d) * p + s < 10 * p
below-tens d p s h l = lt_of_le (mul-le-mul_right p h)
  where
    lt_of_le : d * p ≤ 9 * p → (10 * 0 + d) * p + s < 10 * p
    lt_of_le k = omega arith

pub decimal-below : {ds : List ℕ} → Digits ds → decimal ds < 10 ^ length ds
unfolding decimal_from
decimal-below no-digits = omega arith
decimal-below (digit {b} {bs} h r) =
    rw (pow-succ' 10 (length bs), from_is (10 * 0 + (b - 48)) bs)
    (below-tens (b - 48) (10 ^ length bs) (decimal bs) (omega arith) (decimal-below r))

pub digits_append : {a b : List ℕ} → Digits a → Digits b → Digits (a ++ b)
digits_append no-digits q = q
digits_append (digit h r) q = digit h (digits_append r q)

pub digits-drop : (k : ℕ) {ds : List ℕ} → Digits ds → Digits (drop k ds)
digits-drop zero r = r
digits-drop (suc k) no-digits = no-digits
digits-drop (suc k) (digit h r) = digits-drop k r

-- all digits are 0 where the first and the others are
zero-first : (d : ℕ) (bs : List ℕ) → eqb (decimal_from (10 * 0 + d) bs) 0 ≡ (eqb d 0 && eqb (decimal bs) 0)
zero-first zero bs = refl
zero-first (suc d) bs =
    ne_eqb (decimal_from (10 * 0 + suc d) bs) 0
    (λ e. some (10 ^ length bs) (one-le-pow (length bs) 10 (omega arith)) (sym (from_is (10 * 0 + suc d) bs) ∙ e))
    ∙ sym (ap (λ (t : Bool). t && eqb (decimal bs) 0) (eqb-suc-zero d))
  where
    some : (p : ℕ) → 1 ≤ p → (10 * 0 + suc d) * p + decimal bs ≡ 0 → ⊥
    some p h e = omega arith

-- ---- the sum

pub add-append : (s : Sum) (a b : List ℕ) → add_digits s (a ++ b) ≡ add_digits (add_digits s a) b
unfolding add_digits
add-append s [] b = refl
add-append s (x ∷ a) b = add-append (add_digit s x) a b

pub taken : (s : Sum) (b : ℕ) → (s.left ≡ 0 → ⊥) → add_digit s b ≡ sum (capped (10 * s.value + (b - 48))) (s.left - 1) s.whole
unfolding add_digit
taken s b h = pick-false (eqb s.left 0) _ _ (ne_eqb s.left 0 h)

pub tested : (s : Sum) (b : ℕ) → s.left ≡ 0 → add_digit s b ≡ sum s.value 0 (s.whole && eqb (b - 48) 0)
unfolding add_digit
tested s b h = pick_true (eqb s.left 0) _ _ (eq-eqb s.left 0 h)

-- all are taken
pub add-taken : (h l : ℕ) (w : Bool) (ds : List ℕ) → length ds ≤ l
    → add_digits (sum (capped h) l w) ds ≡ sum (capped (decimal_from h ds)) (l - length ds) w
unfolding add_digits decimal_from
add-taken h l w [] k = ap (λ (m : ℕ). sum (capped h) m w) (omega arith)
add-taken h l w (b ∷ bs) k =
    ap (λ (s : Sum). add_digits s bs) (one ∙ ap (λ (v : ℕ). sum v (l - 1) w) (capped-more h (b - 48)))
    ∙ add-taken (10 * h + (b - 48)) (l - 1) w bs (omega arith)
    ∙ ap (λ (m : ℕ). sum (capped (decimal_from (10 * h + (b - 48)) bs)) m w) (left (length bs))
  where
    some : l ≡ 0 → ⊥
    some e = omega arith

    one : add_digit (sum (capped h) l w) b ≡ sum (capped (10 * capped h + (b - 48))) (l - 1) w
    one = taken (sum (capped h) l w) b some

    left : (m : ℕ) → l - 1 - m ≡ l - suc m
    left m = omega arith

-- none is taken
pub add-tested : (v : ℕ) (w : Bool) (ds : List ℕ) → add_digits (sum v 0 w) ds ≡ sum v 0 (w && eqb (decimal ds) 0)
unfolding add_digits decimal_from
add-tested v w [] = ap (λ (t : Bool). sum v 0 t) (sym (and-true w))
add-tested v w (b ∷ bs) =
    ap (λ (s : Sum). add_digits s bs) (tested (sum v 0 w) b refl)
    ∙ add-tested v (w && eqb (b - 48) 0) bs
    ∙ ap (λ (t : Bool). sum v 0 t) (and_assoc w (eqb (b - 48) 0) (eqb (decimal bs) 0)
    ∙ ap (λ (t : Bool). w && t) (sym (zero-first (b - 48) bs)))

-- the first l are taken
pub add-part : (h l : ℕ) (w : Bool) (ds : List ℕ) → l ≤ length ds
    → add_digits (sum (capped h) l w) ds ≡ sum (capped (decimal_from h (take l ds))) 0 (w && eqb (decimal (drop l ds)) 0)
add-part h l w ds k =
    ap (add_digits (sum (capped h) l w)) (sym (take-append-drop l ds))
    ∙ add-append (sum (capped h) l w) (take l ds) (drop l ds)
    ∙ ap (λ (s : Sum). add_digits s (drop l ds)) (add-taken h l w (take l ds) (omega (arith, n))
    ∙ ap (λ (m : ℕ). sum (capped (decimal_from h (take l ds))) m w) e)
    ∙ add-tested (capped (decimal_from h (take l ds))) w (drop l ds)
  where
    n : length (take l ds) ≡ l
    n = length-take-le l ds k

    e : l - length (take l ds) ≡ 0
    e = omega (arith, n)

-- ---- the digits that are read

digit_of : (b : ℕ) → is_digit b ≡ true → Digit b
unfolding is_digit
digit_of b e = let h = both (leb 48 b) (leb b 57) e in (leb-true 48 b h.0, leb-true b 57 h.1)

pub digits_are : (l : List ℕ) → Digits (leading is_digit l)
unfolding leading
digits_are [] = no-digits
digits_are (b ∷ bs) =
    on-pick Digits (is_digit b) (b ∷ leading is_digit bs) [] (λ e. digit (digit_of b e) (digits_are bs)) (λ _. no-digits)

-- a number whose digits are all taken
pub read_all : (ds : List ℕ) → (add_digits (sum 0 (length ds) true) ds).value ≡ capped (decimal ds)
read_all ds =
    ap (λ (v : ℕ). (add_digits (sum v (length ds) true) ds).value) (sym (capped_small 0 (omega arith)))
    ∙ ap (λ (s : Sum). s.value) (add-taken 0 (length ds) true ds (omega arith))
