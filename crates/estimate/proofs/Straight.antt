-- On a straight line every node's numbers are its value, twice the rise and 0, at the borders as between them.
use mathlib.Core.Path.{◌≡◌, refl, sym, ap, ap₂, ◌∙◌}
use mathlib.Core.List.{[], ◌∷◌}
use Prim.Native.Nat.{ℕ, zero, suc, ◌+◌, ◌*◌, ◌≤◌, ◌<◌}
use native.Mathlib.Omega.{arith}
use lib.Dec.{ltb}
use lib.IntN.{ℤ, pos, ◌+ℤ◌, ◌-ℤ◌, ◌*ℤ◌}
use borrow.Author.Tests.{ltb-true}
use Rattle.arith.proofs.Choices.{on-pick}
use Rattle.arith.proofs.Quote.{quotes, ring! }
use Rattle.lattice.proofs.DigitsLaws.{high_digit, low_digit}
use Rattle.lattice.proofs.Straight.{line-next, on_line}
use Rattle.estimate.specs.Estimate.{left, right, by_order, estimate}
use Rattle.estimate.specs.Passes.{orders_at}
use Rattle.estimate.proofs.EstimateLaws.{rise, straight}

module _ (count : ℕ) (x : ℕ → ℤ) (A B : ℤ) (two : 2 ≤ count) (line : (i : ℕ) → i < count → x i ≡ A +ℤ pos i *ℤ B) where
  abbrev value : ℕ → ℤ
  value i = A +ℤ pos i *ℤ B

  left-line : (i : ℕ) → i < count → left x i ≡ value i -ℤ B
  unfolding left
  left-line zero l = ap₂ (λ y z. pos 2 *ℤ y -ℤ z) (line 0 l) (line 1 two ∙ line-next A B 0) ∙ before (value 0) B
    where
      before : (f d : ℤ) → pos 2 *ℤ f -ℤ (f +ℤ d) ≡ f -ℤ d
      before f d = ring! (f ∷ d ∷ []) (search quotes depth 40) tt
  left-line (suc i) l = line i (omega arith) ∙ back (value i) B ∙ ap (λ z. z -ℤ B) (sym (line-next A B i))
    where
      back : (f d : ℤ) → f ≡ f +ℤ d -ℤ d
      back f d = ring! (f ∷ d ∷ []) (search quotes depth 40) tt

  right-line : (i : ℕ) → i < count → right count x i ≡ value i +ℤ B
  unfolding right
  right-line i l =
      on-pick (λ z. z ≡ value i +ℤ B) (ltb (suc i) count) (x (suc i)) (pos 2 *ℤ x i -ℤ left x i)
      (λ e. line (suc i) (ltb-true (suc i) count e) ∙ line-next A B i)
      (λ e. ap₂ (λ y z. pos 2 *ℤ y -ℤ z) (line i l) (left-line i l) ∙ beyond (value i) B)
    where
      beyond : (f d : ℤ) → pos 2 *ℤ f -ℤ (f -ℤ d) ≡ f +ℤ d
      beyond f d = ring! (f ∷ d ∷ []) (search quotes depth 40) tt

  pub orders-line : (i o : ℕ) → i < count → orders_at count x i o ≡ on_line (value i) B o
  unfolding by_order on_line
  orders-line i o l = rw (left-line i l, line i l, right-line i l) (orders o (value i))
    where
      orders : (o : ℕ) (f : ℤ) → by_order o (f -ℤ B) f (f +ℤ B) ≡ on_line f B o
      orders zero f = refl
      orders (suc zero) f = rise f B
      orders (suc (suc o)) f = straight f B

  pub estimate-line : (m i o : ℕ) → i < count → o < m → estimate m count x (m * i + o) ≡ on_line (value i) B o
  unfolding estimate
  estimate-line m i o l h = ap₂ (orders_at count x) (high_digit m i o h) (low_digit m i o h) ∙ orders-line i o l
