-- Runs of stores: one run after another is one run, and what stands where; the loop that stores one group of numbers in each turn.
use mathlib.Core.Path.{◌≡◌, refl, sym, ap, ◌∙◌}
use mathlib.Core.Logic.{⊎_elim}
use mathlib.Core.List.{List, [], ◌∷◌, ◌++◌}
use Prim.Native.Nat.{ℕ, zero, suc, ◌+◌, ◌-◌, ◌*◌, ◌≤◌, ◌<◌}
use native.Mathlib.Nat.{add-zero, zero-add, mul-zero, add-suc, add_assoc, eq-or-lt_of_le}
use native.Mathlib.Numerals.{add-one}
use native.Mathlib.Omega.{arith}
use lib.IntN.{ℤ, pos}
use lib.ListN.{length, length-set, length-drop, set, drop, take}
use lib.Seq.{get_or-set_same, get_or-set_other, length-take-le, set-append_left}
use borrow.Rule.Slice.PartMut.{mid_of, post_of, put_mid, put_same}
use Rattle.lattice.specs.Buffer.{at}
use Rattle.lattice.proofs.BufferLaws.{Filled, filled_none, filled_more}
use Rattle.lattice.proofs.DigitsLaws.{group-room, high_digit, low_digit}
use Rattle.estimate.specs.Passes.{placed, grouped}

pub placed-length : (k n : ℕ) (h : ℕ → ℤ) (b : List ℤ) → length (placed k n h b) ≡ length b
unfolding placed
placed-length k zero h b = refl
placed-length k (suc n) h b = length-set (placed k n h b) (k + n) (h n) ∙ placed-length k n h b

pub placed_same : (k n : ℕ) (h g : ℕ → ℤ) (b : List ℤ) → ((t : ℕ) → t < n → h t ≡ g t) → placed k n h b ≡ placed k n g b
unfolding placed
placed_same k zero h g b e = refl
placed_same k (suc n) h g b e = rw (placed_same k n h g b (λ t l. e t (omega arith)), e n (omega arith))

-- l stores behind n
placed-more : (k n l : ℕ) (h g : ℕ → ℤ) (b : List ℤ) → ((t : ℕ) → t < l → g t ≡ h (n + t))
    → placed (k + n) l g (placed k n h b) ≡ placed k (n + l) h b
unfolding placed
placed-more k n zero h g b e = rw (add-zero n)
placed-more k n (suc l) h g b e =
    rw (placed-more k n l h g b (λ t i. e t (omega arith)), e l (omega arith), add-suc n l, add_assoc k n l)

-- the same where lists and places have names
pub placed-next : (k n l p : ℕ) (h g : ℕ → ℤ) (b out next : List ℤ) → p ≡ k + n → out ≡ placed k n h b → next ≡ placed p l g out
    → ((t : ℕ) → t < l → g t ≡ h (n + t)) → next ≡ placed k (n + l) h b
placed-next k n l p h g b out next at_p inv e same = e ∙ rw (at_p, inv) (placed-more k n l h g b same)

pub placed_off : (k n : ℕ) (h : ℕ → ℤ) (b : List ℤ) (i : ℕ) → ((t : ℕ) → t < n → i ≡ k + t → ⊥) → at (placed k n h b) i ≡ at b i
unfolding placed
placed_off k zero h b i apart = refl
placed_off k (suc n) h b i apart = get_or-set_other (placed k n h b) (k + n) i (h n) (pos 0) (apart n (omega arith))
    ∙ placed_off k n h b i (λ t l. apart t (omega arith))

pub placed_at : (k n : ℕ) (h : ℕ → ℤ) (b : List ℤ) (t : ℕ) → t < n → k + n ≤ length b → at (placed k n h b) (k + t) ≡ h t
unfolding placed
placed_at k zero h b t i l = absurd (omega arith)
placed_at k (suc n) h b t i l =
    ⊎_elim
    (λ (e : t ≡ n). rw e (get_or-set_same (placed k n h b) (k + n) (h n) (pos 0) (rw (placed-length k n h b) (omega arith))))
    (λ (j : t < n). get_or-set_other (placed k n h b) (k + n) (k + t) (h n) (pos 0) (apart k j) ∙ placed_at k n h b t j (omega arith))
    (eq-or-lt_of_le (omega arith))
  where
    apart : (k : ℕ) {t n : ℕ} → t < n → k + t ≡ k + n → ⊥
    apart k j e = omega arith

-- a run from the front
pub placed-front : (n : ℕ) (h : ℕ → ℤ) (b : List ℤ) (t : ℕ) → t < n → n ≤ length b → at (placed 0 n h b) t ≡ h t
placed-front n h b t i l = rw zero-add at (placed_at 0 n h b t i (omega arith))

pub placed-filled : (n : ℕ) (h : ℕ → ℤ) (b : List ℤ) → n ≤ length b → Filled h b n (placed 0 n h b)
unfolding placed
placed-filled zero h b l = filled_none h b
placed-filled (suc n) h b l =
    rw (zero-add n, ← add-one n) (filled_more h b n (placed 0 n h b) (h n) (pos 0) (omega arith) (placed-filled n h b (omega arith)) refl)

-- ---- groups

pub grouped-at : (m : ℕ) (f : ℕ → ℕ → ℤ) (t o : ℕ) → o < m → grouped m f (m * t + o) ≡ f t o
unfolding grouped
grouped-at m f t o l = rw (high_digit m t o l, low_digit m t o l)

-- ---- a part of a slice, written from its front on

-- a store behind a list in front
set-append_right : (xs ys : List ℤ) (j : ℕ) (v : ℤ) → set (xs ++ ys) (length xs + j) v ≡ xs ++ set ys j v
set-append_right [] ys j v = ap (λ (k : ℕ). set ys k v) (zero-add j)
set-append_right (x ∷ xs) ys j v =
    let e : suc (length xs) + j ≡ suc (length xs + j) = omega arith in
    ap (λ (k : ℕ). set (x ∷ (xs ++ ys)) k v) e ∙ ap (λ (zs : List ℤ). x ∷ zs) (set-append_right xs ys j v)

module _ (a k : ℕ) (b : List ℤ) where
  pub part-length : a + k ≤ length b → length (mid_of a k b) ≡ k
  part-length l = length-take-le k (drop a b) (omega (arith, length-drop a b))

  -- a store in the part is one in the whole
  set-part : (ys : List ℤ) (j : ℕ) (v : ℤ) → a ≤ length b → j < length ys
      → put_mid a k b (set ys j v) ≡ set (put_mid a k b ys) (a + j) v
  set-part ys j v i l =
      ap (λ (zs : List ℤ). take a b ++ zs) (sym (set-append_left ys (post_of a k b) j v l))
      ∙ sym (set-append_right (take a b) (ys ++ post_of a k b) j v)
      ∙ ap (λ (i : ℕ). set (put_mid a k b ys) (i + j) v) (length-take-le a b i)

  placed-mid : (n : ℕ) (h : ℕ → ℤ) → n ≤ k → a + k ≤ length b → put_mid a k b (placed 0 n h (mid_of a k b)) ≡ placed a n h b
  unfolding placed
  placed-mid zero h i l = put_same a k b
  placed-mid (suc n) h i l =
      let in-part : n < length (placed 0 n h (mid_of a k b)) = rw (placed-length 0 n h (mid_of a k b), part-length l) (omega arith) in
      rw (zero-add n)
      (set-part (placed 0 n h (mid_of a k b)) n (h n) (omega arith) in-part
      ∙ ap (λ (zs : List ℤ). set zs (a + n) (h n)) (placed-mid n h (omega arith) l))

-- up to index n
pub placed-head : (n : ℕ) (h : ℕ → ℤ) (b ys : List ℤ) → n ≤ length b → ys ≡ placed 0 n h (take n b) → ys ++ drop n b ≡ placed 0 n h b
placed-head n h b ys l is = ap (λ (zs : List ℤ). zs ++ drop n b) is ∙ placed-mid 0 n b n h (omega arith) (omega arith)

-- from index a to index e
pub placed-part : (a e n : ℕ) (h : ℕ → ℤ) (b ys : List ℤ) → e ≡ a + n → e ≤ length b → ys ≡ placed 0 n h (mid_of a (e - a) b)
    → put_mid a (e - a) b ys ≡ placed a n h b
placed-part a e n h b ys at_e l is =
    let k : e - a ≡ n = omega arith in
    ap (λ (zs : List ℤ). put_mid a (e - a) b zs) is ∙ rw k (placed-mid a n b n h (omega arith) (omega arith))

-- ---- a loop over parts

-- a loop that stores n numbers in each turn, after t turns
pub record Written (n : ℕ) (f : ℕ → ℕ → ℤ) (b : List ℤ) (t : ℕ) (out : List ℤ) : Type 0 where
  pub is : out ≡ placed 0 (n * t) (grouped n f) b

pub written-none : {n : ℕ} {f : ℕ → ℕ → ℤ} {b : List ℤ} → Written n f b 0 b
unfolding placed
written-none {n} = record { is = rw (mul-zero n) refl }

module _ {n : ℕ} {f : ℕ → ℕ → ℤ} {b : List ℤ} {t : ℕ} {out : List ℤ} (w : Written n f b t out) where
  pub written-length : length out ≡ length b
  written-length = ap length w.is ∙ placed-length 0 (n * t) (grouped n f) b

  pub written-all : {count : ℕ} → t ≡ count → out ≡ placed 0 (n * count) (grouped n f) b
  written-all e = rw e at w.is

  -- one turn more
  pub written_more : {g : ℕ → ℤ} {next : List ℤ} → next ≡ placed (n * t) n g out → ((o : ℕ) → o < n → g o ≡ f t o)
      → Written n f b (t + 1) next
  written_more {g} {next} e same =
      let turn : n * t + n ≡ n * (t + 1) = omega arith in
      record {
        is = rw turn at (placed-next 0 (n * t) n (n * t) (grouped n f) g b out next (omega arith) w.is e
            (λ o l. same o l ∙ sym (grouped-at n f t o l)));
      }

  -- and its part of the slice
  module _ {count : ℕ} (l : t < count) (room : n * count ≡ length b) where
    pub turn-room : n * t + n ≤ length out
    turn-room = omega (arith, written-length, group-room n t count l)

    pub turn-length : n ≡ length (mid_of (n * t) (n * t + n - n * t) out)
    turn-length = let k : n * t + n - n * t ≡ n = omega arith in rw k (sym (part-length (n * t) n out turn-room))

    -- written from its front on
    pub turn_more : {g : ℕ → ℤ} {ys : List ℤ} → ys ≡ placed 0 n g (mid_of (n * t) (n * t + n - n * t) out)
        → ((o : ℕ) → o < n → g o ≡ f t o) → Written n f b (t + 1) (put_mid (n * t) (n * t + n - n * t) out ys)
    turn_more {g} {ys} e same = written_more (placed-part (n * t) (n * t + n) n g out ys refl turn-room e) same
