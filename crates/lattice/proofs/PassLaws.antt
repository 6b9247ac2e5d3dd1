-- A pass on a flat array is `along` seen through the numbering of the digits.
use mathlib.Core.Path.{◌≡◌, refl, sym, ap, subst, ◌∙◌}
use mathlib.Core.List.{List, [], ◌∷◌, ◌++◌}
use Prim.Native.Nat.{ℕ, ◌+◌, ◌*◌, ◌/◌, ◌%◌, ◌<◌}
use native.Mathlib.Nat.{add-mul-mod_self_left, add-mul-div_left, mod-eq_of_lt, div-eq_of_lt, zero-add, mul-le-mul_left}
use native.Mathlib.Omega.{arith}
use lib.IntN.{ℤ}
use Rattle.lattice.proofs.Along.{put-at, put-off, Each, Fresh}
use Rattle.lattice.proofs.DigitsLaws.{above_zero}
use Rattle.lattice.proofs.Local.{Depends}
use Rattle.lattice.specs.Axes.{Place, Field, Rule, put, along}
use Rattle.lattice.specs.Flat.{index_of, size_of, pass}

-- a place whose digits are below the widths, and 0 on every other axis
pub record Below (ls : List ℕ) (width : ℕ → ℕ) (p : Place) : Type 0 where
  pub digits : Each (λ a. p a < width a) ls
  pub others : (b : ℕ) → Fresh b ls → p b ≡ 0

-- an array holds a field
abbrev pub Holds : List ℕ → (ℕ → ℕ) → (ℕ → ℤ) → Field → Type 0
Holds ls width xs g = (p : Place) → Below ls width p → xs (index_of ls width p) ≡ g p

-- ---- indices

index_below : (ls : List ℕ) (width p : Place) → Each (λ a. p a < width a) ls → index_of ls width p < size_of ls width
unfolding index_of size_of
index_below [] width p h = omega arith
index_below (a ∷ ls) width p h = let z = mul-le-mul_left (width a) (index_below ls width p h.1) in let y = h.0 in omega arith

-- only the digits and the widths of the listed axes count
index_same : (ls : List ℕ) (width width' p p' : Place) → Each (λ a. (width a ≡ width' a) × (p a ≡ p' a)) ls
    → index_of ls width p ≡ index_of ls width' p'
unfolding index_of
index_same [] width width' p p' h = refl
index_same (a ∷ ls) width width' p p' h =
    ap (λ (i : ℕ). i + width a * index_of ls width p) h.0.1 ∙ ap (λ (i : ℕ). p' a + i * index_of ls width p) h.0.0
    ∙ ap (λ (i : ℕ). p' a + width' a * i) (index_same ls width width' p p' h.1)

size_same : (ls : List ℕ) (width width' : Place) → Each (λ a. width a ≡ width' a) ls → size_of ls width ≡ size_of ls width'
unfolding size_of
size_same [] width width' h = refl
size_same (a ∷ ls) width width' h = ap (λ (i : ℕ). i * size_of ls width) h.0
    ∙ ap (λ (i : ℕ). width' a * i) (size_same ls width width' h.1)

index-snoc : (ls : List ℕ) (a : ℕ) (width p : Place) → index_of (ls ++ (a ∷ [])) width p ≡ index_of ls width p + size_of ls width * p a
unfolding index_of size_of
index-snoc [] a width p = omega arith
index-snoc (b ∷ ls) a width p = let e = index-snoc ls a width p in ap (λ (i : ℕ). p b + width b * i) e
    ∙ regroup (p b) (width b) (index_of ls width p) (size_of ls width) (p a)
  where
    regroup : (x w i s y : ℕ) → x + w * (i + s * y) ≡ x + w * i + w * s * y
    regroup x w i s y = omega arith

-- ---- facts of each axis

each-off : (X Y : ℕ → Type 0) (b : ℕ) (ls : List ℕ) → Fresh b ls → ((a : ℕ) → (a ≡ b → ⊥) → X a → Y a) → Each X ls → Each Y ls
each-off X Y b [] f h k = tt
each-off X Y b (a ∷ ls) f h k = (h a (λ e. f.0 (sym e)) k.0, each-off X Y b ls f.1 h k.1)

each-front : (X : ℕ → Type 0) (ls ms : List ℕ) → Each X (ls ++ ms) → Each X ls
each-front X [] ms h = tt
each-front X (a ∷ ls) ms h = (h.0, each-front X ls ms h.1)

each_back : (X : ℕ → Type 0) (ls ms : List ℕ) → Each X (ls ++ ms) → Each X ms
each_back X [] ms h = h
each_back X (a ∷ ls) ms h = each_back X ls ms h.1

pub each-any : (X : ℕ → Type 0) (ls : List ℕ) → ((a : ℕ) → X a) → Each X ls
each-any X [] f = tt
each-any X (a ∷ ls) f = (f a, each-any X ls f)

pub fresh-snoc : (b a : ℕ) (ls : List ℕ) → Fresh b ls → (b ≡ a → ⊥) → Fresh b (ls ++ (a ∷ []))
fresh-snoc b a [] f n = (n, tt)
fresh-snoc b a (c ∷ ls) f n = (f.0, fresh-snoc b a ls f.1 n)

-- ---- one pass

module _ (a : ℕ) (ls : List ℕ) (width : Place) (v : ℕ) (rule : Rule) (xs : ℕ → ℤ) (g : Field) (fresh : Fresh a ls) where
  pub pass-along : Depends rule (λ j. j < v) (λ t. t < width a) → Holds (a ∷ ls) width xs g
      → Holds (ls ++ (a ∷ [])) (put a v width) (pass (width a) (size_of ls width) rule xs) (along a rule g)
  unfolding pass index_of
  pass-along dep holds p h =
      ap (λ (k : ℕ). rule (λ t. xs (width a * (k % r) + t)) (k / r)) at
      ∙ ap (λ (k : ℕ). rule (λ t. xs (width a * k + t)) ((i + r * p a) / r)) low
      ∙ ap (λ (k : ℕ). rule (λ t. xs (width a * i + t)) k) high
      ∙ dep (λ t. xs (width a * i + t)) (λ t. g (put a t p)) (p a) last (λ t l. each t l)
    where
      i : ℕ
      i = index_of ls width p

      r : ℕ
      r = size_of ls width

      digits : Each (λ b. p b < width b) ls
      digits = each-off (λ b. p b < put a v width b) (λ b. p b < width b) a ls fresh
          (λ b n k. subst (λ (w : ℕ). p b < w) (put-off a v b width n) k) (each-front (λ b. p b < put a v width b) ls (a ∷ []) h.digits)

      last : p a < v
      last = subst (λ (w : ℕ). p a < w) (put-at a v width) (each_back (λ b. p b < put a v width b) ls (a ∷ []) h.digits).0

      below : i < r
      below = index_below ls width p digits

      at : index_of (ls ++ (a ∷ [])) (put a v width) p ≡ i + r * p a
      at =
          index-snoc ls a (put a v width) p
          ∙ ap (λ (k : ℕ). k + size_of ls (put a v width) * p a)
          (index_same ls (put a v width) width p p
          (each-off (λ b. Unit {0}) (λ b. (put a v width b ≡ width b) × (p b ≡ p b)) a ls fresh (λ b n k. (put-off a v b width n, refl))
          (each-any (λ b. Unit {0}) ls (λ b. tt))))
          ∙ ap (λ (k : ℕ). i + k * p a)
          (size_same ls (put a v width) width
          (each-off (λ b. Unit {0}) (λ b. put a v width b ≡ width b) a ls fresh (λ b n k. put-off a v b width n)
          (each-any (λ b. Unit {0}) ls (λ b. tt))))

      low : (i + r * p a) % r ≡ i
      low = add-mul-mod_self_left i r (p a) ∙ mod-eq_of_lt below

      high : (i + r * p a) / r ≡ p a
      high = add-mul-div_left i (p a) (above_zero below) ∙ ap (λ (k : ℕ). k + p a) (div-eq_of_lt below) ∙ zero-add (p a)

      moved : (t : ℕ) → index_of ls width (put a t p) ≡ i
      moved t = index_same ls width width (put a t p) p
          (each-off (λ b. Unit {0}) (λ b. (width b ≡ width b) × (put a t p b ≡ p b)) a ls fresh (λ b n k. (refl, put-off a t b p n))
          (each-any (λ b. Unit {0}) ls (λ b. tt)))

      turn : (x y : ℕ) → x + y ≡ y + x
      turn x y = omega arith

      there : (t : ℕ) → t < width a → Below (a ∷ ls) width (put a t p)
      there t l = record {
        digits = (
          subst (λ (k : ℕ). k < width a) (sym (put-at a t p)) l,
          each-off (λ b. p b < width b) (λ b. put a t p b < width b) a ls fresh
              (λ b n k. subst (λ (j : ℕ). j < width b) (sym (put-off a t b p n)) k) digits,
        );
        others = λ b f. put-off a t b p f.0 ∙ h.others b (fresh-snoc b a ls f.1 f.0);
      }

      each : (t : ℕ) → t < width a → xs (width a * i + t) ≡ g (put a t p)
      each t l = ap xs (turn (width a * i) t
          ∙ sym (ap (λ (k : ℕ). k + width a * index_of ls width (put a t p)) (put-at a t p)
          ∙ ap (λ (k : ℕ). t + width a * k) (moved t))) ∙ holds (put a t p) (there t l)
