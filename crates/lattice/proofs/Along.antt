-- Laws of `along` and `sweep`, with the rules as parameters: a linear rule depends only on what it reads, two linear rules on different
-- axes change places,
-- two rules on one axis are one rule.
use mathlib.Core.Path.{◌≡◌, refl, sym, ap, subst, ◌∙◌, fun_ext}
use mathlib.Core.List.{List, [], ◌∷◌}
use Prim.Native.Nat.{ℕ, zero, suc, ◌*◌, ◌≤◌, ◌<◌}
use native.Mathlib.Nat.{le_trans, le_of_eq, not-suc-le-zero}
use native.Mathlib.Omega.{arith}
use native.Mathlib.Decide.{ℕ_discrete}
use lib.Dec.{eqb}
use borrow.Author.Tests.{eq-eqb, ne_eqb}
use lib.IntN.{ℤ, ◌*ℤ◌, nat_abs}
use Rattle.arith.specs.Int.{◌^ℤ◌}
use Rattle.arith.proofs.Choices.{pick_true, pick-false}
use Rattle.arith.proofs.Laws.{*ℤ-left-comm, *ℤ-assoc, pos-one-*ℤ}
use Rattle.arith.proofs.Sums.{sum-ext, sum_left, sum-swap, abs-weighted}
use Rattle.arith.specs.Choice.{pick}
use Rattle.arith.specs.Sum.{sum, total, times}
use Rattle.lattice.specs.Axes.{Place, Field, Rule, put, along, sweep, axes, without}
use lib.ListN.{length}

-- ---- places

pub put-at : (a t : ℕ) (p : Place) → put a t p a ≡ t
unfolding put
put-at a t p = pick_true (eqb a a) t (p a) (eq-eqb a a refl)

pub put-off : (a t b : ℕ) (p : Place) → (b ≡ a → ⊥) → put a t p b ≡ p b
unfolding put
put-off a t b p n = pick-false (eqb b a) t (p b) (ne_eqb b a n)

-- two places are equal where they are on each axis; an axis is `a` or another
by-axis : (a : ℕ) (p q : Place) → p a ≡ q a → ((b : ℕ) → (b ≡ a → ⊥) → p b ≡ q b) → p ≡ q
by-axis a p q h k = fun_ext (λ b. go b (ℕ_discrete b a))
  where
    go : (b : ℕ) → Dec (b ≡ a) → p b ≡ q b
    go b (yes e) = subst (λ (c : ℕ). p c ≡ q c) (sym e) h
    go b (no n) = k b n

pub put_same : (a : ℕ) (p : Place) → put a (p a) p ≡ p
put_same a p = by-axis a (put a (p a) p) p (put-at a (p a) p) (λ b n. put-off a (p a) b p n)

pub put-put : (a s t : ℕ) (p : Place) → put a s (put a t p) ≡ put a s p
put-put a s t p =
    by-axis a (put a s (put a t p)) (put a s p) (put-at a s (put a t p) ∙ sym (put-at a s p))
    (λ b n. put-off a s b (put a t p) n ∙ put-off a t b p n ∙ sym (put-off a s b p n))

pub put-swap : (a b s t : ℕ) (p : Place) → (a ≡ b → ⊥) → put a s (put b t p) ≡ put b t (put a s p)
put-swap a b s t p n =
    by-axis a (put a s (put b t p)) (put b t (put a s p))
    (put-at a s (put b t p) ∙ sym (put-off b t a (put a s p) n ∙ put-at a s p))
    (λ c m. put-off a s c (put b t p) m ∙ inner c m (ℕ_discrete c b))
  where
    inner : (c : ℕ) → (c ≡ a → ⊥) → Dec (c ≡ b) → put b t p c ≡ put b t (put a s p) c
    inner c m (yes e) = subst (λ (i : ℕ). put b t p i ≡ put b t (put a s p) i) (sym e) (put-at b t p ∙ sym (put-at b t (put a s p)))
    inner c m (no k) = put-off b t c p k ∙ sym (put-off b t c (put a s p) k ∙ put-off a s c p m)

-- ---- linear rules

-- number j of the result is a sum of `width` numbers, each read at its place and times its factor
pub record Linear (R : Rule) : Type 0 where
  pub width : ℕ
  pub factor : ℕ → ℕ → ℤ
  pub place : ℕ → ℕ → ℕ
  pub is : (x : ℕ → ℤ) (j : ℕ) → R x j ≡ sum width (λ t. factor j t *ℤ x (place j t))

-- it depends only on what it reads
pub reads_only : {R : Rule} (L : Linear R) (x y : ℕ → ℤ) (j : ℕ) → ((t : ℕ) → t < L.width → x (L.place j t) ≡ y (L.place j t))
    → R x j ≡ R y j
reads_only L x y j h =
    L.is x j
    ∙ sum-ext L.width (λ t. L.factor j t *ℤ x (L.place j t)) (λ t. L.factor j t *ℤ y (L.place j t))
    (λ t l. ap (λ z. L.factor j t *ℤ z) (h t l))
    ∙ sym (L.is y j)

-- what it makes of numbers within B
pub linear-size : {R : Rule} (L : Linear R) (x : ℕ → ℤ) (j B : ℕ) → ((t : ℕ) → t < L.width → nat_abs (x (L.place j t)) ≤ B)
    → nat_abs (R x j) ≤ total L.width (λ t. nat_abs (L.factor j t)) * B
linear-size L x j B h = le_trans (le_of_eq (ap nat_abs (L.is x j))) (abs-weighted L.width (L.factor j) (λ t. x (L.place j t)) B h)

-- a multiple of all numbers makes the same multiple of the result
pub linear-multiple : {R : Rule} (L : Linear R) (z : ℤ) (x : ℕ → ℤ) (j : ℕ) → R (λ t. z *ℤ x t) j ≡ z *ℤ R x j
linear-multiple L z x j =
    L.is (λ t. z *ℤ x t) j
    ∙ sum-ext L.width (λ t. L.factor j t *ℤ (z *ℤ x (L.place j t))) (λ t. z *ℤ (L.factor j t *ℤ x (L.place j t)))
    (λ t l. *ℤ-left-comm (L.factor j t) z (x (L.place j t)))
    ∙ sum_left L.width z (λ t. L.factor j t *ℤ x (L.place j t))
    ∙ ap (λ y. z *ℤ y) (sym (L.is x j))

module _ {R S : Rule} (K : Linear R) (L : Linear S) (g : Field) where
  -- two rules on different axes, as one sum
  along-two : (a b : ℕ) (p : Place) → (b ≡ a → ⊥)
      → along a R (along b S g) p ≡ sum K.width
      (λ t. sum L.width (λ s. K.factor (p a) t *ℤ (L.factor (p b) s *ℤ g (put b (L.place (p b) s) (put a (K.place (p a) t) p)))))
  along-two a b p n =
      K.is (λ t. along b S g (put a t p)) (p a)
      ∙ sum-ext K.width (λ t. K.factor (p a) t *ℤ along b S g (put a (K.place (p a) t) p))
      (λ t. sum L.width (λ s. K.factor (p a) t *ℤ (L.factor (p b) s *ℤ g (put b (L.place (p b) s) (put a (K.place (p a) t) p)))))
      (λ t l. ap (λ z. K.factor (p a) t *ℤ z) (inner (put a (K.place (p a) t) p) (put-off a (K.place (p a) t) b p n))
      ∙ sym (sum_left L.width (K.factor (p a) t) (λ s. L.factor (p b) s *ℤ g (put b (L.place (p b) s) (put a (K.place (p a) t) p)))))
    where
      inner : (q : Place) → q b ≡ p b → along b S g q ≡ sum L.width (λ s. L.factor (p b) s *ℤ g (put b (L.place (p b) s) q))
      inner q e = ap (λ (j : ℕ). S (λ s. g (put b s q)) j) e ∙ L.is (λ s. g (put b s q)) (p b)

-- the order of two axes does not matter
pub along-swap : {R S : Rule} → Linear R → Linear S → (a b : ℕ) → (a ≡ b → ⊥) → (g : Field)
    → along a R (along b S g) ≡ along b S (along a R g)
along-swap {R} {S} K L a b n g = fun_ext (λ p. go p)
  where
    turn : b ≡ a → ⊥
    turn e = n (sym e)

    go : (p : Place) → along a R (along b S g) p ≡ along b S (along a R g) p
    go p =
        along-two K L g a b p turn
        ∙ sum-swap K.width L.width
        (λ t s. K.factor (p a) t *ℤ (L.factor (p b) s *ℤ g (put b (L.place (p b) s) (put a (K.place (p a) t) p))))
        ∙ sum-ext L.width (λ s. sum K.width
        (λ t. K.factor (p a) t *ℤ (L.factor (p b) s *ℤ g (put b (L.place (p b) s) (put a (K.place (p a) t) p))))) (λ s. sum K.width
        (λ t. L.factor (p b) s *ℤ (K.factor (p a) t *ℤ g (put a (K.place (p a) t) (put b (L.place (p b) s) p)))))
        (λ s l. sum-ext K.width
        (λ t. K.factor (p a) t *ℤ (L.factor (p b) s *ℤ g (put b (L.place (p b) s) (put a (K.place (p a) t) p))))
        (λ t. L.factor (p b) s *ℤ (K.factor (p a) t *ℤ g (put a (K.place (p a) t) (put b (L.place (p b) s) p))))
        (λ t k. *ℤ-left-comm (K.factor (p a) t) (L.factor (p b) s) (g (put b (L.place (p b) s) (put a (K.place (p a) t) p)))
        ∙ ap (λ (q : Place). L.factor (p b) s *ℤ (K.factor (p a) t *ℤ g q)) (put-swap b a (L.place (p b) s) (K.place (p a) t) p turn)))
        ∙ sym (along-two L K g b a p n)

-- two rules on one axis are one rule
pub along-fuse : (R S : Rule) (a : ℕ) (g : Field) → along a R (along a S g) ≡ along a (λ x. R (S x)) g
along-fuse R S a g = fun_ext (λ p. ap (λ (x : ℕ → ℤ). R x (p a)) (fun_ext (λ t. inner p t)))
  where
    inner : (p : Place) (t : ℕ) → S (λ s. g (put a s (put a t p))) (put a t p a) ≡ S (λ s. g (put a s p)) t
    inner p t = ap (λ (j : ℕ). S (λ s. g (put a s (put a t p))) j) (put-at a t p)
        ∙ ap (λ (x : ℕ → ℤ). S x t) (fun_ext (λ s. ap g (put-put a s t p)))

-- ---- axis after axis

abbrev pub Fresh : ℕ → List ℕ → Type 0
Fresh a [] = Unit {0}
Fresh a (b ∷ ls) = (a ≡ b → ⊥) × Fresh a ls

abbrev pub Distinct : List ℕ → Type 0
Distinct [] = Unit {0}
Distinct (a ∷ ls) = Fresh a ls × Distinct ls

-- a fact of each axis of a list
abbrev pub Each : (ℕ → Type 0) → List ℕ → Type 0
Each U [] = Unit {0}
Each U (a ∷ ls) = U a × Each U ls

pub each-axes : (n : ℕ) (U : ℕ → Type 0) → ((a : ℕ) → a < n → U a) → Each U (axes n)
unfolding axes
each-axes zero U h = tt
each-axes (suc n) U h = (h n (omega arith), each-axes n U (λ a l. h a (omega arith)))

pub fresh-axes : (n a : ℕ) → n ≤ a → Fresh a (axes n)
unfolding axes
fresh-axes zero a h = tt
fresh-axes (suc n) a h = (apart n a h, fresh-axes n a (omega arith))
  where
    apart : (n a : ℕ) → suc n ≤ a → a ≡ n → ⊥
    apart n a h e = omega arith

pub distinct-axes : (n : ℕ) → Distinct (axes n)
unfolding axes
distinct-axes zero = tt
distinct-axes (suc n) = (fresh-axes n n (omega arith), distinct-axes n)

-- equal rules on each axis
pub sweep-rules : (ls : List ℕ) (r s : ℕ → Rule) (g : Field) → Each (λ a. r a ≡ s a) ls → sweep ls r g ≡ sweep ls s g
unfolding sweep
sweep-rules [] r s g h = refl
sweep-rules (a ∷ ls) r s g h = ap (λ (R : Rule). along a R (sweep ls r g)) h.0 ∙ ap (along a (s a)) (sweep-rules ls r s g h.1)

-- a rule that multiplies
abbrev pub multiply : ℤ → Rule
multiply z x t = z *ℤ x t

pub sweep-multiply : (n : ℕ) (z : ℤ) (g : Field) (p : Place) → sweep (axes n) (λ a. multiply z) g p ≡ z ^ℤ n *ℤ g p
unfolding sweep axes
sweep-multiply zero z g p = sym (pos-one-*ℤ (g p))
sweep-multiply (suc n) z g p =
    ap (λ (q : Place). z *ℤ sweep (axes n) (λ a. multiply z) g q) (put_same n p) ∙ ap (λ y. z *ℤ y) (sweep-multiply n z g p)
    ∙ sym (*ℤ-assoc z (z ^ℤ n) (g p))

-- a rule on another axis may come first or last
pub sweep-past : (ls : List ℕ) (r : ℕ → Rule) → ((a : ℕ) → Linear (r a)) → {R : Rule} → Linear R → (a : ℕ) → Fresh a ls → (g : Field)
    → along a R (sweep ls r g) ≡ sweep ls r (along a R g)
unfolding sweep
sweep-past [] r L K a f g = refl
sweep-past (b ∷ ls) r L {R} K a f g = along-swap K (L b) a b f.0 (sweep ls r g) ∙ ap (along b (r b)) (sweep-past ls r L K a f.1 g)

-- two rules on each axis are one
pub sweep-fuse : (ls : List ℕ) → Distinct ls → (r s : ℕ → Rule) → ((a : ℕ) → Linear (r a)) → ((a : ℕ) → Linear (s a)) → (g : Field)
    → sweep ls r (sweep ls s g) ≡ sweep ls (λ a x. r a (s a x)) g
unfolding sweep
sweep-fuse [] d r s K L g = refl
sweep-fuse (a ∷ ls) d r s K L g =
    ap (along a (r a)) (sym (sweep-past ls r K (L a) a d.0 (sweep ls s g)))
    ∙ along-fuse (r a) (s a) a (sweep ls r (sweep ls s g))
    ∙ ap (along a (λ x. r a (s a x))) (sweep-fuse ls d.1 r s K L g)

-- the order of the axes does not matter
pub data Reordered : List ℕ → List ℕ → Type 0 where
  same : {ls : List ℕ} → Reordered ls ls
  under : {a : ℕ} {ls ms : List ℕ} → Reordered ls ms → Reordered (a ∷ ls) (a ∷ ms)
  swapped : {a b : ℕ} {ls : List ℕ} → (a ≡ b → ⊥) → Reordered (a ∷ b ∷ ls) (b ∷ a ∷ ls)
  and_then : {ls ms ns : List ℕ} → Reordered ls ms → Reordered ms ns → Reordered ls ns

pub sweep-order : {ls ms : List ℕ} → Reordered ls ms → (r : ℕ → Rule) → ((a : ℕ) → Linear (r a)) → (g : Field) → sweep ls r g ≡ sweep ms r g
unfolding sweep
sweep-order same r L g = refl
sweep-order (under {a = a} h) r L g = ap (along a (r a)) (sweep-order h r L g)
sweep-order (swapped {a = a} {b = b} {ls = ls} n) r L g = along-swap (L a) (L b) a b n (sweep ls r g)
sweep-order (and_then h k) r L g = sweep-order h r L g ∙ sweep-order k r L g

-- any axis may come last
pub without-fresh : (l : ℕ) (ls : List ℕ) → Fresh l ls → without l ls ≡ ls
unfolding without
without-fresh l [] f = refl
without-fresh l (a ∷ ls) f = pick-false (eqb a l) (without l ls) (a ∷ without l ls) (ne_eqb a l (λ e. f.0 (sym e)))
    ∙ ap (λ ms. a ∷ ms) (without-fresh l ls f.1)

-- a fact of each axis of a list, where one is left out
pub each-without : (U : ℕ → Type 0) (l : ℕ) (ls : List ℕ) → Each (λ a. (a ≡ l → ⊥) → U a) ls → Each U (without l ls)
unfolding without
each-without U l [] h = tt
each-without U l (a ∷ ls) h = go (ℕ_discrete a l) (each-without U l ls h.1)
  where
    go : Dec (a ≡ l) → Each U (without l ls) → Each U (pick (eqb a l) (without l ls) (a ∷ without l ls))
    go (yes e) k = rw (pick_true (eqb a l) (without l ls) (a ∷ without l ls) (eq-eqb a l e)) k
    go (no n) k = rw (pick-false (eqb a l) (without l ls) (a ∷ without l ls) (ne_eqb a l n)) (h.0 n, k)

-- leaving an axis out: what is fresh stays fresh, distinct axes stay distinct, and nothing else is lost
pub fresh-without : (b l : ℕ) (ls : List ℕ) → Fresh b ls → Fresh b (without l ls)
unfolding without
fresh-without b l [] f = tt
fresh-without b l (a ∷ ls) f = go (ℕ_discrete a l) (fresh-without b l ls f.1)
  where
    go : Dec (a ≡ l) → Fresh b (without l ls) → Fresh b (pick (eqb a l) (without l ls) (a ∷ without l ls))
    go (yes e) k = rw (pick_true (eqb a l) (without l ls) (a ∷ without l ls) (eq-eqb a l e)) k
    go (no n) k = rw (pick-false (eqb a l) (without l ls) (a ∷ without l ls) (ne_eqb a l n)) (f.0, k)

pub distinct_without : (l : ℕ) (ls : List ℕ) → Distinct ls → Distinct (without l ls)
unfolding without
distinct_without l [] d = tt
distinct_without l (a ∷ ls) d = go (ℕ_discrete a l) (distinct_without l ls d.1)
  where
    go : Dec (a ≡ l) → Distinct (without l ls) → Distinct (pick (eqb a l) (without l ls) (a ∷ without l ls))
    go (yes e) k = rw (pick_true (eqb a l) (without l ls) (a ∷ without l ls) (eq-eqb a l e)) k
    go (no n) k = rw (pick-false (eqb a l) (without l ls) (a ∷ without l ls) (ne_eqb a l n)) (fresh-without a l ls d.0, k)

pub fresh-out : (l : ℕ) (ls : List ℕ) → Fresh l (without l ls)
unfolding without
fresh-out l [] = tt
fresh-out l (a ∷ ls) = go (ℕ_discrete a l) (fresh-out l ls)
  where
    go : Dec (a ≡ l) → Fresh l (without l ls) → Fresh l (pick (eqb a l) (without l ls) (a ∷ without l ls))
    go (yes e) k = rw (pick_true (eqb a l) (without l ls) (a ∷ without l ls) (eq-eqb a l e)) k
    go (no n) k = rw (pick-false (eqb a l) (without l ls) (a ∷ without l ls) (ne_eqb a l n)) (λ e. n (sym e), k)

pub fresh-back : (b l : ℕ) (ls : List ℕ) → (b ≡ l → ⊥) → Fresh b (without l ls) → Fresh b ls
unfolding without
fresh-back b l [] k f = tt
fresh-back b l (a ∷ ls) k f = go (ℕ_discrete a l) (λ x. fresh-back b l ls k x)
  where
    go : Dec (a ≡ l) → (Fresh b (without l ls) → Fresh b ls) → (b ≡ a → ⊥) × Fresh b ls
    go (yes e) r = (λ p. k (p ∙ e), r (rw (pick_true (eqb a l) (without l ls) (a ∷ without l ls) (eq-eqb a l e)) at f))
    go (no n) r = let h = rw (pick-false (eqb a l) (without l ls) (a ∷ without l ls) (ne_eqb a l n)) at f in (h.0, r h.1)

pub last-first : (n l : ℕ) → l < n → Reordered (axes n) (l ∷ without l (axes n))
unfolding axes without
last-first zero l h = absurd (not-suc-le-zero h)
last-first (suc n) l h = go (λ k. last-first n l k) (ℕ_discrete n l)
  where
    below : (n l : ℕ) → l < suc n → (n ≡ l → ⊥) → l < n
    below n l h k = omega arith

    go : (l < n → Reordered (axes n) (l ∷ without l (axes n))) → Dec (n ≡ l)
        → Reordered (n ∷ axes n) (l ∷ pick (eqb n l) (without l (axes n)) (n ∷ without l (axes n)))
    go r (yes e) =
        subst (λ ms. Reordered (n ∷ axes n) ms)
        (ap (λ (i : ℕ). i ∷ axes n) e
        ∙ ap (λ ms. l ∷ ms) (sym (pick_true (eqb n l) (without l (axes n)) (n ∷ without l (axes n)) (eq-eqb n l e)
        ∙ without-fresh l (axes n) (subst (λ (i : ℕ). Fresh i (axes n)) e (fresh-axes n n (omega arith))))))
        same
    go r (no k) =
        subst (λ ms. Reordered (n ∷ axes n) (l ∷ ms))
        (sym (pick-false (eqb n l) (without l (axes n)) (n ∷ without l (axes n)) (ne_eqb n l k)))
        (and_then (under (r (below n l h k))) (swapped k))

-- a product over the axes, and their number, in any order
pub times-order : {ls ms : List ℕ} → Reordered ls ms → (f : ℕ → ℕ) → times ls f ≡ times ms f
unfolding times
times-order same f = refl
times-order (under {a = a} h) f = ap (λ (k : ℕ). f a * k) (times-order h f)
times-order (swapped {a = a} {b = b} {ls = ls} n) f = turn (f a) (f b) (times ls f)
  where
    turn : (x y z : ℕ) → x * (y * z) ≡ y * (x * z)
    turn x y z = omega arith
times-order (and_then h k) f = times-order h f ∙ times-order k f

pub length-order : {ls ms : List ℕ} → Reordered ls ms → length ls ≡ length ms
length-order same = refl
length-order (under h) = ap suc (length-order h)
length-order (swapped n) = refl
length-order (and_then h k) = length-order h ∙ length-order k

pub length-axes : (n : ℕ) → length (axes n) ≡ n
unfolding axes
length-axes zero = refl
length-axes (suc n) = ap suc (length-axes n)
