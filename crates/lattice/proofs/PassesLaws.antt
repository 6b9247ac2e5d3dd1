-- As many passes on a flat array as there are axes are a sweep: each pass is `along`, and the order of the digits turns by one.
use mathlib.Core.Path.{◌≡◌, refl, sym, ap, subst, ◌∙◌, fun_ext}
use mathlib.Core.List.{List, [], ◌∷◌, ◌++◌, append_assoc, append-nil}
use Prim.Native.Nat.{ℕ, zero, suc, ◌+◌, ◌*◌, ◌/◌, ◌%◌, ◌^◌, ◌≤◌, ◌<◌}
use native.Mathlib.Nat.{one-mul, div-lt_iff_lt-mul, zero-lt-suc, le_of_eq, mod-lt, mul-le-mul_left, pow-zero, pow-suc, pow-succ', le_trans, add-zero, not-suc-le-zero}
use native.Mathlib.Omega.{arith}
use native.Mathlib.Decide.{dec_lt}
use lib.IntN.{ℤ, nat_abs}
use lib.ListN.{length, length-append}
use Rattle.lattice.specs.Digits.{number, digit}
use Rattle.lattice.specs.Axes.{Place, Field, Rule, put, along, sweep, axes}
use Rattle.lattice.specs.Flat.{index_of, size_of, pass}
use Rattle.lattice.proofs.Along.{put_same, Each, Fresh}
use Rattle.lattice.proofs.Local.{Depends}
use Rattle.lattice.proofs.PassLaws.{Holds, pass-along, fresh-snoc}
use Rattle.lattice.proofs.DigitsLaws.{Digits, digits_in, of-digits, no-group}

-- ---- the order of the digits

-- k axes from a on
from : ℕ → ℕ → List ℕ
from a zero = []
from a (suc k) = a ∷ from (suc a) k

-- the axes below a, x first
rising : ℕ → List ℕ
rising zero = []
rising (suc a) = rising a ++ (a ∷ [])

fresh-from : (b a k : ℕ) → b < a → Fresh b (from a k)
unfolding from
fresh-from b a zero h = tt
fresh-from b a (suc k) h = (apart h, fresh-from b (suc a) k (omega arith))
  where
    apart : b < a → b ≡ a → ⊥
    apart h e = omega arith

fresh-rising : (b a : ℕ) → a ≤ b → Fresh b (rising a)
unfolding rising
fresh-rising b zero h = tt
fresh-rising b (suc a) h = fresh-snoc b a (rising a) (fresh-rising b a (omega arith)) (apart h)
  where
    apart : suc a ≤ b → b ≡ a → ⊥
    apart h e = omega arith

fresh-both : (b : ℕ) (ls ms : List ℕ) → Fresh b ls → Fresh b ms → Fresh b (ls ++ ms)
fresh-both b [] ms f g = g
fresh-both b (a ∷ ls) ms f g = (f.0, fresh-both b ls ms f.1 g)

each_snoc : (U : ℕ → Type 0) (a : ℕ) (ls : List ℕ) → Each U ls → U a → Each U (ls ++ (a ∷ []))
each_snoc U a [] h u = (u, tt)
each_snoc U a (b ∷ ls) h u = (h.0, each_snoc U a ls h.1 u)

fresh-parts : (b : ℕ) (ls ms : List ℕ) → Fresh b (ls ++ ms) → Fresh b ls × Fresh b ms
fresh-parts b [] ms f = (tt, f)
fresh-parts b (a ∷ ls) ms f = let g = fresh-parts b ls ms f.1 in ((f.0, g.0), g.1)

among : (n b : ℕ) → b < n → Fresh b (rising n) → ⊥
unfolding rising
among zero b h f = absurd (not-suc-le-zero h)
among (suc n) b h f = let g = fresh-parts b (rising n) (n ∷ []) f in among n b (below n b h g.1.0) g.0
  where
    below : (n b : ℕ) → b < suc n → (b ≡ n → ⊥) → b < n
    below n b h k = omega arith

length_from : (a k : ℕ) → length (from a k) ≡ k
unfolding from
length_from a zero = refl
length_from a (suc k) = ap suc (length_from (suc a) k)

length-rising : (a : ℕ) → length (rising a) ≡ a
unfolding rising
length-rising zero = refl
length-rising (suc a) = length-append (rising a) (a ∷ []) ∙ omega (arith, length-rising a)

from-rising : (a k : ℕ) → rising a ++ from a k ≡ rising (a + k)
unfolding from rising
from-rising a zero = append-nil (rising a) ∙ ap rising (sym (add-zero a))
from-rising a (suc k) = sym (append_assoc (rising a) (a ∷ []) (from (suc a) k)) ∙ from-rising (suc a) k
    ∙ ap rising (let e : suc a + k ≡ a + suc k = omega arith in e)

-- facts of each rising axis
each-rising : (n : ℕ) (U : ℕ → Type 0) → ((a : ℕ) → a < n → U a) → Each U (rising n)
unfolding rising
each-rising zero U h = tt
each-rising (suc n) U h = each_snoc U n (rising n) (each-rising n U (λ a l. h a (omega arith))) (h n (omega arith))

beyond : (n b : ℕ) → Fresh b (rising n) → n ≤ b
beyond n b f = go (dec_lt b n)
  where
    go : Dec (b < n) → n ≤ b
    go (yes h) = absurd (among n b h f)
    go (no h) = omega (arith, h)

module _ (m : ℕ) where
  size-power : (ls : List ℕ) → size_of ls (λ a. m) ≡ m ^ length ls
  unfolding size_of
  size-power [] = sym (pow-zero m)
  size-power (a ∷ ls) = ap (λ (k : ℕ). m * k) (size-power ls) ∙ sym (pow-succ' m (length ls))

  -- an index is a number of digits
  index-from : (n a : ℕ) (p : Place) → index_of (from a n) (λ b. m) p ≡ number n (λ b. m) (λ b. p (a + b))
  unfolding index_of from number
  index-from zero a p = refl
  index-from (suc n) a p = ap (λ (k : ℕ). k + m * index_of (from (suc a) n) (λ b. m) p) (ap p (sym (add-zero a)))
      ∙ ap (λ (k : ℕ). p (a + 0) + m * k)
      (index-from n (suc a) p ∙ ap (λ (q : Place). number n (λ b. m) q)
      (fun_ext (λ b. ap p (let e : suc a + b ≡ a + suc b = omega arith in e))))

  index_number : (n : ℕ) (p : Place) → index_of (rising n) (λ b. m) p ≡ number n (λ b. m) p
  unfolding rising
  index_number n p =
      ap (λ (ls : List ℕ). index_of ls (λ b. m) p) (sym (from-rising 0 n ∙ ap rising (let e : 0 + n ≡ n = omega arith in e)))
      ∙ index-from n 0 p ∙ ap (λ (q : Place). number n (λ b. m) q) (fun_ext (λ b. ap p (let e : 0 + b ≡ b = omega arith in e)))

-- ---- a pass for each axis

-- i passes, each with the rule of its axis
unfoldable pub passes : ℕ → ℕ → (ℕ → Rule) → ℕ → (ℕ → ℤ) → ℕ → ℤ
passes m r rule zero xs = xs
passes m r rule (suc i) xs = pass m r (rule i) (passes m r rule i xs)

module _ (m n r : ℕ) (some : 0 < m) (groups : (j : ℕ) → suc j ≡ n → r ≡ m ^ j) (rule : ℕ → Rule)
    (dep : (i : ℕ) → Depends (rule i) (λ j. j < m) (λ t. t < m)) where
  -- one pass: the digit of axis i becomes the slowest
  turn : (i k : ℕ) → suc i + k ≡ n → (ys : ℕ → ℤ) (G : Field) → Holds (i ∷ (from (suc i) k ++ rising i)) (λ a. m) ys G
      → Holds (from (suc i) k ++ rising (suc i)) (λ a. m) (pass m r (rule i) ys) (along i (rule i) G)
  unfolding rising
  turn i k e ys G h =
      subst (λ (ms : List ℕ). Holds ms (λ a. m) (pass m r (rule i) ys) (along i (rule i) G))
      (append_assoc (from (suc i) k) (rising i) (i ∷ []))
      (subst (λ (w : Place). Holds (ls ++ (i ∷ [])) w (pass m r (rule i) ys) (along i (rule i) G)) (put_same i (λ b. m))
      (subst (λ (s : ℕ). Holds (ls ++ (i ∷ [])) (put i m (λ b. m)) (pass m s (rule i) ys) (along i (rule i) G))
      (size-power m ls ∙ ap (λ (j : ℕ). m ^ j) many ∙ sym (groups (k + i) (omega arith)))
      (pass-along i ls (λ b. m) m (rule i) ys G
      (fresh-both i (from (suc i) k) (rising i) (fresh-from i (suc i) k (omega arith)) (fresh-rising i i (omega arith))) (dep i) h)))
    where
      ls : List ℕ
      ls = from (suc i) k ++ rising i

      many : length ls ≡ k + i
      many = length-append (from (suc i) k) (rising i) ∙ (let a = length_from (suc i) k in let b = length-rising i in omega arith)

  module _ (xs : ℕ → ℤ) where
    abbrev field : Field
    field p = xs (number n (λ b. m) p)

    -- after i passes the array holds the field after i axes
    holds : (i k : ℕ) → i + k ≡ n → Holds (from i k ++ rising i) (λ a. m) (passes m r rule i xs) (sweep (axes i) rule field)
    unfolding passes sweep axes from rising
    holds zero k e = λ p d.
        ap (λ (ls : List ℕ). xs (index_of ls (λ b. m) p)) (append-nil (from 0 k)) ∙ ap xs (index-from m k 0 p)
        ∙ ap (λ (q : Place). xs (number k (λ b. m) q)) (fun_ext (λ b. ap p (let z : 0 + b ≡ b = omega arith in z)))
        ∙ ap (λ (j : ℕ). xs (number j (λ b. m) p)) (let z : k ≡ n = omega arith in z)
    holds (suc i) k e = turn i k e (passes m r rule i xs) (sweep (axes i) rule field) (holds i (suc k) (omega arith))

    -- and after n passes it holds the sweep
    pub passes-sweep : (k : ℕ) → k < m ^ n → passes m r rule n xs k ≡ sweep (axes n) rule field (digit (λ b. m) k)
    unfolding from
    passes-sweep k l =
        ap (passes m r rule n xs) (sym (index_number m n p ∙ of-digits n m k l))
        ∙ holds n 0 (omega arith) p (record { digits = each-rising n (λ a. p a < m) d.used; others = λ b f. d.unused b (beyond n b f) })
      where
        p : Place
        p = digit (λ b. m) k

        d : Digits n m p
        d = digits_in n m k some l

-- ---- passes and their inputs

pub some-groups : (k m r : ℕ) → k < m * r → 0 < r
some-groups k m zero h = absurd (no-group m k h)
some-groups k m (suc r) h = zero-lt-suc r

module _ (m r : ℕ) where
  -- what a pass reads, and for which place
  read-in : (k t : ℕ) → k < m * r → t < m → m * (k % r) + t < m * r
  read-in k t h l = let z = mul-le-mul_left m (mod-lt k (some-groups k m r h)) in omega arith

  pub place_in : (k : ℕ) → k < m * r → k / r < m
  place_in k h = (div-lt_iff_lt-mul (some-groups k m r h)).1 h

  pub pass_same : (rule : Rule) → Depends rule (λ j. j < m) (λ t. t < m) → (xs ys : ℕ → ℤ) → ((k : ℕ) → k < m * r → xs k ≡ ys k) → (k : ℕ)
      → k < m * r → pass m r rule xs k ≡ pass m r rule ys k
  unfolding pass
  pass_same rule dep xs ys h k l =
      dep (λ t. xs (m * (k % r) + t)) (λ t. ys (m * (k % r) + t)) (k / r) (place_in k l) (λ t q. h (m * (k % r) + t) (read-in k t l q))

  -- what the rules make of numbers within B is within F · B
  pub passes-size : (rule : ℕ → Rule) (F : ℕ)
      → ((a : ℕ) (x : ℕ → ℤ) (B j : ℕ) → j < m → ((t : ℕ) → t < m → nat_abs (x t) ≤ B) → nat_abs (rule a x j) ≤ F * B)
      → (xs : ℕ → ℤ) (B : ℕ) → ((k : ℕ) → k < m * r → nat_abs (xs k) ≤ B) → (i k : ℕ) → k < m * r
      → nat_abs (passes m r rule i xs k) ≤ F ^ i * B
  unfolding passes pass
  passes-size rule F size xs B h zero k l = rw (pow-zero F, one-mul B) (h k l)
  passes-size rule F size xs B h (suc i) k l =
      le_trans (size i (λ t. passes m r rule i xs (m * (k % r) + t)) (F ^ i * B) (k / r) (place_in k l)
      (λ t q. passes-size rule F size xs B h i (m * (k % r) + t) (read-in k t l q)))
      (le_of_eq (more F (F ^ i) B (F ^ suc i) (pow-suc F i)))
    where
      more : (f p b q : ℕ) → q ≡ p * f → f * (p * b) ≡ q * b
      more f p b q e = rw e (omega arith)
