-- Straight numbers, which rise by the same from node to node: where a rule makes of them a number that is linear in them, so does a sweep
-- of such rules, axis after axis, of numbers that are straight along each axis.
use mathlib.Core.Path.{◌≡◌, refl, sym, ap, ap₂, subst, ◌∙◌}
use mathlib.Core.List.{List, [], ◌∷◌}
use Prim.Native.Nat.{ℕ, zero, suc, ◌+◌}
use native.Mathlib.Omega.{arith}
use native.Mathlib.Decide.{ℕ_discrete}
use lib.IntN.{ℤ, pos, ◌+ℤ◌, ◌*ℤ◌, *ℤ_comm}
use Rattle.arith.specs.Sum.{times}
use Rattle.arith.proofs.Quote.{quotes, ring! }
use Rattle.lattice.specs.Axes.{Place, Field, Rule, origin, put, sweep}
use Rattle.lattice.proofs.Along.{put-at, put-off, put_same, put-swap, Fresh, Distinct, Each}

-- ---- one axis

-- the next number of a straight line
pub line-next : (A B : ℤ) (i : ℕ) → A +ℤ pos (suc i) *ℤ B ≡ A +ℤ pos i *ℤ B +ℤ B
line-next A B i = let e : suc i ≡ i + 1 = omega arith in ap (λ (k : ℕ). A +ℤ pos k *ℤ B) e ∙ go A B (pos i)
  where
    go : (A B i : ℤ) → A +ℤ (i +ℤ pos 1) *ℤ B ≡ A +ℤ i *ℤ B +ℤ B
    go A B i = ring! (A ∷ B ∷ i ∷ []) (search quotes depth 40) tt

-- the numbers by order of a node of a straight line: its value f, twice the rise d, 0
unfoldable pub on_line : ℤ → ℤ → ℕ → ℤ
on_line f d zero = f
on_line f d (suc zero) = pos 2 *ℤ d
on_line f d (suc (suc o)) = pos 0

-- numbers that are A + i·B at each node i in U make w·R = d·(v·A + t·B)
pub record Straightens (R : Rule) (U : ℕ → Type 0) (v t w d : ℕ) : Type 0 where
  pub multiple : (z : ℤ) (x : ℕ → ℤ) (j : ℕ) → R (λ i. z *ℤ x i) j ≡ z *ℤ R x j
  pub is : (A B : ℤ) (x : ℕ → ℤ) (j : ℕ) → ((i : ℕ) → U i → x i ≡ A +ℤ pos i *ℤ B)
      → R x j *ℤ pos w ≡ pos d *ℤ (pos v *ℤ A +ℤ pos t *ℤ B)

-- ---- axis after axis

-- a number of two places, the first for the unit and the second for the coordinate of each axis; it is linear in those of axis a
abbrev pub LinearOn : (Place → Place → ℤ) → ℕ → Type 0
LinearOn F a = (n x : Place) (v t : ℕ)
    → F (put a v n) (put a t x) ≡ pos v *ℤ F (put a 1 n) (put a 0 x) +ℤ pos t *ℤ F (put a 0 n) (put a 1 x)

-- the place p, moved to v on the axes of a list
unfoldable pub moved : List ℕ → Place → Place → Place
moved [] v p = p
moved (a ∷ ls) v p = put a (v a) (moved ls v p)

moved-put : (ls : List ℕ) (v p : Place) (a t : ℕ) → Fresh a ls → moved ls v (put a t p) ≡ put a t (moved ls v p)
unfolding moved
moved-put [] v p a t f = refl
moved-put (b ∷ ls) v p a t f = ap (put b (v b)) (moved-put ls v p a t f.1) ∙ put-swap b a (v b) t (moved ls v p) (λ e. f.0 (sym e))

-- an axis that is not in the list keeps its place
stays : (ls : List ℕ) (v p : Place) (a : ℕ) → Fresh a ls → moved ls v p ≡ put a (p a) (moved ls v p)
stays ls v p a f = ap (moved ls v) (sym (put_same a p)) ∙ moved-put ls v p a (p a) f

-- unit 1 on every axis
abbrev pub ones : Place
ones a = 1

-- one more axis, with coordinate 0
pub unused : (F : Place → Place → ℤ) (ls : List ℕ) (unit coordinate : Place) (a : ℕ) → Fresh a ls → LinearOn F a → coordinate a ≡ 0
    → F (moved (a ∷ ls) unit ones) (moved (a ∷ ls) coordinate origin) ≡ pos (unit a) *ℤ F (moved ls unit ones) (moved ls coordinate origin)
unfolding moved
unused F ls unit coordinate a f h e =
    ap (λ (t : ℕ). F (put a (unit a) n) (put a t x)) e ∙ h n x (unit a) 0
    ∙ none (pos (unit a)) (F (put a 1 n) (put a 0 x)) (F (put a 0 n) (put a 1 x))
    ∙ ap₂ (λ (i j : Place). pos (unit a) *ℤ F i j) (sym (stays ls unit ones a f)) (sym (stays ls coordinate origin a f))
  where
    n : Place
    n = moved ls unit ones

    x : Place
    x = moved ls coordinate origin

    none : (v A B : ℤ) → v *ℤ A +ℤ pos 0 *ℤ B ≡ v *ℤ A
    none v A B = ring! (v ∷ A ∷ B ∷ []) (search quotes depth 40) tt

module _ (F : Place → Place → ℤ) (U : ℕ → ℕ → Type 0) (rule : ℕ → Rule) (unit coordinate w d : Place) (g : Field)
    (straight : (p : Place) → ((b : ℕ) → U b (p b)) → g p ≡ F ones p) where
  -- an axis along which the number is linear and the rule keeps it so
  abbrev pub Works : ℕ → Type 0
  Works a = LinearOn F a × Straightens (rule a) (U a) (unit a) (coordinate a) (w a) (d a)

  pub straight-sweep : (ls : List ℕ) → Distinct ls → Each Works ls → (p : Place) → ((b : ℕ) → Fresh b ls → U b (p b))
      → sweep ls rule g p *ℤ pos (times ls w) ≡ F (moved ls unit ones) (moved ls coordinate p) *ℤ pos (times ls d)
  unfolding sweep times moved
  straight-sweep [] e h p here = ap (λ z. z *ℤ pos 1) (straight p (λ b. here b tt))
  straight-sweep (a ∷ ls) e h p here =
      out (rule a y (p a)) (pos (w a)) Q
      ∙ ap (λ z. z *ℤ pos (w a)) (sym (h.0.1.multiple Q y (p a)))
      ∙ h.0.1.is (A *ℤ D) (B *ℤ D) (λ i. Q *ℤ y i) (p a)
      (line (λ t l. straight-sweep ls e.1 h.1 (put a t p) (λ b f. nodes t l b f (ℕ_discrete b a))))
      ∙ together (pos (d a)) (pos (unit a)) A D (pos (coordinate a)) B
      ∙ ap (λ z. z *ℤ (pos (d a) *ℤ D)) (sym (h.0.0 n x (unit a) (coordinate a)))
    where
      y : ℕ → ℤ
      y t = sweep ls rule g (put a t p)

      Q : ℤ
      Q = pos (times ls w)

      D : ℤ
      D = pos (times ls d)

      n : Place
      n = moved ls unit ones

      x : Place
      x = moved ls coordinate p

      A : ℤ
      A = F (put a 1 n) (put a 0 x)

      B : ℤ
      B = F (put a 0 n) (put a 1 x)

      out : (r w q : ℤ) → r *ℤ (w *ℤ q) ≡ q *ℤ r *ℤ w
      out r w q = ring! (r ∷ w ∷ q ∷ []) (search quotes depth 40) tt

      together : (d v A D t B : ℤ) → d *ℤ (v *ℤ (A *ℤ D) +ℤ t *ℤ (B *ℤ D)) ≡ (v *ℤ A +ℤ t *ℤ B) *ℤ (d *ℤ D)
      together d v A D t B = ring! (d ∷ v ∷ A ∷ D ∷ t ∷ B ∷ []) (search quotes depth 40) tt

      apart : (A D t B : ℤ) → (pos 1 *ℤ A +ℤ t *ℤ B) *ℤ D ≡ A *ℤ D +ℤ t *ℤ (B *ℤ D)
      apart A D t B = ring! (A ∷ D ∷ t ∷ B ∷ []) (search quotes depth 40) tt

      nodes : (t : ℕ) → U a t → (b : ℕ) → Fresh b ls → Dec (b ≡ a) → U b (put a t p b)
      nodes t l b f (yes k) = subst (λ (i : ℕ). U i (put a t p i)) (sym k) (rw (put-at a t p) l)
      nodes t l b f (no k) = rw (put-off a t b p k) (here b (k, f))

      line : ((t : ℕ) → U a t → y t *ℤ Q ≡ F n (moved ls coordinate (put a t p)) *ℤ D) → (t : ℕ) → U a t
          → Q *ℤ y t ≡ A *ℤ D +ℤ pos t *ℤ (B *ℤ D)
      line before t l =
          *ℤ_comm Q (y t)
          ∙ before t l
          ∙ ap₂ (λ (i j : Place). F i j *ℤ D)
          (stays ls unit ones a e.0) (moved-put ls coordinate p a t e.0)
          ∙ ap (λ z. z *ℤ D) (h.0.0 n x 1 t)
          ∙ apart A D (pos t) B
