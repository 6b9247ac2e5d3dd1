-- Linear facts over ℤ, handed to `omega`. An expression is a difference of two naturals, read off it; an order or an equation of two
-- expressions is an order or an equation of naturals, in the atoms `pz x` and `nz x` of the variables x.
use mathlib.Core.Path.{◌≡◌, sym, ◌∙◌, ap, ap₂, subst}
use mathlib.Core.List.{List, [], ◌∷◌}
use Prim.Native.Nat.{ℕ, suc, ◌+◌, ◌*◌, ◌-◌, ◌≤◌, ◌<◌}
use native.Mathlib.Omega.{arith}
use lib.IntN.{ℤ, pos, negsuc, neg_ℤ, ◌+ℤ◌, ◌-ℤ◌, ◌*ℤ◌, +ℤ_idr, +ℤ-neg_ℤ_cancel}
use lib.Signed.{◌≤ℤ◌, ◌<ℤ◌}
use Rattle.arith.proofs.Laws.{+ℤ-swap4}
use Rattle.arith.proofs.Ring.{E, var, con, ◌⊞◌, ◌⊠◌, ⊟◌, ◌↑◌, den, nth}
use Rattle.arith.specs.Int.{◌^ℤ◌}
use Rattle.arith.proofs.Quote.{Quoted, Sides, quotes, ring! }
use Rattle.arith.proofs.Order.{subℕ-pos, le-elim, le_intro, lt-elim, lt-intro, pos_inj}

-- the two parts of a number: x = pz x − nz x, one of them 0
abbrev pub pz : ℤ → ℕ
pz (pos n) = n
pz (negsuc n) = 0

abbrev pub nz : ℤ → ℕ
nz (pos n) = 0
nz (negsuc n) = suc n

abbrev pub Diff : ℤ → ℕ → ℕ → Type 0
Diff x p n = x +ℤ pos n ≡ pos p

pub diff-atom : (x : ℤ) → Diff x (pz x) (nz x)
diff-atom (pos n) = +ℤ_idr (pos n)
diff-atom (negsuc n) = subℕ-pos (suc n) (suc n) (omega arith) ∙ ap pos (none n)
  where
    none : (n : ℕ) → suc n - suc n ≡ 0
    none n = omega arith

is : (x : ℤ) (p n : ℕ) → Diff x p n → x ≡ pos p -ℤ pos n
is x p n d = sym (+ℤ-neg_ℤ_cancel x (pos n)) ∙ ap (λ t. t -ℤ pos n) d

diff-neg : (x : ℤ) (p n : ℕ) → Diff x p n → Diff (neg_ℤ x) n p
diff-neg x p n d = ap (λ t. neg_ℤ x +ℤ t) (sym d)
    ∙ ring! (x ∷ pos n ∷ []) {x = neg_ℤ x +ℤ (x +ℤ pos n)} {y = pos n} (search quotes depth 40) tt

mul-law : (a b c d : ℤ) → (a -ℤ b) *ℤ (c -ℤ d) +ℤ (a *ℤ d +ℤ b *ℤ c) ≡ a *ℤ c +ℤ b *ℤ d
mul-law a b c d = ring! (a ∷ b ∷ c ∷ d ∷ []) (search quotes depth 40) tt

diff-mul : (x y : ℤ) (p n q m : ℕ) → Diff x p n → Diff y q m → Diff (x *ℤ y) (p * q + n * m) (p * m + n * q)
diff-mul x y p n q m d f = ap (λ t. t +ℤ pos (p * m + n * q)) (ap₂ ◌*ℤ◌ (is x p n d) (is y q m f)) ∙ mul-law (pos p) (pos n) (pos q) (pos m)

-- ---- the two naturals of an expression
abbrev mutual
  pub pos_e : E → List ℤ → ℕ
  pos_e (var i) ρ = pz (nth ρ i)
  pos_e (con z) ρ = pz z
  pos_e (a ⊞ b) ρ = pos_e a ρ + pos_e b ρ
  pos_e (a ⊠ b) ρ = pos_e a ρ * pos_e b ρ + neg_e a ρ * neg_e b ρ
  pos_e (⊟ a) ρ = neg_e a ρ
  pos_e (a ↑ n) ρ = pz (den a ρ ^ℤ n)

  pub neg_e : E → List ℤ → ℕ
  neg_e (var i) ρ = nz (nth ρ i)
  neg_e (con z) ρ = nz z
  neg_e (a ⊞ b) ρ = neg_e a ρ + neg_e b ρ
  neg_e (a ⊠ b) ρ = pos_e a ρ * neg_e b ρ + neg_e a ρ * pos_e b ρ
  neg_e (⊟ a) ρ = pos_e a ρ
  neg_e (a ↑ n) ρ = nz (den a ρ ^ℤ n)

diff-den : (e : E) (ρ : List ℤ) → Diff (den e ρ) (pos_e e ρ) (neg_e e ρ)
diff-den (var i) ρ = diff-atom (nth ρ i)
diff-den (con z) ρ = diff-atom z
diff-den (a ⊞ b) ρ = +ℤ-swap4 (den a ρ) (den b ρ) (pos (neg_e a ρ)) (pos (neg_e b ρ)) ∙ ap₂ ◌+ℤ◌ (diff-den a ρ) (diff-den b ρ)
diff-den (a ⊠ b) ρ = diff-mul (den a ρ) (den b ρ) (pos_e a ρ) (neg_e a ρ) (pos_e b ρ) (neg_e b ρ) (diff-den a ρ) (diff-den b ρ)
diff-den (⊟ a) ρ = diff-neg (den a ρ) (pos_e a ρ) (neg_e a ρ) (diff-den a ρ)
diff-den (a ↑ n) ρ = diff-atom (den a ρ ^ℤ n)

diff-q : (ρ : List ℤ) {x : ℤ} (q : Quoted ρ x) → Diff x (pos_e q.e ρ) (neg_e q.e ρ)
diff-q ρ q = subst (λ x. Diff x (pos_e q.e ρ) (neg_e q.e ρ)) q.ok (diff-den q.e ρ)

-- ---- an order
fwd : (a b : ℤ) (p n q m k : ℕ) → Diff a p n → Diff b q m → b ≡ a +ℤ pos k → p + m + k ≡ q + n
fwd a b p n q m k d f e = pos_inj
    (ap (λ t. t +ℤ pos m +ℤ pos k) (sym d)
    ∙ ring! (a ∷ pos n ∷ pos m ∷ pos k ∷ []) {y = a +ℤ pos k +ℤ pos m +ℤ pos n} (search quotes depth 40) tt
    ∙ ap (λ t. t +ℤ pos m +ℤ pos n) (sym e)
    ∙ ap (λ t. t +ℤ pos n) f)

bwd : (a b : ℤ) (p n q m k : ℕ) → Diff a p n → Diff b q m → p + m + k ≡ q + n → b ≡ a +ℤ pos k
bwd a b p n q m k d f e =
    ring! (b ∷ pos n ∷ pos m ∷ []) {y = (b +ℤ pos m) +ℤ pos n -ℤ pos n -ℤ pos m} (search quotes depth 40) tt
    ∙ ap (λ t. t +ℤ pos n -ℤ pos n -ℤ pos m) f
    ∙ ap (λ (i : ℕ). pos i -ℤ pos n -ℤ pos m) (sym e)
    ∙ ap (λ t. t +ℤ pos m +ℤ pos k -ℤ pos n -ℤ pos m) (sym d)
    ∙ ring! (a ∷ pos n ∷ pos m ∷ pos k ∷ []) {x = a +ℤ pos n +ℤ pos m +ℤ pos k -ℤ pos n -ℤ pos m} {y = a +ℤ pos k}
    (search quotes depth 40) tt

-- ---- an order or an equation of two expressions, and of naturals
module _ (ρ : List ℤ) {a b : ℤ} (s : Sides ρ a b) where
  abbrev p : ℕ
  p = pos_e s.left.e ρ

  abbrev n : ℕ
  n = neg_e s.left.e ρ

  abbrev q : ℕ
  q = pos_e s.right.e ρ

  abbrev m : ℕ
  m = neg_e s.right.e ρ

  down : (k : ℕ) → b ≡ a +ℤ pos k → p + m + k ≡ q + n
  down k = fwd a b p n q m k (diff-q ρ s.left) (diff-q ρ s.right)

  up : (k : ℕ) → p + m + k ≡ q + n → b ≡ a +ℤ pos k
  up k = bwd a b p n q m k (diff-q ρ s.left) (diff-q ρ s.right)

  pub le→ℕ : a ≤ℤ b → p + m ≤ q + n
  le→ℕ h = let g = le-elim h in omega (arith, down g.0 g.1)

  pub ℕ→le : p + m ≤ q + n → a ≤ℤ b
  ℕ→le h = le_intro (q + n - (p + m)) (up (q + n - (p + m)) (omega arith))

  pub eq→ℕ : a ≡ b → p + m ≡ q + n
  eq→ℕ h = omega (arith, down 0 (sym h ∙ sym (+ℤ_idr a)))

  pub ℕ→eq : p + m ≡ q + n → a ≡ b
  ℕ→eq h = sym (up 0 (omega arith) ∙ +ℤ_idr a)

  pub lt→ℕ : a <ℤ b → p + m < q + n
  lt→ℕ h = let g = lt-elim h in omega (arith, down (suc g.0) g.1)

  pub ℕ→lt : p + m < q + n → a <ℤ b
  ℕ→lt h = lt-intro (q + n - suc (p + m)) (up (suc (q + n - suc (p + m))) (omega arith))
