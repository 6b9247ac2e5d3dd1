-- Quoting found by `search`: `Quoted ρ x` is an expression that denotes x, `Sides ρ x y` one for each of x and y.
-- `ring! ρ (search quotes depth 40) tt` proves x ≡ y.
use mathlib.Core.Path.{◌≡◌, refl, sym, ◌∙◌, ap, ap₂}
use mathlib.Core.List.{List, ◌∷◌}
use Prim.Native.Nat.{ℕ, suc, ◌+◌, ◌*◌}
use lib.Dec.{T, leb}
use lib.IntN.{ℤ, pos, negsuc, neg_ℤ, ◌+ℤ◌, ◌*ℤ◌}
use Rattle.arith.proofs.Ring.{E, var, con, ◌⊞◌, ◌⊠◌, ⊟◌, ◌↑◌, den, nth, Same, ring}
use Rattle.arith.specs.Int.{◌^ℤ◌}

pub record Quoted (ρ : List ℤ) (x : ℤ) : Type 0 where
  pub e : E
  pub ok : den e ρ ≡ x

module _ {ρ : List ℤ} where
  -- the proofs stand apart, shut, so that computing an expression does not compute them
  pub ok_add : (x y : ℤ) (a : Quoted ρ x) (b : Quoted ρ y) → den (a.e ⊞ b.e) ρ ≡ x +ℤ y
  ok_add x y a b = ap₂ ◌+ℤ◌ a.ok b.ok

  pub ok_mul : (x y : ℤ) (a : Quoted ρ x) (b : Quoted ρ y) → den (a.e ⊠ b.e) ρ ≡ x *ℤ y
  ok_mul x y a b = ap₂ ◌*ℤ◌ a.ok b.ok

  pub ok-neg : (x : ℤ) (a : Quoted ρ x) → den (⊟ a.e) ρ ≡ neg_ℤ x
  ok-neg x a = ap neg_ℤ a.ok

  pub ok-pow : (x : ℤ) (n : ℕ) (a : Quoted ρ x) → den (a.e ↑ n) ρ ≡ x ^ℤ n
  ok-pow x n a = ap (λ t. t ^ℤ n) a.ok

  abbrev pub q_add : (x y : ℤ) → Quoted ρ x → Quoted ρ y → Quoted ρ (x +ℤ y)
  q_add x y a b = record { e = a.e ⊞ b.e; ok = ok_add x y a b }

  abbrev pub q-mul : (x y : ℤ) → Quoted ρ x → Quoted ρ y → Quoted ρ (x *ℤ y)
  q-mul x y a b = record { e = a.e ⊠ b.e; ok = ok_mul x y a b }

  abbrev pub q-neg : (x : ℤ) → Quoted ρ x → Quoted ρ (neg_ℤ x)
  q-neg x a = record { e = ⊟ a.e; ok = ok-neg x a }

  abbrev pub q-pow : (x : ℤ) (n : ℕ) → Quoted ρ x → Quoted ρ (x ^ℤ n)
  q-pow x n a = record { e = a.e ↑ n; ok = ok-pow x n a }

  -- a numeral: the premise computes to `Unit` there and is stuck elsewhere, so that no open number is taken for a constant
  abbrev pub q-pos : (n : ℕ) → T (leb 0 n) → Quoted ρ (pos n)
  q-pos n t = record { e = con (pos n); ok = refl }

  -- a sum or a product under `pos`, which is what `pos m +ℤ pos n` and `pos m *ℤ pos n` compute to
  pub ok-pos-add : (m n : ℕ) (a : Quoted ρ (pos m)) (b : Quoted ρ (pos n)) → den (a.e ⊞ b.e) ρ ≡ pos (m + n)
  ok-pos-add m n a b = ap₂ ◌+ℤ◌ a.ok b.ok

  pub ok-pos-mul : (m n : ℕ) (a : Quoted ρ (pos m)) (b : Quoted ρ (pos n)) → den (a.e ⊠ b.e) ρ ≡ pos (m * n)
  ok-pos-mul m n a b = ap₂ ◌*ℤ◌ a.ok b.ok

  abbrev pub q-pos-add : (m n : ℕ) → Quoted ρ (pos m) → Quoted ρ (pos n) → Quoted ρ (pos (m + n))
  q-pos-add m n a b = record { e = a.e ⊞ b.e; ok = ok-pos-add m n a b }

  abbrev pub q-pos-mul : (m n : ℕ) → Quoted ρ (pos m) → Quoted ρ (pos n) → Quoted ρ (pos (m * n))
  q-pos-mul m n a b = record { e = a.e ⊠ b.e; ok = ok-pos-mul m n a b }

  abbrev pub q-negsuc : (n : ℕ) → T (leb 0 n) → Quoted ρ (negsuc n)
  q-negsuc n t = record { e = con (negsuc n); ok = refl }

-- a variable, found by its place in the list
pub record Var (ρ : List ℤ) (x : ℤ) : Type 0 where
  pub index : ℕ
  pub ok : nth ρ index ≡ x

module _ {ρ : List ℤ} where
  abbrev pub v-here : (x : ℤ) → Var (x ∷ ρ) x
  v-here x = record { index = 0; ok = refl }

  abbrev pub v-there : (x y : ℤ) → Var ρ x → Var (y ∷ ρ) x
  v-there x y v = record { index = suc v.index; ok = v.ok }

  abbrev pub q-var : (x : ℤ) → Var ρ x → Quoted ρ x
  q-var x v = record { e = var v.index; ok = v.ok }

pub ruleset quotes = (tt, v-here, v-there, q-var, q-pos-add, q-pos-mul, q-pos, q-negsuc, q-neg, q-pow, q-mul, q_add)

-- the two sides of an equation or an order
pub record Sides (ρ : List ℤ) (x y : ℤ) : Type 0 where
  pub left : Quoted ρ x
  pub right : Quoted ρ y

pub ring! : (ρ : List ℤ) {x y : ℤ} (q : Sides ρ x y) → Same q.left.e q.right.e → x ≡ y
ring! ρ q t = sym q.left.ok ∙ ring q.left.e q.right.e ρ t ∙ q.right.ok
