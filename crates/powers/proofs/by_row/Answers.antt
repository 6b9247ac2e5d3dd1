-- `powers::by_row` meets its contract.
use mathlib.Core.Path.{◌≡◌, refl, ap, ap₂, ◌∙◌}
use mathlib.Core.List.{List}
use Prim.Native.Nat.{ℕ, suc, ◌+◌, ◌*◌, ◌^◌, ◌<◌}
use native.Mathlib.Nat.{lt_of_le_of_lt}
use native.Mathlib.Omega.{arith}
use lib.Dec.{lit<}
use lib.IntN.{ℤ, pos, nat_abs, ◌+ℤ◌, ◌*ℤ◌}
use lib.ListN.{length, get_or}
use Rattle.std.proofs.lemmas.List.{length_push}
use Rattle.std.proofs.lemmas.Slice.Zip.{zip_turn}
use lib.Signed.{mag}
use mir.Facts.{to_z-of_z}
use mir.Syntax.{w32}
use mir.Val.{SFits, to_z, of_z}
use Rattle.arith.specs.Sum.{sum, total}
use Rattle.arith.proofs.Abs.{sfits-abs}
use Rattle.arith.proofs.Machine.{element}
use Rattle.arith.proofs.Sums.{dot-sum, dot-term}
use Rattle.lattice.specs.Buffer.{at}
use Rattle.powers.proofs.by_row.Goals as goal
use Rattle.powers.proofs.by_row.Goals.{In-Some, After-x-1}

abbrev held : ℤ → ℤ
held z = to_z w32 (of_z w32 z)

-- product k fits, and so does the sum of the first k + 1
record Added (m xs : List ℤ) (a x z : ℤ) (k : ℕ) : Type 0 where
  product-fits : SFits w32 (held a *ℤ held x)
  sum_fits : SFits w32 (z +ℤ held (held a *ℤ held x))
  sum_is : held (z +ℤ held (held a *ℤ held x)) ≡ sum (k + 1) (λ K. at m K *ℤ at xs K)

module _ (m xs : List ℤ) (low : total 16 (λ K. nat_abs (at m K) * nat_abs (at xs K)) < 2 ^ 31) (z : ℤ) (k : ℕ) (in_row : k < 16)
    (so_far : z ≡ sum k (λ K. at m K *ℤ at xs K)) (a x : ℤ) (a-is : a ≡ at m k) (x-is : x ≡ at xs k) (a-fits : mag a < 2 ^ 31)
    (x-fits : mag x < 2 ^ 31) where
  abbrev term : ℕ → ℤ
  term K = at m K *ℤ at xs K

  term_fits : SFits w32 (term k)
  term_fits = sfits-abs (term k) (lt_of_le_of_lt (dot-term 16 (at m) (at xs) 2147483647 (omega arith) k in_row) (lit< tt))

  more-fits : SFits w32 (sum (k + 1) term)
  more-fits =
      sfits-abs (sum (k + 1) term)
      (lt_of_le_of_lt (dot-sum 16 (at m) (at xs) 2147483647 (omega arith) (k + 1) (omega arith)) (lit< tt))

  factors-are : held a *ℤ held x ≡ term k
  factors-are = ap₂ ◌*ℤ◌ (element a a-fits ∙ a-is) (element x x-fits ∙ x-is)

  product_is : held (held a *ℤ held x) ≡ term k
  product_is = rw factors-are (to_z-of_z {w = w32} term_fits)

  more : z +ℤ held (held a *ℤ held x) ≡ sum (k + 1) term
  unfolding sum
  more = let e : suc k ≡ k + 1 = omega arith in rw (product_is, so_far) (ap (λ (n : ℕ). sum n term) e)

  added : Added m xs a x z k
  added =
      record {
        product-fits = rw factors-are term_fits;
        sum_fits = rw more more-fits;
        sum_is = rw more (to_z-of_z {w = w32} more-fits);
      }

pub loop-a-init : goal.loop-a-init
unfolding sum
loop-a-init c = refl

-- the factors at hand
turn : (c : In-Some)
    → let k = length c.loop-a.yielded in
    (k < length c.args.row.now) × (k < length c.args.xs.now) × ((d : ℤ) → c.in-Some.field-0-0.now ≡ get_or c.args.row.now k d)
    × ((d : ℤ) → c.in-Some.field-0-1.now ≡ get_or c.args.xs.now k d)
turn c = zip_turn c.args.row.now c.args.xs.now c.loop-a.yielded c.into_iter-a-iterator.result _ c.next.new.self _ (cc) (cc)
    c.loop-a.yielded_by _ c.in-Some.is c.next.ensures.steps

adds : (c : After-x-1) → Added c.args.row.now c.args.xs.now c.in-Some.field-0-0.now c.in-Some.field-0-1.now (to_z w32 c.loop-a.sum-bits)
    (length c.loop-a.yielded)
adds c =
    let t = turn c.before.before in
    added c.args.row.now c.args.xs.now c.requires.1 (to_z w32 c.loop-a.sum-bits) (length c.loop-a.yielded)
    (let h = t.0 in let e = c.requires.0 in omega arith) c.loop-a.invariant
    c.in-Some.field-0-0.now c.in-Some.field-0-1.now (t.2 (pos 0)) (t.3 (pos 0)) c.a-1.given c.x-1.given

pub overflow_mul-sum : goal.overflow_mul-sum
overflow_mul-sum c = (adds c).product-fits

pub overflow_add-sum : goal.overflow_add-sum
overflow_add-sum c = (adds c).sum_fits

pub loop-a-preserved : goal.loop-a-preserved
loop-a-preserved c = rw (length_push c.loop-a.yielded (c.in-Some.field-0-0, c.in-Some.field-0-1)) (adds c).sum_is
