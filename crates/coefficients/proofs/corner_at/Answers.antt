-- `coefficients::corner_at` meets its contract: the bits of a turn, the highest first.
use mathlib.Core.Path.{◌≡◌, sym, subst}
use Prim.Native.Nat.{ℕ, ◌<◌, ◌+◌, ◌*◌, ◌/◌, ◌%◌, ◌^◌}
use native.Mathlib.Omega.{arith}
use Rattle.lattice.specs.Digits.{number, digit}
use Rattle.coefficients.specs.Blocks.{reversed, corner_at}
use Rattle.coefficients.proofs.SpotLaws.{corner-below}
use Rattle.coefficients.proofs.corner_at.Goals as goal
use Rattle.coefficients.proofs.corner_at.Goals.{Start}

one : (i : ℕ) → i < 2 → i ≡ corner_at 1 i
unfolding corner_at reversed number digit
one i l = omega arith

two : (i : ℕ) → i < 4 → i / 2 + 2 * (i % 2) ≡ corner_at 2 i
unfolding corner_at reversed number digit
two i l = omega arith

three : (i : ℕ) → i < 8 → i / 4 + (2 * (i / 2 % 2) + 4 * (i % 2)) ≡ corner_at 3 i
unfolding corner_at reversed number digit
three i l = omega arith

-- by the number of axes
module _ (s : Start) (n : ℕ) (e : n ≡ s.args.n) where
  below : s.args.i < 2 ^ n
  below = subst (λ (k : ℕ). s.args.i < 2 ^ k) (sym e) s.requires.2

  gives : (r : ℕ) → r ≡ corner_at n s.args.i → (r ≡ corner_at s.args.n s.args.i) × (r < 2 ^ s.args.n)
  gives r h = subst (λ (k : ℕ). (r ≡ corner_at k s.args.i) × (r < 2 ^ k)) e
      (h, rw h (corner-below n (let l = s.requires.0 in omega arith) (let l = s.requires.1 in omega arith) s.args.i below))

pub returns-then-n-eq1 : goal.returns-then-n-eq1
returns-then-n-eq1 c = let s = c.before in let e = sym c.if-n-eq1.true in gives s 1 e _ (one s.args.i (below s 1 e))

pub returns-then-n-lt3 : goal.returns-then-n-lt3
returns-then-n-lt3 c =
    let s = c.before.before in
    let low = s.requires.0 in
    let few = c.if-n-lt3.true in
    let e : 2 ≡ s.args.n = omega (arith, c.if-n-eq1.false) in
    gives s 2 e _ (two s.args.i (below s 2 e))

pub returns : goal.returns
returns c =
    let s = c.before.before in
    let low = s.requires.0 in
    let high = s.requires.1 in
    let e : 3 ≡ s.args.n = omega (arith, c.if-n-eq1.false, c.if-n-lt3.false) in
    gives s 3 e _ (three s.args.i (below s 3 e))
