-- `cell::beyond` meets its contract: two comparisons with a limit that is not negative.
use mathlib.Core.Path.{◌≡◌, refl, sym, ◌∙◌}
use mathlib.Core.Bool.{true, false}
use Prim.Native.Nat.{zero, suc, ◌<◌, ◌^◌}
use native.Mathlib.Omega.{arith}
use native.Mathlib.Decide.{dec_lt}
use lib.Dec.{ltb, lit<}
use lib.IntN.{ℤ, pos, negsuc, neg_ℤ, nat_abs, ◌-ℤ◌, +ℤ_idl}
use lib.Signed.{non_neg, lt_z, mag}
use borrow.Author.Tests.{lt-ltb, le-ltb}
use Rattle.arith.proofs.Choices.{clash}
use Rattle.arith.proofs.Machine.{element}
use Rattle.cell.proofs.beyond.Goals as goal

small : (z : ℤ) → mag z < 2 ^ 31 → non_neg z ≡ true → mag (pos 0 -ℤ z) < 2 ^ 31
small z h e = rw (+ℤ_idl (neg_ℤ z)) (go z h e)
  where
    go : (z : ℤ) → mag z < 2 ^ 31 → non_neg z ≡ true → mag (neg_ℤ z) < 2 ^ 31
    go (pos zero) h e = lit< tt
    go (pos (suc n)) h e = omega arith
    go (negsuc n) h e = clash (cc)

-- a number above the limit
above : (x limit : ℤ) → non_neg limit ≡ true → lt_z limit x ≡ true → lt_z limit x ≡ ltb (nat_abs limit) (nat_abs x)
above (pos k) (pos n) ok h = refl
above (negsuc k) (pos n) ok h = cc
above x (negsuc n) ok h = cc

-- one that is not
below : (x limit : ℤ) → non_neg limit ≡ true → lt_z limit x ≡ false → lt_z x (neg_ℤ limit) ≡ ltb (nat_abs limit) (nat_abs x)
below (pos k) (pos zero) ok h = le-ltb k 0 (omega arith) ∙ sym h
below (pos k) (pos (suc n)) ok h = sym h
below (negsuc k) (pos zero) ok h = sym (lt-ltb 0 (suc k) (omega arith))
below (negsuc k) (pos (suc n)) ok h = go (dec_lt n k)
  where
    go : Dec (n < k) → ltb n k ≡ ltb (suc n) (suc k)
    go (yes l) = lt-ltb n k l ∙ sym (lt-ltb (suc n) (suc k) (omega arith))
    go (no m) = le-ltb n k (omega (arith, m)) ∙ sym (le-ltb (suc n) (suc k) (omega (arith, m)))
below x (negsuc n) ok h = cc

pub overflow_sub-result : goal.overflow_sub-result
overflow_sub-result c = let b = c.before in
    rw (element b.args.limit b.ranges.limit.sfits) (record { sfits = small b.args.limit b.ranges.limit.sfits b.requires })

pub returns-then-limit-x : goal.returns-then-limit-x
returns-then-limit-x c =
    let b = c.before in
    let i = element b.args.x b.ranges.x.sfits in
    let j = element b.args.limit b.ranges.limit.sfits in
    rw (i, j) (above b.args.x b.args.limit b.requires (rw (i, j) at c.if-limit-x.true))

pub returns-else-limit-x : goal.returns-else-limit-x
returns-else-limit-x c =
    let b = c.before in
    let i = element b.args.x b.ranges.x.sfits in
    let j = element b.args.limit b.ranges.limit.sfits in
    let k = element (pos 0 -ℤ b.args.limit) (small b.args.limit b.ranges.limit.sfits b.requires) in
    rw (i, j, k, +ℤ_idl (neg_ℤ b.args.limit)) (below b.args.x b.args.limit b.requires (rw (i, j) at c.if-limit-x.false))
