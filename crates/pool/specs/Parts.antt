-- For the contracts of inner functions: groups of refusals; samples lifted by their limit; weights and samples that are taken.
use Rattle.std.specs.Prelude.{◌≡◌, ℕ, ◌+◌, ◌≤◌, ◌<◌, List, ℤ, pos, ◌+ℤ◌, nat_abs, length, Result}
use Rattle.lattice.specs.declared.refusal.Refusal.{Refusal}
use Rattle.lattice.specs.Answers.{outcome_of}
use Rattle.lattice.specs.Outcome.{Check, first}
use Rattle.lattice.specs.Buffer.{at}
use Rattle.lattice.specs.Records.{sample_limit}

-- ---- refusals

-- what a test gives of the first, then of the second
abbrev pub InTurn : (Result Unit Refusal → Type 0) → (Result Unit Refusal → Type 0) → Result Unit Refusal → Type 0
InTurn one other result =
    (p q : Check) → ((r : Result Unit Refusal) → one r → outcome_of r ≡ p) → ((r : Result Unit Refusal) → other r → outcome_of r ≡ q)
    → outcome_of result ≡ first p q

-- ---- samples

-- x is sample a, lifted by 32768
pub record Lifted (a : ℤ) (x : ℕ) : Type 0 where
  pub is : pos x ≡ a +ℤ pos 32768
  pub high : x ≤ 65536

pub record Weights (v w : ℕ) : Type 0 where
  pub first : v ≤ 10000
  pub second : w ≤ 10000
  pub some : 0 < v + w

-- samples that are not refused, and room for as many
pub record Poolable (xs : List ℤ) (v : ℕ) (ys : List ℤ) (w room : ℕ) : Type 0 where
  pub weights : Weights v w
  pub same : length ys ≡ length xs
  pub fits : length xs ≤ room
  pub first : (i : ℕ) → nat_abs (at xs i) ≤ sample_limit
  pub second : (i : ℕ) → nat_abs (at ys i) ≤ sample_limit
