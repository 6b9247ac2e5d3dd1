-- `sample_of` meets its contract: a size within the limit is held whole.
use mathlib.Core.Path.{◌≡◌, refl, ap₂, ◌∙◌}
use mathlib.Core.Bool.{Bool}
use mathlib.Core.List.{List}
use Prim.Native.Nat.{ℕ}
use native.Mathlib.Omega.{arith}
use lib.IntN.{pos, neg_ℤ}
use Rattle.arith.specs.Choice.{pick}
use Rattle.arith.proofs.Machine.{element}
use Rattle.import.specs.Bytes.{leads}
use Rattle.import.specs.Grammar.{number_in}
use Rattle.import.specs.Value.{units, sample_of}
use Rattle.import.specs.Import.{sample_in}
use Rattle.import.proofs.ImportLaws.{taken-size}
use Rattle.import.proofs.sample_of.Goals as goal

sample-is : (token : List ℕ) → pick (leads 45 45 token) (neg_ℤ (pos (units (number_in token)))) (pos (units (number_in token)))
    ≡ sample_in token
unfolding sample_of number_in
sample-is token = refl

pub signed-requires : goal.signed-requires
signed-requires c = omega (arith, taken-size _ _ c.requires c.measure.ensures, c.requires.small)

pub returns : goal.returns
returns c =
    element c.signed.result c.signed.type_inv ∙ c.signed.ensures
    ∙ ap₂ (λ (v : ℕ) (b : Bool). pick b (neg_ℤ (pos v)) (pos v)) (taken-size _ _ c.requires c.measure.ensures) c.leads_with.ensures
    ∙ sample-is c.args.token.now
