-- `query::at_position` meets its contract: three numbers stand for the position.
use mathlib.Core.List.{[], ◌∷◌}
use mathlib.Core.Path.{refl}
use Prim.Native.Nat.{ℕ}
use lib.ListN.{get_or}
use Rattle.arith.proofs.Choices.{by-3}
use Rattle.lattice.specs.Buffer.{at}
use Rattle.query.specs.Parts.{StandsFor, Stand}
use Rattle.query.proofs.Locate.{stands-for}
use Rattle.query.proofs.at_position.Goals as goal

pub returns : goal.returns
returns c =
    let p = c.args.q.position in
    let step = c.unsigned.result ∷ c.unsigned-2.result ∷ c.unsigned-3.result ∷ [] in
    let stand : Stand p step = by-3 (λ (a : ℕ). StandsFor (at p a) (get_or step a 0)) (stands-for (at p 0) c.x-1.given c.unsigned.ensures)
    (stands-for (at p 1) c.y-1.given c.unsigned-2.ensures) (stands-for (at p 2) c.z-1.given c.unsigned-3.ensures) in
    let both = c.read.ensures.by_position refl p stand in
    record { result_value = both.0; marks = both.1 }
