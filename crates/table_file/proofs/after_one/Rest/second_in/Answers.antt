-- `Rest::second_in` meets its contract: the bytes after sections one and two are those after their numbers.
use mathlib.Core.Path.{ap}
use Prim.Native.Nat.{ℕ, ◌*◌}
use lib.Dec.{ltb}
use lib.ListN.{length}
use Rattle.table_file.specs.File.{second_in}
use Rattle.table_file.proofs.after_one.Rest.second_in.Goals as goal

pub returns : goal.returns
unfolding second_in
returns c = ap (λ (k : ℕ). ltb (4 * k) (length c.args.self.bytes.now)) c.start_of_three.ensures.0
