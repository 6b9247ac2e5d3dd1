-- `Rest::start_of_three` meets its contract: the numbers of sections one and two.
use Rattle.table_file.proofs.ReadLaws.{start_is}
use Rattle.table_file.proofs.after_one.Rest.start_of_three.Goals as goal

pub returns : goal.returns
returns c = start_is _ _ _ c.args.self.known
