-- `check_complete` meets its contract: one test.
use Rattle.table_file.specs.File.{complete}
use Rattle.table_file.proofs.check_complete.Goals as goal

pub returns : goal.returns
unfolding complete
returns c = c.refuse_unless.ensures
