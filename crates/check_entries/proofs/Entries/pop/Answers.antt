use Rattle.definition.specs.Machine as M
use Rattle.check_entries.proofs.Entries.pop.Goals as goal

pub returns : goal.returns
unfolding M.pop
returns c = c.pop_if.ensures
