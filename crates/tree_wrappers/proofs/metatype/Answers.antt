use Rattle.tree_wrappers.proofs.Over.{metatype_node}
use Rattle.tree_wrappers.proofs.metatype.Goals as goal

pub returns-clause-operates : goal.returns-clause-operates
returns-clause-operates c = c.wrapped.ensures.operates _ metatype_node
