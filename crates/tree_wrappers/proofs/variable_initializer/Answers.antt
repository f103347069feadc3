use Rattle.tree_wrappers.proofs.Over.{variable_initializer_node}
use Rattle.tree_wrappers.proofs.variable_initializer.Goals as goal

pub returns-clause-operates : goal.returns-clause-operates
returns-clause-operates c = c.one_child.ensures.operates _ variable_initializer_node
