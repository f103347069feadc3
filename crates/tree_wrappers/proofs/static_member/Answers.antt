use Rattle.tree_wrappers.proofs.Over.{static_node}
use Rattle.tree_wrappers.proofs.static_member.Goals as goal

pub returns-clause-operates : goal.returns-clause-operates
returns-clause-operates c = c.one_child.ensures.operates _ static_node
