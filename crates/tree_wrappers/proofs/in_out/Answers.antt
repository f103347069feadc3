use Rattle.tree_wrappers.proofs.Over.{in_out_node}
use Rattle.tree_wrappers.proofs.in_out.Goals as goal

pub returns-clause-operates : goal.returns-clause-operates
returns-clause-operates c = c.wrapped.ensures.operates _ in_out_node
