use Rattle.tree_nodes.proofs.Making.{generic_made}
use Rattle.tree_nodes.proofs.leave.generic_param.Goals as goal

pub returns-clause-makes : goal.returns-clause-makes
returns-clause-makes c = rw c.grow.ensures.place (generic_made c.args.p _ _ _ _ c.low.ensures c.high.ensures c.low-2.ensures c.high-2.ensures c.grow.ensures.grew)
