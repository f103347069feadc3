use Rattle.tree_nodes.proofs.Leaving.{left}
use Rattle.tree_nodes.proofs.leave.push_new.Goals as goal

pub returns-clause-left : goal.returns-clause-left
returns-clause-left c =
    let g = c.grow-place.ensures in
    left g.grew (rw (g.stays.ceiling, g.place) at c.push.ensures.pushed)
