use Rattle.tree_nodes.proofs.Leaving.{left}
use Rattle.tree_parts.proofs.entity.push_entity.Goals as goal

pub returns-clause-left : goal.returns-clause-left
returns-clause-left c =
    let g = c.entity-place.ensures in
    left g.grew (rw (g.stays.ceiling, g.place) at c.push.ensures.pushed)
