use Rattle.tree_nodes.proofs.Leaving.{kept}
use Rattle.tree_nodes.proofs.leave.push_kept.Goals as goal

pub returns-clause-kept : goal.returns-clause-kept
returns-clause-kept c =
    let g = c.grow-place.ensures in
    let k = c.remember.ensures in
    kept g.grew (rw (g.stays.ceiling, g.place) at k.remembered) (rw (k.stays.ceiling, g.stays.ceiling, g.place) at c.push.ensures.pushed)
