use Rattle.std.proofs.Common.{arith}
use Rattle.tree_nodes.proofs.Trees.{has_tried, room_at}
use Rattle.tree_parts.proofs.record.Qualifiers.{qualifier_there, qualifier_missing}
use Rattle.tree_parts.proofs.record.qualifier.Goals as goal

pub grow-cell-requires : goal.grow-cell-requires
grow-cell-requires c = room_at (has_tried c.try_pop.ensures.reads c.in-Some.ensures.tries c.requires) (omega arith) (omega arith) (omega arith)

pub returns-in-Some-clause-qualifies : goal.returns-in-Some-clause-qualifies
returns-in-Some-clause-qualifies c =
    let r = c.try_pop.ensures.reads in
    rw c.grow-cell.ensures.place (qualifier_there c.in-Some.ensures.tries (rw (r.slice, r.ceiling) at c.grow-cell.ensures.grew))

pub returns-in-None-clause-qualifies : goal.returns-in-None-clause-qualifies
returns-in-None-clause-qualifies c = let k = c.in-None.ensures.tries in rw k.same (qualifier_missing k.leaves)
