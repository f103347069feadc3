use Rattle.tree_types.proofs.cells.Cells.{label_there, label_missing}
use Rattle.tree_types.proofs.cells.label.Goals as goal

pub returns-in-Some-clause-labels : goal.returns-in-Some-clause-labels
returns-in-Some-clause-labels c = label_there _ (cc) c.in-Some.ensures.tries

pub returns-in-None-clause-labels : goal.returns-in-None-clause-labels
returns-in-None-clause-labels c = let k = c.in-None.ensures.tries in rw k.same (label_missing k.leaves)
