use Rattle.std.proofs.Common.{◌-◌}
use Rattle.tree_records.specs.Trees.{Stays}
use Rattle.tree_entities.proofs.labels.LabelLists.{LabelsTo}
use Rattle.tree_entities.proofs.labels.labels_from.Given as goal

abbrev pub invariant-loop-i : goal.invariant-loop-i
invariant-loop-i l = record { stays : Stays l.fn.trees l.trees; labels : LabelsTo l.fn.trees.ws.now l.trees.ws.now l.fn.trees.n l.fn.trees.state l.trees.state l.many (l.many - l._i) l.first }
