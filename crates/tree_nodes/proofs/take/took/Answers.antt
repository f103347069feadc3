use Rattle.machine.specs.Kinds.{kind_of}
use Rattle.tree_nodes.proofs.Cases.{marks_of}
use Rattle.tree_nodes.proofs.take.took.Goals as goal

pub returns-clause-marks : goal.returns-clause-marks
returns-clause-marks c = rw c.is_some.ensures (marks_of _ _ (kind_of c.args.kind) c.try_pop.result c.try_pop.ensures.tries)
