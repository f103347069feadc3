use Rattle.tree_records.specs.Trees.{Stays}
use Rattle.tree_types.specs.TypeLists.{loop_of}
use Rattle.tree_types.proofs.Collecting.{Going}
use Rattle.tree_types.proofs.collect.Given as goal

abbrev pub invariant-rounds : goal.invariant-rounds
invariant-rounds l = record { stays : Stays l.fn.trees l.trees; going : Going (loop_of l.of) l.fn.trees.ws.now l.trees.ws.now l.fn.trees.n l.fn.trees.state l.trees.state l.list }

abbrev pub decreases-rounds : goal.decreases-rounds
decreases-rounds l = l.trees.state.depth
