use Rattle.tree_copies.proofs.push_copies.Given as goal
use Rattle.tree_records.specs.Trees.{Stays}
use Rattle.tree_copies.specs.Copies.{Pushes}

abbrev pub invariant-loop-i : goal.invariant-loop-i
invariant-loop-i l = record { stays : Stays l.fn.trees l.trees; pushes : Pushes l.fn.trees.ws.now l.trees.ws.now l.fn.trees.n l.fn.trees.state l.trees.state l.place l._i }
