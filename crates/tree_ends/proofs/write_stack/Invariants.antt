use Rattle.tree_ends.proofs.StackEnds.{Filling}
use Rattle.tree_ends.proofs.write_stack.Given as goal

abbrev pub invariant-loop-j : goal.invariant-loop-j
invariant-loop-j l = Filling l.trees.ws.now l.trees.n l.fn.out l.out l.j
