use Rattle.check_takes.proofs.Rounds.{Rounds}
use Rattle.check_takes.proofs.lists.gather.Given as goal

abbrev pub invariant-loop-all : goal.invariant-loop-all
invariant-loop-all g l = Rounds g.L.List.from l.fn.entries l.fn.taken l.entries l.sum

abbrev pub decreases-loop-all : goal.decreases-loop-all
decreases-loop-all g l = l.entries.state.depth
