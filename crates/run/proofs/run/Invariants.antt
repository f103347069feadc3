use Rattle.run.proofs.RunLoop.{Running}
use Rattle.run.proofs.run.Given as goal

abbrev pub invariant-loop : goal.invariant-loop
invariant-loop g l = Running g.M.Machine.meaning l.k l.body l.fn.machine l.machine l.counter l.text l.waiting
