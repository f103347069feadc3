use Rattle.std.proofs.Common.{length, ◌-◌}
use Rattle.run.proofs.Chains.{Chaining}
use Rattle.run.proofs.substitutions.Given as goal

abbrev pub invariant-loop : goal.invariant-loop
invariant-loop g l = Chaining g.M.Machine.meaning l.fn.text l.text l.fn.machine l.machine

abbrev pub decreases-loop : goal.decreases-loop
decreases-loop g l = length l.fn.text.text.now - l.text.at
