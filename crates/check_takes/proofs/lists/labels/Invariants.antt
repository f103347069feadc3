use Rattle.std.proofs.Common.{◌-◌}
use Rattle.check_takes.proofs.Rounds.{Labelled}
use Rattle.check_takes.proofs.lists.labels.Given as goal

abbrev pub invariant-loop : goal.invariant-loop
invariant-loop l = Labelled l.fn.entries l.count l.entries (l.count - l.counter)
