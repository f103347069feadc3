use Rattle.std.proofs.Common.{length, ◌-◌}
use Rattle.text_utf8.proofs.Characters.{Scanning}
use Rattle.text_utf8.proofs.ill_formed.Given as goal

abbrev pub invariant-loop-b : goal.invariant-loop-b
invariant-loop-b l = Scanning l.text l.at

abbrev pub decreases-loop-b : goal.decreases-loop-b
decreases-loop-b l = length l.text - l.at
