use Rattle.std.proofs.Common.{length, ◌+◌, ◌-◌, ◌≤◌}
use Rattle.vectors.proofs.run_lines.Given as goal

abbrev pub invariant-loop-at : goal.invariant-loop-at
invariant-loop-at l = l.at ≤ length l.all + 1

abbrev pub decreases-loop-at : goal.decreases-loop-at
decreases-loop-at l = length l.all + 1 - l.at
