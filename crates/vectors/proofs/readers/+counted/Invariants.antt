use Rattle.std.proofs.Common.{length, ◌-◌}
use Rattle.vectors.proofs.readers.+counted.Given as goal

abbrev pub decreases-counted : goal.decreases-counted
decreases-counted l = length l.text.now - l.at
