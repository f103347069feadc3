use Rattle.std.proofs.Common.{length, ◌-◌}
use Rattle.vectors.proofs.readers.+identifiers.Given as goal

abbrev pub decreases-identifiers : goal.decreases-identifiers
decreases-identifiers l = length l.text.now - l.at
