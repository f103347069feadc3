use Rattle.std.proofs.Common.{length, ◌-◌}
use Rattle.vectors.proofs.readers.+spelled.Given as goal

abbrev pub decreases-spelled : goal.decreases-spelled
decreases-spelled l = length l.text.now - l.at
