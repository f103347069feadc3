use Rattle.std.proofs.Common.{◌-◌, length}
use Rattle.text_spelling.proofs.Loops.{Comparing}
use Rattle.text_spelling.proofs.name_is.Given as goal

abbrev pub invariant-loop-bytes : goal.invariant-loop-bytes
invariant-loop-bytes l = Comparing l.text l.known l.p l.fixed l.segments l.left

abbrev pub decreases-loop-bytes : goal.decreases-loop-bytes
decreases-loop-bytes l = length l.segments.text.text.now - l.segments.text.at
