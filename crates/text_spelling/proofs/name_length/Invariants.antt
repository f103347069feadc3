use Rattle.std.proofs.Common.{◌-◌, length}
use Rattle.text_spelling.proofs.Loops.{Counting}
use Rattle.text_spelling.proofs.name_length.Given as goal

abbrev pub invariant-loop-bytes : goal.invariant-loop-bytes
invariant-loop-bytes l = Counting l.text l.known l.p l.segments l.sum

abbrev pub decreases-loop-bytes : goal.decreases-loop-bytes
decreases-loop-bytes l = length l.segments.text.text.now - l.segments.text.at
