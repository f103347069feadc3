use Rattle.std.proofs.Common.{◌-◌, length}
use Rattle.text_spelling.proofs.Loops.{Writing}
use Rattle.text_spelling.proofs.put_segments.Given as goal

abbrev pub invariant-loop-bytes : goal.invariant-loop-bytes
invariant-loop-bytes l = Writing l.text l.known l.p l.fn.out l.out l.segments

abbrev pub decreases-loop-bytes : goal.decreases-loop-bytes
decreases-loop-bytes l = length l.segments.text.text.now - l.segments.text.at
