use Rattle.std.proofs.Common.{length, ◌-◌}
use Rattle.text_identifiers.proofs.Steps.{Spelling}
use Rattle.text_identifiers.proofs.word_letters.Given as goal

abbrev pub invariant-loop-b : goal.invariant-loop-b
invariant-loop-b l = Spelling l.known l.first l.fn.text l.text l.empty

abbrev pub decreases-loop-b : goal.decreases-loop-b
decreases-loop-b l = length l.text.text.now - l.text.at
