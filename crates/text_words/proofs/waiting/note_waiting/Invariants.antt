use Rattle.std.proofs.Common.{List}
use Rattle.definition.specs.Base.{Name}
use Rattle.definition.specs.Words as W
use Rattle.text_words.specs.Waits.{noted_from}
use Rattle.text_words.proofs.waiting.note_waiting.Given as goal

abbrev pub invariant-loop-span : goal.invariant-loop-span
invariant-loop-span g l = (words : List Name) → g.K.Known.stands l.text l.fn.known words → g.K.Known.stands l.text l.known (noted_from W.note_words l.text l.q.spans l.span-index words)
