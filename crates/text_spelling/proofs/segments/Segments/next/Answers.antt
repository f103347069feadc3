use Rattle.std.proofs.Common.{refl}
use Rattle.text_spelling.proofs.segments.Steps.{letter_word, next_closed, next_counted}
use Rattle.text_spelling.proofs.segments.Segments.next.Goals as goal

pub returns-in-Some : goal.returns-in-Some
returns-in-Some c = letter_word c.args.self.now c.letter.new.self c.word.result c.in-Some.ensures c.word.ensures

pub returns-then-next_if : goal.returns-then-next_if
returns-then-next_if c = next_closed c.in_default.ensures c.if-next_if.ensures _ refl refl

pub returns : goal.returns
returns c = next_counted c.in_default.ensures c.if-next_if.ensures _ c.counted.new.self refl refl refl refl c.counted.result c.counted.ensures
