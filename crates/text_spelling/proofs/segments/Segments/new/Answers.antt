use Rattle.std.proofs.Common.{refl}
use Rattle.text_spelling.proofs.segments.Steps.{begun_plain, begun_zero}
use Rattle.text_spelling.proofs.segments.Segments.new.Goals as goal

pub returns-then-not-next_if : goal.returns-then-not-next_if
returns-then-not-next_if c = begun_plain _ c.if-not-next_if.ensures refl refl refl

pub returns : goal.returns
returns c = begun_zero _ c.if-not-next_if.ensures c.next_if-punycoded.result c.next_if-punycoded.ensures refl refl refl
