use Rattle.std.proofs.Common.{refl}
use Rattle.text_spelling.proofs.segments.Steps.{part_more, part_last}
use Rattle.text_spelling.proofs.segments.Segments.counted.Goals as goal
use Rattle.text_spelling.proofs.segments.Segments.counted.Goals.{then-not-self, else-not-self}

pub returns-in_err-bytes : goal.returns-in_err-bytes
returns-in_err-bytes c = rw c.from_residual.ensures (record { is = c.in_err-bytes.ensures.is c.args.self.now.more; text = refl; words = refl })

pub returns : goal.returns
returns c = elim c.if-not-self.branch [
  | then-not-self w ↦ part_last c.in_ok-bytes.ensures w.if-not-self.true w.text-is refl refl refl
  | else-not-self w ↦ part_more c.in_ok-bytes.ensures w.if-not-self.false w.text-is refl refl refl
]
