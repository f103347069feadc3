use Rattle.std.proofs.Common.{refl}
use Rattle.text_spelling.proofs.segments.Table.{no_word, the_word}
use Rattle.text_spelling.proofs.segments.Segments.word.Goals as goal

pub returns-in_err-span : goal.returns-in_err-span
returns-in_err-span c = rw c.from_residual.ensures (no_word c.args.self.now.text.text.now c.args.self.now.words.now c.args.i c.in_err-span.ensures)

pub returns : goal.returns
returns c = the_word c.args.self.now.text.text.now c.args.self.now.words.now c.args.i c.in_ok-span.ensures.1 c.from.ensures c.to.ensures c.in_ok-span.ensures.0 c.args.self.now.fits refl
