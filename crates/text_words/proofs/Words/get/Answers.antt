use Rattle.std.proofs.Common.{arith}
use Rattle.text_words.proofs.Keeping.{span_found}
use Rattle.text_words.proofs.Words.get.Goals as goal

pub returns : goal.returns
returns c = (c.if-self-i.false, span_found c.args.self.now (record { starts = omega arith; lengths = omega arith }) c.args.i (omega arith))
