use Rattle.std.proofs.Common.{◌∙◌, ap, length}
use Rattle.text_words.proofs.Keeping.{table_length}
use Rattle.text_words.proofs.WordsKnown.count.Goals as goal

pub returns : goal.returns
returns c text words h = c.len.ensures ∙ table_length text c.args.self.now ∙ ap length h.is
