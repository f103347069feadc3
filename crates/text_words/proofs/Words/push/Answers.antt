use Rattle.std.proofs.Common.{refl}
use Rattle.text_words.proofs.Keeping.{paired_set}
use Rattle.text_words.proofs.Words.push.Goals as goal

pub returns : goal.returns
returns c = (refl, paired_set c.args.self.now.starts c.args.self.now.lengths c.args.self.now.count c.args.word)
