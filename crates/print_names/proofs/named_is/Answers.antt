use Rattle.print_names.proofs.Numbers.{named_spells, same_fixed}
use Rattle.print_names.proofs.named_is.Goals as goal

pub returns-then-k-lt-FIXED : goal.returns-then-k-lt-FIXED
returns-then-k-lt-FIXED c name h = c.name_is.ensures name (named_spells c.args.from.now.text.now c.args.from.now.words.now c.if-k-lt-FIXED.true h)

pub returns : goal.returns
returns c name h = same_fixed c.args.from.now.text.now c.args.from.now.words.now c.if-k-lt-FIXED.false c.requires.alone h
