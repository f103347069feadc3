use Rattle.text_symbols.proofs.Symbols.{parts, parts_none}
use Rattle.text_symbols.proofs.split_at.Goals as goal

pub returns-then-text-start : goal.returns-then-text-start
returns-then-text-start c = parts_none c.args.text.now c.args.start c.if-text-start.true

pub returns : goal.returns
returns c = parts c.args.text.now c.args.start c.if-text-start.false c.before_dot.ensures
