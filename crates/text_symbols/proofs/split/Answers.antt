use Rattle.text_symbols.proofs.Symbols.{split_none, split_some, parts_is}
use Rattle.text_symbols.proofs.split.Goals as goal

pub returns-in_err-prefix : goal.returns-in_err-prefix
returns-in_err-prefix c = rw c.from_residual.ensures (split_none c.args.text.now c.in_err-prefix.ensures)

pub returns : goal.returns
returns c = parts_is c.args.text.now (split_some c.args.text.now c.in_ok-prefix.field-0 c.in_ok-prefix.ensures) c.split_at.result c.split_at.ensures
