use Rattle.std.proofs.Common.{arith}
use Rattle.line_forms.proofs.Inputs.{owed_last, owed_none, owed_long}
use Rattle.line_buffers.proofs.rest_of.Goals as goal

pub returns-then-is_empty : goal.returns-then-is_empty
returns-then-is_empty c = (c.if-ended.true, λ line. owed_none line c.args.text.now (grind arith))

pub returns-then-ended : goal.returns-then-ended
returns-then-ended c = (c.if-ended.true, λ line. owed_last line c.args.text.now c.requires (grind arith))

pub returns-then-text-gt-LINE : goal.returns-then-text-gt-LINE
returns-then-text-gt-LINE c = (c.if-ended.false, λ line alike u. owed_long line 4096 alike c.args.text.now u c.requires (omega arith))
