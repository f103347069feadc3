use Rattle.std.proofs.Common.{arith}
use Rattle.line_buffers.proofs.Turns.{passed_line, passed_more, passed_end}
use Rattle.line_buffers.proofs.passed.Goals as goal

pub returns-then-end-text : goal.returns-then-end-text
returns-then-end-text c line o = passed_line line o c.line_end-end.ensures c.args.ended (omega arith)

pub returns-then-ended : goal.returns-then-ended
returns-then-ended c line o = passed_end line o c.line_end-end.ensures (omega (arith, c.line_end-end.ensures.inside)) c.if-ended.true

pub returns-else-ended : goal.returns-else-ended
returns-else-ended c line o = passed_more line o c.line_end-end.ensures (omega (arith, c.line_end-end.ensures.inside)) c.if-ended.false
