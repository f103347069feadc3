use Rattle.std.proofs.Common.{arith}
use Rattle.text_spelling.proofs.Loops.{writing_first, writing_next, writing_past, writing_end}
use Rattle.text_spelling.proofs.put_segments.Goals as goal

pub loop-bytes-init : goal.loop-bytes-init
loop-bytes-init c = writing_first c.args.text.now c.args.known.now c.args.p c.args.out.now c.new-segments.ensures

pub loop-bytes-preserved : goal.loop-bytes-preserved
loop-bytes-preserved c = writing_next c.args.text.now c.args.known.now c.args.p c.loop-bytes.invariant c.in-Some.ensures c.put.ensures

pub returns-then-is_past : goal.returns-then-is_past
returns-then-is_past c = writing_past c.args.text.now c.args.known.now c.args.p (writing_next c.args.text.now c.args.known.now c.args.p c.loop-bytes.invariant c.in-Some.ensures c.put.ensures) (grind arith)

pub returns : goal.returns
returns c = writing_end c.args.text.now c.args.known.now c.args.p c.loop-bytes.invariant c.in_default.ensures.is
