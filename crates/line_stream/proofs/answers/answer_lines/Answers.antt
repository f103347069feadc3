use Rattle.std.proofs.Common.{arith}
use Rattle.line_forms.specs.Lines.{line_of}
use Rattle.line_stream.proofs.answers.Whole.{going_start, going_next, answered_all, answered_full, space}
use Rattle.line_stream.proofs.answers.answer_lines.Goals as goal

-- src/answers.rt:90:5
pub loop-out-init : goal.loop-out-init
loop-out-init c = (going_start (line_of c.args.asked) c.args.text.now c.args.out.now c.requires.whole, c.requires.whole.0)

-- src/answers.rt:91:13
pub line_end-end-requires : goal.line_end-end-requires
line_end-end-requires c = c.loop-out.invariant.0.inside

-- src/answers.rt:93:13
pub returns-then-end-text : goal.returns-then-end-text
returns-then-end-text c = answered_all (line_of c.args.asked) c.loop-out.invariant.0 c.line_end-end.ensures c.if-end-text.true

-- src/answers.rt:95:9
pub answer_line-requires : goal.answer_line-requires
answer_line-requires c = record { space = space (line_of c.args.asked) c.loop-out.invariant.0 c.loop-out.invariant.1 (omega (arith, c.loop-out-test.true)) }

-- src/answers.rt:90:5
pub loop-out-smaller : goal.loop-out-smaller
loop-out-smaller c = omega (arith, c.line_end-end.ensures.order, c.line_end-end.ensures.inside, c.if-end-text.false)

-- src/answers.rt:90:5
pub loop-out-preserved : goal.loop-out-preserved
loop-out-preserved c = (going_next (line_of c.args.asked) c.loop-out.invariant.0 c.line_end-end.ensures (omega (arith, c.line_end-end.ensures.inside, c.if-end-text.false)) c.answer_line.ensures, c.loop-out.invariant.1)

-- src/answers.rt:84:1
pub returns : goal.returns
returns c = answered_full (line_of c.args.asked) c.loop-out.invariant.0 (omega (arith, c.loop-out-test.false))
