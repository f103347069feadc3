use Rattle.std.proofs.Common.{rules, subst, arith}
use Rattle.line_forms.specs.Lines.{line_of}
use Rattle.line_buffers.specs.Buffers.{Resting}
use Rattle.line_stream.proofs.Turns.{turned_at, given_back, same_then, turned_lines, rest_at, turned_last, turned_long}
use Rattle.line_stream.proofs.turn.Goals as goal

-- src/lib.rt:46:9
pub returns-then-inside : goal.returns-then-inside
returns-then-inside c = turned_at c.if-inside.true (c.passed.ensures (line_of c.args.asked) c.args.out.now)

-- src/lib.rt:52:9
pub returns-then-read-gt0 : goal.returns-then-read-gt0
returns-then-read-gt0 c =
    let a = c.answer_lines-read.ensures in
    given_back c.if-inside.false a.same (search rules) (turned_lines (line_of c.args.asked) a c.args.ended (omega arith))

-- src/lib.rt:34:1
pub returns-in-Last : goal.returns-in-Last
returns-in-Last c =
    let a = c.answer_lines-read.ensures in
    let b = c.answer_line.ensures in
    given_back c.if-inside.false (same_then a.same b.same) (search rules) (turned_last c.args.asked (rest_at (line_of c.args.asked) a (omega (arith, c.if-read-gt0.false)) b) (subst (Resting c.args.text.now c.args.ended) c.in-Last.is c.rest_of.ensures))

-- src/lib.rt:34:1
pub returns-in-Long : goal.returns-in-Long
returns-in-Long c =
    let a = c.answer_lines-read.ensures in
    let b = c.answer_line-in-Long.ensures in
    given_back c.if-inside.false (same_then a.same b.same) (search rules) (turned_long c.args.asked (rest_at (line_of c.args.asked) a (omega (arith, c.if-read-gt0.false)) b) (subst (Resting c.args.text.now c.args.ended) c.in-Long.is c.rest_of.ensures))
