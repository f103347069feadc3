use Rattle.std.proofs.Common.{rules, arith}
use Rattle.line_forms.proofs.Sizes.{refused_short, counts_short}
use Rattle.line_stream.proofs.answers.Laws.{answers_of, answers_is, shape_is, shape_accepted, shape_refused}
use Rattle.line_stream.proofs.answers.answer_shape.Goals as goal

pub returns-in-Ok : goal.returns-in-Ok
returns-in-Ok c =
    let k = counts_short c.in-Ok.accepted.counts.steps c.in-Ok.accepted.counts.total c.in-Ok.accepted.counts.wraps (search rules) (search rules) (search rules) in
    answers_is (shape_accepted (shape_is c.shape.result c.args.line.now (search rules) c.shape.ensures.0) c.in-Ok.is) (answers_of c.requires.space (omega (arith, k)) c.put_counts.ensures)

pub returns-in-Err : goal.returns-in-Err
returns-in-Err c =
    let k = refused_short c.number.result c.in-Err.refused.place (search rules) (search rules) in
    answers_is (shape_refused (shape_is c.shape.result c.args.line.now (search rules) c.shape.ensures.0) c.in-Err.is c.number.ensures) (answers_of c.requires.space (omega (arith, k)) c.put_refusal.ensures)
