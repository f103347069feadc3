use Rattle.std.proofs.Common.{rules, ap, ◌∙◌, arith}
use Rattle.definition.specs.Enums.{number}
use Rattle.line_forms.specs.Lines.{refused_line}
use Rattle.line_forms.proofs.Sizes.{refused_short}
use Rattle.line_stream.proofs.answers.Laws.{answers_of, answers_is, line_long, line_name, line_shape}
use Rattle.line_stream.proofs.answers.answer_line.Goals as goal

pub returns-then-line-gt-LINE : goal.returns-then-line-gt-LINE
unfolding number
returns-then-line-gt-LINE c =
    let k = refused_short c.number.result 0 (search rules) (omega arith) in
    answers_is (ap (λ n. refused_line n 0) c.number.ensures ∙ line_long c.args.asked c.args.line.now (omega arith)) (answers_of c.requires.space (omega (arith, k)) c.put_refusal.ensures)

pub returns-in-Name : goal.returns-in-Name
returns-in-Name c = answers_is (line_name c.args.line.now c.in-Name.is (omega arith)) c.answer_name.ensures

pub returns-in-Shape : goal.returns-in-Shape
returns-in-Shape c = answers_is (line_shape c.args.line.now c.in-Shape.is (omega arith)) c.answer_shape.ensures
