use Rattle.text_cursor.specs.Reads.{rest}
use Rattle.text_spelling.proofs.segments.Steps.{length_none, Behind, behind_mark, behind_length, measures}
use Rattle.text_spelling.proofs.segments.measured.Goals as goal
use Rattle.text_spelling.proofs.segments.measured.Goals.{then-punycoded, else-punycoded}

pub returns-then-n-eq0 : goal.returns-then-n-eq0
returns-then-n-eq0 c = record { is = λ more. length_none more c.args.punycoded (rest c.args.text.now) c.if-n-eq0.true c.in-Ok.ensures.says.is; text = c.in-Ok.ensures.text }

pub returns : goal.returns
returns c =
    let r = c.args.text.now in
    let b : Behind c.in-Ok.n c.args.punycoded r c.if-punycoded.text = elim c.if-punycoded.branch [
      | then-punycoded w ↦ behind_mark c.args.punycoded c.in-Ok.ensures.says c.if-n-eq0.false w.if-punycoded.true w.next_if.result w.next_if.ensures w.text-is
      | else-punycoded w ↦ behind_length c.args.punycoded c.in-Ok.ensures.says c.if-n-eq0.false w.if-punycoded.false w.text-is
    ] in
    measures c.take.new.self b c.take.result c.take.ensures
