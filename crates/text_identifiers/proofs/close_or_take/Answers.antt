use Rattle.std.proofs.Common.{refl, ◌∙◌, arith}
use Rattle.text_cursor.specs.Reads.{rest}
use Rattle.text_cursor.proofs.Steps.{then_refused}
use Rattle.text_identifiers.specs.Rounds.{takes}
use Rattle.text_identifiers.proofs.Steps.{closing_closes, closing_takes, taken_as, taken_on, refused_as}
use Rattle.text_identifiers.proofs.close_or_take.Goals as goal

pub returns-then-next_if : goal.returns-then-next_if
returns-then-next_if c =
    let t = c.if-next_if.ensures in
    record { is = closing_closes (rest c.args.text.now) c.args.punycoded c.args.letters.empty c.args.letters.more t.is; text = t.text; inside = t.inside; onward = omega (arith, t.onward) }

pub returns-in_err-bytes : goal.returns-in_err-bytes
returns-in_err-bytes c =
    let t = c.if-next_if.ensures in
    rw (refused_as c.from_residual.result c.from_residual.ensures.1)
    (record { is = closing_takes (rest c.args.text.now) c.args.punycoded c.args.letters.empty c.args.letters.more t.is ∙ then_refused _ c.in_err-bytes.ensures.is; text = c.in_err-bytes.ensures.text ∙ t.text })

pub returns : goal.returns
returns c =
    let t = c.if-next_if.ensures in
    taken_on (closing_takes (rest c.args.text.now) c.args.punycoded c.args.letters.empty c.args.letters.more t.is) t.text (omega (arith, t.here))
    (taken_as (takes c.args.letters.empty c.args.letters.more) refl c.in_ok-bytes.ensures)
