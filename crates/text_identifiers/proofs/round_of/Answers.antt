use Rattle.std.proofs.Common.{ap, ◌∙◌, Bool, false, arith, refl}
use Rattle.text_cursor.specs.Reads.{rest}
use Rattle.text_cursor.proofs.Steps.{then_ok, then_refused}
use Rattle.text_identifiers.specs.Rounds.{round, closing}
use Rattle.text_identifiers.proofs.Steps.{pieced_on, refused_as}
use Rattle.text_identifiers.proofs.round_of.Goals as goal

pub returns-then-not-subs : goal.returns-then-not-subs
returns-then-not-subs c =
    let a = c.args in
    pieced_on (round a.known a.subs a.punycoded a.empty) (closing a.punycoded a.empty false) a.text.now a.text.now c.close_or_take.new.text c.close_or_take.result
    (ap (λ (s : Bool). round a.known s a.punycoded a.empty (rest a.text.now)) c.if-not-subs.true) refl (omega arith) c.close_or_take.ensures

pub returns-in_err-letters : goal.returns-in_err-letters
returns-in_err-letters c =
    let a = c.args in
    rw (refused_as c.from_residual.result c.from_residual.ensures.1)
    (record { is = ap (λ (s : Bool). round a.known s a.punycoded a.empty (rest a.text.now)) c.if-not-subs.false ∙ then_refused _ c.in_err-letters.ensures.is; text = c.in_err-letters.ensures.text })

pub returns : goal.returns
returns c =
    let a = c.args in
    let l = c.in_ok-letters.ensures in
    pieced_on (round a.known a.subs a.punycoded a.empty) (closing a.punycoded c.in_ok-letters.letters.empty c.in_ok-letters.letters.more) a.text.now c.word_letters.new.text c.close_or_take-2.new.text c.close_or_take-2.result
    (ap (λ (s : Bool). round a.known s a.punycoded a.empty (rest a.text.now)) c.if-not-subs.false ∙ then_ok _ l.is) l.text (omega (arith, l.onward)) c.close_or_take-2.ensures
