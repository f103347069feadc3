use Rattle.std.proofs.Common.{arith}
use Rattle.definition.specs.Words.{literal}
use Rattle.definition.specs.Enums.{number}
use Rattle.text_cursor.specs.Reads.{rest}
use Rattle.text_identifiers.specs.Rounds.{whole_slice}
use Rattle.text_identifiers.proofs.Steps.{literal_zero, literal_refused, Behind, behind_mark, behind_length, extends_on, refused_as}
use Rattle.text_identifiers.proofs.literal.Goals as goal
use Rattle.text_identifiers.proofs.literal.Goals.{then-punycoded, else-punycoded}

pub returns-in_err-n : goal.returns-in_err-n
returns-in_err-n c = rw (refused_as c.from_residual.result c.from_residual.ensures.1) (record { is = literal_refused (rest c.args.text.now) c.args.punycoded c.in_err-n.ensures.says; text = c.in_err-n.ensures.text })

pub returns-then-n-eq0 : goal.returns-then-n-eq0
unfolding number
returns-then-n-eq0 c = record { is = literal_zero (rest c.args.text.now) c.args.punycoded c.if-n-eq0.true c.in_ok-n.ensures.says.is; text = c.in_ok-n.ensures.text }

pub bytes_of-requires : goal.bytes_of-requires
bytes_of-requires c =
    let b : Behind c.in_ok-n.n c.args.punycoded c.args.text.now c.if-punycoded.text = elim c.if-punycoded.branch [
      | then-punycoded w ↦ behind_mark c.in_ok-n.ensures.says c.if-n-eq0.false w.if-punycoded.true w.next_if.result w.next_if.ensures w.text-is
      | else-punycoded w ↦ behind_length c.in_ok-n.ensures.says c.if-n-eq0.false w.if-punycoded.false w.text-is
    ] in
    (omega arith, rw b.text c.requires)

pub returns : goal.returns
returns c =
    let b : Behind c.in_ok-n.n c.args.punycoded c.args.text.now c.if-punycoded.text = elim c.if-punycoded.branch [
      | then-punycoded w ↦ behind_mark c.in_ok-n.ensures.says c.if-n-eq0.false w.if-punycoded.true w.next_if.result w.next_if.ensures w.text-is
      | else-punycoded w ↦ behind_length c.in_ok-n.ensures.says c.if-n-eq0.false w.if-punycoded.false w.text-is
    ] in
    extends_on (literal c.args.punycoded) (whole_slice c.in_ok-n.n) c.args.text.now c.if-punycoded.text c.bytes_of.new.text c.bytes_of.result b.is b.text b.onward c.bytes_of.ensures
