use Rattle.std.proofs.Common.{refl, sym, ◌∙◌, ◌-◌, ◌<◌, ◌≤◌, arith}
use Rattle.definition.specs.Enums.{number}
use Rattle.text_identifiers.proofs.Steps.{letters_none, letters_stop, letters_last, letters_last_unknown, letters_more, letters_unknown}
use Rattle.text_identifiers.proofs.word_letters.Goals as goal

pub loop-b-init : goal.loop-b-init
loop-b-init c = record { text = refl; onward = omega arith; same = refl }

pub returns-then-known-from : goal.returns-then-known-from
unfolding number
returns-then-known-from c =
    let k : c.args.known ≤ c.in-Some.b - 97 = omega (arith, c.from.ensures) in
    record { is = c.loop-b.invariant.same ∙ letters_unknown c.args.known c.loop-b.empty c.in-Some.ensures.is (sym c.is_lower.ensures ∙ c.if-is_lower.true) k; text = c.loop-b.invariant.text }

pub loop-b-preserved : goal.loop-b-preserved
loop-b-preserved c =
    let l = c.loop-b.invariant in
    let k : c.in-Some.b - 97 < c.args.known = omega (arith, c.from.ensures) in
    record {
      text = l.text;
      onward = omega (arith, l.onward);
      same = l.same ∙ letters_more c.args.known c.loop-b.empty c.in-Some.ensures.is (sym c.is_lower.ensures ∙ c.if-is_lower.true) k;
    }

pub returns-then-known-from-2 : goal.returns-then-known-from-2
unfolding number
returns-then-known-from-2 c =
    let k : c.args.known ≤ c.in-Some.b - 65 = omega (arith, c.from-then-is_upper.ensures) in
    record { is = c.loop-b.invariant.same ∙ letters_last_unknown c.args.known c.loop-b.empty c.in-Some.ensures.is (sym c.is_lower.ensures ∙ c.if-is_lower.false) (sym c.is_upper.ensures ∙ c.if-is_upper.true) k; text = c.loop-b.invariant.text }

pub returns-then-is_upper : goal.returns-then-is_upper
returns-then-is_upper c =
    let l = c.loop-b.invariant in
    let k : c.in-Some.b - 65 < c.args.known = omega (arith, c.from-then-is_upper.ensures) in
    record {
      is = l.same ∙ letters_last c.args.known c.loop-b.empty c.in-Some.ensures.is (sym c.is_lower.ensures ∙ c.if-is_lower.false) (sym c.is_upper.ensures ∙ c.if-is_upper.true) k;
      text = l.text;
      onward = omega (arith, l.onward);
    }

pub returns-else-is_upper : goal.returns-else-is_upper
returns-else-is_upper c =
    let l = c.loop-b.invariant in
    record {
      is = l.same ∙ letters_stop c.args.known c.loop-b.empty c.in-Some.ensures.is (sym c.is_lower.ensures ∙ c.if-is_lower.false) (sym c.is_upper.ensures ∙ c.if-is_upper.false);
      text = l.text;
      onward = omega (arith, l.onward);
    }

pub returns : goal.returns
returns c =
    let l = c.loop-b.invariant in
    record { is = l.same ∙ letters_none c.args.known c.loop-b.empty c.in_default.ensures; text = l.text; onward = omega (arith, l.onward) }
