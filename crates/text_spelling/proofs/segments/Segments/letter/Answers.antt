use Rattle.std.proofs.Common.{sym, ◌∙◌, refl, arith}
use Rattle.text_spelling.proofs.segments.Steps.{letter_small, letter_capital, no_letters, letters_ended, other_byte}
use Rattle.text_spelling.proofs.segments.Segments.letter.Goals as goal

pub returns-then-not-self : goal.returns-then-not-self
returns-then-not-self c = no_letters c.if-not-self.true

pub returns-in_err-b : goal.returns-in_err-b
returns-in_err-b c = rw c.from_residual.ensures (letters_ended c.if-not-self.false c.in_err-b.ensures.is)

pub returns-then-is_lower : goal.returns-then-is_lower
returns-then-is_lower c =
    let t = c.in_ok-b.ensures in
    record {
      is = letter_small c.args.self.now c.if-not-self.false t (sym c.is_lower.ensures ∙ c.if-is_lower.true) c.from.ensures;
      text = t.text;
      words = refl;
      kept = refl;
      onward = omega (arith, t.onward);
      within = rw (← t.text) t.inside;
    }

pub returns-then-is_upper : goal.returns-then-is_upper
returns-then-is_upper c =
    let t = c.in_ok-b.ensures in
    record {
      is = letter_capital c.args.self.now c.if-not-self.false t (sym c.is_lower.ensures ∙ c.if-is_lower.false) (sym c.is_upper.ensures ∙ c.if-is_upper.true) c.from-then-is_upper.ensures;
      text = t.text;
      words = refl;
      kept = refl;
      onward = omega (arith, t.onward);
      within = rw (← t.text) t.inside;
    }

pub returns : goal.returns
returns c = other_byte c.if-not-self.false c.in_ok-b.ensures (sym c.is_lower.ensures ∙ c.if-is_lower.false) (sym c.is_upper.ensures ∙ c.if-is_upper.false)
