use Rattle.std.proofs.Common.{sym, ap, ◌∙◌}
use Rattle.definition.specs.Enums.{number}
use Rattle.text_cursor.specs.declared.Reader.{Reader}
use Rattle.text_identifiers.proofs.Steps.{slice_short, part_ill, part_read}
use Rattle.text_identifiers.proofs.bytes_of.Goals as goal

pub returns-in_default : goal.returns-in_default
unfolding number
returns-in_default c = record { is = slice_short c.args.text.now.text.now c.args.text.now.at c.args.n c.requires.0 c.in_default.ensures.few; text = ap (λ (r : Reader). r.text) c.in_default.ensures.same }

pub returns-then-not-between_characters : goal.returns-then-not-between_characters
unfolding number
returns-then-not-between_characters c = record { is = part_ill c.in-Some.ensures (sym c.between_characters.ensures ∙ c.if-not-between_characters.true); text = c.in-Some.ensures.text }

pub returns : goal.returns
returns c = part_read c.in-Some.ensures c.requires.0 (sym c.between_characters.ensures ∙ c.if-not-between_characters.false)
