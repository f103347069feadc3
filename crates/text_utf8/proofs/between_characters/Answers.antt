use Rattle.std.proofs.Common.{◌≡◌, sym, ap, ◌∙◌, Bool, true, false, not, ℕ, ◌<◌, ◌≤◌, length, get_or, drop, arith}
use Rattle.text_utf8.proofs.Parts.{Characters, characters, drop_characters, part_ill, part_ends, part_last}
use Rattle.text_utf8.proofs.between_characters.Goals as goal
use Rattle.definition.specs.Base.{between}
use Rattle.definition.specs.Text.{Text, well_formed}

-- what follows `from` is a number of characters
rest : (text : Text) {from to : ℕ} {r : Bool} → (from < to) × (to ≤ length text) × (well_formed text ≡ true) → r ≡ between 0x80 0xBF (get_or text from 0) → r ≡ false → Characters (drop from text)
rest text {from} h e k = drop_characters (characters text h.2) from (omega arith) (sym e ∙ k)

pub returns-then-is_tail : goal.returns-then-is_tail
returns-then-is_tail c = sym (part_ill c.args.text.now c.args.from c.args.to c.requires.1 c.requires.0 (sym c.is_tail.ensures ∙ c.if-is_tail.true))

pub returns-then-to-text : goal.returns-then-to-text
returns-then-to-text c = ap not c.is_tail-then-to-text.ensures ∙ sym (part_ends c.args.text.now c.args.from c.args.to c.requires.1 (omega arith) (rest c.args.text.now c.requires c.is_tail.ensures c.if-is_tail.false))

pub returns : goal.returns
returns c = sym (part_last c.args.text.now c.args.from c.args.to c.requires.1 (omega arith) (omega arith) (rest c.args.text.now c.requires c.is_tail.ensures c.if-is_tail.false))
