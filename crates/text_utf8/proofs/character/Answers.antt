use Rattle.std.proofs.Common.{refl, sym, ◌∙◌}
use borrow.Author.Tests.{ltb-false}
use Rattle.text_cursor.specs.Reads.{rest}
use Rattle.text_utf8.proofs.Characters.{character_row}
use Rattle.text_utf8.proofs.character.Goals as goal

pub returns-in_err-row_of : goal.returns-in_err-row_of
returns-in_err-row_of c =
    let t = rest c.args.text.now in
    rw c.from_residual.ensures (record { is = character_row c.args.b t (ltb-false _ 128 (sym c.is_ascii.ensures ∙ c.if-is_ascii.false)) ∙ c.in_err-row_of.ensures t; text = refl })
