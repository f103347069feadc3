use Rattle.std.proofs.Common.{refl, arith}
use Rattle.definition.specs.Text.{utf8_rows}
use Rattle.text_utf8.proofs.Characters.{row_at, above, all_from, all_to, row_made, no_row_below, no_row_above}
use Rattle.text_utf8.proofs.row_of.Goals as goal

pub returns-in_default : goal.returns-in_default
unfolding utf8_rows all_from
returns-in_default c t = no_row_below c.args.b t utf8_rows refl (omega arith)

pub returns-in_default-2 : goal.returns-in_default-2
unfolding utf8_rows all_to
returns-in_default-2 c t = no_row_above c.args.b t utf8_rows refl (omega arith)

pub returns-in-194-to-223 : goal.returns-in-194-to-223
unfolding utf8_rows row_at above
returns-in-194-to-223 c t = row_made c.args.b t utf8_rows 0 refl (omega arith) (omega arith) c.new-in-194-to-223.result c.new-in-194-to-223.ensures

pub returns-in-224 : goal.returns-in-224
unfolding utf8_rows row_at above
returns-in-224 c t = row_made c.args.b t utf8_rows 1 refl (omega arith) (omega arith) c.new.result c.new.ensures

pub returns-in-225-to-236 : goal.returns-in-225-to-236
unfolding utf8_rows row_at above
returns-in-225-to-236 c t = row_made c.args.b t utf8_rows 2 refl (omega arith) (omega arith) c.new-in-225-to-236.result c.new-in-225-to-236.ensures

pub returns-in-237 : goal.returns-in-237
unfolding utf8_rows row_at above
returns-in-237 c t = row_made c.args.b t utf8_rows 3 refl (omega arith) (omega arith) c.new-in-237.result c.new-in-237.ensures

pub returns-in-238-to-239 : goal.returns-in-238-to-239
unfolding utf8_rows row_at above
returns-in-238-to-239 c t = row_made c.args.b t utf8_rows 4 refl (omega arith) (omega arith) c.new-in-238-to-239.result c.new-in-238-to-239.ensures

pub returns-in-240 : goal.returns-in-240
unfolding utf8_rows row_at above
returns-in-240 c t = row_made c.args.b t utf8_rows 5 refl (omega arith) (omega arith) c.new-in-240.result c.new-in-240.ensures

pub returns-in-241-to-243 : goal.returns-in-241-to-243
unfolding utf8_rows row_at above
returns-in-241-to-243 c t = row_made c.args.b t utf8_rows 6 refl (omega arith) (omega arith) c.new-in-241-to-243.result c.new-in-241-to-243.ensures

pub returns-in-244 : goal.returns-in-244
unfolding utf8_rows row_at above
returns-in-244 c t = row_made c.args.b t utf8_rows 7 refl (omega arith) (omega arith) c.new-in-244.result c.new-in-244.ensures
