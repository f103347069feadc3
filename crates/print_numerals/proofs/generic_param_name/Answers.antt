use Rattle.text_output.specs.Appends.{appended_is, appended_then}
use Rattle.print_numerals.proofs.Digits.{at_no_depth, at_depth}
use Rattle.print_numerals.proofs.generic_param_name.Goals as goal

pub returns-then-depth-eq0 : goal.returns-then-depth-eq0
returns-then-depth-eq0 c = appended_is (at_no_depth _ _ c.if-depth-eq0.true) c.put_letters.ensures

pub returns : goal.returns
returns c = appended_is (at_depth _ _ c.if-depth-eq0.false) (appended_then c.put_letters.ensures c.put_decimal.ensures)
