use Rattle.text_output.specs.Appends.{appended_is, appended_then}
use Rattle.print_numerals.proofs.Digits.{one_digit, more_digits}
use Rattle.print_numerals.proofs.+put_decimal.Goals as goal

pub returns-then-n-lt10 : goal.returns-then-n-lt10
returns-then-n-lt10 t c = appended_is (one_digit _ c.if-n-lt10.true) c.put_byte.ensures

pub returns : goal.returns
returns t c = appended_is (more_digits _ c.if-n-lt10.false) (appended_then c.put_decimal.ensures c.put_byte-2.ensures)
