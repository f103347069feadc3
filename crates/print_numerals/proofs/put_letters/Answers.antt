use Rattle.print_numerals.proofs.Digits.{lettering_next, lettering_last}
use Rattle.print_numerals.proofs.put_letters.Goals as goal

pub returns-then-n-eq0 : goal.returns-then-n-eq0
returns-then-n-eq0 c = lettering_last c.loop-n.invariant c.put_byte.ensures c.if-n-eq0.true

pub loop-n-preserved : goal.loop-n-preserved
loop-n-preserved c = lettering_next c.loop-n.invariant c.put_byte.ensures c.if-n-eq0.false
