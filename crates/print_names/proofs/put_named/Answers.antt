use Rattle.print_names.proofs.Numbers.{puts_spelled, puts_fixed}
use Rattle.print_names.proofs.put_named.Goals as goal

pub returns-then-k-lt-FIXED : goal.returns-then-k-lt-FIXED
returns-then-k-lt-FIXED c = puts_spelled c.args.from.now c.if-k-lt-FIXED.true c.put_name.ensures

pub returns-else-k-lt-FIXED : goal.returns-else-k-lt-FIXED
returns-else-k-lt-FIXED c = puts_fixed c.args.from.now c.if-k-lt-FIXED.false c.put_fixed.ensures
