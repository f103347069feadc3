use Rattle.std.proofs.Common.{arith}
use Rattle.print_names.proofs.Lists.{listing_first, listing_next, listing_end, listing_past}
use Rattle.print_names.proofs.put_param_names.Goals as goal

pub loop-i-init : goal.loop-i-init
loop-i-init c = listing_first c.args.out.now c.args.count

pub loop-i-preserved : goal.loop-i-preserved
loop-i-preserved c = listing_next c.loop-i.invariant c.loop-i-test.true c.put_sep.ensures c.generic_param_name.ensures

pub returns-then-is_past : goal.returns-then-is_past
returns-then-is_past c = listing_past c.loop-i.invariant (grind arith)

pub returns : goal.returns
returns c = listing_end c.loop-i.invariant c.loop-i-test.false
