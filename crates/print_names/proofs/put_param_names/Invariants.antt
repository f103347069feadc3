use Rattle.print_names.proofs.Lists.{Listing}
use Rattle.print_names.proofs.put_param_names.Given as goal

abbrev pub invariant-loop-i : goal.invariant-loop-i
invariant-loop-i l = Listing l.fn.out l.out l.count l.i
