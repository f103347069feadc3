use Rattle.print_numerals.proofs.Digits.{Lettering}
use Rattle.print_numerals.proofs.put_letters.Given as goal

abbrev pub invariant-loop-n : goal.invariant-loop-n
invariant-loop-n l = Lettering l.fn.out l.index l.out l.n

abbrev pub decreases-loop-n : goal.decreases-loop-n
decreases-loop-n l = l.n
