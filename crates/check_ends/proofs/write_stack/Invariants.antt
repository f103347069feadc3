use Rattle.check_ends.proofs.StackNumbers.{Copying}
use Rattle.check_ends.proofs.write_stack.Given as goal

-- the numbers before i are copied
abbrev pub invariant-loop-i : goal.invariant-loop-i
invariant-loop-i l = Copying l.entries.ws.now l.fn.out l.out l.i
