use Rattle.text_output.proofs.ByEights.{Copying}
use Rattle.text_output.proofs.copies.copy.Given as goal

-- the bytes before i are copied
abbrev pub invariant-loop-i : goal.invariant-loop-i
invariant-loop-i l = Copying l.at l.bytes l.fn.out l.out l.i
