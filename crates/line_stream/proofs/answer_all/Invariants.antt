use Rattle.std.proofs.Common.{◌≡◌}
use Rattle.line_forms.specs.Lines.{line_of}
use Rattle.line_buffers.specs.declared.Next.{Next}
use Rattle.line_stream.proofs.Runs.{Going}
use Rattle.line_stream.proofs.answer_all.Given as goal

-- what was read and written so far, and that the program is not done
abbrev pub invariant-loop : goal.invariant-loop
invariant-loop g l = record {
  going : Going (line_of l.asked) (g.R.Read.remaining l.initial.stdin) (g.R.Read.remaining l.stdin) (g.W.Write.contents l.initial.stdout) (g.W.Write.contents l.stdout) l.input l.state l.counter;
  goes_on : l.state.next ≡ Next.Done → ⊥;
}
