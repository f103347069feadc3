use Rattle.std.proofs.Common.{◌-◌, length}
use Rattle.line_forms.specs.Lines.{line_of}
use Rattle.line_stream.specs.Does.{Whole}
use Rattle.line_stream.proofs.answers.Whole.{Going}
use Rattle.line_stream.proofs.answers.answer_lines.Given as goal

-- the lines before `read` are answered
abbrev pub invariant-loop-out : goal.invariant-loop-out
invariant-loop-out l = Going (line_of l.asked) l.text l.fn.out l.out l.read × Whole l.fn.out

abbrev pub decreases-loop-out : goal.decreases-loop-out
decreases-loop-out l = length l.text - l.read
