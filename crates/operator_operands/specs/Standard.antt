-- Parts of the definition's steps after `S`. Assumes nothing.
use Rattle.std.specs.Prelude as Prelude
use Rattle.std.specs.Prelude.{◌&&◌, ℕ, ltb, leb, Some, None}
use Rattle.std.proofs.Math.Option.{Option, some, none}
use Prim.Native.String.{String}
use Rattle.definition.specs.Base.{unless, ◌>>=◌, ◌>>◌}
use Rattle.definition.specs.Text.{Lex, next}
use Rattle.definition.specs.Node as Node
use Rattle.definition.specs.Budget.{most_steps}
use Rattle.definition.specs.Operators.{Operator, standard_letter}
use Rattle.definition.specs.Enums as Enums
use Rattle.definition.specs.declared.NominalKind.{NominalKind}
use Rattle.operator_names.specs.Fixed.{fixed}

-- the entry of the table of standard types that a kind and the number of a name represent
abbrev pub entry : Prelude.Option (NominalKind × ℕ) → Option (Node.NominalKind × String)
entry (Some s) = some (Enums.nominal_kind s.0, fixed s.1)
entry None = none

-- the rest of `standard_letters`, after the count
abbrev pub repeated : ℕ → Lex Operator
repeated n = do
  unless 9 (ltb 0 n && leb n most_steps)
  c ← next
  standard_letter n c
