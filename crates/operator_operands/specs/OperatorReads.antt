-- What the result of a function says about a step of the definition that reads an operator. Assumes
-- nothing.
use Rattle.std.specs.Prelude.{Result}
use Rattle.definition.specs.Text.{Lex}
use Rattle.definition.specs.Operators as Op
use Rattle.definition.specs.Enums as Enums
use Rattle.definition.specs.declared.Operator.{Operator}
use Rattle.definition.specs.declared.Refusal.{Refusal}
use Rattle.text_cursor.specs.Reads.{Reads}
use Rattle.text_cursor.specs.declared.Reader.{Reader}
use Rattle.operator_names.specs.Fixed.{fixed}

-- the operator that the step reads after what was read of it
abbrev pub ReadsOperator : Lex Op.Operator → Reader → Reader → Result Operator Refusal → Type 0
ReadsOperator = Reads (Enums.operator fixed) 0
