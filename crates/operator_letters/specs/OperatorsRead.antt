-- What the result of a function says about a step of the definition that reads an operator. Assumes
-- nothing.
use Rattle.std.specs.Prelude.{◌≡◌, ◌∷◌, ◌⊎◌, ◌+◌, drop, Result, Ok, Err}
use Rattle.definition.specs.Base.{refused, ◌>>=◌}
use Rattle.definition.specs.Text.{Lex, next}
use Rattle.definition.specs.Operators as Op
use Rattle.definition.specs.Enums as Enums
use Rattle.definition.specs.declared.Operator.{Operator}
use Rattle.definition.specs.declared.Refusal.{Refusal}
use Rattle.definition.specs.declared.Subject.{Subject}
use Rattle.text_cursor.specs.Reads.{rest, Stands, Reads}
use Rattle.text_cursor.specs.declared.Reader.{Reader}
use Rattle.operator_names.specs.Fixed.{fixed}

-- the subject of a requirement
abbrev pub ReadsSubject : Lex Op.Subject → Reader → Reader → Result Subject Refusal → Type 0
ReadsSubject = Reads Enums.subject 0

-- the first letter, and what follows it
abbrev pub first_operator : Lex Op.Operator
first_operator = next >>= Op.operator

-- the letter `A` begins at the reader's place
abbrev pub IsChain : Reader → Type 0
IsChain r = rest r ≡ 65 ∷ drop (r.at + 1) r.text.now

-- no operator begins there: it is refused as in the definition, and so is the letter `A`, whose items
-- the run reads. The reader keeps its text
pub record NoneBegins (old new : Reader) (f : Refusal) : Type 0 where
  pub is : IsChain old ⊎ (first_operator (rest old) ≡ refused (Enums.number f))
  pub text : new.text ≡ old.text

-- the operator that begins at `old`
abbrev pub Begins : Reader → Reader → Result Operator Refusal → Type 0
Begins old new (Ok q) = Stands (first_operator (rest old)) (Enums.operator fixed q) 1 old new
Begins old new (Err f) = NoneBegins old new f
