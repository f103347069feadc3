-- The texts that the printer supplies. Assumes nothing.
use Rattle.std.specs.Prelude.{List, [], ℕ, zero, suc, ◌+◌, ◌*◌, ◌^◌, get_or}
use Rattle.definition.specs.Base.{Name, bytes}
unfoldable pub use Rattle.operator_names.specs.Fixed.{texts}
use Rattle.operator_names.specs.declared.Text.{Text}
use Rattle.tree_records.specs.Lies.{at}

-- the text with that number
unfoldable pub text_of : ℕ → Name
text_of n = bytes (get_or texts n "")

-- the number of a text of the code
abbrev pub number_of : Text → ℕ
number_of Text.Dot = 0
number_of Text.Colon = 1
number_of Text.SpacedColon = 2
number_of Text.Equals = 3
number_of Text.Comma = 4
number_of Text.Ampersand = 5
number_of Text.OpenParenthesis = 6
number_of Text.CloseParenthesis = 7
number_of Text.OpenAngle = 8
number_of Text.CloseAngle = 9
number_of Text.OpenBracket = 10
number_of Text.CloseBracket = 11
number_of Text.QuestionMark = 12
number_of Text.Where = 13
number_of Text.MetatypeSuffix = 14
number_of Text.InOut = 15
number_of Text.VariableInitialization = 16
number_of Text.Static = 17
number_of Text.In = 18
number_of Text.ProtocolWitness = 19
number_of Text.InConformance = 20
number_of Text.ValueWitness = 21
number_of Text.AndConformance = 22
number_of Text.AssociatedConformance = 23
number_of Text.EmptyTuple = 24
number_of Text.Any = 25
number_of Text.Arrow = 26
number_of Text.Async = 27
number_of Text.Throws = 28
number_of Text.AllocatingInit = 29
number_of Text.Init = 30
number_of Text.DeallocatingDeinit = 31
number_of Text.Deinit = 32
number_of Text.Underscore = 33
number_of Text.SuspendResume = 34
number_of Text.UnmangledSuffix = 35
number_of Text.Quote = 36

-- the text with number n, before each element except the first
unfoldable pub sep_before : ℕ → ℕ → Name
sep_before zero n = []
sep_before (suc i) n = text_of n

-- a number of 64 bits in fields k and k + 1
abbrev pub wide_at : List ℕ → ℕ → ℕ → ℕ
wide_at ws p k = at ws p k + 2 ^ 32 * at ws p (k + 1)
