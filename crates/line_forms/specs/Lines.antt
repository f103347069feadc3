-- Document 01, "Program `names`": the answers of the programs `names` and `shapes`, as bytes.
-- Assumes nothing.
use Rattle.std.specs.Prelude.{◌≡◌, Bool, true, false, List, [], ◌∷◌, ◌++◌, ℕ, ◌<◌, eqb, leb, length, get_or, if◌then◌else◌}
use Rattle.definition.specs.Base.{decimal}
use Rattle.definition.specs.Text.{Text}
use Rattle.definition.specs.Calls.{Values, Answer}
use Rattle.definition.specs.Reading.{demangle}
use Rattle.definition.specs.Check.{shape}
use Rattle.line_forms.specs.LineEnds.{newline}
use Rattle.line_forms.specs.declared.Asked.{Asked}

-- ONE LINE
-- a tab and a number
unfoldable pub field : ℕ → List ℕ
field n = 9 ∷ decimal n

-- `!`, tab, number, tab, place
unfoldable pub refused_line : (number place : ℕ) → List ℕ
refused_line n p = 33 ∷ (field n ++ field p ++ (newline ∷ []))

-- `=` and what is reported for an accepted text
unfoldable pub accepted_line : (told : List ℕ) → List ℕ
accepted_line told = 61 ∷ (told ++ (newline ∷ []))

unfoldable pub line_answer : Values → (told : List ℕ) → List ℕ
line_answer v told = if eqb v.number 0 then accepted_line told else refused_line v.number v.place

-- tab, text
unfoldable pub name_answer : Answer → List ℕ
name_answer a = line_answer a.values (9 ∷ a.written)

-- tab, steps, tab, total, tab, wraps
unfoldable pub counts_told : (steps total wraps : ℕ) → List ℕ
counts_told s t w = field s ++ field t ++ field w

unfoldable pub shape_answer : Values → List ℕ
shape_answer v = line_answer v (counts_told v.steps v.total v.wraps)

-- up to 4,096 bytes are read; a longer line is answered as 3 at 0
unfoldable pub read_line : Text → List ℕ → List ℕ
read_line t answer = if leb (length t) 4096 then answer else refused_line 3 0

-- the ceiling is 256, with 64 × 256 numbers of workspace and an output slice of 16,384 bytes
unfoldable pub name_line : Text → List ℕ
name_line t = read_line t (name_answer (demangle t 256 16384 16384))

unfoldable pub shape_line : Text → List ℕ
shape_line t = read_line t (shape_answer (shape t 256 16384).values)

-- what a program is asked for each line
abbrev pub line_of : Asked → Text → List ℕ
line_of Asked.Name t = name_line t
line_of Asked.Shape t = shape_line t

-- A WHOLE INPUT
-- a last line needs no newline, and a final newline begins no further line
unfoldable pub last_answer : (Text → List ℕ) → Text → List ℕ
last_answer line [] = []
last_answer line (c ∷ t) = line (c ∷ t)

-- the answer for each line, in order; `begun` is the beginning of the current line
unfoldable pub answers_from : (Text → List ℕ) → (begun : Text) → Text → List ℕ
answers_from line begun [] = last_answer line begun
answers_from line begun (c ∷ t) = elim (eqb c newline) [
  | true ↦ line begun ++ answers_from line [] t
  | false ↦ answers_from line (begun ++ (c ∷ [])) t
]

unfoldable pub answers : (Text → List ℕ) → Text → List ℕ
answers line t = answers_from line [] t

-- THE REST OF AN INPUT
-- it has no newline
abbrev pub Clear : Text → Type 0
Clear t = (i : ℕ) → i < length t → get_or t i 0 ≡ newline → ⊥

-- what follows the first newline; nothing if there is none
unfoldable pub after_line : Text → Text
after_line [] = []
after_line (c ∷ t) = elim (eqb c newline) [
  | true ↦ t
  | false ↦ after_line t
]

-- The answers that are still to be written where t is the rest of the input: those for t; or, if t
-- begins inside a line that is already answered, those for what follows that line.
unfoldable pub owed : (Text → List ℕ) → (inside : Bool) → Text → List ℕ
owed line inside t = if inside then answers line (after_line t) else answers line t
