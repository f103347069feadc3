-- What the functions of this crate return, and what their slices hold at exit. Assumes nothing.
use Rattle.std.specs.Prelude.{◌≡◌, Bool, true, ◌&&◌, List, [], ◌∷◌, ◌++◌, ℕ, T, length, drop}
use Rattle.definition.specs.Text.{Text}
use Rattle.definition.specs.Calls as Calls
use Rattle.definition.specs.Calls.{admit, reading_needs, check_needs}
use Rattle.definition.specs.Reading as Reading
use Rattle.definition.specs.Reading.{demangle, demangle_type, demangle_stopped, demangle_type_stopped}
use Rattle.definition.specs.Check.{shape, shape_type, shape_stopped, shape_type_stopped}
use Rattle.definition.specs.Alike.{enough}
use Rattle.machine.specs.Beyond.{Beyond}
use Rattle.machine.specs.RunEnds.{kinds_of}
use Rattle.machine.specs.declared.runs.Final.{Final}
use Rattle.call_admission.specs.Admits.{framed}
use Rattle.call_endings.specs.Workspace.{early, Scratch}
use Rattle.call_values.specs.Agreement.{whole_agree, same_answer, judged}

-- what the call writes to the front of the slice, followed by the unchanged rest of the slice
abbrev pub put : Calls.Answer → List ℕ → List ℕ
put a out = a.written ++ drop (length a.written) out

-- what the definition reads, before the output slice is looked at
abbrev pub read_text : Final → Text → (N workspace : ℕ) → Calls.Answer
read_text what t N workspace = admit reading_needs N workspace t (framed what t (Reading.whole N (kinds_of what)))

-- TWO CALLS, to which the definition answers `reading` and `check`. At entry w is the workspace of
-- the reading, v that of the check, o the output slice, s and z the stacks; at exit w', v', o', s'
-- and z'

-- a whole reading and a whole check of a text that the definition reads as `text`
pub record Whole (N : ℕ) (text : List ℕ) (reading check : Calls.Answer) (w w' v v' o o' : List ℕ) (r : Bool) : Type 0 where
  pub answer : r ≡ whole_agree (length o) text reading check
  pub out : o' ≡ put reading o
  pub reading_workspace : Scratch reading_needs N reading.values.number w w'
  pub check_workspace : Scratch check_needs N check.values.number v v'

-- a stopped reading and a stopped check
pub record Stopped (N : ℕ) (reading check : Calls.Answer) (w w' v v' s s' z z' : List ℕ) (r : Bool) : Type 0 where
  pub answer : r ≡ same_answer reading check
  pub reading_stack : s' ≡ put reading s
  pub check_stack : z' ≡ put check z
  pub reading_workspace : Scratch reading_needs N reading.values.number w w'
  pub check_workspace : Scratch check_needs N check.values.number v v'

-- ALL EIGHT
-- each of them is refused by 1 to 5
abbrev pub all_early : List Calls.Answer → Bool
all_early [] = true
all_early (a ∷ more) = early a.values.number && all_early more

-- The workspace of calls that are made one after another and have these answers. It is scratch up
-- to need × N numbers. Past them it is unchanged, and all of it is unchanged where 1 to 5 refuse
-- each call
pub record Lent (need N : ℕ) (answers : List Calls.Answer) (w w' : List ℕ) : Type 0 where
  pub beyond : Beyond need N w w'
  pub untouched : T (all_early answers) → w' ≡ w

-- the slices that are lent to `judged_alike`
pub record Slices : Type 0 where
  pub reading_workspace : List ℕ
  pub check_workspace : List ℕ
  pub out : List ℕ
  pub reading_stack : List ℕ
  pub check_stack : List ℕ

abbrev pub slices : (reading_workspace check_workspace out reading_stack check_stack : List ℕ) → Slices
slices w w' out s s' = record { reading_workspace = w; check_workspace = w'; out = out; reading_stack = s; check_stack = s' }

-- the definition's answers to the eight calls on slices of these lengths
module _ (t : Text) (N : ℕ) (s : Slices) where
  abbrev pub symbol_reading : Calls.Answer
  symbol_reading = demangle t N (length s.reading_workspace) (length s.out)

  abbrev pub type_reading : Calls.Answer
  type_reading = demangle_type t N (length s.reading_workspace) (length s.out)

  abbrev pub symbol_check : Calls.Answer
  symbol_check = shape t N (length s.check_workspace)

  abbrev pub type_check : Calls.Answer
  type_check = shape_type t N (length s.check_workspace)

module _ (t : Text) (N k : ℕ) (s : Slices) where
  abbrev pub stopped_symbol_reading : Calls.Answer
  stopped_symbol_reading = demangle_stopped t N k (length s.reading_workspace) (length s.reading_stack)

  abbrev pub stopped_type_reading : Calls.Answer
  stopped_type_reading = demangle_type_stopped t N k (length s.reading_workspace) (length s.reading_stack)

  abbrev pub stopped_symbol_check : Calls.Answer
  stopped_symbol_check = shape_stopped t N k (length s.check_workspace) (length s.check_stack)

  abbrev pub stopped_type_check : Calls.Answer
  stopped_type_check = shape_type_stopped t N k (length s.check_workspace) (length s.check_stack)

-- The result of `judged_alike`, and what its slices hold at exit. Each slice has what the call for
-- the symbol writes, overwritten by what the call for the type writes
pub record Judges (t : Text) (N k : ℕ) (s s' : Slices) (r : Bool) : Type 0 where
  pub answer : r ≡ judged t N k (length s.reading_workspace) (length s.check_workspace) (length s.out) (length s.reading_stack) (length s.check_stack)
  pub alike : T (enough reading_needs N (length s.reading_workspace)) → T (enough check_needs N (length s.check_workspace)) → length s.reading_stack ≡ length s.check_stack → r ≡ true
  pub out : s'.out ≡ put (type_reading t N s) (put (symbol_reading t N s) s.out)
  pub reading_stack : s'.reading_stack ≡ put (stopped_type_reading t N k s) (put (stopped_symbol_reading t N k s) s.reading_stack)
  pub check_stack : s'.check_stack ≡ put (stopped_type_check t N k s) (put (stopped_symbol_check t N k s) s.check_stack)
  pub reading_workspace : Lent reading_needs N (symbol_reading t N s ∷ type_reading t N s ∷ stopped_symbol_reading t N k s ∷ stopped_type_reading t N k s ∷ []) s.reading_workspace s'.reading_workspace
  pub check_workspace : Lent check_needs N (symbol_check t N s ∷ type_check t N s ∷ stopped_symbol_check t N k s ∷ stopped_type_check t N k s ∷ []) s.check_workspace s'.check_workspace
