-- The effects of the functions on a sink. Assumes nothing.
use Rattle.std.specs.Prelude.{◌≡◌, List, ◌++◌, ℕ, ◌+◌, ◌≤◌, ◌<◌, length, get_or, take, drop}
use Rattle.definition.specs.Text.{Text}
use Rattle.definition.specs.Calls as Calls
use Rattle.definition.specs.Enums.{values}
use Rattle.definition.specs.Enums.{Answer}
use Rattle.text_output.specs.declared.Sink.{Sink}
use Rattle.line_forms.specs.LineEnds.{newline}
use Rattle.line_forms.specs.Appends.{longest, Appends}
use Rattle.line_forms.specs.Lines.{answers}

-- the room of a sink is its whole slice
abbrev pub Whole : Sink → Type 0
Whole s = s.room ≡ length s.out.now

-- the same slice and room
pub record Same (s s' : Sink) : Type 0 where
  pub slice : s'.out.ghost_name ≡ s.out.ghost_name
  pub room : s'.room ≡ s.room

-- the answer of a call, with what it writes from the place of the sink on
pub record Reads (a : Calls.Answer) (s s' : Sink) (r : Answer) : Type 0 where
  pub same : Same s s'
  pub at : s'.at ≡ s.at
  pub values : values r ≡ a.values
  pub written : s'.out.now ≡ take s.at s.out.now ++ a.written ++ drop (s.at + length a.written) s.out.now

-- an answer line is appended within the slice
pub record Answers (s s' : Sink) (line : List ℕ) : Type 0 where
  pub same : Same s s'
  pub appends : Appends s.out.now s'.out.now s.at line s'.at

-- the lines up to `read` are answered, each with its newline, at the front of the slice; while
-- there is room, all lines that have a newline are answered
pub record Answered (line : Text → List ℕ) (t : Text) (s s' : Sink) (read : ℕ) : Type 0 where
  pub same : Same s s'
  pub inside : read ≤ length t
  pub appends : Appends s.out.now s'.out.now 0 (answers line (take read t)) s'.at
  pub whole : (u : Text) → answers line (take read t ++ u) ≡ answers line (take read t) ++ answers line u
  pub all : s'.at + longest ≤ length s.out.now → (i : ℕ) → read ≤ i → i < length t → (get_or t i 0 ≡ newline → ⊥)
