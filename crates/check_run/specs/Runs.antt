-- What the result of a run over a workspace says about the definition's check.
use Rattle.std.specs.Prelude.{◌≡◌, ℕ, ◌-◌, ◌≤◌, length, Result, Ok, Err}
use Rattle.definition.specs.Base.{Done}
use Rattle.definition.specs.Text.{Text}
use Rattle.definition.specs.Machine.{fresh}
use Rattle.definition.specs.Shape.{Shapes}
use Rattle.definition.specs.Calls.{End, ran, stopped, turn, turns}
use Rattle.definition.specs.Check as Ch
use Rattle.definition.specs.Enums.{number}
use Rattle.definition.specs.declared.Refused.{Refused}
use Rattle.check_entries.specs.Lies.{machine_of}
use Rattle.check_entries.specs.Stores.{Wrote}
use Rattle.check_entries.specs.declared.Entries.{Entries}
use Rattle.check_perform.specs.Performs.{Sound}
use Rattle.check_run.specs.Meant.{with_words}

-- k turns of the check over the body
abbrev pub check : (N k : ℕ) → Text → End Shapes
check N k body = turns (turn N (Ch.one N)) k body (fresh 0)

-- the machine of t, except for its words
pub record Ran (k : ℕ) (body : Text) (s t : Entries) : Type 0 where
  pub words : ℕ
  pub is : check s.ceiling k body ≡ ran (machine_of (with_words words t))
  pub sound : Sound 0 t
  pub wrote : Wrote s t

-- the refused operator began at that place of the body
pub record Stops (k : ℕ) (body : Text) (s t : Entries) (x : Refused) : Type 0 where
  pub is : check s.ceiling k body ≡ stopped (number x.refusal) (length body - x.place)
  pub inside : x.place ≤ length body
  pub wrote : Wrote s t

abbrev pub Ending : (k : ℕ) → Text → (s t : Entries) → Result Done Refused → Type 0
Ending k body s t (Ok u) = Ran k body s t
Ending k body s t (Err x) = Stops k body s t x
