-- What the result of a run on records says about the definition's reading.
use Rattle.std.specs.Prelude.{◌≡◌, List, [], ℕ, ◌-◌, ◌≤◌, length, Result, Ok, Err}
use Rattle.definition.specs.Machine as M
use Rattle.definition.specs.Reading as D
use Rattle.definition.specs.Base.{Name, Done}
use Rattle.definition.specs.Text.{Text}
use Rattle.definition.specs.Perform.{Demangler}
use Rattle.definition.specs.Calls.{End, ran, stopped, turn, turns}
use Rattle.definition.specs.Enums.{number}
use Rattle.definition.specs.declared.Refused.{Refused}
use Rattle.tree_records.specs.NamesOf.{noted, names_of}
use Rattle.tree_records.specs.Holds.{Holds}
use Rattle.tree_nodes.specs.Gives.{nothing_spare}
use Rattle.text_words.specs.Table.{Words, table, Fitting}
use Rattle.tree_run.specs.Meant.{Wrote}
use Rattle.tree_records.specs.declared.Trees.{Trees}

-- k turns of the reading over the body
abbrev pub read : (N k : ℕ) → Text → End Demangler
read N k body = turns (turn N (D.one N)) k body (M.fresh [])

-- the words of the table are those that names are spelled with; the machine may have noted more
pub record Ran (k : ℕ) (body : Text) (s t : Trees) (words : Words) : Type 0 where
  pub machine : Demangler
  pub all : List Name
  pub is : read s.n k body ≡ ran machine
  pub holds : Holds (names_of body (noted (table body words) all)) t.ws.now t.n t.state nothing_spare machine
  pub fitting : Fitting body words
  pub wrote : Wrote s t

-- the refused operator began at that place of the body
pub record Stops (k : ℕ) (body : Text) (s t : Trees) (x : Refused) : Type 0 where
  pub is : read s.n k body ≡ stopped (number x.refusal) (length body - x.place)
  pub inside : x.place ≤ length body
  pub wrote : Wrote s t

abbrev pub Ending : (k : ℕ) → Text → (s t : Trees) → Words → Result Done Refused → Type 0
Ending k body s t words (Ok u) = Ran k body s t words
Ending k body s t words (Err x) = Stops k body s t x
