-- The end of a whole reading. Assumes nothing.
use Rattle.std.specs.Prelude.{List, ◌++◌, ℕ, ◌≤◌, length}
use Rattle.definition.specs.Base.{Name}
use Rattle.definition.specs.Text.{Text, Symbol, suffix_text}
use Rattle.definition.specs.Node.{kind}
use Rattle.definition.specs.Print.{print}
use Rattle.definition.specs.Perform.{Demangler}
use Rattle.definition.specs.Calls.{within, finished}
use Rattle.definition.specs.Enums.{Answer}
use Rattle.call_endings.specs.Answers.{Answers}
use Rattle.text_words.specs.Table.{table, Fitting}
use Rattle.text_words.specs.Table.{Words}
use Rattle.tree_records.specs.NamesOf.{noted, names_of}
use Rattle.tree_nodes.specs.Gives.{nothing_spare}
use Rattle.tree_records.specs.Holds.{Holds}
use Rattle.tree_records.specs.declared.State.{State}
use Rattle.machine.specs.RunEnds.{kinds_of}
use Rattle.machine.specs.declared.runs.Final.{Final}

-- the workspace holds some machine, with the names of the body
pub record Held (body : Text) (words : Words) (w : List ℕ) (N : ℕ) (st : State) : Type 0 where
  pub short : length body ≤ 65535
  pub fitting : Fitting body words
  pub machine : Demangler
  pub all : List Name
  pub holds : Holds (names_of body (noted (table body words) all)) w N st nothing_spare machine

-- the end of a whole reading of these parts of a text, whatever machine the workspace holds
pub record Finishes (what : Final) (y : Symbol) (words : Words) (w : List ℕ) (N : ℕ) (st : State) (out out' : List ℕ) (r : Answer) : Type 0 where
  pub each : (m : Demangler) (all : List Name) → Holds (names_of y.body (noted (table y.body words) all)) w N st nothing_spare m →
      Answers (within (length out) (finished kind (kinds_of what) (λ n. print n ++ suffix_text y.suffix) y m)) out out' r
