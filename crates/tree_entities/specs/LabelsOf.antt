-- What taking labels says about the definition's steps.
use Rattle.std.specs.Prelude.{◌≡◌, List, [], ℕ, ◌+◌, ◌≤◌, ◌<◌}
use Rattle.std.proofs.Math.Option.{Option, some}
use Rattle.definition.specs.Base.{Name, ok, refused, ret, ◌>>=◌}
use Rattle.definition.specs.Node.{Labels, Node}
use Rattle.definition.specs.Perform.{Demangler, Run, pop, label_in, labels_from}
use Rattle.definition.specs.Enums.{number}
use Rattle.tree_records.specs.Lies.{at, Lies, LabelIs, LabelList}
use Rattle.tree_records.specs.Holds.{Names, Named, Spare, Holds, Keeps}
use Rattle.tree_records.specs.declared.State.{State}
use Rattle.machine.specs.Beyond.{Beyond}
use Rattle.std.specs.Prelude.{Result, Ok, Err}
use Rattle.definition.specs.declared.Refusal.{Refusal}
use Rattle.tree_entities.specs.declared.labels.Labelled.{Labelled}

-- w holds some tree at place p, below top
pub record Treed (w : List ℕ) (p top : ℕ) : Type 0 where
  pub names : Names
  pub tree : Node
  pub lies : Lies (Named names) tree w p
  pub below : p < top

-- LABELS
-- one entry of them
abbrev pub one_label : Run (Option Name)
one_label = pop >>= label_in

-- that many entries
abbrev pub some_labels : ℕ → Run Labels
some_labels many = labels_from many [] >>= λ ls. ret (some ls)

-- an entry was taken, and its cell is at p, before the cell next
pub record GivenCell (nm : Names) (w : List ℕ) (N p next : ℕ) (u : State) (sp : Spare) (m : Demangler) : Type 0 where
  pub label : Option Name
  pub machine : Demangler
  pub is : one_label m ≡ ok label machine
  pub labelled : LabelIs (Named nm) label (at w p 3)
  pub holds : Holds nm w N u sp machine

pub record GivesCell (w w' : List ℕ) (N : ℕ) (st : State) (next p : ℕ) (u : State) : Type 0 where
  pub above : st.top ≤ p
  pub below : p < u.top
  pub deep : u.depth < st.depth
  pub next_is : at w' p 5 ≡ next
  pub keeps : Keeps w w' N st.top
  pub gives : (nm : Names) (sp : Spare) (m : Demangler) → Holds nm w N st sp m → GivenCell nm w' N p next u sp m

abbrev pub TakesCell : (w w' : List ℕ) (N : ℕ) (st u : State) (next : ℕ) → Result ℕ Refusal → Type 0
TakesCell w w' N st u next (Ok p) = GivesCell w w' N st next p u
TakesCell w w' N st u next (Err r) = ((nm : Names) (sp : Spare) (m : Demangler) → Holds nm w N st sp m → one_label m ≡ refused (number r)) × Beyond 64 N w w'

-- the step f took labels; they are the labels of any later record that has the two numbers next to
-- each other
pub record GivenLabels (nm : Names) (f : Run Labels) (w : List ℕ) (N first number : ℕ) (u : State) (sp : Spare) (m : Demangler) : Type 0 where
  pub labels : Labels
  pub machine : Demangler
  pub is : f m ≡ ok labels machine
  pub lies : (g : ℕ → ℕ) (k p : ℕ) → g k ≡ first → g (k + 1) ≡ number → u.top ≤ p → LabelList (Named nm) labels k g w p
  pub holds : Holds nm w N u sp machine

pub record GivesLabels (nm : Names) (f : Run Labels) (w w' : List ℕ) (N : ℕ) (st : State) (first number : ℕ) (u : State) : Type 0 where
  pub rising : st.top ≤ u.top
  pub deep : u.depth ≤ st.depth
  pub keeps : Keeps w w' N st.top
  pub gives : (sp : Spare) (m : Demangler) → Holds nm w N st sp m → GivenLabels nm f w' N first number u sp m

abbrev pub TakesLabels : Names → Run Labels → (w w' : List ℕ) (N : ℕ) (st u : State) → Result Labelled Refusal → Type 0
TakesLabels nm f w w' N st u (Ok l) = GivesLabels nm f w w' N st l.first l.number u
TakesLabels nm f w w' N st u (Err r) = ((sp : Spare) (m : Demangler) → Holds nm w N st sp m → f m ≡ refused (number r)) × Beyond 64 N w w'
