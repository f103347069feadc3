-- Lists that operators take from the stack: how they are stored in the workspace, cell by cell.
use Rattle.std.specs.Prelude.{◌≡◌, List, ℕ, ◌+◌, ◌^◌, ◌≤◌, ◌<◌}
use Rattle.std.proofs.Math.Option.{Option}
use Rattle.definition.specs.Base.{Name, ok}
use Rattle.definition.specs.Node.{Node, Nodes, cons, size, sizes, many}
use Rattle.definition.specs.Perform as R
use Rattle.definition.specs.Perform.{Demangler}
use Rattle.definition.specs.Kind as K
use Rattle.tree_records.specs.Lies.{at, LabelIs, Cells, Lies}
use Rattle.tree_records.specs.Holds.{Names, Named, Spare, Inside, Holds, Keeps}
use Rattle.tree_records.specs.declared.State.{State}
use Rattle.tree_nodes.specs.Gives.{spare, taken}
use Rattle.tree_types.specs.declared.cells.Chain.{Chain}

-- a list with one more cell, and the state with its record
pub record Added : Type 0 where
  pub list : Chain
  pub next : State

-- the number of a label that was on top, or `absent`, and the state without it
pub record LabelTaken : Type 0 where
  pub label : ℕ
  pub next : State

-- what there is to spare after the nodes of a list were taken and a cell was made for each
abbrev pub grown : Nodes → Spare → Spare
grown ns sp = spare sp.makes (sp.pushes + many ns) (sp.nodes + sizes ns) sp.keeps

-- the list ns is stored in w, its cells below top: their number, the sum of their sizes, the place
-- of the first
pub record Listed (nm : Names) (ns : Nodes) (w : List ℕ) (top : ℕ) (l : Chain) : Type 0 where
  pub many_is : l.count ≡ many ns
  pub sizes_is : l.sum ≡ sizes ns
  pub cells : Cells (Named nm) ns 0 (λ _. l.first) w top

-- w holds some machine, and some list of what was taken from it
pub record Gathering (w : List ℕ) (N : ℕ) (st : State) (sp : Spare) (l : Chain) : Type 0 where
  pub names : Names
  pub machine : Demangler
  pub list : Nodes
  pub holds : Holds names w N st (grown list sp) machine
  pub listed : Listed names list w st.top l

-- the tree at p can be put in front of the list
pub record CellFits (w : List ℕ) (N : ℕ) (st : State) (l : Chain) (p : ℕ) : Type 0 where
  pub inside : Inside w N st 2 0 0
  pub below : p < st.top
  pub sum : l.sum + at w p 1 < 2 ^ 32
  pub count : l.count + 1 < 2 ^ 32

-- it was put there, with a label
pub record Adds (w w' : List ℕ) (N : ℕ) (st : State) (l : Chain) (label p : ℕ) (r : Added) : Type 0 where
  pub top : r.next.top ≡ st.top + 1
  pub depth : r.next.depth ≡ st.depth
  pub keeps : Keeps w w' N st.top
  pub listed : (nm : Names) (o : Option Name) (x : Node) (ns : Nodes) → Listed nm ns w st.top l → LabelIs (Named nm) o label → Lies (Named nm) x w p → Listed nm (cons o x ns) w' r.next.top r.list
  pub holds : (nm : Names) (sp : Spare) (m : Demangler) (o : Option Name) (x : Node) (ns : Nodes) → Holds nm w N st (taken 2 (size x) (grown ns sp)) m → Holds nm w' N r.next (grown (cons o x ns) sp) m

-- a label, if there is one
pub record GivenLabel (nm : Names) (w : List ℕ) (N : ℕ) (r : LabelTaken) (sp : Spare) (m : Demangler) : Type 0 where
  pub label : Option Node
  pub machine : Demangler
  pub is : R.try K.is_identifier m ≡ ok label machine
  pub labelled : LabelIs (Named nm) (R.label_of label) r.label
  pub holds : Holds nm w N r.next sp machine

pub record Labels (w : List ℕ) (N : ℕ) (st : State) (r : LabelTaken) : Type 0 where
  pub deep : r.next.depth ≤ st.depth
  pub top : r.next.top ≡ st.top
  pub gives : (nm : Names) (sp : Spare) (m : Demangler) → Holds nm w N st sp m → GivenLabel nm w N r sp m
