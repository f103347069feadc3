-- Lists that operators take from the stack: how they are stored in the workspace, and what the code
-- that takes them says about the definition's loops.
use Rattle.std.specs.Prelude.{◌≡◌, Bool, false, Result, Ok, Err, List, ℕ, suc, ◌+◌, ◌≤◌, ◌<◌, if◌then◌else◌}
use Rattle.definition.specs.Base.{refused, ret, ◌>>=◌, ◌>>◌}
use Rattle.definition.specs.Node.{Node, Nodes, nil, BoundGeneric, kind, size, count, sizes, many}
use Rattle.definition.specs.Machine as M
use Rattle.definition.specs.Perform as R
use Rattle.definition.specs.Perform.{Demangler, Run}
use Rattle.definition.specs.Kind as K
use Rattle.tree_records.specs.Lies.{Cells, Body}
use Rattle.tree_records.specs.Holds.{Names, Named, Spare, Holds, Keeps}
use Rattle.tree_records.specs.declared.State.{State}
use Rattle.machine.specs.Beyond.{Beyond}
use Rattle.tree_nodes.specs.Gives.{Performed}
use Rattle.tree_types.specs.declared.cells.Chain.{Chain}
use Rattle.definition.specs.Enums.{number}
use Rattle.definition.specs.declared.Refusal.{Refusal}
use Rattle.tree_types.specs.declared.Lists.{Lists}
use Rattle.tree_types.specs.Cells.{grown, Listed}

-- a loop of the definition, given the number of rounds that it may have and the list so far
abbrev pub Loop : Type 0
Loop = ℕ → Nodes → Run Nodes

-- the step f has the same result as next of a list that w holds
pub record Went (f : Run Nodes) (next : Nodes → Run Nodes) (nm : Names) (w : List ℕ) (N : ℕ) (u : State) (l : Chain) (sp : Spare) (m : Demangler) : Type 0 where
  pub list : Nodes
  pub machine : Demangler
  pub is : f m ≡ next list machine
  pub listed : Listed nm list w u.top l
  pub holds : Holds nm w N u (grown list sp) machine

-- one round of a loop, for any machine and list that w held
pub record Turns (loop next : Loop) (w w' : List ℕ) (N : ℕ) (st : State) (l : Chain) (l' : Chain) (u : State) : Type 0 where
  pub rising : st.top ≤ u.top
  pub keeps : Keeps w w' N st.top
  pub gives : (nm : Names) (sp : Spare) (m : Demangler) (ns : Nodes) (f : ℕ) → Holds nm w N st (grown ns sp) m → Listed nm ns w st.top l → Went (loop (suc f) ns) (next f) nm w' N u l' sp m

-- what follows a round: nothing, or the loop again
abbrev pub next_of : Bool → Loop → Loop
next_of last loop f ns = if last then ret ns else loop f ns

abbrev pub Rounds : Loop → (w w' : List ℕ) (N : ℕ) (st u : State) (l l' : Chain) → Result Bool Refusal → Type 0
Rounds loop w w' N st u l l' (Ok last) = Turns loop (next_of last loop) w w' N st l l' u × (last ≡ false → u.depth < st.depth)
Rounds loop w w' N st u l l' (Err r) = ((nm : Names) (sp : Spare) (m : Demangler) (ns : Nodes) (f : ℕ) → Holds nm w N st sp m → loop (suc f) ns m ≡ refused (number r)) × Beyond 64 N w w'

-- the whole list: a loop that may have more rounds than there are nodes on the stack
pub record Collected (loop : Loop) (w w' : List ℕ) (N : ℕ) (st : State) (l : Chain) (u : State) : Type 0 where
  pub rising : st.top ≤ u.top
  pub keeps : Keeps w w' N st.top
  pub gives : (nm : Names) (sp : Spare) (m : Demangler) (f : ℕ) → st.depth < f → Holds nm w N st sp m → Went (loop f nil) ret nm w' N u l sp m

abbrev pub Collects : Loop → (w w' : List ℕ) (N : ℕ) (st u : State) → Result Chain Refusal → Type 0
Collects loop w w' N st u (Ok l) = Collected loop w w' N st l u
Collects loop w w' N st u (Err r) = ((nm : Names) (sp : Spare) (m : Demangler) (f : ℕ) → st.depth < f → Holds nm w N st sp m → loop f nil m ≡ refused (number r)) × Beyond 64 N w w'

abbrev pub loop_of : Lists → Loop
loop_of Lists.Elements = R.elements
loop_of Lists.Arguments = R.arguments
loop_of Lists.Requirements = R.requirements
loop_of Lists.Members = R.members

-- the nodes of a kind that only have a list, from field 3 on
pub record ListNode (k : ℕ) (c : Nodes → Node) : Type 0 where
  pub kind_is : (ns : Nodes) → kind (c ns) ≡ k
  pub size_is : (ns : Nodes) → size (c ns) ≡ 1 + sizes ns
  pub count_is : (ns : Nodes) → count (c ns) ≡ many ns
  pub body : (nm : Names) (ns : Nodes) (f : ℕ → ℕ) (w : List ℕ) (p : ℕ) → Cells (Named nm) ns 3 f w p → Body (Named nm) (c ns) f w p

-- a node c over a list, or over the empty list
abbrev pub delimited : Loop → (Nodes → Node) → Performed
delimited loop c fixed = do
  empty ← R.took K.empty_list
  f ← M.rounds
  ns ← if empty then ret nil else loop f nil
  M.push (c ns)

-- the arguments of a generic type and the type under them
abbrev pub applied : Performed
applied fixed = do
  f ← M.rounds
  args ← R.arguments f nil
  base ← R.pop_if K.is_type
  M.remember (BoundGeneric base args)
  M.push (BoundGeneric base args)
