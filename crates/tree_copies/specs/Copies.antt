-- What code that copies a tree says.
use Rattle.std.specs.Prelude.{◌≡◌, List, ◌++◌, ℕ, ◌+◌, ◌*◌, ◌<◌, replicate}
use Rattle.definition.specs.Base.{ok, refused, Done, ◌>>=◌, ◌>>◌}
use Rattle.definition.specs.Enums.{number}
use Rattle.definition.specs.Node.{Node, size}
use Rattle.definition.specs.Machine as M
use Rattle.definition.specs.Machine.{restack}
use Rattle.definition.specs.Perform as R
use Rattle.definition.specs.Perform.{Demangler, Run}
use Rattle.tree_records.specs.Lies.{Lies}
use Rattle.tree_records.specs.Holds.{Fixed, Names, Named, Spare, Holds, Keeps}
use Rattle.tree_records.specs.declared.State.{State}
use Rattle.machine.specs.Beyond.{Beyond}
use Rattle.tree_nodes.specs.Gives.{spare}
use Rattle.tree_nodes.specs.Results.{Step}

-- what may be spent on that many pushes of a tree of size z
abbrev pub for_pushes : (times z : ℕ) → Spare → Spare
for_pushes times z sp = spare (sp.makes + 3 * times) (sp.pushes + times) (sp.nodes + z * times) sp.keeps

-- the place p was pushed that many times
pub record Pushes (w w' : List ℕ) (N : ℕ) (st u : State) (p times : ℕ) : Type 0 where
  pub state : u ≡ record { budget = st.budget; top = st.top; depth = st.depth + times; seen = st.seen }
  pub holds : (nm : Names) (sp : Spare) (m : Demangler) (x : Node) → Holds nm w N st (for_pushes times (size x) sp) m → p < st.top → Lies (Named nm) x w p → Holds nm w' N u sp (restack (replicate times x ++ m.stack) m)
  pub keeps : Keeps w w' N st.top

-- w holds some machine, and some tree at place p
pub record ReadyTree (w : List ℕ) (N : ℕ) (st : State) (sp : Spare) (p : ℕ) : Type 0 where
  pub names : Names
  pub machine : Demangler
  pub tree : Node
  pub holds : Holds names w N st sp machine
  pub lies : Lies (Named names) tree w p

-- a step f ended with a machine that w holds with u
pub record Went (f : Run Done) (nm : Names) (w : List ℕ) (N : ℕ) (u : State) (sp : Spare) (m : Demangler) : Type 0 where
  pub machine : Demangler
  pub is : f m ≡ ok tt machine
  pub holds : Holds nm w N u sp machine

-- that many copies of any tree at place p
abbrev pub Copying : (w w' : List ℕ) (N : ℕ) (st : State) (times p : ℕ) → Step → Type 0
Copying w w' N st times p (Step.Done u) = (nm : Names) (sp : Spare) (m : Demangler) (x : Node) → Holds nm w N st sp m → Lies (Named nm) x w p → Went (R.copied N times x) nm w' N u sp m
Copying w w' N st times p (Step.Refused r) = (nm : Names) (sp : Spare) (m : Demangler) (x : Node) → Holds nm w N st sp m → Lies (Named nm) x w p → R.copied N times x m ≡ refused (number r)

pub record Copied (w w' : List ℕ) (N : ℕ) (st : State) (times p : ℕ) (r : Step) : Type 0 where
  pub runs : Copying w w' N st times p r
  pub beyond : Beyond 64 N w w'

-- a remembered node, and that many copies of it
abbrev pub recall_copies : (N times index : ℕ) → Run Done
recall_copies N times index = M.recall index >>= λ x. R.copied N times x

abbrev pub Recalling : (w w' : List ℕ) (N : ℕ) (st : State) (times index : ℕ) → Step → Type 0
Recalling w w' N st times index (Step.Done u) = (nm : Names) (sp : Spare) (m : Demangler) → Holds nm w N st sp m → Went (recall_copies N times index) nm w' N u sp m
Recalling w w' N st times index (Step.Refused r) = (nm : Names) (sp : Spare) (m : Demangler) → Holds nm w N st sp m → recall_copies N times index m ≡ refused (number r)

pub record Recalled (w w' : List ℕ) (N : ℕ) (st : State) (times index : ℕ) (r : Step) : Type 0 where
  pub runs : Recalling w w' N st times index r
  pub beyond : Beyond 64 N w w'

-- `Optional` of a type is remembered, and that many copies of it
abbrev pub optional_copies : (N times : ℕ) → Node → Run Done
optional_copies N times x = M.remember (R.optional_of x) >> R.copied N times (R.optional_of x)

-- what may be spent on it: four records and a remembered place
abbrev pub for_optional : Spare → Spare
for_optional sp = spare (sp.makes + 8) sp.pushes sp.nodes (sp.keeps + 1)

abbrev pub Optioning : (w w' : List ℕ) (N : ℕ) (st : State) (times p : ℕ) → Step → Type 0
Optioning w w' N st times p (Step.Done u) = (nm : Names) (sp : Spare) (m : Demangler) (x : Node) → Fixed nm.fixed → Holds nm w N st (for_optional sp) m → Lies (Named nm) x w p → Went (optional_copies N times x) nm w' N u sp m
Optioning w w' N st times p (Step.Refused r) = (nm : Names) (sp : Spare) (m : Demangler) (x : Node) → Fixed nm.fixed → Holds nm w N st (for_optional sp) m → Lies (Named nm) x w p → optional_copies N times x m ≡ refused (number r)

pub record Optioned (w w' : List ℕ) (N : ℕ) (st : State) (times p : ℕ) (r : Step) : Type 0 where
  pub runs : Optioning w w' N st times p r
  pub beyond : Beyond 64 N w w'
