-- What is left at the end of the reading's run. Assumes nothing.
use Rattle.std.specs.Prelude.{◌≡◌, List, ℕ, ◌<◌}
use Rattle.definition.specs.Perform.{Demangler}
use Rattle.definition.specs.Calls.{single}
use Rattle.tree_records.specs.Holds.{Names, Named, Holds}
use Rattle.tree_records.specs.Lies.{Lies}
use Rattle.machine.specs.RunEnds.{kinds_of}
use Rattle.machine.specs.declared.runs.Final.{Final}
use Rattle.definition.specs.Node.{Node, kind}
use Rattle.std.proofs.Math.Option.{some, none}
use Rattle.std.specs.Prelude.{Option, Some, None}
use Rattle.tree_records.specs.declared.State.{State}
use Rattle.tree_nodes.specs.Gives.{nothing_spare}

-- the only tree on the stack is at place p
pub record SingleAt (w : List ℕ) (N : ℕ) (st : State) (what : Final) (p : ℕ) (nm : Names) (m : Demangler) : Type 0 where
  pub tree : Node
  pub is : single kind (kinds_of what) m.stack ≡ some tree
  pub below : p < st.top
  pub lies : Lies (Named nm) tree w p

abbrev pub Singles : (w : List ℕ) (N : ℕ) (st : State) → Final → Option ℕ → Type 0
Singles w N st what (Some p) = (nm : Names) (m : Demangler) → Holds nm w N st nothing_spare m → SingleAt w N st what p nm m
Singles w N st what None = (nm : Names) (m : Demangler) → Holds nm w N st nothing_spare m → single kind (kinds_of what) m.stack ≡ none
