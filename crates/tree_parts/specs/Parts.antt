-- What the parts of the records of words say about the definition's steps.
use Rattle.std.specs.Prelude.{◌≡◌, List, ℕ, ◌+◌, ◌*◌, ◌≤◌}
use Rattle.std.proofs.Math.Option.{Option}
use Rattle.definition.specs.Base.{ok}
use Rattle.definition.specs.Kind as K
use Rattle.definition.specs.Node.{Node, many}
use Rattle.definition.specs.Perform.{Demangler, try, one_or_none}
use Rattle.tree_records.specs.Lies.{Cells}
use Rattle.tree_records.specs.Holds.{Names, Named, Spare, Holds, Keeps}
use Rattle.tree_records.specs.declared.State.{State}
use Rattle.tree_parts.specs.declared.record.Qualified.{Qualified}

-- a protocol was taken if there was one, and w holds its cell: for any later record whose field 6
-- is its place
pub record Qualifier (nm : Names) (w : List ℕ) (N : ℕ) (r : Qualified) (u : State) (sp : Spare) (m : Demangler) : Type 0 where
  pub protocol : Option Node
  pub machine : Demangler
  pub is : try K.is_protocol m ≡ ok protocol machine
  pub form : r.form ≡ 2 + 2 * many (one_or_none protocol)
  pub lies : (f : ℕ → ℕ) (p : ℕ) → f 6 ≡ r.cell → u.top ≤ p → Cells (Named nm) (one_or_none protocol) 6 f w p
  pub holds : Holds nm w N u sp machine

pub record Qualifies (w w' : List ℕ) (N : ℕ) (st u : State) (r : Qualified) : Type 0 where
  pub rising : st.top ≤ u.top
  pub keeps : Keeps w w' N st.top
  pub gives : (nm : Names) (sp : Spare) (m : Demangler) → Holds nm w N st sp m → Qualifier nm w' N r u sp m
