-- What the code of requirements says about the definition's steps.
use Rattle.std.specs.Prelude.{◌≡◌, List, ℕ, ◌+◌, ◌≤◌, ◌<◌}
use Rattle.definition.specs.Base.{Name, ok, ◌>>=◌}
use Rattle.definition.specs.Node.{Node, DependentMember, kind, size, count}
use Rattle.definition.specs.Perform.{Demangler, Run, generic_param, subject, requirement}
use Rattle.definition.specs.Enums as E
use Rattle.definition.specs.declared.Constraint.{Constraint}
use Rattle.definition.specs.declared.Subject.{Subject}
use Rattle.definition.specs.declared.Param.{Param}
use Rattle.tree_nodes.specs.Results.{Placed}
use Rattle.tree_nodes.specs.Results.{Step}
use Rattle.tree_records.specs.Lies.{at, Child, Body, Lies}
use Rattle.tree_records.specs.Holds.{Fixed, Names, Named, Spare, Holds, Ready, Keeps, for_record}
use Rattle.tree_records.specs.declared.State.{State}
use Rattle.machine.specs.Beyond.{Beyond}
use Rattle.tree_nodes.specs.Gives.{Performed, most, spare, for_nodes}
use Rattle.std.specs.Prelude.{Result, Ok, Err}
use Rattle.definition.specs.declared.Refusal.{Refusal}
use Rattle.tree_records.specs.declared.Trees.{Trees}
use Rattle.tree_nodes.specs.Trees.{Refuses}
use Rattle.tree_parts.specs.Leaves.{Ends}

-- REQUIREMENTS
-- the step f gave the tree that is stored at p, which costs at most one record and one node more
-- than what was taken
pub record GivenSubject (f : Run Node) (nm : Names) (w : List ℕ) (N p : ℕ) (u : State) (sp : Spare) (m : Demangler) : Type 0 where
  pub tree : Node
  pub machine : Demangler
  pub is : f m ≡ ok tree machine
  pub lies : Lies (Named nm) tree w p
  pub holds : Holds nm w N u (for_nodes (size tree) sp) machine

pub record GivesSubject (f : Run Node) (w w' : List ℕ) (N : ℕ) (st : State) (p : ℕ) (u : State) : Type 0 where
  pub below : p < u.top
  pub small : at w' p 1 ≤ most
  pub keeps : Keeps w w' N st.top
  pub readies : (nm : Names) (sp : Spare) (m : Demangler) → Holds nm w N st (for_record (for_nodes 1 sp)) m → (m₁ : Demangler) × Holds nm w' N u sp m₁
  pub gives : (nm : Names) (sp : Spare) (m : Demangler) → Fixed nm.fixed → Holds nm w N st (for_record (for_nodes 1 sp)) m → GivenSubject f nm w' N p u sp m

abbrev pub TakesSubject : Run Node → (t t' : Trees) → Result ℕ Refusal → Type 0
TakesSubject f t t' (Ok p) = GivesSubject f t.ws.now t'.ws.now t.n t.state p t'.state
TakesSubject f t t' (Err r) = Refuses f t t' r

-- a member type of a generic parameter was made, with the name that a number represents
pub record MakesMember (p : Param) (name : ℕ) (w w' : List ℕ) (N : ℕ) (st : State) (r : Placed) : Type 0 where
  pub below : r.place < r.next.top
  pub small : at w' r.place 1 ≤ most
  pub keeps : Keeps w w' N st.top
  pub lies : (nm : Names) (k : Name) → Fixed nm.fixed → Named nm name k → Lies (Named nm) (DependentMember (generic_param (E.param p)) k) w' r.place
  pub holds : (nm : Names) (sp : Spare) (m : Demangler) → Holds nm w N st (for_record (for_record sp)) m → Holds nm w' N r.next sp m

-- nodes of a kind over two trees, in fields 3 and 4
pub record TwoOver (k : ℕ) (c : Node → Node → Node) : Type 0 where
  pub kind_is : (x y : Node) → kind (c x y) ≡ k
  pub size_is : (x y : Node) → size (c x y) ≡ 1 + (size x + size y)
  pub count_is : (x y : Node) → count (c x y) ≡ 0
  pub body : (nm : Names) (x y : Node) (f : ℕ → ℕ) (w : List ℕ) (p : ℕ) → Child f p 3 (λ q. Lies (Named nm) x w q) → Child f p 4 (λ q. Lies (Named nm) y w q) → Body (Named nm) (c x y) f w p

-- what the constraint of a requirement takes and leaves, if its subject is at p
pub record Constrains (constraint : Constraint) (w w' : List ℕ) (N : ℕ) (st : State) (p : ℕ) (r : Step) : Type 0 where
  pub ends : (nm : Names) (s : Node) → Fixed nm.fixed → Lies (Named nm) s w p → Ends (requirement s (E.constraint constraint)) nm (spare 13 1 (size s + 3) 0) w w' N st r
  pub beyond : Beyond 64 N w w'

-- a subject is at p, and there is room for its requirement
pub record Constraining (w : List ℕ) (N : ℕ) (st : State) (p : ℕ) : Type 0 where
  pub ready : Ready w N st (spare 13 1 3 0)
  pub below : p < st.top
  pub small : at w p 1 ≤ most

-- a subject, and the constraint on it
abbrev pub required : Subject → Constraint → Performed
required on constraint fixed = subject (E.subject on) >>= λ s. requirement s (E.constraint constraint)
