-- What the code of entities says about the definition's steps.
use Rattle.std.specs.Prelude.{◌≡◌, List, ℕ, ◌+◌, ◌≤◌, ◌<◌}
use Rattle.std.proofs.Math.Option.{Option, some, none}
use Prim.Native.String.{String}
use Rattle.definition.specs.Base.{ok, refused, ◌>>=◌}
use Rattle.definition.specs.Node.{Node, kind, size, count}
use Rattle.definition.specs.Perform.{Demangler, Run, pop_if, try_signature, under_signature}
use Rattle.definition.specs.Machine.{push}
use Rattle.definition.specs.Enums.{number}
use Rattle.definition.specs.Kind as K
use Rattle.tree_records.specs.Lies.{at, Child, Body, Lies}
use Rattle.tree_records.specs.Holds.{Fixed, Names, Named, Spare, Holds, Keeps}
use Rattle.tree_records.specs.declared.State.{State}
use Rattle.machine.specs.Beyond.{Beyond}
use Rattle.tree_nodes.specs.Gives.{Performed, most, spare, nothing_spare, for_nodes, Given}
use Rattle.std.specs.Prelude.{Option as Maybe, Some, None, Result, Ok, Err}
use Rattle.definition.specs.declared.Refusal.{Refusal}

-- the nodes of kind k over one tree, in field 4, with the number a in field 3; given the fixed
-- names
pub record OneOver (k a : ℕ) (c : (ℕ → String) → Node → Node) : Type 0 where
  pub kind_is : (s : ℕ → String) (x : Node) → kind (c s x) ≡ k
  pub size_is : (s : ℕ → String) (x : Node) → size (c s x) ≡ 1 + size x
  pub count_is : (s : ℕ → String) (x : Node) → count (c s x) ≡ 0
  pub body : (nm : Names) (x : Node) (f : ℕ → ℕ) (w : List ℕ) (p : ℕ) → Fixed nm.fixed → f 3 ≡ a → Child f p 4 (λ q. Lies (Named nm) x w q) → Body (Named nm) (c nm.fixed x) f w p

-- a node over the tree that f takes
abbrev pub one_over : Run Node → ((ℕ → String) → Node → Node) → Performed
one_over f c fixed = f >>= λ x. push (c fixed x)

-- SIGNATURES
-- the place of a signature that was taken, if there was one, and the state after it
pub record Signed : Type 0 where
  pub signature : Maybe ℕ
  pub next : State

-- the places of a signature that may be missing, and of what it is
abbrev pub Signs : (nm : Names) (w : List ℕ) (top : ℕ) → Maybe ℕ → Option Node → Type 0
Signs nm w top (Some p) (some s) = (p < top) × Lies (Named nm) s w p
Signs nm w top (Some p) none = ⊥
Signs nm w top None (some s) = ⊥
Signs nm w top None none = Unit

-- what a signature that was taken gives back: enough for the record over it and the type
abbrev pub weight_of : Option Node → ℕ
weight_of none = 0
weight_of (some s) = size s

abbrev pub signed : Option Node → Spare → Spare
signed none sp = sp
signed (some s) sp = spare (sp.makes + 2) sp.pushes (sp.nodes + size s) sp.keeps

-- the step took a signature, or there was none
pub record GivenSigned (nm : Names) (w : List ℕ) (N : ℕ) (r : Signed) (sp : Spare) (m : Demangler) : Type 0 where
  pub signature : Option Node
  pub machine : Demangler
  pub is : try_signature m ≡ ok signature machine
  pub signs : Signs nm w r.next.top r.signature signature
  pub holds : Holds nm w N r.next (signed signature sp) machine

pub record GivesSigned (w : List ℕ) (N : ℕ) (st : State) (r : Signed) : Type 0 where
  pub deep : r.next.depth ≤ st.depth
  pub top : r.next.top ≡ st.top
  pub gives : (nm : Names) (sp : Spare) (m : Demangler) → Holds nm w N st sp m → GivenSigned nm w N r sp m

-- TYPES
-- the step f gives a type, which weighs at most `own` more than what was taken
pub record GivesType (f : Run Node) (own gain : ℕ) (w w' : List ℕ) (N : ℕ) (st : State) (p : ℕ) (u : State) : Type 0 where
  pub below : p < u.top
  pub deep : u.depth < st.depth
  pub rising : st.top ≤ u.top
  pub keeps : Keeps w w' N st.top
  pub gives : (nm : Names) (sp : Spare) (m : Demangler) → Holds nm w N st (for_nodes own sp) m → Given f gain nm w' N p u sp m

abbrev pub TakesType : Run Node → (own gain : ℕ) → (w w' : List ℕ) (N : ℕ) (st u : State) → Result ℕ Refusal → Type 0
TakesType f own gain w w' N st u (Ok p) = GivesType f own gain w w' N st p u
TakesType f own gain w w' N st u (Err r) = ((nm : Names) (sp : Spare) (m : Demangler) → Holds nm w N st (for_nodes own sp) m → f m ≡ refused (number r)) × Beyond 64 N w w'

-- a type under a signature, if there is one
pub record GivenUnder (nm : Names) (s : Option Node) (x : Node) (w : List ℕ) (N p : ℕ) (u : State) (sp : Spare) (m : Demangler) : Type 0 where
  pub tree : Node
  pub machine : Demangler
  pub is : under_signature s x m ≡ ok tree machine
  pub lies : Lies (Named nm) tree w p
  pub weighs : size tree ≤ weight_of s + size x + 1
  pub holds : Holds nm w N u (for_nodes (weight_of s) sp) machine

pub record GivesUnder (w w' : List ℕ) (N : ℕ) (st : State) (signature : Maybe ℕ) (ty p : ℕ) (u : State) : Type 0 where
  pub below : p < u.top
  pub deep : u.depth ≡ st.depth
  pub rising : st.top ≤ u.top
  pub keeps : Keeps w w' N st.top
  pub gives : (nm : Names) (s : Option Node) (x : Node) (sp : Spare) (m : Demangler) → Signs nm w st.top signature s → Lies (Named nm) x w ty → Holds nm w N st (signed s sp) m → GivenUnder nm s x w' N p u sp m

abbrev pub TakesUnder : (w w' : List ℕ) (N : ℕ) (st u : State) (signature : Maybe ℕ) (ty : ℕ) → Result ℕ Refusal → Type 0
TakesUnder w w' N st u signature ty (Ok p) = GivesUnder w w' N st signature ty p u
TakesUnder w w' N st u signature ty (Err r) = ((nm : Names) (s : Option Node) (x : Node) (sp : Spare) (m : Demangler) → Signs nm w st.top signature s → Holds nm w N st sp m → under_signature s x m ≡ refused (number r)) × Beyond 64 N w w'

-- w holds some type at ty, some signature if there is one, and there is room for the record over
-- them
pub record Signing (w : List ℕ) (N : ℕ) (st : State) (signature : Maybe ℕ) (ty : ℕ) : Type 0 where
  pub names : Names
  pub machine : Demangler
  pub signed_by : Option Node
  pub signs : Signs names w st.top signature signed_by
  pub below : ty < st.top
  pub small : at w ty 1 ≤ most
  pub holds : Holds names w N st (signed signed_by nothing_spare) machine

-- the type first and then the signature, as for a variable
abbrev pub variable_type : Run Node
variable_type = pop_if K.is_type >>= λ t. try_signature >>= λ s. under_signature s t

-- the signature first, as for an initializer
abbrev pub signed_type : Run Node → Run Node
signed_type f = try_signature >>= λ s. f >>= λ t. under_signature s t
