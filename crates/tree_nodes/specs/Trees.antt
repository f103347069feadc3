-- What code on `Trees` says about the definition's steps.
use Rattle.std.specs.Prelude.{◌≡◌, Bool, ℕ, Option, Some, None, Result, Ok, Err}
use Rattle.std.proofs.Math.Option as Math
use Rattle.definition.specs.Base.{Name, ok, refused, Done}
use Rattle.definition.specs.Enums.{number}
use Rattle.definition.specs.Node.{Node}
use Prim.Native.String.{String}
use Rattle.definition.specs.Budget as B
use Rattle.definition.specs.Machine.{wrap}
use Rattle.definition.specs.Perform.{Demangler, Run}
use Rattle.definition.specs.declared.Refusal.{Refusal}
use Rattle.definition.specs.declared.Refusal.TheVariants.{Nesting}
use Rattle.machine.specs.Beyond.{Beyond}
use Rattle.machine.specs.Spent.{budget_of}
use Rattle.tree_records.specs.Holds.{Names, Spare, Holds}
use Rattle.tree_records.specs.declared.Trees.{Trees}
use Rattle.tree_nodes.specs.Gives.{Gives, Building, GivesIf, GivesName, Performed, WrapsTo}
use Rattle.tree_nodes.specs.Gives as G
use Rattle.tree_records.specs.declared.State.{State}
use Rattle.tree_nodes.specs.Results.{Step}

-- the step f is refused, for any machine that t held
pub record Refuses {A : Type 0} (f : Run A) (t t' : Trees) (r : Refusal) : Type 0 where
  pub refuses : (nm : Names) (sp : Spare) (m : Demangler) → Holds nm t.ws.now t.n t.state sp m → f m ≡ refused (number r)
  pub beyond : Beyond 64 t.n t.ws.now t'.ws.now

-- the step f takes a tree
abbrev pub Takes : Run Node → (gain : ℕ) → (t t' : Trees) → Result ℕ Refusal → Type 0
Takes f gain t t' (Ok p) = Gives f gain t.ws.now t'.ws.now t.n t.state p t'.state
Takes f gain t t' (Err r) = Refuses f t t' r

-- or makes one of what it takes
abbrev pub Builds : Run Node → (own gain : ℕ) → (t t' : Trees) → Result ℕ Refusal → Type 0
Builds f own gain t t' (Ok p) = Building f own gain t.ws.now t'.ws.now t.n t.state p t'.state
Builds f own gain t t' (Err r) = Refuses f t t' r

-- or leaves the trees as they are
pub record Leaves (f : Run (Math.Option Node)) (t t' : Trees) : Type 0 where
  pub same : t' ≡ t
  pub leaves : (nm : Names) (sp : Spare) (m : Demangler) → Holds nm t.ws.now t.n t.state sp m → f m ≡ ok Math.none m

abbrev pub Tries : Run (Math.Option Node) → (t t' : Trees) → Option ℕ → Type 0
Tries f t t' (Some p) = GivesIf f t.ws.now t.n t.state p t'.state
Tries f t t' None = Leaves f t t'

-- the same, where the top is gone if it is not wanted
abbrev pub Tried : Run (Math.Option Node) → (t t' : Trees) → Result ℕ Refusal → Type 0
Tried f t t' (Ok p) = GivesIf f t.ws.now t.n t.state p t'.state
Tried f t t' (Err r) = (nm : Names) (sp : Spare) (m : Demangler) → Holds nm t.ws.now t.n t.state sp m → f m ≡ ok Math.none m

abbrev pub Marks : Run Bool → (t t' : Trees) → Bool → Type 0
Marks f t t' b = G.Marks f t.ws.now t.n t.state (record { taken = b; next = t'.state })

abbrev pub TakesName : Run Name → (t t' : Trees) → Result ℕ Refusal → Type 0
TakesName f t t' (Ok k) = GivesName f t.ws.now t.n t.state k t'.state
TakesName f t t' (Err r) = Refuses f t t' r

-- a node was made, which costs `cost` half records; x is the node, given the fixed names
abbrev pub Makes : ((ℕ → String) → Node) → (cost : ℕ) → (t t' : Trees) → ℕ → Type 0
Makes x cost t t' p = G.Makes x cost t.ws.now t'.ws.now t.n t.state (record { place = p; next = t'.state })

-- one more wrap
abbrev pub Wraps : (t t' : Trees) → Result Done Refusal → Type 0
Wraps t t' (Ok d) = WrapsTo t.ws.now t.n t.state t'.state
Wraps t t' (Err r) = Refuses wrap t t' r

-- whatever the trees hold: the definition's wrap of the budget of s gives that of u, and nothing
-- else of the state changes
pub record Wrapped (s u : State) : Type 0 where
  pub is : B.wrap (budget_of s.budget) ≡ ok tt (budget_of u.budget)
  pub rest : u ≡ record s { budget = u.budget }

-- or it is refused, with refusal 8, and the state is unchanged
pub record NotWrapped (s u : State) (r : Refusal) : Type 0 where
  pub is : B.wrap (budget_of s.budget) ≡ refused (number r)
  pub nesting : r ≡ Nesting
  pub same : u ≡ s

abbrev pub Counts : (s u : State) → Result Done Refusal → Type 0
Counts s u (Ok d) = Wrapped s u
Counts s u (Err r) = NotWrapped s u r

-- the result of an operator, and the state after it
abbrev pub step_of : Result Done Refusal → State → Step
step_of (Ok d) u = Step.Done u
step_of (Err r) u = Step.Refused r

-- the code of an operator
abbrev pub Operates : Performed → (t t' : Trees) → Result Done Refusal → Type 0
Operates f t t' r = G.Operates f t.ws.now t'.ws.now t.n t.state (step_of r t'.state)
