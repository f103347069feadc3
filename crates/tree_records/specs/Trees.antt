-- What the methods of `Trees` say.
use Rattle.std.specs.Prelude.{◌≡◌, List, [], ◌∷◌, ℕ, ◌-◌, Option, Some, None, Result, Ok, Err}
use Rattle.std.specs.Borrow.{MutBor}
use Rattle.definition.specs.Budget as B
use Rattle.definition.specs.Perform.{Demangler}
use Rattle.definition.specs.declared.Refusal.{Refusal}
use Rattle.definition.specs.declared.Refusal.TheVariants.{Stack}
use Rattle.machine.specs.Kinds.{kind_of}
use Rattle.machine.specs.Spent.{budget_of}
use Rattle.tree_records.specs.Holds.{Names, Spare, Holds, Ready, Took}
use Rattle.tree_records.specs.declared.Record.{Record}
use Rattle.tree_records.specs.declared.State.{State}
use Rattle.tree_records.specs.declared.Trees.{Trees}

-- nothing is counted, made, on the stack or remembered
pub record Fresh (st : State) : Type 0 where
  pub budget : budget_of st.budget ≡ B.fresh
  pub top : st.top ≡ 0
  pub depth : st.depth ≡ 0
  pub seen : st.seen ≡ 0

-- the workspace r is lent, and no tree is made
pub record Begun (r : MutBor (List ℕ)) (N : ℕ) (s : Trees) : Type 0 where
  pub slice : s.ws.now ≡ r.now
  pub name : s.ws.ghost_name ≡ r.ghost_name
  pub ceiling : s.n ≡ N
  pub fresh : Fresh s.state

-- the slice that is lent and the ceiling stay
pub record Stays (t t' : Trees) : Type 0 where
  pub slice : t'.ws.ghost_name ≡ t.ws.ghost_name
  pub ceiling : t'.n ≡ t.n

-- nothing is written
pub record Reads (t t' : Trees) : Type 0 where
  pub slice : t'.ws ≡ t.ws
  pub ceiling : t'.n ≡ t.n

abbrev pub numbers : Record → List ℕ
numbers r = kind_of r.kind ∷ r.size ∷ r.count ∷ r.a ∷ r.b ∷ r.c ∷ r.d ∷ r.e ∷ []

-- the trees hold some machine, with that much to spare
abbrev pub Has : Trees → Spare → Type 0
Has t sp = Ready t.ws.now t.n t.state sp

-- the state with one place less on the stack
abbrev pub popped : State → State
popped st = record { budget = st.budget; top = st.top; depth = st.depth - 1; seen = st.seen }

-- nothing is on the stack
abbrev pub Bare : Trees → Type 0
Bare t = (nm : Names) (sp : Spare) (m : Demangler) → Holds nm t.ws.now t.n t.state sp m → m.stack ≡ []

abbrev pub Peeks : Trees → Option ℕ → Type 0
Peeks t (Some p) = Took t.ws.now t.n t.state p (popped t.state)
Peeks t None = Bare t

abbrev pub Pops : (t t' : Trees) → Result ℕ Refusal → Type 0
Pops t t' (Ok p) = Took t.ws.now t.n t.state p t'.state
Pops t t' (Err r) = Bare t × (r ≡ Stack) × (t' ≡ t)
