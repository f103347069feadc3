-- How the machine of the check is stored in a workspace. Entry i is in the three numbers from 3 × i
-- on. The entries of the stack begin at 0, the remembered ones at the ceiling.
use Rattle.std.specs.Prelude.{◌≡◌, List, [], ◌∷◌, ◌++◌, ℕ, zero, suc, ◌+◌, ◌*◌, ◌^◌, ◌≤◌, length, get_or}
use Rattle.std.specs.Borrow.{MutBor}
use Rattle.definition.specs.Kind as K
use Rattle.definition.specs.Budget as B
use Rattle.definition.specs.Machine as M
use Rattle.definition.specs.Shape as C
use Rattle.definition.proofs.Room.{weigh, Sized}
use Rattle.machine.specs.Spent.{budget_of}
use Rattle.check_entries.specs.declared.Entry.{Entry}
use Rattle.check_entries.specs.declared.State.{State}
use Rattle.check_entries.specs.declared.Entries.{Entries}

abbrev pub entry_of : Entry → K.Entry
entry_of e = K.entry e.kind e.size e.count

abbrev pub entry_at : List ℕ → ℕ → K.Entry
entry_at w i = K.entry (get_or w (3 * i) 0) (get_or w (3 * i + 1) 0) (get_or w (3 * i + 2) 0)

-- d entries, the last pushed first
unfoldable pub stack_of : List ℕ → ℕ → List K.Entry
stack_of w zero = []
stack_of w (suc d) = entry_at w d ∷ stack_of w d

-- n entries from place N on, the oldest first
unfoldable pub seen_of : List ℕ → (N : ℕ) → ℕ → List K.Entry
seen_of w N zero = []
seen_of w N (suc n) = seen_of w N n ++ (entry_at w (N + n) ∷ [])

-- the machine that the workspace holds
abbrev pub machine_of : Entries → C.Shapes
machine_of s = M.machine (budget_of s.state.budget) (stack_of s.ws.now s.state.depth) (seen_of s.ws.now s.ceiling s.state.seen) s.state.words

-- the sum of the sizes on the stack
abbrev pub load : Entries → ℕ
load s = weigh (stack_of s.ws.now s.state.depth)

-- the stack is stored in the workspace, each of its entries is at least one node, and there are not
-- too many
pub record Held (s : Entries) : Type 0 where
  pub inside : 3 * s.state.depth ≤ length s.ws.now
  pub sized : Sized (stack_of s.ws.now s.state.depth)
  pub light : load s ≤ 2 ^ 20

-- nothing is counted, on the stack or remembered
pub record Fresh (st : State) : Type 0 where
  pub budget : budget_of st.budget ≡ B.fresh
  pub depth : st.depth ≡ 0
  pub seen : st.seen ≡ 0
  pub words : st.words ≡ 0

-- the workspace r is lent, and the state is the first
pub record Begun (r : MutBor (List ℕ)) (N : ℕ) (s : Entries) : Type 0 where
  pub now : s.ws.now ≡ r.now
  pub name : s.ws.ghost_name ≡ r.ghost_name
  pub ceiling : s.ceiling ≡ N
  pub fresh : Fresh s.state

-- the same workspace is lent, with the same ceiling
pub record Lent (s t : Entries) : Type 0 where
  pub name : t.ws.ghost_name ≡ s.ws.ghost_name
  pub ceiling : t.ceiling ≡ s.ceiling
