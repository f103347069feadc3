-- What is taken from the stack, and how a turn begins, without a write to the workspace.
use Rattle.std.specs.Prelude.{◌≡◌, Bool, true, false, ℕ, ◌+◌, ◌-◌, ◌≤◌, Option, Some, None, Result, Ok, Err}
use Rattle.std.proofs.Math.Option.{Option as Maybe, some, none}
use Rattle.definition.specs.Base.{ok, refused, Done, ret, is_some, ◌>>=◌, ◌>>◌}
use Rattle.definition.specs.Budget as B
use Rattle.definition.specs.Kind as K
use Rattle.definition.specs.Shape.{Check}
use Rattle.definition.specs.Shape as C
use Rattle.definition.specs.Enums.{number}
use Rattle.definition.specs.declared.Refusal.{Refusal}
use Rattle.machine.specs.Spent.{budget_of}
use Rattle.check_entries.specs.Lies.{machine_of, entry_of, load, Lent}
use Rattle.check_entries.specs.declared.Entry.{Entry}
use Rattle.check_entries.specs.declared.Entries.{Entries}

-- The step gives a, and ends with the machine of t: `least` entries or more were removed from the
-- stack, and with them `size` nodes or more. Nothing is written, charged or remembered
pub record Went {A : Type 0} (f : Check A) (s t : Entries) (least size : ℕ) (a : A) : Type 0 where
  pub is : f (machine_of s) ≡ ok a (machine_of t)
  pub depth : t.state.depth + least ≤ s.state.depth
  pub lighter : load t + size ≤ load s
  pub seen : t.state.seen ≡ s.state.seen
  pub total : t.state.budget.total ≡ s.state.budget.total
  pub unwritten : t.ws.now ≡ s.ws.now
  pub lent : Lent s t

-- the step is refused, and nothing is written
pub record Refuses {A : Type 0} (f : Check A) (s t : Entries) (r : Refusal) : Type 0 where
  pub is : f (machine_of s) ≡ refused (number r)
  pub unwritten : t.ws.now ≡ s.ws.now
  pub lent : Lent s t

-- an entry was taken, or none of that kind is on top
abbrev pub Trying : Check (Maybe K.Entry) → (s t : Entries) → Option Entry → Type 0
Trying f s t (Some e) = Went f s t 1 e.size (some (entry_of e))
Trying f s t None = Went f s t 0 0 none

abbrev pub Popping : Check K.Entry → (s t : Entries) → Result Entry Refusal → Type 0
Popping f s t (Ok e) = Went f s t 1 e.size (entry_of e)
Popping f s t (Err r) = Refuses f s t r

-- the protocol that is named by an identifier and the context below it; the identifier is already
-- removed
abbrev pub named_protocol : Check K.Entry
named_protocol = C.context >>= λ c. ret (K.entry K.protocol (1 + c.size) 0)

abbrev pub Naming : (s t : Entries) → Result Entry Refusal → Type 0
Naming s t (Ok e) = Went named_protocol s t 1 (e.size - 1) (entry_of e)
Naming s t (Err r) = Refuses named_protocol s t r

-- a marker is one node
abbrev pub node : Bool → ℕ
node true = 1
node false = 0

-- whether the top is of such a kind; it is removed
abbrev pub looked : (ℕ → Bool) → Check Bool
looked want = C.try want >>= λ o. ret (is_some o)

abbrev pub Marking : Check Bool → (s t : Entries) → Bool → Type 0
Marking f s t b = Went f s t (node b) (node b) b

-- a step that only changes the state
abbrev pub Moving : Check Done → (s t : Entries) → Result Done Refusal → Type 0
Moving f s t (Ok u) = Went f s t 0 0 tt
Moving f s t (Err r) = Refuses f s t r

-- A TURN'S BEGINNING
-- a step and a charge of 1 give the budget of t, and the rest of s is unchanged
pub record Charged (s t : Entries) : Type 0 where
  pub is : (B.step >> B.charge s.ceiling 1) (budget_of s.state.budget) ≡ ok tt (budget_of t.state.budget)
  pub rest : t ≡ record s { state = record s.state { budget = t.state.budget } }

pub record NotCharged (s t : Entries) (r : Refusal) : Type 0 where
  pub is : (B.step >> B.charge s.ceiling 1) (budget_of s.state.budget) ≡ refused (number r)
  pub rest : t ≡ s

abbrev pub Begins : (s t : Entries) → Result Done Refusal → Type 0
Begins s t (Ok u) = Charged s t
Begins s t (Err r) = NotCharged s t r
