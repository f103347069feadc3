-- The results of lists of entries.
use Rattle.std.specs.Prelude.{◌≡◌, ℕ, suc, ◌+◌, ◌^◌, ◌≤◌, ◌<◌, Result, Ok, Err}
use Rattle.std.specs.declared.ops.ControlFlow.{ControlFlow}
use Rattle.std.specs.declared.ops.ControlFlow.TheVariants.{Break, Continue}
use Rattle.definition.specs.Base.{ok, refused, Done, ◌>>=◌}
use Rattle.definition.specs.Machine as M
use Rattle.definition.specs.Machine.{rounds}
use Rattle.definition.specs.Shape as C
use Rattle.definition.specs.Shape.{Check}
use Rattle.definition.specs.Enums.{number}
use Rattle.definition.specs.declared.Refusal.{Refusal}
use Rattle.check_entries.specs.Lies.{machine_of, load, Held, Lent}
use Rattle.check_entries.specs.EntriesTaken.{Refuses}
use Rattle.check_entries.specs.declared.Entries.{Entries}
use Rattle.check_takes.specs.Taken.{taken_of}
use Rattle.check_takes.specs.declared.sums.Taken.{Taken}

-- one of the labels
abbrev pub one_label : Check Done
one_label = M.pop C.kind_of >>= C.label_in

-- there is room to add the entries on the stack to what was taken
pub record Adds (s : Entries) (a : Taken) : Type 0 where
  pub held : Held s
  pub light : a.size + load s ≤ 2 ^ 20
  pub few : a.count + s.state.depth < 2 ^ 32

-- what was added to a, to make b, was removed from the stack; nothing is written, charged or
-- remembered
pub record Gathered (s : Entries) (a : Taken) (t : Entries) (b : Taken) : Type 0 where
  pub depth : t.state.depth ≤ s.state.depth
  pub size : b.size + load t ≤ a.size + load s
  pub count : b.count + t.state.depth ≤ a.count + s.state.depth
  pub seen : t.state.seen ≡ s.state.seen
  pub total : t.state.budget.total ≡ s.state.budget.total
  pub unwritten : t.ws.now ≡ s.ws.now
  pub lent : Lent s t

-- one round of a loop: it is the last, there are more, or it is refused
pub record Last (E : ℕ → C.Taken → Check C.Taken) (s : Entries) (a : Taken) (t : Entries) (b : Taken) : Type 0 where
  pub is : (f : ℕ) → E (suc f) (taken_of a) (machine_of s) ≡ ok (taken_of b) (machine_of t)
  pub gathered : Gathered s a t b

pub record More (E : ℕ → C.Taken → Check C.Taken) (s : Entries) (a : Taken) (t : Entries) (b : Taken) : Type 0 where
  pub is : (f : ℕ) → E (suc f) (taken_of a) (machine_of s) ≡ E f (taken_of b) (machine_of t)
  pub less : t.state.depth < s.state.depth
  pub gathered : Gathered s a t b

pub record Fails (E : ℕ → C.Taken → Check C.Taken) (s : Entries) (a : Taken) (t : Entries) (r : Refusal) : Type 0 where
  pub is : (f : ℕ) → E (suc f) (taken_of a) (machine_of s) ≡ refused (number r)
  pub unwritten : t.ws.now ≡ s.ws.now
  pub lent : Lent s t

abbrev pub Rounding : (ℕ → C.Taken → Check C.Taken) → Entries → Taken → Entries → Result (ControlFlow Taken Taken) Refusal → Type 0
Rounding E s a t (Ok (Break b)) = Last E s a t b
Rounding E s a t (Ok (Continue b)) = More E s a t b
Rounding E s a t (Err r) = Fails E s a t r

-- a whole list
abbrev pub all_of : (ℕ → C.Taken → Check C.Taken) → C.Taken → Check C.Taken
all_of E a = rounds >>= λ f. E f a

pub record Gathers (f : Check C.Taken) (s : Entries) (a : Taken) (t : Entries) (b : Taken) : Type 0 where
  pub is : f (machine_of s) ≡ ok (taken_of b) (machine_of t)
  pub gathered : Gathered s a t b

abbrev pub Gathering : Check C.Taken → Entries → Taken → Entries → Result Taken Refusal → Type 0
Gathering f s a t (Ok b) = Gathers f s a t b
Gathering f s a t (Err r) = Refuses f s t r
