-- What writes to a workspace say about the definition's machine.
use Rattle.std.specs.Prelude.{◌≡◌, List, ℕ, ◌+◌, ◌*◌, ◌≤◌, ◌<◌, length, get_or, Result, Ok, Err}
use Rattle.definition.specs.Base.{ok, refused, Done}
use Rattle.definition.specs.Shape.{Check}
use Rattle.definition.specs.Enums.{number}
use Rattle.definition.specs.declared.Refusal.{Refusal}
use Rattle.machine.specs.Beyond.{Beyond}
use Rattle.check_entries.specs.Lies.{machine_of, entry_of, entry_at, Lent}
use Rattle.check_entries.specs.declared.Entry.{Entry}
use Rattle.check_entries.specs.declared.Entries.{Entries}

-- WRITING
-- entry e was stored at place i of the workspace w
pub record Stored (w w₁ : List ℕ) (i : ℕ) (e : Entry) : Type 0 where
  pub long : length w₁ ≡ length w
  pub there : entry_at w₁ i ≡ entry_of e
  pub below : (k : ℕ) → k < 3 * i → get_or w₁ k 0 ≡ get_or w k 0
  pub above : (k : ℕ) → 3 * i + 3 ≤ k → get_or w₁ k 0 ≡ get_or w k 0

-- an entry was stored, and the rest is unchanged
pub record Storing (s t : Entries) (i : ℕ) (e : Entry) : Type 0 where
  pub stored : Stored s.ws.now t.ws.now i e
  pub state : t.state ≡ s.state
  pub lent : Lent s t

-- what the step may write: the first numbers of the lent workspace
pub record Wrote (s t : Entries) : Type 0 where
  pub outside : Beyond 8 s.ceiling s.ws.now t.ws.now
  pub lent : Lent s t

-- the step ends with the machine of t
pub record Did (f : Check Done) (s t : Entries) : Type 0 where
  pub is : f (machine_of s) ≡ ok tt (machine_of t)
  pub wrote : Wrote s t

pub record Failed {A : Type 0} (f : Check A) (s t : Entries) (r : Refusal) : Type 0 where
  pub is : f (machine_of s) ≡ refused (number r)
  pub wrote : Wrote s t

abbrev pub Performing : Check Done → (s t : Entries) → Result Done Refusal → Type 0
Performing f s t (Ok u) = Did f s t
Performing f s t (Err r) = Failed f s t r

-- one more entry is remembered, and the rest of the state is unchanged
pub record Remembered (f : Check Done) (s t : Entries) : Type 0 where
  pub did : Did f s t
  pub depth : t.state.depth ≡ s.state.depth
  pub budget : t.state.budget ≡ s.state.budget
  pub seen : t.state.seen ≤ s.state.seen + 1
