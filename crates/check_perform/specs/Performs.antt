-- What the results over a workspace say about the definition's rows.
use Rattle.std.specs.Prelude.{◌≡◌, Bool, true, false, ◌&&◌, ◌||◌, not, List, [], ◌∷◌, ℕ, ◌+◌, ◌*◌, ◌^◌, ◌≤◌, ◌<◌, length, Result, Ok, Err}
use Rattle.std.proofs.Math.Option.{Option as Maybe}
use Rattle.definition.specs.Base.{given, refused, Done, ◌>>=◌}
use Rattle.definition.specs.Kind as K
use Rattle.definition.specs.Machine as M
use Rattle.definition.proofs.Room.{Fits}
use Rattle.definition.specs.Shape as C
use Rattle.definition.specs.Shape.{Check}
use Prim.Native.String.{String}
use Rattle.definition.specs.Enums as Enums
use Rattle.definition.specs.Enums.{number}
use Rattle.definition.specs.declared.Operator.{Operator}
use Rattle.definition.specs.declared.Refusal.{Refusal}
use Rattle.check_entries.specs.Lies.{machine_of, entry_of, load, Held, Lent}
use Rattle.check_entries.specs.Stores.{Performing}
use Rattle.check_entries.specs.declared.Entry.{Entry}
use Rattle.check_entries.specs.declared.Entries.{Entries}
use Rattle.check_rows.specs.Table.{leaves_of}
use Rattle.check_rows.specs.declared.Row.{Row}
use Rattle.check_takes.specs.Taken.{taken_of}
use Rattle.check_takes.specs.Takes.{grows, resets}
use Rattle.check_takes.specs.declared.sums.Taken.{Taken}

-- there is room to add up all entries on the stack
pub record Light (s : Entries) : Type 0 where
  pub held : Held s
  pub light : load s + 10 ≤ 2 ^ 20
  pub few : s.state.depth < 2 ^ 32

-- a list never continues from the count of an entry
unfoldable pub any_grows : List C.Take → Bool
any_grows [] = false
any_grows (t ∷ ts) = grows t || any_grows ts

abbrev pub unless_grown : Bool → Bool → Bool
unless_grown true b = not b
unless_grown false b = true

unfoldable pub good : List C.Take → Bool
good [] = true
good (t ∷ ts) = unless_grown (resets t) (any_grows ts) && good ts

-- such takes, ten at most
pub record ShortTakes (ts : List C.Take) : Type 0 where
  pub good : good ts ≡ true
  pub short : length ts ≤ 10

-- the takes give b and end with the machine of t, whatever is done then
pub record RowWent (ts : List C.Take) (s : Entries) (b : Taken) (t : Entries) : Type 0 where
  pub is : (k : C.Taken → Check Done) → C.taking ts (C.taken 0 0 false) k (machine_of s) ≡ k (taken_of b) (machine_of t)
  pub depth : t.state.depth ≤ s.state.depth
  pub size : b.size + load t ≤ load s + 10
  pub small : b.count < 2 ^ 32
  pub seen : t.state.seen ≡ s.state.seen
  pub total : t.state.budget.total ≡ s.state.budget.total
  pub unwritten : t.ws.now ≡ s.ws.now
  pub lent : Lent s t

pub record RowRefused (ts : List C.Take) (s t : Entries) (r : Refusal) : Type 0 where
  pub is : (k : C.Taken → Check Done) → C.taking ts (C.taken 0 0 false) k (machine_of s) ≡ refused (number r)
  pub unwritten : t.ws.now ≡ s.ws.now
  pub lent : Lent s t

abbrev pub RowTaking : List C.Take → (s t : Entries) → Result Taken Refusal → Type 0
RowTaking ts s t (Ok b) = RowWent ts s b t
RowTaking ts s t (Err r) = RowRefused ts s t r

-- a row leaves at least one node of its own, and at most five
pub record Owns (r : Row) : Type 0 where
  pub one : 1 ≤ r.own
  pub few : r.own ≤ 5

-- the entry that a row leaves
pub record LeftBy (r : Row) (a : Taken) (e : Entry) : Type 0 where
  pub is : entry_of e ≡ C.left (leaves_of r) (taken_of a)
  pub one : 1 ≤ e.size

-- an entry is pushed, or that many copies of it
abbrev pub put : (N : ℕ) → Maybe ℕ → K.Entry → Check Done
put N c e = given c (M.push e) (λ times. C.copied N times e)

-- a remembered entry, and that many copies of it
abbrev pub recall_copies : (N : ℕ) → (times index : ℕ) → Check Done
recall_copies N times index = M.recall index >>= λ e. C.copied N times e

-- there is room for one more entry on the stack
pub record Puts (s : Entries) : Type 0 where
  pub long : 8 * s.ceiling ≤ length s.ws.now
  pub ceiling : s.ceiling ≤ 65536
  pub total : s.state.budget.total ≤ s.ceiling
  pub deep : s.state.depth + 1 ≤ s.state.budget.total

-- the workspace holds a machine that fits its charged total, where j of the charge is not used yet:
-- 1 at the beginning of an operator, 0 after it
pub record Sound (j : ℕ) (s : Entries) : Type 0 where
  pub long : 8 * s.ceiling ≤ length s.ws.now
  pub ceiling : s.ceiling ≤ 65536
  pub total : s.state.budget.total ≤ s.ceiling
  pub fits : Fits j (machine_of s)

-- there is room for one more entry on the stack, and for one more that is remembered
pub record Roomy (s : Entries) : Type 0 where
  pub long : 8 * s.ceiling ≤ length s.ws.now
  pub ceiling : s.ceiling ≤ 65536
  pub total : s.state.budget.total ≤ s.ceiling
  pub deep : s.state.depth + 1 ≤ s.state.budget.total
  pub seen : s.state.seen + 1 ≤ s.state.budget.total

-- the row of the operator in the definition's table, for any fixed names
abbrev pub Performs : Operator → (s t : Entries) → Result Done Refusal → Type 0
Performs op s t r = (fixed : ℕ → String) → Performing (C.run_row s.ceiling (C.row (Enums.operator fixed op))) s t r
