-- What the records of entities say about the definition's steps.
use Rattle.std.specs.Prelude.{◌≡◌, List, ℕ, ◌+◌, ◌≤◌, ◌<◌}
use Rattle.std.proofs.Math.Option.{Option, some, none}
use Prim.Native.String.{String}
use Rattle.definition.specs.Base.{Name, Late, good, bad, judge, refused, Done, ◌>>=◌}
use Rattle.definition.specs.Node.{Node, Variable, size}
use Rattle.definition.specs.Perform.{Demangler, Run, accessed}
use Rattle.definition.specs.Machine.{push}
use Rattle.definition.specs.Enums.{number}
use Rattle.definition.specs.declared.Accessor.{Accessor}
use Rattle.tree_nodes.specs.Results.{Step}
use Rattle.tree_records.specs.Lies.{at, Lies}
use Rattle.tree_records.specs.Holds.{Fixed, Names, Named, Spare, Holds}
use Rattle.tree_records.specs.declared.State.{State}
use Rattle.machine.specs.Beyond.{Beyond}
use Rattle.tree_nodes.specs.Gives.{most, spare, Ran}

-- ENTITIES
-- the trees at c and ty may be children of a record that is made
pub record Entity (w : List ℕ) (N : ℕ) (st : State) (c ty : ℕ) : Type 0 where
  pub c_below : c < st.top
  pub ty_below : ty < st.top
  pub c_small : at w c 1 ≤ most
  pub ty_small : at w ty 1 ≤ most

-- the rest of an operator, from a machine with that much to spare
abbrev pub Ends : Run Done → Names → Spare → (w w' : List ℕ) (N : ℕ) (st : State) → Step → Type 0
Ends f nm sp w w' N st (Step.Done u) = (m : Demangler) → Holds nm w N st sp m → Ran f nm w' N u m
Ends f nm sp w w' N st (Step.Refused r) = (m : Demangler) → Holds nm w N st sp m → f m ≡ refused (number r)

-- the letter of `v`
abbrev pub letter : (ℕ → String) → Accessor → Late (Option String)
letter fixed Accessor.Itself = good none
letter fixed (Accessor.Named n) = good (some (fixed n))
letter fixed Accessor.Broken = bad 9

abbrev pub variable_end : Late (Option String) → Node → Run Done
variable_end l v = judge l >>= λ a. push (accessed v a)

-- a variable or its accessor is pushed
pub record LeavesVariable (accessor : Accessor) (w w' : List ℕ) (N : ℕ) (st : State) (name c ty : ℕ) (r : Step) : Type 0 where
  pub ends : (nm : Names) (n : Name) (x t : Node) → Fixed nm.fixed → Named nm name n → Lies (Named nm) x w c → Lies (Named nm) t w ty → Ends (variable_end (letter nm.fixed accessor) (Variable x n t)) nm (spare 7 1 (size x + size t + 2) 0) w w' N st r
  pub beyond : Beyond 64 N w w'
