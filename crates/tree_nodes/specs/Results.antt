-- What a step leaves, for the definitions: a result together with the state after it.
use Rattle.std.specs.Prelude.{Bool, ℕ}
use Rattle.definition.specs.declared.Refusal.{Refusal}
use Rattle.tree_records.specs.declared.State.{State}

-- whether a marker was on top, and the state without it
pub record Marked : Type 0 where
  pub taken : Bool
  pub next : State

-- the place of a node that was made, and the state after that
pub record Placed : Type 0 where
  pub place : ℕ
  pub next : State

-- the state after an operator, or its refusal
pub data Step : Type 0 where
  Done : State → Step
  Refused : Refusal → Step
