-- The beginning of a turn of the reading. Assumes nothing.
use Rattle.std.specs.Prelude.{◌≡◌, Result, Ok, Err}
use Rattle.definition.specs.Base.{ok, refused, Done}
use Rattle.definition.specs.Budget as B
use Rattle.definition.specs.Enums.{number}
use Rattle.definition.specs.declared.Refusal.{Refusal}
use Rattle.machine.specs.Spent.{budget_of}
use Rattle.machine.specs.declared.budget.Budget.{Budget}
use Rattle.tree_records.specs.declared.Trees.{Trees}

-- a step, then a charge of 1 give the budget of t, and the rest of s is unchanged
pub record Charged (s t : Trees) : Type 0 where
  pub stepped : Budget
  pub step : B.step (budget_of s.state.budget) ≡ ok tt (budget_of stepped)
  pub charge : B.charge s.n 1 (budget_of stepped) ≡ ok tt (budget_of t.state.budget)
  pub rest : t ≡ record s { state = record s.state { budget = t.state.budget } }

-- the step is refused, or the charge
pub data Missing (s : Trees) (r : Refusal) : Type 0 where
  no_step : B.step (budget_of s.state.budget) ≡ refused (number r) → Missing s r
  no_charge : (stepped : Budget) → B.step (budget_of s.state.budget) ≡ ok tt (budget_of stepped) → B.charge s.n 1 (budget_of stepped) ≡ refused (number r) → Missing s r

pub record NotCharged (s t : Trees) (r : Refusal) : Type 0 where
  pub missing : Missing s r
  pub rest : t ≡ s

abbrev pub Begins : (s t : Trees) → Result Done Refusal → Type 0
Begins s t (Ok u) = Charged s t
Begins s t (Err r) = NotCharged s t r
