-- What a budget and an answer about one say about the definition's.
use Rattle.std.specs.Prelude.{◌≡◌, Result, Ok, Err}
use Rattle.definition.specs.Base.{Out, ok, refused, Done}
use Rattle.definition.specs.Budget as Definition
use Rattle.definition.specs.Enums.{number}
use Rattle.definition.specs.declared.Refusal.{Refusal}
use Rattle.machine.specs.declared.budget.Budget.{Budget}

abbrev pub budget_of : Budget → Definition.Budget
budget_of b = Definition.budget b.steps b.total b.wraps

abbrev pub Spending : Out Definition.Budget Done → Result Budget Refusal → Type 0
Spending out (Ok b) = out ≡ ok tt (budget_of b)
Spending out (Err f) = out ≡ refused (number f)
