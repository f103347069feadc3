-- `requirement`: in the arm of a letter, what its step reads is read after the letter. Assumes nothing.
use Rattle.std.proofs.Common.{ℕ, rules, ap}
use Rattle.definition.specs.Base.{pick}
use Rattle.definition.specs.Operators.{opened, requirements}
use Rattle.definition.specs.Enums.{constraint}
use Rattle.operator_letters.proofs.Choices.{required, required_index}
use Rattle.operator_letters.proofs.requirement.Goals as goal

pub returns-in-112 : goal.returns-in-112
unfolding opened constraint
returns-in-112 c = required c.in_ok-next.ensures.says (ap (λ (x : ℕ). pick x requirements) c.in-112.is) c.requiring.ensures

pub returns-in-81 : goal.returns-in-81
unfolding opened constraint
returns-in-81 c = required c.in_ok-next.ensures.says (ap (λ (x : ℕ). pick x requirements) c.in-81.is) c.requiring-in-81.ensures

pub returns-in-98 : goal.returns-in-98
unfolding opened constraint
returns-in-98 c = required c.in_ok-next.ensures.says (ap (λ (x : ℕ). pick x requirements) c.in-98.is) c.requiring-in-98.ensures

pub returns-in-66 : goal.returns-in-66
unfolding opened constraint
returns-in-66 c = required c.in_ok-next.ensures.says (ap (λ (x : ℕ). pick x requirements) c.in-66.is) c.requiring-in-66.ensures

pub returns-in-99 : goal.returns-in-99
unfolding opened constraint
returns-in-99 c = required c.in_ok-next.ensures.says (ap (λ (x : ℕ). pick x requirements) c.in-99.is) c.requiring-in-99.ensures

pub returns-in-115 : goal.returns-in-115
unfolding opened constraint
returns-in-115 c = required c.in_ok-next.ensures.says (ap (λ (x : ℕ). pick x requirements) c.in-115.is) c.requiring-in-115.ensures

pub returns-in-83 : goal.returns-in-83
unfolding opened constraint
returns-in-83 c = required c.in_ok-next.ensures.says (ap (λ (x : ℕ). pick x requirements) c.in-83.is) c.requiring-in-83.ensures

pub returns-in-116 : goal.returns-in-116
unfolding opened constraint
returns-in-116 c = required c.in_ok-next.ensures.says (ap (λ (x : ℕ). pick x requirements) c.in-116.is) c.requiring-in-116.ensures

pub returns-in-108 : goal.returns-in-108
unfolding opened constraint
returns-in-108 c = required c.in_ok-next.ensures.says (ap (λ (x : ℕ). pick x requirements) c.in-108.is) c.requiring_layout.ensures

pub returns-in-76 : goal.returns-in-76
unfolding opened constraint
returns-in-76 c = required c.in_ok-next.ensures.says (ap (λ (x : ℕ). pick x requirements) c.in-76.is) c.requiring_layout-in-76.ensures

pub returns-in-109 : goal.returns-in-109
unfolding opened constraint
returns-in-109 c = required c.in_ok-next.ensures.says (ap (λ (x : ℕ). pick x requirements) c.in-109.is) c.requiring_layout-in-109.ensures

pub returns-in_default : goal.returns-in_default
unfolding opened constraint
returns-in_default c = required_index c.in_ok-next.ensures.says (search rules) c.requiring-in_default.ensures
