-- `metatype_record`: the goals at which the search stops. Assumes nothing.
use Rattle.std.proofs.Common.{refl, rules}
use Rattle.definition.specs.Operators.{opened, metatype_records}
use Rattle.definition.specs.Enums.{number, operator, about}
use Rattle.operator_names.specs.Fixed.{fixed, fixed_names}
use Rattle.operator_letters.proofs.Choices.{chosen_then, no_choice_then}
use Rattle.operator_letters.proofs.metatype_record.Goals as goal

pub returns-in-100 : goal.returns-in-100
unfolding opened operator about fixed fixed_names
returns-in-100 c = record { says = chosen_then metatype_records c.in_ok-next.ensures.says c.in-100.is refl; text = c.in_ok-next.ensures.text }

pub returns-in_default : goal.returns-in_default
unfolding opened number
returns-in_default c = record { says = no_choice_then metatype_records c.in_ok-next.ensures.says (search rules); text = c.in_ok-next.ensures.text }
