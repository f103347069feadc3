-- `standard_type`: the three arrays are the definition's table, by one computed test of its letters
-- and one of its entries. Assumes nothing.
use Rattle.std.proofs.Common.{refl, sym}
use denote.Enum.Declared.{tag_of}
use Rattle.definition.specs.Operators.{opened, standard_types}
use Rattle.definition.specs.Enums.{nominal_kind}
use Rattle.operator_names.specs.Fixed.{fixed, fixed_names}
use Rattle.operator_names.specs.contracts.Name.{the_type}
use Rattle.operator_operands.specs.declared.standard_types.TheConstants.{STANDARD_LETTERS, STANDARD_KINDS, STANDARD_NAMES}
use Rattle.operator_operands.proofs.standard_types.StandardTables.{letters, entries, rows, pick_none, pick_row}
use Rattle.operator_operands.proofs.standard_types.standard_type.Goals as goal

pub returns-in_err-i : goal.returns-in_err-i
unfolding opened letters
returns-in_err-i c = rw c.from_residual.ensures (sym (pick_none c.args.b standard_types {ls = STANDARD_LETTERS} refl (sym c.in_err-i.ensures)))

pub returns : goal.returns
unfolding opened letters entries rows fixed fixed_names nominal_kind
returns c = sym (pick_row nominal_kind (λ n. fixed (tag_of the_type n)) c.args.b standard_types STANDARD_LETTERS STANDARD_KINDS STANDARD_NAMES c.in_ok-i.i _ _ refl refl refl refl (sym c.in_ok-i.ensures))
