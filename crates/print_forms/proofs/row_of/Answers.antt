use Rattle.std.proofs.Common.{refl}
use Rattle.print_labels.specs.RowTexts.{rows}
use Rattle.print_forms.proofs.RowLaws.{rowed}
use Rattle.print_forms.proofs.row_of.Goals as goal

pub returns : goal.returns
unfolding rows
returns c = rowed c.form-f.ensures refl
