use Rattle.operator_names.proofs.Rows.{told_at}
use Rattle.operator_names.proofs.name_at.Goals as goal

pub returns : goal.returns
returns c = record { is = told_at _ _ c.args.i c.requires }
