use Rattle.definition.specs.Enums as Enums
use Rattle.tree_nodes.proofs.Making.{standard_made}
use Rattle.tree_nodes.proofs.leave.standard_nominal.Goals as goal

pub returns-clause-makes : goal.returns-clause-makes
returns-clause-makes c =
    let s = c.grow-module.ensures.stays in
    rw c.grow.ensures.place (standard_made (Enums.nominal_kind c.args.kind) c.args.name _ _ _ c.from.ensures c.fixed_number.ensures c.grow-module.ensures.place c.grow-module.ensures.grew (rw s.ceiling at c.grow.ensures.grew))
