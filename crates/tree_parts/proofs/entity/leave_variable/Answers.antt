use Rattle.tree_parts.proofs.entity.Leavings.{leaves_itself, leaves_accessor, leaves_broken}
use Rattle.tree_parts.proofs.entity.leave_variable.Goals as goal

pub returns-in-Itself-clause-leaves : goal.returns-in-Itself-clause-leaves
returns-in-Itself-clause-leaves c = leaves_itself c.requires.entity _ c.in-Itself.is c.push_entity.ensures.left

pub returns-in-Named-clause-leaves : goal.returns-in-Named-clause-leaves
returns-in-Named-clause-leaves c =
    let g = c.entity-place.ensures in
    leaves_accessor c.requires.entity _ _ _ c.in-Named.is c.fixed_number.ensures g.grew (rw (g.stays.ceiling, g.place) at c.push_over.ensures.left)

pub returns-in-Broken-clause-leaves : goal.returns-in-Broken-clause-leaves
returns-in-Broken-clause-leaves c = leaves_broken c.requires.entity _ c.in-Broken.is
