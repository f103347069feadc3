use Rattle.std.proofs.Common.{refl}
use Rattle.tree_requirements.proofs.Requirements.{member_made, made_room, made_place}
use Rattle.tree_requirements.proofs.member.Goals as goal

pub overflow_cast-base : goal.overflow_cast-base
overflow_cast-base c = record { fits = made_place c.requires c.generic_param-base.ensures.makes }

pub grow-requires : goal.grow-requires
grow-requires c = rw c.generic_param-base.ensures.stays.ceiling (made_room c.requires c.generic_param-base.ensures.makes)

pub returns-clause-makes : goal.returns-clause-makes
returns-clause-makes c = rw c.grow.ensures.place (member_made c.generic_param-base.ensures.makes refl (rw c.generic_param-base.ensures.stays.ceiling at c.grow.ensures.grew))
