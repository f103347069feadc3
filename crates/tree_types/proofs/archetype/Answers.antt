use Rattle.std.proofs.Common.{refl, arith}
use Rattle.definition.specs.Enums as E
use Rattle.definition.specs.Perform as R
use Rattle.tree_records.proofs.Exits.{failed}
use Rattle.tree_nodes.proofs.Ready.{ready_none}
use Rattle.tree_nodes.proofs.Steps.{refuses_first, fails}
use Rattle.tree_nodes.proofs.Trees.{has_named, place_at, room_at}
use Rattle.tree_types.proofs.Archetypes.{after_made, archetype_done}
use Rattle.tree_types.proofs.archetype.Goals as goal

pub assoc_type_name-requires : goal.assoc_type_name-requires
assoc_type_name-requires c = ready_none c.requires

pub returns-in_err-name-clause-operates : goal.returns-in_err-name-clause-operates
unfolding R.archetype
returns-in_err-name-clause-operates c = rw (failed c.from_residual.ensures.1) (fails (λ _. refuses_first _ c.in_err-name.ensures.takes))

pub generic_param-base-requires : goal.generic_param-base-requires
generic_param-base-requires c = room_at (has_named c.assoc_type_name.ensures.reads c.in_ok-name.ensures.takes c.requires) (omega arith) (omega arith) (omega arith)

pub overflow_cast-base : goal.overflow_cast-base
overflow_cast-base c = place_at (after_made c.generic_param-base.ensures.makes (omega arith) (has_named c.assoc_type_name.ensures.reads c.in_ok-name.ensures.takes c.requires)) _ c.generic_param-base.ensures.makes.below

pub push_kept-requires : goal.push_kept-requires
push_kept-requires c = rw c.generic_param-base.ensures.stays.ceiling (room_at (after_made c.generic_param-base.ensures.makes (omega arith) (has_named c.assoc_type_name.ensures.reads c.in_ok-name.ensures.takes c.requires)) (omega arith) (omega arith) (omega arith))

pub returns-clause-operates : goal.returns-clause-operates
returns-clause-operates c = archetype_done (E.param c.args.param) _ _ refl c.in_ok-name.ensures.takes (rw (c.assoc_type_name.ensures.reads.slice, c.assoc_type_name.ensures.reads.ceiling) at c.generic_param-base.ensures.makes) (rw (c.generic_param-base.ensures.stays.ceiling, c.assoc_type_name.ensures.reads.ceiling) at c.push_kept.ensures.kept)
