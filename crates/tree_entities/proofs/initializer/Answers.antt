use Rattle.std.proofs.Common.{arith}
use Rattle.tree_nodes.proofs.Cases.{flagged}
use Rattle.tree_records.proofs.Exits.{failed}
use Rattle.tree_nodes.proofs.Ready.{ready_none}
use Rattle.tree_entities.proofs.Operating.{has_typed, typed_treed, after_labels, initializer_untyped, initializer_labelless, initializer_alone, initializer_entity, initializer_room, initializer_done}
use Rattle.tree_entities.proofs.initializer.Goals as goal

pub returns-in_err-ty-clause-operates : goal.returns-in_err-ty-clause-operates
returns-in_err-ty-clause-operates c = rw (failed c.from_residual.ensures.1) (initializer_untyped c.args.allocating _ c.in_err-ty.ensures.takes)

pub labels-requires-clause-ready : goal.labels-requires-clause-ready
labels-requires-clause-ready c = ready_none (has_typed c.initializer_type.ensures.stays c.in_ok-ty.ensures.takes (omega arith) c.requires)

pub labels-requires-clause-treed : goal.labels-requires-clause-treed
labels-requires-clause-treed c = typed_treed c.in_ok-ty.ensures.takes (omega arith) c.requires

pub returns-in_err-labelled-clause-operates : goal.returns-in_err-labelled-clause-operates
returns-in_err-labelled-clause-operates c = rw (failed c.from_residual-in_err-labelled.ensures.1) (initializer_labelless c.args.allocating c.in_ok-ty.ensures.takes c.requires (rw c.initializer_type.ensures.stays.ceiling at c.in_err-labelled.ensures.takes))

pub context-requires : goal.context-requires
context-requires c = rw (c.labels.ensures.stays.ceiling, c.initializer_type.ensures.stays.ceiling) (ready_none (after_labels c.in_ok-ty.ensures.takes (omega arith) (rw c.initializer_type.ensures.stays.ceiling at c.in_ok-labelled.ensures.takes) c.requires))

pub returns-in_err-home-clause-operates : goal.returns-in_err-home-clause-operates
returns-in_err-home-clause-operates c = rw (failed c.from_residual-in_err-home.ensures.1) (initializer_alone c.args.allocating c.in_ok-ty.ensures.takes (rw c.initializer_type.ensures.stays.ceiling at c.in_ok-labelled.ensures.takes) c.requires ((rw (c.labels.ensures.stays.ceiling, c.initializer_type.ensures.stays.ceiling) at c.in_err-home.ensures.takes.refuses), (rw (c.labels.ensures.stays.ceiling, c.initializer_type.ensures.stays.ceiling) at c.in_err-home.ensures.takes.beyond)))

pub push_entity-requires-clause-entity : goal.push_entity-requires-clause-entity
push_entity-requires-clause-entity c = rw (c.context.ensures.stays.ceiling, c.labels.ensures.stays.ceiling, c.initializer_type.ensures.stays.ceiling) (initializer_entity c.args.allocating c.in_ok-ty.ensures.takes (rw c.initializer_type.ensures.stays.ceiling at c.in_ok-labelled.ensures.takes) c.requires (rw (c.labels.ensures.stays.ceiling, c.initializer_type.ensures.stays.ceiling) at c.in_ok-home.ensures.takes))

pub push_entity-requires-clause-inside : goal.push_entity-requires-clause-inside
push_entity-requires-clause-inside c = rw (c.context.ensures.stays.ceiling, c.labels.ensures.stays.ceiling, c.initializer_type.ensures.stays.ceiling) (initializer_room c.args.allocating c.in_ok-ty.ensures.takes (rw c.initializer_type.ensures.stays.ceiling at c.in_ok-labelled.ensures.takes) c.requires (rw (c.labels.ensures.stays.ceiling, c.initializer_type.ensures.stays.ceiling) at c.in_ok-home.ensures.takes))

pub returns-clause-operates : goal.returns-clause-operates
returns-clause-operates c = initializer_done c.args.allocating c.in_ok-ty.ensures.takes (rw c.initializer_type.ensures.stays.ceiling at c.in_ok-labelled.ensures.takes) c.requires (rw (c.labels.ensures.stays.ceiling, c.initializer_type.ensures.stays.ceiling) at c.in_ok-home.ensures.takes) _ (flagged _ c.from.ensures) (rw (c.context.ensures.stays.ceiling, c.labels.ensures.stays.ceiling, c.initializer_type.ensures.stays.ceiling) at c.push_entity.ensures.left)
