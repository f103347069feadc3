use Rattle.std.proofs.Common.{arith}
use Rattle.tree_records.specs.Trees.{Has}
use Rattle.tree_records.proofs.Exits.{failed}
use Rattle.tree_nodes.proofs.Ready.{ready_none}
use Rattle.tree_nodes.proofs.Trees.{has_named}
use Rattle.tree_entities.proofs.Operating.{after_type, has_typed, typed_treed, after_labels, function_untyped, function_labelless, function_nameless, function_alone, function_entity, function_room, function_done}
use Rattle.tree_entities.proofs.plain_function.Goals as goal

pub returns-in_err-ty-clause-operates : goal.returns-in_err-ty-clause-operates
returns-in_err-ty-clause-operates c = rw (failed c.from_residual.ensures.1) (function_untyped _ c.in_err-ty.ensures.takes)

pub labels-requires-clause-ready : goal.labels-requires-clause-ready
labels-requires-clause-ready c = ready_none (has_typed c.plain_type.ensures.stays c.in_ok-ty.ensures.takes (omega arith) c.requires)

pub labels-requires-clause-treed : goal.labels-requires-clause-treed
labels-requires-clause-treed c = typed_treed c.in_ok-ty.ensures.takes (omega arith) c.requires

pub returns-in_err-labelled-clause-operates : goal.returns-in_err-labelled-clause-operates
returns-in_err-labelled-clause-operates c = rw (failed c.from_residual-in_err-labelled.ensures.1) (function_labelless c.in_ok-ty.ensures.takes c.requires (rw c.plain_type.ensures.stays.ceiling at c.in_err-labelled.ensures.takes))

pub pop_name-requires : goal.pop_name-requires
pop_name-requires c = rw (c.labels.ensures.stays.ceiling, c.plain_type.ensures.stays.ceiling) (ready_none (after_labels c.in_ok-ty.ensures.takes (omega arith) (rw c.plain_type.ensures.stays.ceiling at c.in_ok-labelled.ensures.takes) c.requires))

pub returns-in_err-name-clause-operates : goal.returns-in_err-name-clause-operates
returns-in_err-name-clause-operates c = rw (failed c.from_residual-in_err-name.ensures.1, c.pop_name.ensures.reads.slice) (function_nameless c.in_ok-ty.ensures.takes (rw c.plain_type.ensures.stays.ceiling at c.in_ok-labelled.ensures.takes) c.requires (rw (c.labels.ensures.stays.ceiling, c.plain_type.ensures.stays.ceiling) at c.in_err-name.ensures.takes.refuses))

pub context-requires : goal.context-requires
context-requires c = ready_none (has_named c.pop_name.ensures.reads c.in_ok-name.ensures.takes (let h : Has c.labels.new.trees after_type = rw (c.labels.ensures.stays.ceiling, c.plain_type.ensures.stays.ceiling) (after_labels c.in_ok-ty.ensures.takes (omega arith) (rw c.plain_type.ensures.stays.ceiling at c.in_ok-labelled.ensures.takes) c.requires) in h))

pub returns-in_err-home-clause-operates : goal.returns-in_err-home-clause-operates
returns-in_err-home-clause-operates c = rw (failed c.from_residual-in_err-home.ensures.1) (function_alone c.in_ok-ty.ensures.takes (rw c.plain_type.ensures.stays.ceiling at c.in_ok-labelled.ensures.takes) c.requires (rw (c.labels.ensures.stays.ceiling, c.plain_type.ensures.stays.ceiling) at c.in_ok-name.ensures.takes) ((rw (c.pop_name.ensures.reads.slice, c.pop_name.ensures.reads.ceiling, c.labels.ensures.stays.ceiling, c.plain_type.ensures.stays.ceiling) at c.in_err-home.ensures.takes.refuses), (rw (c.pop_name.ensures.reads.slice, c.pop_name.ensures.reads.ceiling, c.labels.ensures.stays.ceiling, c.plain_type.ensures.stays.ceiling) at c.in_err-home.ensures.takes.beyond)))

pub push_entity-requires-clause-entity : goal.push_entity-requires-clause-entity
push_entity-requires-clause-entity c = rw (c.context.ensures.stays.ceiling, c.pop_name.ensures.reads.ceiling, c.labels.ensures.stays.ceiling, c.plain_type.ensures.stays.ceiling) (function_entity c.in_ok-ty.ensures.takes (rw c.plain_type.ensures.stays.ceiling at c.in_ok-labelled.ensures.takes) c.requires (rw (c.labels.ensures.stays.ceiling, c.plain_type.ensures.stays.ceiling) at c.in_ok-name.ensures.takes) (rw (c.pop_name.ensures.reads.slice, c.pop_name.ensures.reads.ceiling, c.labels.ensures.stays.ceiling, c.plain_type.ensures.stays.ceiling) at c.in_ok-home.ensures.takes))

pub push_entity-requires-clause-inside : goal.push_entity-requires-clause-inside
push_entity-requires-clause-inside c = rw (c.context.ensures.stays.ceiling, c.pop_name.ensures.reads.ceiling, c.labels.ensures.stays.ceiling, c.plain_type.ensures.stays.ceiling) (function_room c.in_ok-ty.ensures.takes (rw c.plain_type.ensures.stays.ceiling at c.in_ok-labelled.ensures.takes) c.requires (rw (c.labels.ensures.stays.ceiling, c.plain_type.ensures.stays.ceiling) at c.in_ok-name.ensures.takes) (rw (c.pop_name.ensures.reads.slice, c.pop_name.ensures.reads.ceiling, c.labels.ensures.stays.ceiling, c.plain_type.ensures.stays.ceiling) at c.in_ok-home.ensures.takes))

pub returns-clause-operates : goal.returns-clause-operates
returns-clause-operates c = function_done c.in_ok-ty.ensures.takes (rw c.plain_type.ensures.stays.ceiling at c.in_ok-labelled.ensures.takes) c.requires (rw (c.labels.ensures.stays.ceiling, c.plain_type.ensures.stays.ceiling) at c.in_ok-name.ensures.takes) (rw (c.pop_name.ensures.reads.slice, c.pop_name.ensures.reads.ceiling, c.labels.ensures.stays.ceiling, c.plain_type.ensures.stays.ceiling) at c.in_ok-home.ensures.takes) (rw (c.context.ensures.stays.ceiling, c.pop_name.ensures.reads.ceiling, c.labels.ensures.stays.ceiling, c.plain_type.ensures.stays.ceiling) at c.push_entity.ensures.left)
