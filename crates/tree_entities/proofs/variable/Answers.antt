use Rattle.std.proofs.Common.{arith}
use Rattle.tree_records.proofs.Exits.{failed}
use Rattle.tree_nodes.specs.Trees.{step_of}
use Rattle.tree_nodes.proofs.Ready.{ready_none}
use Rattle.tree_nodes.proofs.Trees.{has_named, has_marked}
use Rattle.tree_entities.proofs.Operating as O
use Rattle.tree_entities.proofs.Operating.{has_typed, variable_nameless, variable_alone, variable_entity, variable_room, variable_done}
use Rattle.tree_entities.proofs.variable.Goals as goal

pub returns-in_err-ty-clause-operates : goal.returns-in_err-ty-clause-operates
returns-in_err-ty-clause-operates c = rw (failed c.from_residual.ensures.1) (O.variable_untyped c.args.accessor _ c.in_err-ty.ensures.takes)

pub took-marked-requires : goal.took-marked-requires
took-marked-requires c = ready_none (has_typed c.variable_type.ensures.stays c.in_ok-ty.ensures.takes (omega arith) c.requires)

pub pop_name-requires : goal.pop_name-requires
pop_name-requires c = ready_none (has_marked c.took-marked.ensures.reads c.took-marked.ensures.marks (has_typed c.variable_type.ensures.stays c.in_ok-ty.ensures.takes (omega arith) c.requires))

pub returns-in_err-name-clause-operates : goal.returns-in_err-name-clause-operates
returns-in_err-name-clause-operates c = rw (failed c.from_residual-in_err-name.ensures.1, c.pop_name.ensures.reads.slice, c.took-marked.ensures.reads.slice) (variable_nameless c.args.accessor c.in_ok-ty.ensures.takes (rw c.variable_type.ensures.stays.ceiling at c.took-marked.ensures.marks) (rw (c.took-marked.ensures.reads.slice, c.took-marked.ensures.reads.ceiling, c.variable_type.ensures.stays.ceiling) at c.in_err-name.ensures.takes.refuses))

pub context-requires : goal.context-requires
context-requires c = ready_none (has_named c.pop_name.ensures.reads c.in_ok-name.ensures.takes (has_marked c.took-marked.ensures.reads c.took-marked.ensures.marks (has_typed c.variable_type.ensures.stays c.in_ok-ty.ensures.takes (omega arith) c.requires)))

pub returns-in_err-home-clause-operates : goal.returns-in_err-home-clause-operates
returns-in_err-home-clause-operates c = rw (failed c.from_residual-in_err-home.ensures.1) (variable_alone c.args.accessor c.in_ok-ty.ensures.takes (rw c.variable_type.ensures.stays.ceiling at c.took-marked.ensures.marks) (rw (c.took-marked.ensures.reads.slice, c.took-marked.ensures.reads.ceiling, c.variable_type.ensures.stays.ceiling) at c.in_ok-name.ensures.takes) ((rw (c.pop_name.ensures.reads.slice, c.pop_name.ensures.reads.ceiling, c.took-marked.ensures.reads.slice, c.took-marked.ensures.reads.ceiling, c.variable_type.ensures.stays.ceiling) at c.in_err-home.ensures.takes.refuses), (rw (c.pop_name.ensures.reads.slice, c.pop_name.ensures.reads.ceiling, c.took-marked.ensures.reads.slice, c.took-marked.ensures.reads.ceiling, c.variable_type.ensures.stays.ceiling) at c.in_err-home.ensures.takes.beyond)))

pub leave_variable-requires-clause-entity : goal.leave_variable-requires-clause-entity
leave_variable-requires-clause-entity c = rw (c.context.ensures.stays.ceiling, c.pop_name.ensures.reads.ceiling, c.took-marked.ensures.reads.ceiling, c.variable_type.ensures.stays.ceiling) (variable_entity c.args.accessor c.in_ok-ty.ensures.takes (rw c.variable_type.ensures.stays.ceiling at c.took-marked.ensures.marks) (rw (c.took-marked.ensures.reads.slice, c.took-marked.ensures.reads.ceiling, c.variable_type.ensures.stays.ceiling) at c.in_ok-name.ensures.takes) (rw (c.pop_name.ensures.reads.slice, c.pop_name.ensures.reads.ceiling, c.took-marked.ensures.reads.slice, c.took-marked.ensures.reads.ceiling, c.variable_type.ensures.stays.ceiling) at c.in_ok-home.ensures.takes) c.requires)

pub leave_variable-requires-clause-inside : goal.leave_variable-requires-clause-inside
leave_variable-requires-clause-inside c = rw (c.context.ensures.stays.ceiling, c.pop_name.ensures.reads.ceiling, c.took-marked.ensures.reads.ceiling, c.variable_type.ensures.stays.ceiling) (variable_room c.args.accessor c.in_ok-ty.ensures.takes (rw c.variable_type.ensures.stays.ceiling at c.took-marked.ensures.marks) (rw (c.took-marked.ensures.reads.slice, c.took-marked.ensures.reads.ceiling, c.variable_type.ensures.stays.ceiling) at c.in_ok-name.ensures.takes) (rw (c.pop_name.ensures.reads.slice, c.pop_name.ensures.reads.ceiling, c.took-marked.ensures.reads.slice, c.took-marked.ensures.reads.ceiling, c.variable_type.ensures.stays.ceiling) at c.in_ok-home.ensures.takes) c.requires)

pub returns-clause-operates : goal.returns-clause-operates
returns-clause-operates c = variable_done c.args.accessor c.in_ok-ty.ensures.takes (rw c.variable_type.ensures.stays.ceiling at c.took-marked.ensures.marks) (rw (c.took-marked.ensures.reads.slice, c.took-marked.ensures.reads.ceiling, c.variable_type.ensures.stays.ceiling) at c.in_ok-name.ensures.takes) (rw (c.pop_name.ensures.reads.slice, c.pop_name.ensures.reads.ceiling, c.took-marked.ensures.reads.slice, c.took-marked.ensures.reads.ceiling, c.variable_type.ensures.stays.ceiling) at c.in_ok-home.ensures.takes) c.leave_variable.new.trees.ws.now (step_of c.leave_variable.result c.leave_variable.new.trees.state) (rw (c.context.ensures.stays.ceiling, c.pop_name.ensures.reads.ceiling, c.took-marked.ensures.reads.ceiling, c.variable_type.ensures.stays.ceiling) at c.leave_variable.ensures.leaves)
