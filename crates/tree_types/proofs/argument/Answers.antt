use Rattle.tree_records.specs.Trees.{Has}
use Rattle.tree_records.proofs.Exits.{failed}
use Rattle.tree_nodes.specs.Gives.{nothing_spare}
use Rattle.tree_nodes.proofs.Ready.{ready_none}
use Rattle.tree_nodes.proofs.Trees.{has_marked}
use Rattle.tree_types.proofs.Rounding.{argument_turns, arguments_end, arguments_pass, argument_refused}
use Rattle.tree_types.proofs.cells.Gatherings.{gathering_ready, tried_fits}
use Rattle.tree_types.proofs.argument.Goals as goal

pub try_pop-requires : goal.try_pop-requires
try_pop-requires c = ready_none (gathering_ready c.requires)

pub put-requires : goal.put-requires
put-requires c = rw (c.try_pop.ensures.reads.slice, c.try_pop.ensures.reads.ceiling) (tried_fits c.in-Some.ensures.tries c.requires)

pub took-requires : goal.took-requires
took-requires c = rw c.in-None.ensures.tries.same (ready_none (gathering_ready c.requires))

pub returns-then-took-clause-rounds : goal.returns-then-took-clause-rounds
returns-then-took-clause-rounds c = (rw (c.took.ensures.reads.slice, c.in-None.ensures.tries.same) (arguments_end c.in-None.ensures.tries.leaves (rw c.in-None.ensures.tries.same at c.took.ensures.marks) _ c.if-took.true), λ e. (cc))

pub pop_if-requires : goal.pop_if-requires
pop_if-requires c = let h : Has c.try_pop.new.trees nothing_spare = rw c.in-None.ensures.tries.same (ready_none (gathering_ready c.requires)) in has_marked c.took.ensures.reads c.took.ensures.marks h

pub returns-in_err-_marker-in-None-clause-rounds : goal.returns-in_err-_marker-in-None-clause-rounds
returns-in_err-_marker-in-None-clause-rounds c = rw (failed c.from_residual.ensures.1, c.pop_if.ensures.reads.slice, c.took.ensures.reads.slice, c.in-None.ensures.tries.same) (argument_refused c.in-None.ensures.tries.leaves (rw c.in-None.ensures.tries.same at c.took.ensures.marks) c.if-took.false (rw (c.took.ensures.reads.slice, c.took.ensures.reads.ceiling, c.in-None.ensures.tries.same) at c.in_err-_marker-in-None.ensures.takes.refuses))

pub returns-in-Some-clause-rounds : goal.returns-in-Some-clause-rounds
returns-in-Some-clause-rounds c = let x = argument_turns c.in-Some.ensures.tries (rw (c.try_pop.ensures.reads.slice, c.try_pop.ensures.reads.ceiling) at c.put.ensures.adds) in (x.0, λ _. x.1)

pub returns-in_ok-_marker-in-None-clause-rounds : goal.returns-in_ok-_marker-in-None-clause-rounds
returns-in_ok-_marker-in-None-clause-rounds c = let x = arguments_pass c.in-None.ensures.tries.leaves (rw c.in-None.ensures.tries.same at c.took.ensures.marks) _ c.if-took.false (rw (c.pop_if.ensures.reads.slice, c.took.ensures.reads.slice, c.took.ensures.reads.ceiling, c.in-None.ensures.tries.same) at c.in_ok-_marker-in-None.ensures.takes) in (rw (c.pop_if.ensures.reads.slice, c.took.ensures.reads.slice, c.in-None.ensures.tries.same) x.0, λ _. x.1)
