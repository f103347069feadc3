use Rattle.tree_nodes.proofs.Ready.{ready_none}
use Rattle.tree_types.proofs.Rounding.{requirement_turns, requirements_end}
use Rattle.tree_types.proofs.cells.Gatherings.{gathering_ready, tried_fits}
use Rattle.tree_types.proofs.one_requirement.Goals as goal

pub try_pop-requires : goal.try_pop-requires
try_pop-requires c = ready_none (gathering_ready c.requires)

pub put-requires : goal.put-requires
put-requires c = rw (c.try_pop.ensures.reads.slice, c.try_pop.ensures.reads.ceiling) (tried_fits c.in-Some.ensures.tries c.requires)

pub returns-in-Some-clause-rounds : goal.returns-in-Some-clause-rounds
returns-in-Some-clause-rounds c = let x = requirement_turns c.in-Some.ensures.tries (rw (c.try_pop.ensures.reads.slice, c.try_pop.ensures.reads.ceiling) at c.put.ensures.adds) in (x.0, λ _. x.1)

pub returns-in-None-clause-rounds : goal.returns-in-None-clause-rounds
returns-in-None-clause-rounds c = (rw c.in-None.ensures.tries.same (requirements_end _ c.in-None.ensures.tries.leaves), λ e. (cc))
