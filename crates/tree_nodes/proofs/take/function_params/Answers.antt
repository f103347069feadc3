use Rattle.std.proofs.Common.{arith}
use Rattle.tree_nodes.proofs.Ready.{room}
use Rattle.tree_nodes.proofs.Params.{params_empty}
use Rattle.tree_nodes.proofs.Cases.{params_of}
use Rattle.tree_nodes.proofs.Trees.{has_tried}
use Rattle.tree_nodes.proofs.take.function_params.Goals as goal

pub grow-requires : goal.grow-requires
grow-requires c = room (omega arith) (omega arith) (omega arith) (has_tried c.try_pop.ensures.reads c.in-Some.ensures.tries c.requires)

pub returns-in-Some-clause-takes : goal.returns-in-Some-clause-takes
returns-in-Some-clause-takes c =
    let r = c.try_pop.ensures.reads in
    rw c.grow.ensures.place (params_empty c.in-Some.ensures.tries (rw (r.slice, r.ceiling) at c.grow.ensures.grew))

pub returns-in-None-clause-takes : goal.returns-in-None-clause-takes
returns-in-None-clause-takes c = params_of c.pop_if.result c.requires c.try_pop.ensures.reads c.in-None.ensures.tries c.pop_if.ensures.reads c.pop_if.ensures.takes
