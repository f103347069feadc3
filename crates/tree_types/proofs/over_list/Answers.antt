use Rattle.tree_records.proofs.Exits.{failed}
use Rattle.tree_nodes.proofs.Ready.{ready_none}
use Rattle.tree_nodes.proofs.Trees.{has_marked}
use Rattle.tree_types.specs.TypeLists.{loop_of}
use Rattle.tree_types.proofs.ListNodes.{gathered, list_empty, list_done, list_refused}
use Rattle.tree_types.proofs.cells.Gatherings.{gathering_none}
use Rattle.tree_types.proofs.over_list.Goals as goal

pub took-requires : goal.took-requires
took-requires c = ready_none c.requires

pub push_list-requires : goal.push_list-requires
push_list-requires c = gathering_none (has_marked c.took.ensures.reads c.took.ensures.marks c.requires)

pub returns-then-took-clause-operates : goal.returns-then-took-clause-operates
returns-then-took-clause-operates c = λ f o. list_empty o (loop_of c.args.of) c.if-took.true c.took.ensures.marks (rw (c.took.ensures.reads.slice, c.took.ensures.reads.ceiling) at c.push_list.ensures.left)

pub collect-requires : goal.collect-requires
collect-requires c = ready_none (has_marked c.took.ensures.reads c.took.ensures.marks c.requires)

pub returns-in_err-list-clause-operates : goal.returns-in_err-list-clause-operates
returns-in_err-list-clause-operates c = λ f o. rw (failed c.from_residual.ensures.1) (list_refused o (loop_of c.args.of) c.if-took.false c.took.ensures.marks (rw (c.took.ensures.reads.slice, c.took.ensures.reads.ceiling) at c.in_err-list.ensures.collects))

pub push_list-requires-2 : goal.push_list-requires-2
push_list-requires-2 c = rw c.collect.ensures.stays.ceiling (gathered c.in_ok-list.ensures.collects (has_marked c.took.ensures.reads c.took.ensures.marks c.requires))

pub returns-clause-operates : goal.returns-clause-operates
returns-clause-operates c = λ f o. list_done o (loop_of c.args.of) c.if-took.false c.took.ensures.marks (rw (c.took.ensures.reads.slice, c.took.ensures.reads.ceiling) at c.in_ok-list.ensures.collects) (rw (c.collect.ensures.stays.ceiling, c.took.ensures.reads.ceiling) at c.push_list-2.ensures.left)
