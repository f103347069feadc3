use Rattle.std.proofs.Common.{refl, arith}
use Rattle.tree_records.proofs.Exits.{failed}
use Rattle.tree_nodes.proofs.Ready.{ready_none}
use Rattle.tree_types.proofs.Rounding.{element_turns, element_refused}
use Rattle.tree_types.proofs.cells.Gatherings.{gathering_ready, cell_fits, chain_marked, chain_labelled}
use Rattle.tree_types.proofs.element.Goals as goal

pub took-first-requires : goal.took-first-requires
took-first-requires c = ready_none (gathering_ready c.requires)

pub took-variadic-requires : goal.took-variadic-requires
took-variadic-requires c = ready_none (gathering_ready (chain_marked c.took-first.ensures.reads c.took-first.ensures.marks c.requires))

pub label-named-requires : goal.label-named-requires
label-named-requires c = ready_none (gathering_ready (chain_marked c.took-variadic.ensures.reads c.took-variadic.ensures.marks (chain_marked c.took-first.ensures.reads c.took-first.ensures.marks c.requires)))

pub pop_if-requires : goal.pop_if-requires
pop_if-requires c = ready_none (gathering_ready (chain_labelled c.label-named.ensures.reads c.label-named.ensures.labels (chain_marked c.took-variadic.ensures.reads c.took-variadic.ensures.marks (chain_marked c.took-first.ensures.reads c.took-first.ensures.marks c.requires))))

pub returns-in_err-place-clause-rounds : goal.returns-in_err-place-clause-rounds
returns-in_err-place-clause-rounds c = rw (failed c.from_residual.ensures.1, c.pop_if.ensures.reads.slice, c.label-named.ensures.reads.slice, c.took-variadic.ensures.reads.slice, c.took-first.ensures.reads.slice) (element_refused c.took-first.ensures.marks (rw (c.took-first.ensures.reads.slice, c.took-first.ensures.reads.ceiling) at c.took-variadic.ensures.marks) (rw (c.took-variadic.ensures.reads.slice, c.took-variadic.ensures.reads.ceiling, c.took-first.ensures.reads.slice, c.took-first.ensures.reads.ceiling) at c.label-named.ensures.labels) (rw (c.label-named.ensures.reads.slice, c.label-named.ensures.reads.ceiling, c.took-variadic.ensures.reads.slice, c.took-variadic.ensures.reads.ceiling, c.took-first.ensures.reads.slice, c.took-first.ensures.reads.ceiling) at c.in_err-place.ensures.takes.refuses))

pub put-requires : goal.put-requires
put-requires c = rw c.pop_if.ensures.reads.ceiling (cell_fits c.in_ok-place.ensures.takes (chain_labelled c.label-named.ensures.reads c.label-named.ensures.labels (chain_marked c.took-variadic.ensures.reads c.took-variadic.ensures.marks (chain_marked c.took-first.ensures.reads c.took-first.ensures.marks c.requires))) (omega arith))

pub returns-clause-rounds : goal.returns-clause-rounds
returns-clause-rounds c = let x = element_turns c.took-first.result refl c.took-first.ensures.marks (rw (c.took-first.ensures.reads.slice, c.took-first.ensures.reads.ceiling) at c.took-variadic.ensures.marks) (rw (c.took-variadic.ensures.reads.slice, c.took-variadic.ensures.reads.ceiling, c.took-first.ensures.reads.slice, c.took-first.ensures.reads.ceiling) at c.label-named.ensures.labels) (rw (c.pop_if.ensures.reads.slice, c.label-named.ensures.reads.slice, c.label-named.ensures.reads.ceiling, c.took-variadic.ensures.reads.slice, c.took-variadic.ensures.reads.ceiling, c.took-first.ensures.reads.slice, c.took-first.ensures.reads.ceiling) at c.in_ok-place.ensures.takes) (rw (c.pop_if.ensures.reads.slice, c.pop_if.ensures.reads.ceiling, c.label-named.ensures.reads.slice, c.label-named.ensures.reads.ceiling, c.took-variadic.ensures.reads.slice, c.took-variadic.ensures.reads.ceiling, c.took-first.ensures.reads.slice, c.took-first.ensures.reads.ceiling) at c.put.ensures.adds) in (x.0, λ _. x.1)
