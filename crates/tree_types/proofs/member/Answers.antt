use Rattle.std.proofs.Common.{refl, arith}
use Rattle.tree_records.proofs.Exits.{failed}
use Rattle.tree_nodes.proofs.Ready.{ready_none}
use Rattle.tree_types.proofs.Rounding.{member_turns, member_refused}
use Rattle.tree_types.proofs.cells.Gatherings.{gathering_ready, cell_fits, chain_marked}
use Rattle.tree_types.proofs.member.Goals as goal

pub took-first-requires : goal.took-first-requires
took-first-requires c = ready_none (gathering_ready c.requires)

pub protocol-requires : goal.protocol-requires
protocol-requires c = ready_none (gathering_ready (chain_marked c.took-first.ensures.reads c.took-first.ensures.marks c.requires))

pub returns-in_err-place-clause-rounds : goal.returns-in_err-place-clause-rounds
returns-in_err-place-clause-rounds c = rw (failed c.from_residual.ensures.1) (member_refused c.took-first.ensures.marks ((rw (c.took-first.ensures.reads.slice, c.took-first.ensures.reads.ceiling) at c.in_err-place.ensures.takes.refuses), (rw (c.took-first.ensures.reads.slice, c.took-first.ensures.reads.ceiling) at c.in_err-place.ensures.takes.beyond)))

pub put-requires : goal.put-requires
put-requires c = rw c.protocol.ensures.stays.ceiling (cell_fits c.in_ok-place.ensures.takes (chain_marked c.took-first.ensures.reads c.took-first.ensures.marks c.requires) (omega arith))

pub returns-clause-rounds : goal.returns-clause-rounds
returns-clause-rounds c = let x = member_turns c.took-first.result refl c.took-first.ensures.marks (rw (c.took-first.ensures.reads.slice, c.took-first.ensures.reads.ceiling) at c.in_ok-place.ensures.takes) (rw (c.protocol.ensures.stays.ceiling, c.took-first.ensures.reads.ceiling) at c.put.ensures.adds) in (x.0, λ _. x.1)
