use Rattle.std.proofs.Common.{arith}
use Rattle.tree_records.proofs.Exits.{failed}
use Rattle.tree_nodes.proofs.Ready.{ready_none}
use Rattle.tree_nodes.proofs.Trees.{room_at}
use Rattle.tree_types.proofs.ListNodes.{gathered, signature_done, signature_refused}
use Rattle.tree_types.proofs.cells.Gatherings.{gathering_ready, gathering_sum}
use Rattle.tree_types.proofs.generic_signature.Goals as goal

pub collect-requires : goal.collect-requires
collect-requires c = ready_none c.requires

pub returns-in_err-list-clause-operates : goal.returns-in_err-list-clause-operates
returns-in_err-list-clause-operates c = rw (failed c.from_residual.ensures.1) (signature_refused c.args.params c.in_err-list.ensures.collects)

pub overflow_add-list : goal.overflow_add-list
overflow_add-list c = record { fits = omega (arith, gathering_sum (gathered c.in_ok-list.ensures.collects c.requires)) }

pub push_new-requires : goal.push_new-requires
push_new-requires c = rw c.collect.ensures.stays.ceiling (room_at (gathering_ready (gathered c.in_ok-list.ensures.collects c.requires)) (omega arith) (omega arith) (omega arith))

pub returns-clause-operates : goal.returns-clause-operates
returns-clause-operates c = signature_done c.args.params _ _ c.low.ensures c.high.ensures c.in_ok-list.ensures.collects (rw c.collect.ensures.stays.ceiling at c.push_new.ensures.left)
