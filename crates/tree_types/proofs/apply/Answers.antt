use Rattle.std.proofs.Common.{refl, arith}
use Rattle.tree_records.proofs.Exits.{failed}
use Rattle.tree_nodes.specs.Gives.{full_spare}
use Rattle.tree_types.specs.Cells.{Gathering}
use Rattle.tree_nodes.proofs.Ready.{ready_none}
use Rattle.tree_nodes.proofs.Trees.{record_at, place_at, room_at}
use Rattle.tree_types.proofs.ListNodes.{gathered, applied_done, applied_baseless, applied_refused}
use Rattle.tree_types.proofs.cells.Gatherings.{gathering_ready, gathering_taken, taken_sum}
use Rattle.tree_types.proofs.apply.Goals as goal

pub collect-requires : goal.collect-requires
collect-requires c = ready_none c.requires

pub returns-in_err-list-clause-operates : goal.returns-in_err-list-clause-operates
returns-in_err-list-clause-operates c = rw (failed c.from_residual.ensures.1) (applied_refused c.in_err-list.ensures.collects)

pub pop_if-requires : goal.pop_if-requires
pop_if-requires c = let g : Gathering c.collect.new.trees.ws.now c.collect.new.trees.n c.collect.new.trees.state full_spare c.in_ok-list.list = rw c.collect.ensures.stays.ceiling (gathered c.in_ok-list.ensures.collects c.requires) in ready_none (gathering_ready g)

pub returns-in_err-base-clause-operates : goal.returns-in_err-base-clause-operates
returns-in_err-base-clause-operates c = rw (failed c.from_residual-in_err-base.ensures.1, c.pop_if.ensures.reads.slice) (applied_baseless c.in_ok-list.ensures.collects (rw c.collect.ensures.stays.ceiling at c.in_err-base.ensures.takes.refuses))

pub field-requires : goal.field-requires
field-requires c = let g : Gathering c.collect.new.trees.ws.now c.collect.new.trees.n c.collect.new.trees.state full_spare c.in_ok-list.list = rw c.collect.ensures.stays.ceiling (gathered c.in_ok-list.ensures.collects c.requires) in (rw c.pop_if.ensures.reads.slice (record_at (rw c.pop_if.ensures.reads.slice at (gathering_ready (gathering_taken c.in_ok-base.ensures.takes g))) _ c.in_ok-base.ensures.takes.below), omega arith)

pub overflow_add-size : goal.overflow_add-size
overflow_add-size c = let g : Gathering c.collect.new.trees.ws.now c.collect.new.trees.n c.collect.new.trees.state full_spare c.in_ok-list.list = rw c.collect.ensures.stays.ceiling (gathered c.in_ok-list.ensures.collects c.requires) in record { fits = omega (arith, taken_sum c.in_ok-base.ensures.takes g, c.field.ensures) }

pub overflow_add-size-2 : goal.overflow_add-size-2
overflow_add-size-2 c = let g : Gathering c.collect.new.trees.ws.now c.collect.new.trees.n c.collect.new.trees.state full_spare c.in_ok-list.list = rw c.collect.ensures.stays.ceiling (gathered c.in_ok-list.ensures.collects c.requires) in record { fits = omega (arith, taken_sum c.in_ok-base.ensures.takes g, c.field.ensures) }

pub overflow_cast-base : goal.overflow_cast-base
overflow_cast-base c = let g : Gathering c.collect.new.trees.ws.now c.collect.new.trees.n c.collect.new.trees.state full_spare c.in_ok-list.list = rw c.collect.ensures.stays.ceiling (gathered c.in_ok-list.ensures.collects c.requires) in place_at (gathering_ready (gathering_taken c.in_ok-base.ensures.takes g)) _ c.in_ok-base.ensures.takes.below

pub push_kept-requires : goal.push_kept-requires
push_kept-requires c = let g : Gathering c.collect.new.trees.ws.now c.collect.new.trees.n c.collect.new.trees.state full_spare c.in_ok-list.list = rw c.collect.ensures.stays.ceiling (gathered c.in_ok-list.ensures.collects c.requires) in rw c.pop_if.ensures.reads.ceiling (room_at (gathering_ready (gathering_taken c.in_ok-base.ensures.takes g)) (omega arith) (omega arith) (omega arith))

pub returns-clause-operates : goal.returns-clause-operates
returns-clause-operates c = applied_done _ _ refl (cc) c.in_ok-list.ensures.collects (rw (c.pop_if.ensures.reads.slice, c.collect.ensures.stays.ceiling) at c.in_ok-base.ensures.takes) (rw (c.pop_if.ensures.reads.slice, c.pop_if.ensures.reads.ceiling, c.collect.ensures.stays.ceiling) at c.push_kept.ensures.kept)
