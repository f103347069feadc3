use Rattle.std.proofs.Common.{arith}
use Rattle.definition.specs.Perform as R
use Rattle.tree_records.proofs.Exits.{failed}
use Rattle.tree_nodes.specs.Gives.{spare}
use Rattle.tree_nodes.proofs.Ready.{ready_none}
use Rattle.tree_nodes.proofs.Steps.{refuses_first, refuses_after, moves_taken, fails}
use Rattle.tree_nodes.proofs.Trees.{stays_read, has_taken, record_at, place_at, room_at}
use Rattle.tree_witnesses.proofs.Recording.{ready_one, has_built}
use Rattle.tree_witnesses.proofs.Witnessing.{witness_left}
use Rattle.tree_witnesses.proofs.protocol_witness.Goals as goal

pub pop_if-requires : goal.pop_if-requires
pop_if-requires c = ready_none c.requires

pub returns-in_err-entity-clause-operates : goal.returns-in_err-entity-clause-operates
unfolding R.protocol_witness
returns-in_err-entity-clause-operates c = rw (failed c.from_residual.ensures.1) (fails (λ _. refuses_first _ c.in_err-entity.ensures.takes))

pub conformance-requires : goal.conformance-requires
conformance-requires c = ready_one (omega arith) (has_taken (stays_read c.pop_if.ensures.reads) c.in_ok-entity.ensures.takes c.requires)

pub returns-in_err-whole-clause-operates : goal.returns-in_err-whole-clause-operates
unfolding R.protocol_witness
returns-in_err-whole-clause-operates c = rw (failed c.from_residual-in_err-whole.ensures.1) (fails (λ _. refuses_after _ c.requires (moves_taken (stays_read c.pop_if.ensures.reads) c.in_ok-entity.ensures.takes) (λ _ _ _ h0. refuses_first _ c.in_err-whole.ensures.builds)))

pub field-requires : goal.field-requires
field-requires c = (record_at (has_built (spare 18 2 3 1) c.conformance.ensures.stays c.in_ok-whole.ensures.builds (has_taken (stays_read c.pop_if.ensures.reads) c.in_ok-entity.ensures.takes c.requires)) _ (omega (arith, c.in_ok-entity.ensures.takes.below, c.in_ok-whole.ensures.builds.rising)), omega arith)

pub field-requires-2 : goal.field-requires-2
field-requires-2 c = (record_at (has_built (spare 18 2 3 1) c.conformance.ensures.stays c.in_ok-whole.ensures.builds (has_taken (stays_read c.pop_if.ensures.reads) c.in_ok-entity.ensures.takes c.requires)) _ c.in_ok-whole.ensures.builds.below, omega arith)

pub overflow_cast-entity : goal.overflow_cast-entity
overflow_cast-entity c = place_at (has_built (spare 18 2 3 1) c.conformance.ensures.stays c.in_ok-whole.ensures.builds (has_taken (stays_read c.pop_if.ensures.reads) c.in_ok-entity.ensures.takes c.requires)) _ (omega (arith, c.in_ok-entity.ensures.takes.below, c.in_ok-whole.ensures.builds.rising))

pub overflow_cast-whole : goal.overflow_cast-whole
overflow_cast-whole c = place_at (has_built (spare 18 2 3 1) c.conformance.ensures.stays c.in_ok-whole.ensures.builds (has_taken (stays_read c.pop_if.ensures.reads) c.in_ok-entity.ensures.takes c.requires)) _ c.in_ok-whole.ensures.builds.below

pub push_new-requires : goal.push_new-requires
push_new-requires c = room_at (has_built (spare 18 2 3 1) c.conformance.ensures.stays c.in_ok-whole.ensures.builds (has_taken (stays_read c.pop_if.ensures.reads) c.in_ok-entity.ensures.takes c.requires)) (omega arith) (omega arith) (omega arith)

pub returns-clause-operates : goal.returns-clause-operates
returns-clause-operates c = witness_left _ (rw c.pop_if.ensures.reads.slice at c.in_ok-entity.ensures.takes) (rw (c.pop_if.ensures.reads.slice, c.pop_if.ensures.reads.ceiling) at c.in_ok-whole.ensures.builds) (cc) (rw (c.conformance.ensures.stays.ceiling, c.pop_if.ensures.reads.ceiling) at c.push_new.ensures.left)
