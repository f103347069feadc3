use Rattle.std.proofs.Common.{arith}
use Rattle.definition.specs.Perform as R
use Rattle.tree_records.proofs.Exits.{failed}
use Rattle.tree_nodes.proofs.Ready.{ready_none}
use Rattle.tree_nodes.proofs.Steps.{refuses_first, refuses_after, moves_taken, moves_named, moves_marked, fails}
use Rattle.tree_nodes.proofs.Trees.{stays_read, has_taken, has_named, has_marked, place_at, room_at}
use Rattle.tree_witnesses.proofs.Witnessing.{conforming_left, moves_qualified, has_qualified}
use Rattle.tree_witnesses.proofs.associated_conformance.Goals as goal

pub protocol-requires : goal.protocol-requires
protocol-requires c = ready_none c.requires

pub returns-in_err-required-clause-operates : goal.returns-in_err-required-clause-operates
unfolding R.associated_conformance
returns-in_err-required-clause-operates c = rw (failed c.from_residual.ensures.1) (fails (λ _. refuses_first _ c.in_err-required.ensures.takes))

pub took-marked-requires : goal.took-marked-requires
took-marked-requires c = ready_none (has_taken c.protocol.ensures.stays c.in_ok-required.ensures.takes c.requires)

pub qualifier-by-requires : goal.qualifier-by-requires
qualifier-by-requires c = ready_none (has_marked c.took-marked.ensures.reads c.took-marked.ensures.marks (has_taken c.protocol.ensures.stays c.in_ok-required.ensures.takes c.requires))

pub pop_name-requires : goal.pop_name-requires
pop_name-requires c = ready_none (has_qualified c.qualifier-by.ensures.stays c.qualifier-by.ensures.qualifies (has_marked c.took-marked.ensures.reads c.took-marked.ensures.marks (has_taken c.protocol.ensures.stays c.in_ok-required.ensures.takes c.requires)))

pub returns-in_err-name-clause-operates : goal.returns-in_err-name-clause-operates
unfolding R.associated_conformance
returns-in_err-name-clause-operates c = rw (failed c.from_residual-in_err-name.ensures.1) (fails (λ _. refuses_after _ c.requires (moves_taken c.protocol.ensures.stays c.in_ok-required.ensures.takes) (λ _ _ _ h0. refuses_after _ h0 (moves_marked c.took-marked.ensures.reads c.took-marked.ensures.marks) (λ _ _ _ h1. refuses_after _ h1 (moves_qualified c.qualifier-by.ensures.stays c.qualifier-by.ensures.qualifies) (λ _ _ _ h2. refuses_first _ c.in_err-name.ensures.takes)))))

pub pop_if-requires : goal.pop_if-requires
pop_if-requires c = ready_none (has_named c.pop_name.ensures.reads c.in_ok-name.ensures.takes (has_qualified c.qualifier-by.ensures.stays c.qualifier-by.ensures.qualifies (has_marked c.took-marked.ensures.reads c.took-marked.ensures.marks (has_taken c.protocol.ensures.stays c.in_ok-required.ensures.takes c.requires))))

pub returns-in_err-place-clause-operates : goal.returns-in_err-place-clause-operates
unfolding R.associated_conformance
returns-in_err-place-clause-operates c = rw (failed c.from_residual-in_err-place.ensures.1) (fails (λ _. refuses_after _ c.requires (moves_taken c.protocol.ensures.stays c.in_ok-required.ensures.takes) (λ _ _ _ h0. refuses_after _ h0 (moves_marked c.took-marked.ensures.reads c.took-marked.ensures.marks) (λ _ _ _ h1. refuses_after _ h1 (moves_qualified c.qualifier-by.ensures.stays c.qualifier-by.ensures.qualifies) (λ _ _ _ h2. refuses_after _ h2 (moves_named c.pop_name.ensures.reads c.in_ok-name.ensures.takes) (λ _ _ _ h3. refuses_first _ c.in_err-place.ensures.takes))))))

pub overflow_cast-place : goal.overflow_cast-place
overflow_cast-place c = place_at (has_taken (stays_read c.pop_if.ensures.reads) c.in_ok-place.ensures.takes (has_named c.pop_name.ensures.reads c.in_ok-name.ensures.takes (has_qualified c.qualifier-by.ensures.stays c.qualifier-by.ensures.qualifies (has_marked c.took-marked.ensures.reads c.took-marked.ensures.marks (has_taken c.protocol.ensures.stays c.in_ok-required.ensures.takes c.requires))))) _ c.in_ok-place.ensures.takes.below

pub overflow_cast-required : goal.overflow_cast-required
overflow_cast-required c = place_at (has_taken (stays_read c.pop_if.ensures.reads) c.in_ok-place.ensures.takes (has_named c.pop_name.ensures.reads c.in_ok-name.ensures.takes (has_qualified c.qualifier-by.ensures.stays c.qualifier-by.ensures.qualifies (has_marked c.took-marked.ensures.reads c.took-marked.ensures.marks (has_taken c.protocol.ensures.stays c.in_ok-required.ensures.takes c.requires))))) _ (omega (arith, c.in_ok-required.ensures.takes.below, c.took-marked.ensures.marks.top, c.qualifier-by.ensures.qualifies.rising, c.in_ok-name.ensures.takes.top, c.in_ok-place.ensures.takes.rising))

pub push_new-requires : goal.push_new-requires
push_new-requires c = room_at (has_taken (stays_read c.pop_if.ensures.reads) c.in_ok-place.ensures.takes (has_named c.pop_name.ensures.reads c.in_ok-name.ensures.takes (has_qualified c.qualifier-by.ensures.stays c.qualifier-by.ensures.qualifies (has_marked c.took-marked.ensures.reads c.took-marked.ensures.marks (has_taken c.protocol.ensures.stays c.in_ok-required.ensures.takes c.requires))))) (omega arith) (omega arith) (omega arith)

pub returns-clause-operates : goal.returns-clause-operates
returns-clause-operates c = conforming_left c.in_ok-required.ensures.takes (rw c.protocol.ensures.stays.ceiling at c.took-marked.ensures.marks) (rw (c.took-marked.ensures.reads.slice, c.took-marked.ensures.reads.ceiling, c.protocol.ensures.stays.ceiling) at c.qualifier-by.ensures.qualifies) (rw (c.qualifier-by.ensures.stays.ceiling, c.took-marked.ensures.reads.ceiling, c.protocol.ensures.stays.ceiling) at c.in_ok-name.ensures.takes) (rw (c.pop_if.ensures.reads.slice, c.pop_name.ensures.reads.slice, c.pop_name.ensures.reads.ceiling, c.qualifier-by.ensures.stays.ceiling, c.took-marked.ensures.reads.ceiling, c.protocol.ensures.stays.ceiling) at c.in_ok-place.ensures.takes) (rw (c.pop_if.ensures.reads.slice, c.pop_if.ensures.reads.ceiling, c.pop_name.ensures.reads.slice, c.pop_name.ensures.reads.ceiling, c.qualifier-by.ensures.stays.ceiling, c.took-marked.ensures.reads.ceiling, c.protocol.ensures.stays.ceiling) at c.push_new.ensures.left)
