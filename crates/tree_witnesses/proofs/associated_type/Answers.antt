use Rattle.std.proofs.Common.{◌≡◌, arith}
use Rattle.definition.specs.Perform as R
use Rattle.tree_records.specs.Lies.{at}
use Rattle.tree_records.proofs.Exits.{failed}
use Rattle.tree_nodes.proofs.Ready.{ready_none}
use Rattle.tree_nodes.proofs.Steps.{refuses_first, refuses_after, moves_taken, fails}
use Rattle.tree_nodes.proofs.Trees.{has_taken, has_named, record_at, place_at, room_at}
use Rattle.tree_witnesses.proofs.Recording.{associated_type_left, under_grown}
use Rattle.tree_witnesses.proofs.associated_type.Goals as goal

pub protocol-requires : goal.protocol-requires
protocol-requires c = ready_none c.requires

pub returns-in_err-base-clause-operates : goal.returns-in_err-base-clause-operates
unfolding R.associated_type
returns-in_err-base-clause-operates c = rw (failed c.from_residual.ensures.1) (fails (λ _. refuses_first _ c.in_err-base.ensures.takes))

pub pop_name-requires : goal.pop_name-requires
pop_name-requires c = ready_none (has_taken c.protocol.ensures.stays c.in_ok-base.ensures.takes c.requires)

pub returns-in_err-name-clause-operates : goal.returns-in_err-name-clause-operates
unfolding R.associated_type
returns-in_err-name-clause-operates c = rw (failed c.from_residual-in_err-name.ensures.1) (fails (λ _. refuses_after _ c.requires (moves_taken c.protocol.ensures.stays c.in_ok-base.ensures.takes) (λ _ _ _ h0. refuses_first _ c.in_err-name.ensures.takes)))

pub field-size-requires : goal.field-size-requires
field-size-requires c = (record_at (has_named c.pop_name.ensures.reads c.in_ok-name.ensures.takes (has_taken c.protocol.ensures.stays c.in_ok-base.ensures.takes c.requires)) _ (omega (arith, c.in_ok-base.ensures.takes.below, c.in_ok-name.ensures.takes.top)), omega arith)

pub overflow_cast-base : goal.overflow_cast-base
overflow_cast-base c = place_at (has_named c.pop_name.ensures.reads c.in_ok-name.ensures.takes (has_taken c.protocol.ensures.stays c.in_ok-base.ensures.takes c.requires)) _ (omega (arith, c.in_ok-base.ensures.takes.below, c.in_ok-name.ensures.takes.top))

pub grow-member-requires : goal.grow-member-requires
grow-member-requires c = room_at (has_named c.pop_name.ensures.reads c.in_ok-name.ensures.takes (has_taken c.protocol.ensures.stays c.in_ok-base.ensures.takes c.requires)) (omega arith) (omega arith) (omega arith)

pub push_record-requires : goal.push_record-requires
push_record-requires c =
    let g = c.grow-member.ensures in
    let e : at c.pop_name.new.trees.ws.now c.in_ok-base.base 1 ≡ at c.protocol.new.trees.ws.now c.in_ok-base.base 1 = cc in
    rw (g.place, g.stays.ceiling) (under_grown (omega arith) (omega arith) (omega (arith, c.in_ok-base.ensures.takes.small, c.field-size.ensures, e)) g.grew (has_named c.pop_name.ensures.reads c.in_ok-name.ensures.takes (has_taken c.protocol.ensures.stays c.in_ok-base.ensures.takes c.requires)))

pub returns-clause-operates : goal.returns-clause-operates
returns-clause-operates c = associated_type_left _ c.in_ok-base.ensures.takes (rw c.protocol.ensures.stays.ceiling at c.in_ok-name.ensures.takes) (cc) (rw (c.pop_name.ensures.reads.slice, c.pop_name.ensures.reads.ceiling, c.protocol.ensures.stays.ceiling) at c.grow-member.ensures.grew) (rw (c.grow-member.ensures.place, c.grow-member.ensures.stays.ceiling, c.pop_name.ensures.reads.ceiling, c.protocol.ensures.stays.ceiling) at c.push_record.ensures.left)
