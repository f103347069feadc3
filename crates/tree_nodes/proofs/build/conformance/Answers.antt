use Rattle.std.proofs.Common.{refl, arith}
use Rattle.definition.specs.Perform as R
use Rattle.tree_records.proofs.Exits.{failed}
use Rattle.tree_nodes.proofs.Building.{conformance_built}
use Rattle.tree_nodes.proofs.Ready.{ready_none}
use Rattle.tree_nodes.proofs.Steps.{refuses_first, refuses_after, moves_taken}
use Rattle.tree_nodes.proofs.Trees.{stays_read, has_taken, record_at, place_at, room_at}
use Rattle.tree_nodes.proofs.build.conformance.Goals as goal

pub context-requires : goal.context-requires
context-requires c = ready_none c.requires

pub returns-in_err-home-clause-builds : goal.returns-in_err-home-clause-builds
unfolding R.conformance
returns-in_err-home-clause-builds c = rw (failed c.from_residual.ensures.1) (refuses_first _ c.in_err-home.ensures.takes)

pub protocol-requires : goal.protocol-requires
protocol-requires c = ready_none (has_taken c.context.ensures.stays c.in_ok-home.ensures.takes c.requires)

pub returns-in_err-to-clause-builds : goal.returns-in_err-to-clause-builds
unfolding R.conformance
returns-in_err-to-clause-builds c =
    rw (failed c.from_residual-in_err-to.ensures.1)
    (refuses_after _ c.requires (moves_taken c.context.ensures.stays c.in_ok-home.ensures.takes) (λ _ _ _ _. refuses_first _ c.in_err-to.ensures.takes))

pub pop_if-requires : goal.pop_if-requires
pop_if-requires c = ready_none (has_taken c.protocol.ensures.stays c.in_ok-to.ensures.takes (has_taken c.context.ensures.stays c.in_ok-home.ensures.takes c.requires))

pub returns-in_err-ty-clause-builds : goal.returns-in_err-ty-clause-builds
unfolding R.conformance
returns-in_err-ty-clause-builds c =
    rw (failed c.from_residual-in_err-ty.ensures.1)
    (refuses_after _ c.requires (moves_taken c.context.ensures.stays c.in_ok-home.ensures.takes) (λ _ _ _ h.
    refuses_after _ h (moves_taken c.protocol.ensures.stays c.in_ok-to.ensures.takes) (λ _ _ _ _. refuses_first _ c.in_err-ty.ensures.takes)))

pub field-requires : goal.field-requires
field-requires c = (record_at (has_taken (stays_read c.pop_if.ensures.reads) c.in_ok-ty.ensures.takes (has_taken c.protocol.ensures.stays c.in_ok-to.ensures.takes (has_taken c.context.ensures.stays c.in_ok-home.ensures.takes c.requires))) _ c.in_ok-ty.ensures.takes.below, omega arith)

pub field-requires-2 : goal.field-requires-2
field-requires-2 c = (record_at (has_taken (stays_read c.pop_if.ensures.reads) c.in_ok-ty.ensures.takes (has_taken c.protocol.ensures.stays c.in_ok-to.ensures.takes (has_taken c.context.ensures.stays c.in_ok-home.ensures.takes c.requires))) _ (omega (arith, c.in_ok-to.ensures.takes.below, c.in_ok-ty.ensures.takes.rising)), omega arith)

pub field-requires-3 : goal.field-requires-3
field-requires-3 c = (record_at (has_taken (stays_read c.pop_if.ensures.reads) c.in_ok-ty.ensures.takes (has_taken c.protocol.ensures.stays c.in_ok-to.ensures.takes (has_taken c.context.ensures.stays c.in_ok-home.ensures.takes c.requires))) _ (omega (arith, c.in_ok-home.ensures.takes.below, c.in_ok-to.ensures.takes.rising, c.in_ok-ty.ensures.takes.rising)), omega arith)

pub overflow_cast-ty : goal.overflow_cast-ty
overflow_cast-ty c = place_at (has_taken (stays_read c.pop_if.ensures.reads) c.in_ok-ty.ensures.takes (has_taken c.protocol.ensures.stays c.in_ok-to.ensures.takes (has_taken c.context.ensures.stays c.in_ok-home.ensures.takes c.requires))) _ c.in_ok-ty.ensures.takes.below

pub overflow_cast-to : goal.overflow_cast-to
overflow_cast-to c = place_at (has_taken (stays_read c.pop_if.ensures.reads) c.in_ok-ty.ensures.takes (has_taken c.protocol.ensures.stays c.in_ok-to.ensures.takes (has_taken c.context.ensures.stays c.in_ok-home.ensures.takes c.requires))) _ (omega (arith, c.in_ok-to.ensures.takes.below, c.in_ok-ty.ensures.takes.rising))

pub overflow_cast-home : goal.overflow_cast-home
overflow_cast-home c = place_at (has_taken (stays_read c.pop_if.ensures.reads) c.in_ok-ty.ensures.takes (has_taken c.protocol.ensures.stays c.in_ok-to.ensures.takes (has_taken c.context.ensures.stays c.in_ok-home.ensures.takes c.requires))) _ (omega (arith, c.in_ok-home.ensures.takes.below, c.in_ok-to.ensures.takes.rising, c.in_ok-ty.ensures.takes.rising))

pub grow-requires : goal.grow-requires
grow-requires c = room_at (has_taken (stays_read c.pop_if.ensures.reads) c.in_ok-ty.ensures.takes (has_taken c.protocol.ensures.stays c.in_ok-to.ensures.takes (has_taken c.context.ensures.stays c.in_ok-home.ensures.takes c.requires))) (omega arith) (omega arith) (omega arith)

pub returns-clause-builds : goal.returns-clause-builds
returns-clause-builds c =
    let s₁ = c.context.ensures.stays in
    let s₂ = c.protocol.ensures.stays in
    let s₃ = c.pop_if.ensures.reads in
    rw c.grow.ensures.place
    (conformance_built _ _ _ _ c.requires c.in_ok-home.ensures.takes (rw s₁.ceiling at c.in_ok-to.ensures.takes) (rw (s₃.slice, s₂.ceiling, s₁.ceiling) at c.in_ok-ty.ensures.takes) (cc) refl refl refl (rw (s₃.slice, s₃.ceiling, s₂.ceiling, s₁.ceiling) at c.grow.ensures.grew))
