use Rattle.std.proofs.Common.{refl, arith}
use Rattle.tree_records.proofs.Exits.{failed}
use Rattle.tree_nodes.proofs.Building.{between_built}
use Rattle.tree_nodes.proofs.Cases.{flagged}
use Rattle.tree_nodes.proofs.Ready.{ready_none}
use Rattle.tree_nodes.proofs.Steps.{refuses_first, refuses_after, moves_taken}
use Rattle.tree_nodes.proofs.Trees.{has_taken, record_at, place_at, room_at}
use Rattle.tree_nodes.proofs.build.between.Goals as goal

pub function_params-requires : goal.function_params-requires
function_params-requires c = ready_none c.requires

pub returns-in_err-params-clause-builds : goal.returns-in_err-params-clause-builds
returns-in_err-params-clause-builds c = rw (failed c.from_residual.ensures.1) (refuses_first _ c.in_err-params.ensures.takes)

pub function_params-requires-2 : goal.function_params-requires-2
function_params-requires-2 c = ready_none (has_taken c.function_params.ensures.stays c.in_ok-params.ensures.takes c.requires)

pub returns-in_err-output-clause-builds : goal.returns-in_err-output-clause-builds
returns-in_err-output-clause-builds c =
    rw (failed c.from_residual-in_err-output.ensures.1)
    (refuses_after _ c.requires (moves_taken c.function_params.ensures.stays c.in_ok-params.ensures.takes) (λ _ _ _ _. refuses_first _ c.in_err-output.ensures.takes))

pub field-requires : goal.field-requires
field-requires c = (record_at (has_taken c.function_params-2.ensures.stays c.in_ok-output.ensures.takes (has_taken c.function_params.ensures.stays c.in_ok-params.ensures.takes c.requires)) _ (omega (arith, c.in_ok-params.ensures.takes.below, c.in_ok-output.ensures.takes.rising)), omega arith)

pub field-requires-2 : goal.field-requires-2
field-requires-2 c = (record_at (has_taken c.function_params-2.ensures.stays c.in_ok-output.ensures.takes (has_taken c.function_params.ensures.stays c.in_ok-params.ensures.takes c.requires)) _ c.in_ok-output.ensures.takes.below, omega arith)

pub param_count-count-requires : goal.param_count-count-requires
param_count-count-requires c = record_at (has_taken c.function_params-2.ensures.stays c.in_ok-output.ensures.takes (has_taken c.function_params.ensures.stays c.in_ok-params.ensures.takes c.requires)) _ (omega (arith, c.in_ok-params.ensures.takes.below, c.in_ok-output.ensures.takes.rising))

pub overflow_cast-params : goal.overflow_cast-params
overflow_cast-params c = place_at (has_taken c.function_params-2.ensures.stays c.in_ok-output.ensures.takes (has_taken c.function_params.ensures.stays c.in_ok-params.ensures.takes c.requires)) _ (omega (arith, c.in_ok-params.ensures.takes.below, c.in_ok-output.ensures.takes.rising))

pub overflow_cast-output : goal.overflow_cast-output
overflow_cast-output c = place_at (has_taken c.function_params-2.ensures.stays c.in_ok-output.ensures.takes (has_taken c.function_params.ensures.stays c.in_ok-params.ensures.takes c.requires)) _ c.in_ok-output.ensures.takes.below

pub grow-requires : goal.grow-requires
grow-requires c = room_at (has_taken c.function_params-2.ensures.stays c.in_ok-output.ensures.takes (has_taken c.function_params.ensures.stays c.in_ok-params.ensures.takes c.requires)) (omega arith) (omega arith) (omega arith)

pub returns-clause-builds : goal.returns-clause-builds
returns-clause-builds c =
    let s₁ = c.function_params.ensures.stays in
    let s₂ = c.function_params-2.ensures.stays in
    rw c.grow.ensures.place
    (between_built c.args.throws c.args.is_async _ _ _ _ _ _ c.requires c.in_ok-params.ensures.takes (rw s₁.ceiling at c.in_ok-output.ensures.takes) (cc) c.param_count-count.ensures refl refl (flagged _ c.from.ensures) (flagged _ c.from-2.ensures) (rw (s₂.ceiling, s₁.ceiling) at c.grow.ensures.grew))
