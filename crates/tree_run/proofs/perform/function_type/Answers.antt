use Rattle.std.proofs.Common.{arith}
use Rattle.definition.specs.Enums as Enums
use Rattle.definition.specs.Perform as R
use Rattle.tree_records.proofs.Exits.{failed}
use Rattle.tree_nodes.specs.Gives.{spare}
use Rattle.tree_nodes.proofs.Ready.{ready_less}
use Rattle.tree_nodes.proofs.Steps.{refuses_first, fails}
use Rattle.tree_run.proofs.perform.Dispatch.{function_room, function_pushed}
use Rattle.tree_run.proofs.perform.function_type.Goals as goal

pub function_type-requires : goal.function_type-requires
function_type-requires c = ready_less (spare 0 0 1 0) (omega arith) (omega arith) (omega arith) (omega arith) c.requires

pub returns-in_err-place-clause-operates : goal.returns-in_err-place-clause-operates
unfolding R.perform Enums.operator
returns-in_err-place-clause-operates c = rw (failed c.from_residual.ensures.1) (fails (λ _. refuses_first _ c.in_err-place.ensures.builds))

pub push-requires-clause-inside : goal.push-requires-clause-inside
push-requires-clause-inside c = rw c.function_type.ensures.stays.ceiling (function_room c.in_ok-place.ensures.builds c.requires).0

pub push-requires-clause-place_bound : goal.push-requires-clause-place_bound
push-requires-clause-place_bound c = (function_room c.in_ok-place.ensures.builds c.requires).1

pub returns-clause-operates : goal.returns-clause-operates
returns-clause-operates c = function_pushed c.in_ok-place.ensures.builds (rw c.function_type.ensures.stays.ceiling at c.push.ensures.pushed)
