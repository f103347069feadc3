use Rattle.std.proofs.Common.{refl}
use Rattle.std.proofs.lemmas.Result.{err_from_is_err_and}
use Rattle.tree_run.specs.Beginnings.{no_step, no_charge}
use Rattle.tree_run.proofs.begin_turn.Goals as goal

pub returns-in_err-step : goal.returns-in_err-step
returns-in_err-step c =
    let p = err_from_is_err_and c.from_residual.result c.from_residual.ensures.1 in
    rw (p.1, p.2) (record { missing = no_step c.in_err-step.ensures; rest = refl })

pub returns-in_err-trees : goal.returns-in_err-trees
returns-in_err-trees c =
    let p = err_from_is_err_and c.from_residual-in_err-trees.result c.from_residual-in_err-trees.ensures.1 in
    rw (p.1, p.2) (record { missing = no_charge c.in_ok-step.field-0 c.in_ok-step.ensures c.in_err-trees.ensures; rest = refl })

pub returns : goal.returns
returns c = record { stepped = c.in_ok-step.field-0; step = c.in_ok-step.ensures; charge = c.in_ok-trees.ensures; rest = refl }
