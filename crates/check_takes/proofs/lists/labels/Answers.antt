use Rattle.std.proofs.Common.{◌≡◌, ◌+◌, ◌-◌, arith}
use Rattle.std.proofs.lemmas.Result.{err_from_is_err_and}
use Rattle.check_entries.proofs.Top.{held_less}
use Rattle.check_takes.proofs.Rounds.{labels_start, labels_more, labels_fail, labels_end}
use Rattle.check_takes.proofs.lists.labels.Goals as goal

pub loop-init : goal.loop-init
loop-init c = let q : c.args.count - 0 ≡ c.args.count = omega arith in rw q (labels_start _ _)

pub label-requires : goal.label-requires
label-requires c = held_less c.requires c.loop.invariant.unwritten c.loop.invariant.depth

pub returns-in_err-label : goal.returns-in_err-label
returns-in_err-label c =
    let p = err_from_is_err_and c.from_residual.result c.from_residual.ensures.1 in
    rw (p.1, p.2) (labels_fail c.loop.invariant (omega arith) c.in_err-label.ensures)

pub loop-preserved : goal.loop-preserved
loop-preserved c =
    let q : (c.args.count - c.loop.counter) - 1 ≡ c.args.count - (c.loop.counter + 1) = omega arith in
    rw (← q) (labels_more c.loop.invariant (omega arith) c.in_ok-label.ensures)

pub returns : goal.returns
returns c = labels_end c.loop.invariant (omega arith)
