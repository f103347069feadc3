use Rattle.std.proofs.Common.{arith}
use Rattle.check_entries.specs.declared.Take.TheVariants.{Wraps}
use Rattle.std.proofs.lemmas.Result.{err_from_is_err_and}
use Rattle.check_perform.proofs.RowTakes.{row_ended, row_ready, row_more, row_fails, next_take, no_take}
use Rattle.check_perform.proofs.take_row.Goals as goal

pub take_one-requires : goal.take_one-requires
take_one-requires c =
    row_ready c.loop-take.invariant _ _ (next_take c.args.takes.now c.loop-take.take-index Wraps (omega arith)) c.requires.room

pub returns-in_err-taken : goal.returns-in_err-taken
returns-in_err-taken c =
    let p = err_from_is_err_and c.from_residual.result c.from_residual.ensures.1 in
    rw (p.1, p.2)
    (row_fails c.loop-take.invariant _ _ (next_take c.args.takes.now c.loop-take.take-index Wraps (omega arith)) c.in_err-taken.ensures)

pub loop-take-preserved : goal.loop-take-preserved
loop-take-preserved c =
    row_more c.loop-take.invariant _ _ (next_take c.args.takes.now c.loop-take.take-index Wraps (omega arith)) c.in_ok-taken.ensures

pub returns : goal.returns
returns c = row_ended c.loop-take.invariant (no_take c.args.takes.now c.loop-take.take-index (omega arith))
