use Rattle.std.proofs.lemmas.Result.{err_from_is_err_and}
use Rattle.run.proofs.OneOperator.{not_begun, turn_on}
use Rattle.run.proofs.turn.Goals as goal

pub returns-in_err-begin : goal.returns-in_err-begin
returns-in_err-begin g c =
    let p = err_from_is_err_and c.from_residual.result c.from_residual.ensures.1 in
    rw (p.1, p.2) (not_begun g.M.Machine.meaning g.met.M.Machine.laws c.args.text.now c.in_err-begin.ensures)

pub operated-requires : goal.operated-requires
operated-requires g c = (c.in_ok-begin.ensures.ready c.requires.0, c.requires.1, c.requires.2)

pub returns : goal.returns
returns g c =
    turn_on g.M.Machine.meaning g.met.M.Machine.laws c.args.text.now c.in_ok-begin.ensures c.operated.new.text c.operated.new.machine c.operated.result c.operated.ensures
