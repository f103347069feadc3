use Rattle.std.proofs.lemmas.Result.{err_from_is_err_and}
use Rattle.run.proofs.OneOperator.{not_begun, turn_plain}
use Rattle.run.proofs.plain_turn.Goals as goal

pub returns-in_err-begin : goal.returns-in_err-begin
returns-in_err-begin g c =
    let p = err_from_is_err_and c.from_residual.result c.from_residual.ensures.1 in
    rw (p.1, p.2) (not_begun g.M.Machine.meaning g.met.M.Machine.laws c.args.text.now c.in_err-begin.ensures)

pub literal-requires : goal.literal-requires
literal-requires g c =
    let h = c.requires.0 in
    (record { ready = c.in_ok-begin.ensures.ready h.ready; inside = h.inside; begins = h.begins; formed = h.formed }, c.requires.1, c.requires.2)

pub returns : goal.returns
returns g c =
    turn_plain g.M.Machine.meaning g.met.M.Machine.laws c.args.text.now c.in_ok-begin.ensures c.literal.new.text c.literal.new.self c.literal.result c.literal.ensures
