use Rattle.std.proofs.lemmas.Result.{err_from_is_err_and}
use Rattle.run.proofs.Chains.{item_done, item_fails, item_broken}
use Rattle.run.proofs.item.Goals as goal

pub returns-in_err-copies : goal.returns-in_err-copies
returns-in_err-copies g c =
    let p = err_from_is_err_and c.from_residual.result c.from_residual.ensures.1 in
    rw (p.1, p.2) (item_broken g.M.Machine.meaning g.met.M.Machine.laws c.args.machine.now c.args.text.now c.in_err-copies.ensures.says c.in_err-copies.ensures.text)

pub recall-requires : goal.recall-requires
recall-requires g c = c.requires

pub returns-in_err-recall : goal.returns-in_err-recall
returns-in_err-recall g c =
    let p = err_from_is_err_and c.from_residual-in_err-recall.result c.from_residual-in_err-recall.ensures.1 in
    let x = c.in_ok-copies.copies in
    rw (p.1, p.2)
    (item_fails g.M.Machine.meaning g.met.M.Machine.laws c.args.machine.now c.args.text.now c.substitution.new.text x.times x.index x.last c.in_ok-copies.ensures.says c.in_err-recall.ensures)

pub returns : goal.returns
returns g c =
    let x = c.in_ok-copies.copies in
    item_done g.M.Machine.meaning g.met.M.Machine.laws c.args.machine.now c.args.text.now c.substitution.new.text x.times x.index x.last c.in_ok-copies.ensures.says c.in_ok-recall.ensures
