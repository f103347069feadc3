use Rattle.std.proofs.lemmas.Result.{err_from_is_err_and}
use Rattle.check_entries.proofs.Steps.{wrapped, not_wrapped}
use Rattle.check_entries.proofs.Entries.wrap.Goals as goal

pub returns-in_err-self : goal.returns-in_err-self
returns-in_err-self c =
    let p = err_from_is_err_and c.from_residual.result c.from_residual.ensures.1 in
    rw (p.1, p.2) (not_wrapped c.args.self.now _ c.in_err-self.ensures)

pub returns : goal.returns
returns c = wrapped c.args.self.now c.in_ok-self.field-0 c.in_ok-self.ensures
