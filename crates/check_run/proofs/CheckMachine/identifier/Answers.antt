use Rattle.std.proofs.Common.{refl}
use Rattle.std.proofs.lemmas.Result.{err_from_is_err_and}
use Rattle.check_run.proofs.Names.{named, not_named}
use Rattle.check_run.proofs.CheckMachine.identifier.Goals as goal

pub returns-in_err-identifier_count : goal.returns-in_err-identifier_count
returns-in_err-identifier_count c =
    let p = err_from_is_err_and c.from_residual.result c.from_residual.ensures.1 in
    rw (p.1, p.2)
    (not_named c.args.self.now c.args.self.now refl c.args.text.now c.requires.0.inside c.requires.0.begins c.in_err-identifier_count.ensures.refuses)

pub returns : goal.returns
returns c =
    named c.args.self.now _ refl c.args.text.now c.requires.0.inside c.requires.0.begins c.identifier_count.new.text c.in_ok-identifier_count.ensures c.name.ensures
