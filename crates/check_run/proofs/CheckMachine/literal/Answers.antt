use Rattle.std.proofs.Common.{refl}
use Rattle.std.proofs.lemmas.Result.{err_from_is_err_and}
use Rattle.check_run.proofs.Names.{plain, not_plain}
use Rattle.check_run.proofs.CheckMachine.literal.Goals as goal

pub returns-in_err-bytes : goal.returns-in_err-bytes
returns-in_err-bytes c =
    let p = err_from_is_err_and c.from_residual.result c.from_residual.ensures.1 in
    rw (p.1, p.2)
    (not_plain c.args.self.now c.args.self.now refl c.args.text.now c.requires.0.inside c.requires.0.begins c.requires.2 c.in_err-bytes.ensures)

pub returns : goal.returns
returns c =
    plain c.args.self.now _ refl c.args.text.now c.requires.0.inside c.requires.0.begins c.requires.2 c.literal.new.text c.in_ok-bytes.bytes c.in_ok-bytes.ensures c.name.ensures
