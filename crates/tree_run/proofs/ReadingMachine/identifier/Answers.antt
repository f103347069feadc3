use Rattle.std.proofs.Common.{arith}
use Rattle.std.proofs.lemmas.Result.{err_from_is_err_and}
use Rattle.tree_run.proofs.Names.{ready_room, named, not_named}
use Rattle.tree_run.proofs.ReadingMachine.identifier.Goals as goal

pub returns-in_err-identifier : goal.returns-in_err-identifier
returns-in_err-identifier c =
    let p = err_from_is_err_and c.from_residual.result c.from_residual.ensures.1 in
    rw (p.1, p.2)
    (not_named c.args.self.now c.args.text.now c.requires.0.inside c.requires.0.begins c.identifier.new.words c.in_err-identifier.ensures.answer c.in_err-identifier.ensures.fitting)

pub push_name-requires : goal.push_name-requires
push_name-requires c = (ready_room c.requires.0.ready, omega (arith, c.requires.0.inside, c.requires.1))

pub returns : goal.returns
returns c =
    let h = c.in_ok-identifier.ensures in
    named c.args.self.now c.args.text.now c.requires.0.inside c.requires.0.begins (omega (arith, c.requires.0.inside, c.requires.1)) c.push_name.new.trees c.push_name.ensures.stays c.push_name.ensures.kept c.identifier.new.text c.identifier.new.words h.answer h.fitting
