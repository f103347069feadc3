use Rattle.std.proofs.lemmas.Result.{err_from_is_err_and}
use Rattle.tree_run.proofs.Names.{ready_room, plain, not_plain}
use Rattle.tree_run.proofs.ReadingMachine.literal.Goals as goal

pub returns-in_err-bytes : goal.returns-in_err-bytes
returns-in_err-bytes c =
    let p = err_from_is_err_and c.from_residual.result c.from_residual.ensures.1 in
    rw (p.1, p.2)
    (not_plain c.args.self.now c.args.text.now c.requires.0.inside c.requires.0.begins c.requires.2 c.in_err-bytes.ensures)

pub push_name-requires : goal.push_name-requires
push_name-requires c = (ready_room c.requires.0.ready, c.requires.1)

pub returns : goal.returns
returns c =
    plain c.args.self.now c.args.text.now c.requires.0.inside c.requires.0.begins c.requires.1 c.push_name.new.trees c.push_name.ensures.stays c.push_name.ensures.kept c.requires.2 c.literal.new.text c.in_ok-bytes.bytes c.in_ok-bytes.ensures
