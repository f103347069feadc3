use Rattle.std.proofs.Common.{rules}
use Rattle.call_admission.specs.Admits.{parts}
use Rattle.swift_demangle.proofs.Ends.{ran_held, read_ran, read_not_ran, given_back}
use Rattle.swift_demangle.proofs.read_admitted.Goals as goal

pub returns-in-Err : goal.returns-in-Err
returns-in-Err c =
    let h = c.in-Err.ensures in
    let b = c.new-trees.ensures in
    (rw (c.in_text.ensures, ← b.ceiling) (read_not_ran (parts c.args.admitted) c.new-trees.result c.run.new.trees c.args.what c.args.out.now c.in-Err.refused h), given_back b h.wrote (search rules))

pub finish-requires : goal.finish-requires
finish-requires c = ran_held (parts c.args.admitted) c.new-trees.result c.run.new.trees c.run.new.words 4097 (search rules) c.in_default.ensures

pub returns : goal.returns
returns c =
    let h = c.in_default.ensures in
    let b = c.new-trees.ensures in
    (rw (← b.ceiling) (read_ran (parts c.args.admitted) c.new-trees.result c.run.new.trees c.run.new.words c.args.what c.args.out.now _ _ h c.finish.ensures), given_back b h.wrote (search rules))
