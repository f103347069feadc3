use Rattle.std.proofs.Common.{rules}
use Rattle.call_admission.specs.Admits.{parts}
use Rattle.check_perform.proofs.Leaves.{sound_inside}
use Rattle.swift_shape.proofs.Ends.{given_back, check_taken, check_not_taken, check_stopped}
use Rattle.swift_shape.proofs.check_admitted.Goals as goal

pub returns-in-Err : goal.returns-in-Err
returns-in-Err c =
    let h = c.in-Err.ensures in
    let b = c.new-entries.ensures in
    (rw (c.in_text.ensures, ← b.ceiling) (check_stopped (parts c.args.admitted) c.new-entries.result c.run.new.entries c.args.what c.in-Err.refused h), given_back b h.wrote (search rules))

pub single-requires : goal.single-requires
single-requires c = sound_inside c.in_default.ensures.sound

pub returns-then-not-single : goal.returns-then-not-single
returns-then-not-single c =
    let h = c.in_default.ensures in
    let b = c.new-entries.ensures in
    (rw (c.at_end.ensures, ← b.ceiling) (check_not_taken (parts c.args.admitted) c.new-entries.result c.run.new.entries c.args.what h (search rules)), given_back b h.wrote (search rules))

pub returns : goal.returns
returns c =
    let h = c.in_default.ensures in
    let b = c.new-entries.ensures in
    (rw (c.from.ensures, ← b.ceiling) (check_taken (parts c.args.admitted) c.new-entries.result c.run.new.entries c.args.what h (search rules)), given_back b h.wrote (search rules))
