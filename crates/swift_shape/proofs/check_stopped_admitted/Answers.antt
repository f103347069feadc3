use Rattle.std.proofs.Common.{rules}
use Rattle.call_admission.specs.Admits.{parts}
use Rattle.check_perform.proofs.Leaves.{sound_inside}
use Rattle.swift_shape.proofs.Ends.{given_back, check_k_ran, check_k_stopped}
use Rattle.swift_shape.proofs.check_stopped_admitted.Goals as goal

pub returns-in-Err : goal.returns-in-Err
returns-in-Err c =
    let h = c.in-Err.ensures in
    let b = c.new-entries.ensures in
    (rw (c.in_text.ensures, ← b.ceiling) (check_k_stopped (parts c.args.admitted) c.new-entries.result c.run.new.entries c.args.k c.args.out.now c.in-Err.refused h), given_back b h.wrote (search rules))

pub write_stack-written-requires : goal.write_stack-written-requires
write_stack-written-requires c = sound_inside c.in_default.ensures.sound

pub returns : goal.returns
returns c =
    let h = c.in_default.ensures in
    let b = c.new-entries.ensures in
    (rw (← b.ceiling) (check_k_ran (parts c.args.admitted) c.new-entries.result c.run.new.entries c.args.k c.args.out.now _ c.write_stack-written.result _ h c.write_stack-written.ensures c.stacked.ensures), given_back b h.wrote (search rules))
