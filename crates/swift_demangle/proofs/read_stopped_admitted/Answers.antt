use Rattle.std.proofs.Common.{rules}
use Rattle.call_admission.specs.Admits.{parts}
use Rattle.swift_demangle.proofs.Ends.{ran_ready, read_k_ran, read_k_not_ran, given_back}
use Rattle.swift_demangle.proofs.read_stopped_admitted.Goals as goal

pub returns-in-Err : goal.returns-in-Err
returns-in-Err c =
    let h = c.in-Err.ensures in
    let b = c.new-trees.ensures in
    (rw (c.in_text.ensures, ← b.ceiling) (read_k_not_ran (parts c.args.admitted) c.new-trees.result c.run.new.trees c.args.k c.args.out.now c.in-Err.refused h), given_back b h.wrote (search rules))

pub write_stack-written-requires : goal.write_stack-written-requires
write_stack-written-requires c = ran_ready (parts c.args.admitted) c.new-trees.result c.run.new.trees c.run.new.words c.args.k c.in_default.ensures

pub returns : goal.returns
returns c =
    let h = c.in_default.ensures in
    let b = c.new-trees.ensures in
    (rw (← b.ceiling) (read_k_ran (parts c.args.admitted) c.new-trees.result c.run.new.trees c.run.new.words c.args.k c.args.out.now _ c.write_stack-written.result _ h c.write_stack-written.ensures c.stacked.ensures), given_back b h.wrote (search rules))
