use Rattle.std.proofs.Common.{arith, length}
use Rattle.definition.specs.Check as Check
use Rattle.machine.specs.RunEnds.{kinds_of}
use Rattle.call_endings.proofs.Entering.{failed, kept_out_values, scratch_same}
use Rattle.swift_shape.proofs.Ends.{checked}
use Rattle.swift_shape.proofs.check.Goals as goal

pub returns-in_err-admitted : goal.returns-in_err-admitted
returns-in_err-admitted c = rw (failed c.from_residual.ensures.1) (kept_out_values c.args.what 8 c.args.ceiling (length c.args.workspace.now) c.args.text.now (Check.whole c.args.ceiling (kinds_of c.args.what)) c.in_err-admitted.ensures, scratch_same 8 c.args.ceiling _ c.args.workspace.now)

pub check_admitted-requires : goal.check_admitted-requires
check_admitted-requires c = let p = c.in_ok-admitted.ensures in omega (arith, p.long, p.ceiling)

pub returns : goal.returns
returns c =
    let p = c.in_ok-admitted.ensures in
    let h = rw p.ceiling at c.check_admitted.ensures in
    checked c.args.what c.args.text.now p h.1 _ h.0
