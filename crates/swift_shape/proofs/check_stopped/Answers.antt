use Rattle.std.proofs.Common.{arith, length}
use Rattle.definition.specs.Check as Check
use Rattle.call_endings.proofs.Entering.{failed, kept_out, scratch_same}
use Rattle.swift_shape.proofs.Ends.{checked_k}
use Rattle.swift_shape.proofs.check_stopped.Goals as goal

pub returns-in_err-admitted : goal.returns-in_err-admitted
returns-in_err-admitted c = rw (failed c.from_residual.ensures.1) (kept_out c.args.what 8 c.args.ceiling (length c.args.workspace.now) c.args.text.now (Check.stopped_after c.args.ceiling c.args.k) c.args.out.now c.in_err-admitted.ensures, scratch_same 8 c.args.ceiling _ c.args.workspace.now)

pub check_stopped_admitted-requires : goal.check_stopped_admitted-requires
check_stopped_admitted-requires c = let p = c.in_ok-admitted.ensures in omega (arith, p.long, p.ceiling)

pub returns : goal.returns
returns c =
    let p = c.in_ok-admitted.ensures in
    let h = rw p.ceiling at c.check_stopped_admitted.ensures in
    checked_k c.args.what c.args.text.now p h.1 c.args.k h.0
