use Rattle.std.proofs.Common.{arith, length}
use Rattle.definition.specs.Reading as Reading
use Rattle.call_endings.proofs.Entering.{failed, kept_out, scratch_same}
use Rattle.swift_demangle.proofs.Ends.{answered_k}
use Rattle.swift_demangle.proofs.read_stopped.Goals as goal

pub returns-in_err-admitted : goal.returns-in_err-admitted
returns-in_err-admitted c = rw (failed c.from_residual.ensures.1) (kept_out c.args.what 64 c.args.ceiling (length c.args.workspace.now) c.args.text.now (Reading.stopped_after c.args.ceiling c.args.k) c.args.out.now c.in_err-admitted.ensures, scratch_same 64 c.args.ceiling _ c.args.workspace.now)

pub read_stopped_admitted-requires : goal.read_stopped_admitted-requires
read_stopped_admitted-requires c = let p = c.in_ok-admitted.ensures in omega (arith, p.long, p.ceiling)

pub returns : goal.returns
returns c =
    let p = c.in_ok-admitted.ensures in
    let h = rw p.ceiling at c.read_stopped_admitted.ensures in
    answered_k c.args.what c.args.text.now p h.1 c.args.k h.0
