use Rattle.std.proofs.Common.{arith}
use Rattle.swift_shape.proofs.body.check_stopped_body.Goals as goal

pub check_stopped_admitted-requires : goal.check_stopped_admitted-requires
check_stopped_admitted-requires c = omega (arith, c.requires.4, c.part.ensures.ceiling)

pub returns : goal.returns
returns c = let p = c.part.ensures in rw (p.symbol, p.ceiling) at c.check_stopped_admitted.ensures
