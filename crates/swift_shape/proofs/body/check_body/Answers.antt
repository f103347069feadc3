use Rattle.std.proofs.Common.{arith}
use Rattle.swift_shape.proofs.body.check_body.Goals as goal

pub check_admitted-requires : goal.check_admitted-requires
check_admitted-requires c = omega (arith, c.requires.4, c.part.ensures.ceiling)

pub returns : goal.returns
returns c = let p = c.part.ensures in rw (p.symbol, p.ceiling) at c.check_admitted.ensures
