use Rattle.std.proofs.Common.{arith}
use Rattle.swift_demangle.proofs.body.read_stopped_body.Goals as goal

pub read_stopped_admitted-requires : goal.read_stopped_admitted-requires
read_stopped_admitted-requires c = omega (arith, c.requires.4, c.part.ensures.ceiling)

pub returns : goal.returns
returns c = let p = c.part.ensures in rw (p.symbol, p.ceiling) at c.read_stopped_admitted.ensures
