use Rattle.std.proofs.Common.{arith}
use Rattle.tree_records.proofs.Places.{grew}
use Rattle.tree_records.proofs.Trees.grow.Goals as goal

pub make-requires : goal.make-requires
make-requires c = omega (arith, c.requires.long, c.requires.room, c.requires.charged)

pub returns-clause-grew : goal.returns-clause-grew
returns-clause-grew c = grew _ _ _ c.args.self.now.state _ c.requires (rw c.code.ensures at c.make.ensures)
