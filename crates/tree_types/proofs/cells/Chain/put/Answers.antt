use Rattle.std.proofs.Common.{◌+◌, refl, ap}
use Rattle.tree_types.proofs.cells.Cells.{adds}
use Rattle.tree_types.proofs.cells.Chain.put.Goals as goal

pub returns-clause-adds : goal.returns-clause-adds
returns-clause-adds c = adds {st = c.args.trees.now.state} {l = c.args.self.now} {p = c.args.place} _ _ _ _ _ c.grow-cell.ensures.grew refl c.grow-cell.ensures.place refl refl (ap (λ i. c.args.self.now.sum + i) c.field-size.ensures) c.requires
