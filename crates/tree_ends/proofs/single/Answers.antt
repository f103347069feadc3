use Rattle.std.proofs.Common.{refl, arith}
use Rattle.tree_nodes.proofs.Ready.{inside_record}
use Rattle.tree_ends.proofs.StackEnds.{single_none, single_inside, single_at, single_other}
use Rattle.tree_ends.proofs.single.Goals as goal

pub returns-then-trees-ne1 : goal.returns-then-trees-ne1
returns-then-trees-ne1 c = single_none c.args.what c.if-trees-ne1.true

pub field-requires : goal.field-requires
field-requires c = (inside_record _ (single_inside c.args.what (omega arith) c.requires) c.requires, omega arith)

pub returns-then-not-takes : goal.returns-then-not-takes
returns-then-not-takes c = single_other c.args.what (omega arith) _ refl (cc)

pub returns : goal.returns
returns c = single_at c.args.what (omega arith) _ refl (cc)
