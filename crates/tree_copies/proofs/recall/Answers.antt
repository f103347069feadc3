use Rattle.std.proofs.Common.{arith, refl}
use Rattle.tree_nodes.specs.Trees.{step_of}
use Rattle.tree_copies.proofs.Copies.{recall_past, recall_ready, recalled}
use Rattle.tree_copies.proofs.recall.Goals as goal

pub returns-then-trees-index-clause-recalled : goal.returns-then-trees-index-clause-recalled
returns-then-trees-index-clause-recalled c = recall_past c.args.times c.args.index 0 (omega arith)

pub copied-requires-clause-place_lt_top : goal.copied-requires-clause-place_lt_top
copied-requires-clause-place_lt_top c = recall_ready 0 c.args.index _ refl c.requires (omega arith)

pub returns-clause-recalled : goal.returns-clause-recalled
returns-clause-recalled c = recalled c.args.times c.args.index _ (step_of c.copied.result c.copied.new.trees.state) refl (omega arith) c.copied.ensures.copied
