use Rattle.std.proofs.Common.{refl, rules}
use Rattle.tree_run.proofs.Whole.{starts, given_back}
use Rattle.tree_run.proofs.run.Goals as goal

pub run-ended-requires : goal.run-ended-requires
run-ended-requires c = (
  starts c.args.trees.now c.new-trees.result c.new-trees.ensures _ refl c.new.ensures c.args.body.now c.requires.0 c.requires.1,
  c.requires.2,
  c.requires.3,
)

pub returns : goal.returns
returns c = given_back c.args.trees.now c.new-trees.result c.new-trees.ensures _ refl c.new.ensures c.args.k c.args.body.now c.run-ended.new.machine c.run-ended.result (search rules) c.run-ended.ensures
