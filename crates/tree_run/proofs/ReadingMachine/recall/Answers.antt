use Rattle.tree_run.proofs.Steps.{recalls}
use Rattle.tree_run.proofs.ReadingMachine.recall.Goals as goal

pub returns : goal.returns
returns c = recalls c.args.self.now c.recall.new.trees c.recall.ensures.stays c.args.times c.args.index c.recall.result c.recall.ensures.recalled
