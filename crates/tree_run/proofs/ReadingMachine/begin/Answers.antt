use Rattle.tree_run.proofs.Steps.{begins}
use Rattle.tree_run.proofs.ReadingMachine.begin.Goals as goal

pub returns : goal.returns
returns c = begins c.args.self.now c.begin_turn.new.trees c.begin_turn.result c.begin_turn.ensures
