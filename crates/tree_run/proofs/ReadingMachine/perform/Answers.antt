use Rattle.definition.specs.Enums as Enums
use Rattle.definition.specs.Perform as R
use Rattle.tree_run.proofs.Steps.{operates}
use Rattle.tree_run.proofs.ReadingMachine.perform.Goals as goal

pub returns : goal.returns
returns c =
    operates c.args.self.now c.perform.new.trees c.perform.ensures.stays (λ fixed. R.perform c.args.self.now.trees.now.n (Enums.operator fixed c.args.op)) c.perform.result c.perform.ensures.operates
