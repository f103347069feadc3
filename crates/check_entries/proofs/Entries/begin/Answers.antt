use Rattle.check_entries.proofs.Steps.{charged}
use Rattle.check_entries.proofs.Entries.begin.Goals as goal

pub returns : goal.returns
returns c =
    charged c.args.self.now c.in_ok-step.field-0 c.in_ok-step.ensures c.in_ok-self.field-0 c.in_ok-self.ensures
