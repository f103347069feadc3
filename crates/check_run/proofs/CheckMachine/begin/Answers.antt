use Rattle.std.proofs.Common.{refl}
use Rattle.check_run.proofs.Steps.{begins}
use Rattle.check_run.proofs.CheckMachine.begin.Goals as goal

pub returns : goal.returns
returns c = begins c.args.self.now _ refl c.begin.result c.begin.ensures
