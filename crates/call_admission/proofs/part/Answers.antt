use Rattle.call_admission.proofs.Tests.{part_is}
use Rattle.call_admission.proofs.part.Goals as goal

pub returns-clause-symbol : goal.returns-clause-symbol
returns-clause-symbol c = part_is c.args.text.now c.args.start c.args.end c.requires.1
