use Rattle.call_admission.proofs.Tests.{symbol_framed}
use Rattle.call_admission.proofs.parts_of.Goals as goal

pub returns-in-Symbol : goal.returns-in-Symbol
returns-in-Symbol c = symbol_framed c.args.text.now c.requires c.in-Symbol.is c.split.result c.split.ensures
