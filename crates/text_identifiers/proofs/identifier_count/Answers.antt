use Rattle.text_identifiers.proofs.Identifying.{counts}
use Rattle.text_identifiers.proofs.identifier_count.Goals as goal

pub returns : goal.returns
returns c = counts c.args.text.now c.read.new.text c.args.count.now c.read.new.known c.read.result c.read.ensures
