use Rattle.call_alike.proofs.Judging.{whole_is}
use Rattle.call_alike.proofs.whole.Goals as goal

pub returns : goal.returns
returns c = whole_is c.args.text.now c.args.what c.args.ceiling c.read.result c.check.result c.whole_agrees.result c.read.ensures c.check.ensures c.whole_agrees.ensures
