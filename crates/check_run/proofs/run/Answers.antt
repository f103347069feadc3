use Rattle.std.proofs.Common.{refl, rules}
use Rattle.check_run.proofs.Whole.{starts, given_back}
use Rattle.check_run.proofs.run.Goals as goal

pub run-requires : goal.run-requires
run-requires c = (starts c.args.entries.now c.new-entries.result c.new-entries.ensures _ refl c.args.body.now c.requires.0 c.requires.1, c.requires.2, c.requires.3)

pub returns : goal.returns
returns c = given_back c.args.entries.now c.new-entries.result c.new-entries.ensures _ refl c.args.k c.args.body.now c.run.new.machine c.run.result (search rules) c.run.ensures
