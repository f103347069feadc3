use Rattle.machine.specs.Wanted.{want_of}
use Rattle.check_entries.proofs.Composites.{looks}
use Rattle.check_entries.proofs.Entries.took.Goals as goal

pub returns : goal.returns
returns c = looks (want_of c.args.want) _ _ c.requires c.try_take.result c.try_take.ensures c.is_some.ensures
