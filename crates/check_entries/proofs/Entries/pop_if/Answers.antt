use Rattle.machine.specs.Wanted.{want_of}
use Rattle.check_entries.proofs.Composites.{popped}
use Rattle.check_entries.proofs.Entries.pop_if.Goals as goal

pub returns : goal.returns
returns c = popped (want_of c.args.want) _ _ c.try_take.result c.try_take.ensures c.ok_or.ensures.value
