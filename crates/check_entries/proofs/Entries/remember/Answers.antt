use Rattle.check_entries.proofs.Written.{remembered_is}
use Rattle.check_entries.proofs.Entries.remember.Goals as goal

pub returns : goal.returns
returns c = remembered_is c.store.ensures c.requires.1 c.requires.2
