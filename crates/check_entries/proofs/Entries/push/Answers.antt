use Rattle.check_entries.proofs.Written.{pushed}
use Rattle.check_entries.proofs.Entries.push.Goals as goal

pub returns : goal.returns
returns c = pushed c.store.ensures c.requires.1
