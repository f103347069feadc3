use Rattle.tree_records.proofs.Places.{pushed}
use Rattle.tree_records.proofs.Trees.push.Goals as goal

pub returns-clause-pushed : goal.returns-clause-pushed
returns-clause-pushed c = pushed _ _ c.args.self.now.state _ c.requires.inside
