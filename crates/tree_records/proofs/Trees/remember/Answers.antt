use Rattle.tree_records.proofs.Places.{remembered}
use Rattle.tree_records.proofs.Trees.remember.Goals as goal

pub returns-clause-remembered : goal.returns-clause-remembered
returns-clause-remembered c = remembered _ _ c.args.self.now.state _ c.requires.inside
