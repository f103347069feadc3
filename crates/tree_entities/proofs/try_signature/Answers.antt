use Rattle.tree_entities.proofs.Signatures.{signs_of}
use Rattle.tree_entities.proofs.try_signature.Goals as goal

pub returns-clause-gives : goal.returns-clause-gives
returns-clause-gives c = signs_of _ _ c.try_pop.result c.try_pop.ensures.tries
