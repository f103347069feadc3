use Rattle.tree_nodes.proofs.Cases.{has_tried_any, assoc_of}
use Rattle.definition.specs.Kind as K
use Rattle.definition.specs.Perform as R
use Rattle.tree_nodes.proofs.take.assoc_type_name.Goals as goal

pub pop_name-requires : goal.pop_name-requires
pop_name-requires c = has_tried_any (R.try K.is_protocol) c.try_pop.result c.try_pop.ensures.reads c.try_pop.ensures.tries c.requires

pub returns-clause-takes : goal.returns-clause-takes
returns-clause-takes c = assoc_of _ c.try_pop.result c.pop_name.result c.requires c.try_pop.ensures.reads c.try_pop.ensures.tries c.pop_name.ensures.takes
