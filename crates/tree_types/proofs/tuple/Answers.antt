use Rattle.definition.specs.Node.{Tuple}
use Rattle.definition.specs.Perform as R
use Rattle.tree_records.proofs.Exits.{failed}
use Rattle.tree_nodes.proofs.Steps.{refuses_first, fails}
use Rattle.tree_nodes.proofs.Trees.{has_wrapped}
use Rattle.tree_types.specs.TypeLists.{delimited}
use Rattle.tree_types.proofs.ListNodes.{tuple_node}
use Rattle.tree_wrappers.proofs.Over.{wrapped_in}
use Rattle.tree_types.proofs.tuple.Goals as goal

pub returns-in_err-wrap-clause-operates : goal.returns-in_err-wrap-clause-operates
unfolding R.tuple
returns-in_err-wrap-clause-operates c = rw (failed c.from_residual.ensures.1) (fails (λ _. refuses_first _ c.in_err-wrap.ensures.wraps))

pub over_list-requires : goal.over_list-requires
over_list-requires c = has_wrapped c.wrap.ensures.reads c.in_ok-wrap.ensures.wraps c.requires

pub returns-clause-operates : goal.returns-clause-operates
unfolding R.tuple
returns-clause-operates c = wrapped_in (delimited R.elements Tuple) c.over_list.new.trees c.over_list.result c.wrap.ensures.reads c.in_ok-wrap.ensures.wraps (c.over_list.ensures.operates Tuple tuple_node)
