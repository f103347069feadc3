use Rattle.definition.specs.Perform as R
use Rattle.tree_records.proofs.Exits.{failed}
use Rattle.tree_nodes.proofs.Steps.{refuses_first, fails}
use Rattle.tree_nodes.proofs.Trees.{has_wrapped}
use Rattle.tree_types.specs.TypeLists.{applied}
use Rattle.tree_wrappers.proofs.Over.{wrapped_in}
use Rattle.tree_types.proofs.bound_generic.Goals as goal

pub returns-in_err-wrap-clause-operates : goal.returns-in_err-wrap-clause-operates
unfolding R.bound_generic
returns-in_err-wrap-clause-operates c = rw (failed c.from_residual.ensures.1) (fails (λ _. refuses_first _ c.in_err-wrap.ensures.wraps))

pub apply-requires : goal.apply-requires
apply-requires c = has_wrapped c.wrap.ensures.reads c.in_ok-wrap.ensures.wraps c.requires

pub returns-clause-operates : goal.returns-clause-operates
unfolding R.bound_generic
returns-clause-operates c = wrapped_in applied c.apply.new.trees c.apply.result c.wrap.ensures.reads c.in_ok-wrap.ensures.wraps c.apply.ensures.operates
