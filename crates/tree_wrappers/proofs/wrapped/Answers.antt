use Rattle.definition.specs.Kind as K
use Rattle.definition.specs.Perform as R
use Rattle.tree_records.proofs.Exits.{failed}
use Rattle.tree_nodes.specs.Gives.{over}
use Rattle.tree_nodes.proofs.Steps.{refuses_first, fails}
use Rattle.tree_nodes.proofs.Trees.{has_wrapped}
use Rattle.tree_wrappers.proofs.Over.{wrapped_in}
use Rattle.tree_wrappers.proofs.wrapped.Goals as goal

pub returns-in_err-wrap-clause-operates : goal.returns-in_err-wrap-clause-operates
unfolding R.wrapped
returns-in_err-wrap-clause-operates c = λ f o. rw (failed c.from_residual.ensures.1) (fails (λ _. refuses_first _ c.in_err-wrap.ensures.wraps))

pub one_child-requires : goal.one_child-requires
one_child-requires c = has_wrapped c.wrap.ensures.reads c.in_ok-wrap.ensures.wraps c.requires

pub returns-clause-operates : goal.returns-clause-operates
unfolding R.wrapped
returns-clause-operates c = λ f o. wrapped_in (over K.is_type f) c.one_child.new.trees c.one_child.result c.wrap.ensures.reads c.in_ok-wrap.ensures.wraps (c.one_child.ensures.operates f o)
