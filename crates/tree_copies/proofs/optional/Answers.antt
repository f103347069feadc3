use Rattle.definition.specs.Perform as R
use Rattle.tree_records.proofs.Exits.{failed}
use Rattle.tree_nodes.specs.Trees.{step_of}
use Rattle.tree_nodes.proofs.Ready.{ready_none}
use Rattle.tree_nodes.proofs.Steps.{refuses_first, refuses_after, moves_wrapped, fails}
use Rattle.tree_nodes.proofs.Trees.{has_wrapped}
use Rattle.tree_copies.proofs.LeafNodes.{given_tree, optional_done}
use Rattle.tree_copies.proofs.optional.Goals as goal

pub returns-in_err-wrap-clause-operates : goal.returns-in_err-wrap-clause-operates
unfolding R.optional
returns-in_err-wrap-clause-operates c = rw (failed c.from_residual.ensures.1) (fails (λ _. refuses_first _ c.in_err-wrap.ensures.wraps))

pub pop_if-requires : goal.pop_if-requires
pop_if-requires c = ready_none (has_wrapped c.wrap.ensures.reads c.in_ok-wrap.ensures.wraps c.requires)

pub returns-in_err-place-clause-operates : goal.returns-in_err-place-clause-operates
unfolding R.optional
returns-in_err-place-clause-operates c =
    rw (failed c.from_residual-in_err-place.ensures.1)
    (fails (λ _. refuses_after _ c.requires (moves_wrapped c.wrap.ensures.reads c.in_ok-wrap.ensures.wraps) (λ _ _ _ _. refuses_first _ c.in_err-place.ensures.takes)))

pub optional_of-requires-clause-ready_tree : goal.optional_of-requires-clause-ready_tree
optional_of-requires-clause-ready_tree c =
    rw c.pop_if.ensures.reads.ceiling (given_tree c.in_ok-place.ensures.takes (has_wrapped c.wrap.ensures.reads c.in_ok-wrap.ensures.wraps c.requires))

pub optional_of-requires-clause-place_lt_top : goal.optional_of-requires-clause-place_lt_top
optional_of-requires-clause-place_lt_top c = (c.in_ok-place.ensures.takes.below, c.in_ok-place.ensures.takes.small)

pub returns-clause-operates : goal.returns-clause-operates
returns-clause-operates c =
    let r = c.wrap.ensures.reads in
    let q = c.pop_if.ensures.reads in
    optional_done c.args.repeat (step_of c.optional_of.result c.optional_of.new.trees.state) c.in_ok-wrap.ensures.wraps (rw (r.slice, r.ceiling) at c.in_ok-place.ensures.takes) (rw (q.ceiling, r.ceiling) at c.optional_of.ensures.optioned)
