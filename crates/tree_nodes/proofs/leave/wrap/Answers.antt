use Rattle.std.proofs.Common.{refl}
use Rattle.definition.specs.Machine as M
use Rattle.machine.specs.Beyond.{beyond_itself}
use Rattle.tree_records.proofs.Exits.{failed}
use Rattle.tree_nodes.proofs.Leaving.{wraps_to, counts_not}
use Rattle.tree_nodes.proofs.leave.wrap.Goals as goal

pub returns-in_err-trees-clause-wraps : goal.returns-in_err-trees-clause-wraps
unfolding M.wrap M.spend
returns-in_err-trees-clause-wraps c = rw (failed c.from_residual.ensures.1) (record { refuses = λ nm sp m h. rw (← h.budget, c.in_err-trees.ensures) refl; beyond = beyond_itself _ _ })

pub returns-in_err-trees-clause-counts : goal.returns-in_err-trees-clause-counts
returns-in_err-trees-clause-counts c = rw (failed c.from_residual.ensures.1) (counts_not _ _ c.in_err-trees.ensures)

pub returns-clause-wraps : goal.returns-clause-wraps
returns-clause-wraps c = wraps_to c.args.trees.now.state _ c.in_ok-trees.ensures _ _

pub returns-clause-counts : goal.returns-clause-counts
returns-clause-counts c = record { is = c.in_ok-trees.ensures; rest = refl }
