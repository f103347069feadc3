use Rattle.tree_nodes.proofs.Cases.{flagged}
use Rattle.tree_records.proofs.Exits.{failed}
use Rattle.tree_nodes.proofs.Ready.{ready_none}
use Rattle.tree_nodes.proofs.Steps.{refuses_first, fails}
use Rattle.tree_entities.proofs.Overs.{under, over, deinitializer_node}
use Rattle.tree_entities.proofs.deinitializer.Goals as goal

pub context-requires : goal.context-requires
context-requires c = ready_none c.requires

pub returns-in_err-home-clause-operates : goal.returns-in_err-home-clause-operates
returns-in_err-home-clause-operates c = rw (failed c.from_residual.ensures.1) (fails (λ _. refuses_first _ c.in_err-home.ensures.takes))

pub push_over-requires : goal.push_over-requires
push_over-requires c = rw c.context.ensures.stays.ceiling (under c.in_ok-home.ensures.takes c.requires)

pub returns-clause-operates : goal.returns-clause-operates
returns-clause-operates c = over (deinitializer_node _ _ (flagged _ c.from.ensures)) c.in_ok-home.ensures.takes (rw c.context.ensures.stays.ceiling at c.push_over.ensures.left)
