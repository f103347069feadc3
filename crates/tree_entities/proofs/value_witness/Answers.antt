use Rattle.tree_records.proofs.Exits.{failed}
use Rattle.tree_nodes.proofs.Ready.{ready_none}
use Rattle.tree_nodes.proofs.Steps.{refuses_first, fails}
use Rattle.tree_entities.proofs.Overs.{under, over, value_witness_node}
use Rattle.tree_entities.proofs.value_witness.Goals as goal

pub pop_if-requires : goal.pop_if-requires
pop_if-requires c = ready_none c.requires

pub returns-in_err-ty-clause-operates : goal.returns-in_err-ty-clause-operates
returns-in_err-ty-clause-operates c = rw (failed c.from_residual.ensures.1) (fails (λ _. refuses_first _ c.in_err-ty.ensures.takes))

pub push_over-requires : goal.push_over-requires
push_over-requires c = rw c.pop_if.ensures.reads.ceiling (under c.in_ok-ty.ensures.takes c.requires)

pub returns-clause-operates : goal.returns-clause-operates
returns-clause-operates c = over (value_witness_node _ _ c.fixed_number.ensures) c.in_ok-ty.ensures.takes (rw c.pop_if.ensures.reads.ceiling at c.push_over.ensures.left)
