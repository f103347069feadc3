use Rattle.tree_records.proofs.Exits.{failed}
use Rattle.tree_nodes.specs.Trees.{step_of}
use Rattle.tree_nodes.proofs.Steps.{refuses_first, fails}
use Rattle.tree_requirements.proofs.Requirements.{constraining, required_done}
use Rattle.tree_requirements.proofs.requirement.Goals as goal

pub returns-in_err-p-clause-operates : goal.returns-in_err-p-clause-operates
returns-in_err-p-clause-operates c = rw (failed c.from_residual.ensures.1) (fails (λ _. refuses_first _ c.in_err-p.ensures.takes))

pub constrain-requires : goal.constrain-requires
constrain-requires c = rw c.subject.ensures.stays.ceiling (constraining c.args.on c.args.constraint c.in_ok-p.ensures.takes c.requires)

pub returns-clause-operates : goal.returns-clause-operates
returns-clause-operates c = required_done c.args.on c.args.constraint c.in_ok-p.ensures.takes c.constrain.new.trees.ws.now (step_of c.constrain.result c.constrain.new.trees.state) (rw c.subject.ensures.stays.ceiling at c.constrain.ensures.constrains)
