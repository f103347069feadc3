use Rattle.tree_records.proofs.Exits.{failed}
use Rattle.tree_nodes.proofs.Ready.{ready_none}
use Rattle.tree_nodes.proofs.Trees.{stays_read, has_taken}
use Rattle.tree_entities.proofs.Signatures.{type_signing, variable_typed, variable_untyped}
use Rattle.tree_entities.proofs.variable_type.Goals as goal

pub pop_if-requires : goal.pop_if-requires
pop_if-requires c = ready_none c.requires

pub returns-in_err-ty-clause-takes : goal.returns-in_err-ty-clause-takes
returns-in_err-ty-clause-takes c = let k = c.in_err-ty.ensures.takes in rw (failed c.from_residual.ensures.1) (variable_untyped c.pop_if.new.trees.state _ (k.refuses, k.beyond))

pub try_signature-signature-requires : goal.try_signature-signature-requires
try_signature-signature-requires c = ready_none (has_taken (stays_read c.pop_if.ensures.reads) c.in_ok-ty.ensures.takes c.requires)

pub under_signature-requires : goal.under_signature-requires
under_signature-requires c = rw (c.try_signature-signature.ensures.reads.slice, c.try_signature-signature.ensures.reads.ceiling, c.pop_if.ensures.reads.slice, c.pop_if.ensures.reads.ceiling) (type_signing (rw c.pop_if.ensures.reads.slice at c.in_ok-ty.ensures.takes) (rw (c.pop_if.ensures.reads.slice, c.pop_if.ensures.reads.ceiling) at c.try_signature-signature.ensures.gives) c.requires)

pub returns-clause-takes : goal.returns-clause-takes
returns-clause-takes c = variable_typed (rw c.pop_if.ensures.reads.slice at c.in_ok-ty.ensures.takes) (rw (c.pop_if.ensures.reads.slice, c.pop_if.ensures.reads.ceiling) at c.try_signature-signature.ensures.gives) c.under_signature.new.trees.ws.now c.under_signature.new.trees.state c.under_signature.result (rw (c.try_signature-signature.ensures.reads.slice, c.try_signature-signature.ensures.reads.ceiling, c.pop_if.ensures.reads.slice, c.pop_if.ensures.reads.ceiling) at c.under_signature.ensures.takes)
