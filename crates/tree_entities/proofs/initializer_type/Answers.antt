use Rattle.std.proofs.Common.{arith}
use Rattle.definition.specs.Kind as K
use Rattle.definition.specs.Perform as R
use Rattle.tree_records.proofs.Exits.{failed}
use Rattle.tree_nodes.proofs.Ready.{ready_none}
use Rattle.tree_entities.proofs.Signatures.{has_signed, signed_signing, signed_typed, signed_untyped, as_type, untyped}
use Rattle.tree_entities.proofs.initializer_type.Goals as goal

pub try_signature-signature-requires : goal.try_signature-signature-requires
try_signature-signature-requires c = ready_none c.requires

pub pop_if-requires : goal.pop_if-requires
pop_if-requires c = ready_none (has_signed c.try_signature-signature.ensures.reads c.try_signature-signature.ensures.gives c.requires)

pub returns-in_err-ty-clause-takes : goal.returns-in_err-ty-clause-takes
returns-in_err-ty-clause-takes c = rw (failed c.from_residual.ensures.1) (signed_untyped (R.pop_if K.is_type) 0 3 c.pop_if.new.trees.state _ c.try_signature-signature.ensures.gives (untyped 0 ((rw (c.try_signature-signature.ensures.reads.slice, c.try_signature-signature.ensures.reads.ceiling) at c.in_err-ty.ensures.takes.refuses), (rw (c.try_signature-signature.ensures.reads.slice, c.try_signature-signature.ensures.reads.ceiling) at c.in_err-ty.ensures.takes.beyond))))

pub under_signature-requires : goal.under_signature-requires
under_signature-requires c = rw (c.pop_if.ensures.reads.slice, c.pop_if.ensures.reads.ceiling, c.try_signature-signature.ensures.reads.slice, c.try_signature-signature.ensures.reads.ceiling) (signed_signing c.try_signature-signature.ensures.gives (as_type (rw (c.pop_if.ensures.reads.slice, c.try_signature-signature.ensures.reads.slice, c.try_signature-signature.ensures.reads.ceiling) at c.in_ok-ty.ensures.takes)) (omega arith) c.requires)

pub returns-clause-takes : goal.returns-clause-takes
returns-clause-takes c = signed_typed c.try_signature-signature.ensures.gives (as_type (rw (c.pop_if.ensures.reads.slice, c.try_signature-signature.ensures.reads.slice, c.try_signature-signature.ensures.reads.ceiling) at c.in_ok-ty.ensures.takes)) c.under_signature.new.trees.ws.now c.under_signature.new.trees.state c.under_signature.result (rw (c.pop_if.ensures.reads.slice, c.pop_if.ensures.reads.ceiling, c.try_signature-signature.ensures.reads.slice, c.try_signature-signature.ensures.reads.ceiling) at c.under_signature.ensures.takes)
