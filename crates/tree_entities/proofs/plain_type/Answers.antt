use Rattle.std.proofs.Common.{arith}
use Rattle.definition.specs.Perform as R
use Rattle.tree_records.proofs.Exits.{failed}
use Rattle.tree_nodes.proofs.Ready.{ready_none, ready_less}
use Rattle.tree_entities.proofs.Signatures.{has_signed, signed_signing, signed_typed, signed_untyped, untyped, built_type}
use Rattle.tree_entities.proofs.plain_type.Goals as goal

pub try_signature-signature-requires : goal.try_signature-signature-requires
try_signature-signature-requires c = ready_none c.requires

pub function_type-requires : goal.function_type-requires
function_type-requires c = ready_less _ (omega arith) (omega arith) (omega arith) (omega arith) (has_signed c.try_signature-signature.ensures.reads c.try_signature-signature.ensures.gives c.requires)

pub returns-in_err-ty-clause-takes : goal.returns-in_err-ty-clause-takes
returns-in_err-ty-clause-takes c = rw (failed c.from_residual.ensures.1) (signed_untyped R.function_type 1 0 c.function_type.new.trees.state _ c.try_signature-signature.ensures.gives (untyped 1 ((rw (c.try_signature-signature.ensures.reads.slice, c.try_signature-signature.ensures.reads.ceiling) at c.in_err-ty.ensures.builds.refuses), (rw (c.try_signature-signature.ensures.reads.slice, c.try_signature-signature.ensures.reads.ceiling) at c.in_err-ty.ensures.builds.beyond))))

pub under_signature-requires : goal.under_signature-requires
under_signature-requires c = rw (c.function_type.ensures.stays.ceiling, c.try_signature-signature.ensures.reads.ceiling) (signed_signing c.try_signature-signature.ensures.gives (built_type (rw (c.try_signature-signature.ensures.reads.slice, c.try_signature-signature.ensures.reads.ceiling) at c.in_ok-ty.ensures.builds)) (omega arith) c.requires)

pub returns-clause-takes : goal.returns-clause-takes
returns-clause-takes c = signed_typed c.try_signature-signature.ensures.gives (built_type (rw (c.try_signature-signature.ensures.reads.slice, c.try_signature-signature.ensures.reads.ceiling) at c.in_ok-ty.ensures.builds)) c.under_signature.new.trees.ws.now c.under_signature.new.trees.state c.under_signature.result (rw (c.function_type.ensures.stays.ceiling, c.try_signature-signature.ensures.reads.ceiling) at c.under_signature.ensures.takes)
