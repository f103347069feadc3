use Rattle.std.proofs.Common.{true, arith}
use Rattle.definition.specs.Kind as K
use Rattle.definition.specs.Perform as R
use Rattle.definition.specs.declared.About.TheVariants as About
use Rattle.tree_nodes.proofs.Ready.{ready_none}
use Rattle.tree_parts.proofs.record.Abouts.{builds_less, built, about_as, a_type, an_entity, a_context, a_protocol, a_conformance, anything}
use Rattle.tree_parts.proofs.record.about.Goals as goal

pub pop_if-requires : goal.pop_if-requires
pop_if-requires c = ready_none c.requires

pub pop_if-requires-in-Entity : goal.pop_if-requires-in-Entity
pop_if-requires-in-Entity c = ready_none c.requires

pub context-requires : goal.context-requires
context-requires c = ready_none c.requires

pub protocol-requires : goal.protocol-requires
protocol-requires c = ready_none c.requires

pub pop_if-requires-in-Anything : goal.pop_if-requires-in-Anything
pop_if-requires-in-Anything c = ready_none c.requires

pub returns-in-Type-clause-builds : goal.returns-in-Type-clause-builds
returns-in-Type-clause-builds c = about_as (R.pop_if K.is_type) About.Type _ _ c.pop_if.result a_type c.in-Type.is (built _ _ (R.pop_if K.is_type) 3 c.pop_if.result (omega arith) c.pop_if.ensures.takes)

pub returns-in-Entity-clause-builds : goal.returns-in-Entity-clause-builds
returns-in-Entity-clause-builds c = about_as (R.pop_if K.is_entity) About.Entity _ _ c.pop_if-in-Entity.result an_entity c.in-Entity.is (built _ _ (R.pop_if K.is_entity) 3 c.pop_if-in-Entity.result (omega arith) c.pop_if-in-Entity.ensures.takes)

pub returns-in-Context-clause-builds : goal.returns-in-Context-clause-builds
returns-in-Context-clause-builds c = about_as R.context About.Context _ _ c.context.result a_context c.in-Context.is (built _ _ R.context 1 c.context.result (omega arith) c.context.ensures.takes)

pub returns-in-Protocol-clause-builds : goal.returns-in-Protocol-clause-builds
returns-in-Protocol-clause-builds c = about_as R.protocol About.Protocol _ _ c.protocol.result a_protocol c.in-Protocol.is (built _ _ R.protocol 2 c.protocol.result (omega arith) c.protocol.ensures.takes)

pub returns-in-Anything-clause-builds : goal.returns-in-Anything-clause-builds
returns-in-Anything-clause-builds c = about_as (R.pop_if (λ k. true)) About.Anything _ _ c.pop_if-in-Anything.result anything c.in-Anything.is (built _ _ (R.pop_if (λ k. true)) 3 c.pop_if-in-Anything.result (omega arith) c.pop_if-in-Anything.ensures.takes)

pub returns-in-Conformance-clause-builds : goal.returns-in-Conformance-clause-builds
returns-in-Conformance-clause-builds c = about_as R.conformance About.Conformance _ _ c.conformance.result a_conformance c.in-Conformance.is (builds_less _ _ R.conformance 4 c.conformance.result (omega arith) c.conformance.ensures.builds)
