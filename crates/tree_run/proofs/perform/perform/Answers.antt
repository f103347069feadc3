use Rattle.definition.specs.Enums as Enums
use Rattle.definition.specs.Perform as R
use Rattle.definition.specs.declared.Operator.TheVariants as Operator
use Rattle.tree_run.proofs.perform.Dispatch.{as_operator, variable_is}
use Rattle.tree_run.proofs.perform.perform.Goals as goal

pub returns-in-Nominal-clause-operates : goal.returns-in-Nominal-clause-operates
unfolding R.perform Enums.operator
returns-in-Nominal-clause-operates c = as_operator _ c.in-Nominal.is c.nominal.ensures.operates

pub returns-in-Leaf-clause-operates : goal.returns-in-Leaf-clause-operates
unfolding R.perform Enums.operator
returns-in-Leaf-clause-operates c = as_operator _ c.in-Leaf.is c.push_leaf.ensures.operates

pub returns-in-Standard-clause-operates : goal.returns-in-Standard-clause-operates
unfolding R.perform Enums.operator
returns-in-Standard-clause-operates c = as_operator _ c.in-Standard.is c.standard.ensures.operates

pub returns-in-Optional-clause-operates : goal.returns-in-Optional-clause-operates
unfolding R.perform Enums.operator
returns-in-Optional-clause-operates c = as_operator _ c.in-Optional.is c.optional.ensures.operates

pub returns-in-Tuple-clause-operates : goal.returns-in-Tuple-clause-operates
unfolding R.perform Enums.operator
returns-in-Tuple-clause-operates c = as_operator Operator.Tuple c.in-Tuple.is c.tuple.ensures.operates

pub returns-in-FunctionType-clause-operates : goal.returns-in-FunctionType-clause-operates
returns-in-FunctionType-clause-operates c = as_operator Operator.FunctionType c.in-FunctionType.is c.function_type.ensures.operates

pub returns-in-ProtocolList-clause-operates : goal.returns-in-ProtocolList-clause-operates
unfolding R.perform Enums.operator
returns-in-ProtocolList-clause-operates c = as_operator Operator.ProtocolList c.in-ProtocolList.is c.protocol_list.ensures.operates

pub returns-in-BoundGeneric-clause-operates : goal.returns-in-BoundGeneric-clause-operates
unfolding R.perform Enums.operator
returns-in-BoundGeneric-clause-operates c = as_operator Operator.BoundGeneric c.in-BoundGeneric.is c.bound_generic.ensures.operates

pub returns-in-InOut-clause-operates : goal.returns-in-InOut-clause-operates
unfolding R.perform Enums.operator
returns-in-InOut-clause-operates c = as_operator Operator.InOut c.in-InOut.is c.in_out.ensures.operates

pub returns-in-Metatype-clause-operates : goal.returns-in-Metatype-clause-operates
unfolding R.perform Enums.operator
returns-in-Metatype-clause-operates c = as_operator Operator.Metatype c.in-Metatype.is c.metatype.ensures.operates

pub returns-in-Archetype-clause-operates : goal.returns-in-Archetype-clause-operates
unfolding R.perform Enums.operator
returns-in-Archetype-clause-operates c = as_operator _ c.in-Archetype.is c.archetype.ensures.operates

pub returns-in-Requirement-clause-operates : goal.returns-in-Requirement-clause-operates
unfolding R.perform Enums.operator
returns-in-Requirement-clause-operates c = as_operator _ c.in-Requirement.is c.requirement.ensures.operates

pub returns-in-GenericSignature-clause-operates : goal.returns-in-GenericSignature-clause-operates
unfolding R.perform Enums.operator
returns-in-GenericSignature-clause-operates c = as_operator _ c.in-GenericSignature.is c.generic_signature.ensures.operates

pub returns-in-PlainFunction-clause-operates : goal.returns-in-PlainFunction-clause-operates
unfolding R.perform Enums.operator
returns-in-PlainFunction-clause-operates c = as_operator Operator.PlainFunction c.in-PlainFunction.is c.plain_function.ensures.operates

pub returns-in-Variable-clause-operates : goal.returns-in-Variable-clause-operates
returns-in-Variable-clause-operates c = as_operator _ c.in-Variable.is (variable_is _ c.variable.ensures.operates)

pub returns-in-Initializer-clause-operates : goal.returns-in-Initializer-clause-operates
unfolding R.perform Enums.operator
returns-in-Initializer-clause-operates c = as_operator _ c.in-Initializer.is c.initializer.ensures.operates

pub returns-in-Deinitializer-clause-operates : goal.returns-in-Deinitializer-clause-operates
unfolding R.perform Enums.operator
returns-in-Deinitializer-clause-operates c = as_operator _ c.in-Deinitializer.is c.deinitializer.ensures.operates

pub returns-in-VariableInitializer-clause-operates : goal.returns-in-VariableInitializer-clause-operates
unfolding R.perform Enums.operator
returns-in-VariableInitializer-clause-operates c = as_operator Operator.VariableInitializer c.in-VariableInitializer.is c.variable_initializer.ensures.operates

pub returns-in-Static-clause-operates : goal.returns-in-Static-clause-operates
unfolding R.perform Enums.operator
returns-in-Static-clause-operates c = as_operator Operator.Static c.in-Static.is c.static_member.ensures.operates

pub returns-in-Record-clause-operates : goal.returns-in-Record-clause-operates
unfolding R.perform Enums.operator
returns-in-Record-clause-operates c = as_operator _ c.in-Record.is c.record_of.ensures.operates

pub returns-in-SuspendResume-clause-operates : goal.returns-in-SuspendResume-clause-operates
unfolding R.perform Enums.operator
returns-in-SuspendResume-clause-operates c = as_operator _ c.in-SuspendResume.is c.suspend_resume.ensures.operates

pub returns-in-LazyWitness-clause-operates : goal.returns-in-LazyWitness-clause-operates
unfolding R.perform Enums.operator
returns-in-LazyWitness-clause-operates c = as_operator _ c.in-LazyWitness.is c.lazy_witness.ensures.operates

pub returns-in-ValueWitness-clause-operates : goal.returns-in-ValueWitness-clause-operates
unfolding R.perform Enums.operator
returns-in-ValueWitness-clause-operates c = as_operator _ c.in-ValueWitness.is c.value_witness.ensures.operates

pub returns-in-ProtocolWitness-clause-operates : goal.returns-in-ProtocolWitness-clause-operates
unfolding R.perform Enums.operator
returns-in-ProtocolWitness-clause-operates c = as_operator Operator.ProtocolWitness c.in-ProtocolWitness.is c.protocol_witness.ensures.operates

pub returns-in-AssociatedType-clause-operates : goal.returns-in-AssociatedType-clause-operates
unfolding R.perform Enums.operator
returns-in-AssociatedType-clause-operates c = as_operator Operator.AssociatedType c.in-AssociatedType.is c.associated_type.ensures.operates

pub returns-in-AssociatedConformance-clause-operates : goal.returns-in-AssociatedConformance-clause-operates
unfolding R.perform Enums.operator
returns-in-AssociatedConformance-clause-operates c = as_operator Operator.AssociatedConformance c.in-AssociatedConformance.is c.associated_conformance.ensures.operates
