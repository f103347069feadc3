-- The number of a kind of the code in the definition.
use Rattle.std.specs.Prelude.{ℕ}
use Rattle.definition.specs.Kind as K
use Rattle.machine.specs.declared.kinds.Kind.{Kind}

abbrev pub kind_of : Kind → ℕ
kind_of Kind.Identifier = K.identifier
kind_of Kind.Module = K.module_kind
kind_of Kind.Class = K.class
kind_of Kind.Struct = K.struct
kind_of Kind.Enum = K.enum
kind_of Kind.Protocol = K.protocol
kind_of Kind.TypeAlias = K.type_alias
kind_of Kind.GenericParam = K.generic_param
kind_of Kind.DependentMember = K.dependent_member
kind_of Kind.Tuple = K.tuple
kind_of Kind.FunctionType = K.function_type
kind_of Kind.GenericType = K.generic_type
kind_of Kind.GenericSignature = K.generic_signature
kind_of Kind.ConformanceRequirement = K.conformance_requirement
kind_of Kind.SameTypeRequirement = K.same_type_requirement
kind_of Kind.ProtocolList = K.protocol_list
kind_of Kind.Metatype = K.metatype
kind_of Kind.InOut = K.in_out
kind_of Kind.BoundGeneric = K.bound_generic
kind_of Kind.Function = K.function
kind_of Kind.Variable = K.variable
kind_of Kind.Accessor = K.accessor
kind_of Kind.Initializer = K.initializer
kind_of Kind.Deinitializer = K.deinitializer
kind_of Kind.VariableInitializer = K.variable_initializer
kind_of Kind.Static = K.static
kind_of Kind.Record = K.record_kind
kind_of Kind.Conformance = K.conformance
kind_of Kind.ProtocolWitness = K.protocol_witness
kind_of Kind.ValueWitness = K.value_witness
kind_of Kind.EmptyList = K.empty_list
kind_of Kind.FirstElementMarker = K.first_element_marker
kind_of Kind.VariadicMarker = K.variadic_marker
kind_of Kind.Throws = K.throws
kind_of Kind.Async = K.async
