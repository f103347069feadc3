-- The meaning of each case of the enums of src/lib.rt. A reader must believe `number` and `values`,
-- document 01's number and values of an answer. What follows them (from `nominal_kind` on) is FOR
-- CODE ONLY: which operator of specs/Operators a case of the code's enums means, so that the
-- contracts of the crates can name it.
use Rattle.std.specs.Prelude.{true, false, ℕ, Result, Ok, Err}
use Rattle.std.proofs.Math.Option.{some, none}
use Prim.Native.String.{String}
use Rattle.definition.specs.Base.{bytes, good, bad}
use Rattle.definition.specs.Text as Text
use Rattle.definition.specs.Node as Node
use Rattle.definition.specs.Operators as Op
use Rattle.definition.specs.Calls as Calls
use Rattle.definition.specs.declared.Refusal.{Refusal}
use Rattle.definition.specs.declared.Refusal.TheVariants.{Ceiling, Workspace, Length, Encoding, Prefix, Steps, Charge, Nesting, Spelling, Stack, Leftover, Output}
use Rattle.definition.specs.declared.Accepted.{Accepted}
use Rattle.definition.specs.declared.Refused.{Refused}
use Rattle.definition.specs.declared.NominalKind.{NominalKind}
use Rattle.definition.specs.declared.NominalKind.TheVariants.{Class, Struct, Enum, Protocol, TypeAlias}
use Rattle.definition.specs.declared.Param.{Param}
use Rattle.definition.specs.declared.Leaf as Leaf
use Rattle.definition.specs.declared.Leaf.{Leaf}
use Rattle.definition.specs.declared.Subject.{Subject}
use Rattle.definition.specs.declared.Subject.TheVariants.{OfParam, OfStack, OfMember}
use Rattle.definition.specs.declared.Constraint.{Constraint}
use Rattle.definition.specs.declared.Constraint.TheVariants.{Conforms, Superclass, SameType, Layout}
use Rattle.definition.specs.declared.Accessor.TheVariants.{Itself, Named, Broken}
use Rattle.definition.specs.declared.About.{About}
use Rattle.definition.specs.declared.Operator.{Operator}

-- 01, "How each operation refuses"
unfoldable pub number : Refusal → ℕ
number Ceiling = 1
number Workspace = 2
number Length = 3
number Encoding = 4
number Prefix = 5
number Steps = 6
number Charge = 7
number Nesting = 8
number Spelling = 9
number Stack = 10
number Leftover = 11
number Output = 12

-- the code's `Answer`
abbrev pub Answer : Type 0
Answer = Result Accepted Refused

-- an accepted call has number 0 and place 0; a refused one zero counts and length 0
unfoldable pub values : Answer → Calls.Values
values (Ok a) = record { number = 0; place = 0; steps = a.counts.steps; total = a.counts.total; wraps = a.counts.wraps; length = a.length }
values (Err x) = record { number = number x.refusal; place = x.place; steps = 0; total = 0; wraps = 0; length = 0 }

unfoldable pub nominal_kind : NominalKind → Node.NominalKind
nominal_kind Class = Node.Class
nominal_kind Struct = Node.Struct
nominal_kind Enum = Node.Enum
nominal_kind Protocol = Node.Protocol
nominal_kind TypeAlias = Node.TypeAlias

abbrev pub param : Param → Text.Param
param p = Text.param p.depth p.index

unfoldable pub about : About → Op.About
about About.Type = Op.a_type
about About.Entity = Op.an_entity
about About.Context = Op.a_context
about About.Protocol = Op.a_protocol
about About.Conformance = Op.a_conformance
about About.Anything = Op.anything

unfoldable pub subject : Subject → Op.Subject
subject (OfParam p) = Op.of_param (param p)
subject OfStack = Op.of_stack
subject (OfMember p) = Op.of_member (param p)

unfoldable pub constraint : Constraint → Op.Constraint
constraint Conforms = Op.conforms
constraint Superclass = Op.superclass
constraint SameType = Op.same_type
constraint (Layout true) = Op.layout (good tt)
constraint (Layout false) = Op.layout (bad 9)

-- fixed n is the fixed name with number n
module _ (fixed : ℕ → String) where
  unfoldable pub leaf : Leaf → Op.Leaf
  leaf (Leaf.TheVariants.Module n) = Op.module_named (fixed n)
  leaf (Leaf.TheVariants.StandardNominal k n) = Op.standard_nominal (nominal_kind k) (fixed n)
  leaf (Leaf.TheVariants.GenericParam p) = Op.generic_param (param p)
  leaf Leaf.TheVariants.EmptyList = Op.empty_list
  leaf Leaf.TheVariants.FirstElementMarker = Op.first_element_marker
  leaf Leaf.TheVariants.VariadicMarker = Op.variadic_marker
  leaf Leaf.TheVariants.Throws = Op.throws
  leaf Leaf.TheVariants.Async = Op.async

  unfoldable pub operator : Operator → Op.Operator
  operator (Operator.Nominal k) = Op.nominal (nominal_kind k)
  operator (Operator.Leaf l) = Op.leaf (leaf l)
  operator (Operator.Standard repeat l) = Op.standard repeat (leaf l)
  operator (Operator.Optional repeat) = Op.optional repeat
  operator Operator.Tuple = Op.tuple
  operator Operator.FunctionType = Op.function_type
  operator Operator.ProtocolList = Op.protocol_list
  operator Operator.BoundGeneric = Op.bound_generic
  operator Operator.InOut = Op.in_out
  operator Operator.Metatype = Op.metatype
  operator (Operator.Archetype p) = Op.archetype (param p)
  operator (Operator.Requirement s c) = Op.requirement (subject s) (constraint c)
  operator (Operator.GenericSignature n) = Op.generic_signature n
  operator Operator.PlainFunction = Op.plain_function
  operator (Operator.Variable Itself) = Op.variable (good none)
  operator (Operator.Variable (Named n)) = Op.variable (good (some (fixed n)))
  operator (Operator.Variable Broken) = Op.variable (bad 9)
  operator (Operator.Initializer b) = Op.initializer b
  operator (Operator.Deinitializer b) = Op.deinitializer b
  operator Operator.VariableInitializer = Op.variable_initializer
  operator Operator.Static = Op.static
  operator (Operator.Record a n) = Op.record_of (about a) (bytes (fixed n))
  operator (Operator.SuspendResume i) = Op.record_of Op.an_entity (Op.suspend_resume_text i)
  operator (Operator.LazyWitness n) = Op.lazy_witness (bytes (fixed n))
  operator (Operator.ValueWitness n) = Op.value_witness (bytes (fixed n))
  operator Operator.ProtocolWitness = Op.protocol_witness
  operator Operator.AssociatedType = Op.associated_type
  operator Operator.AssociatedConformance = Op.associated_conformance
