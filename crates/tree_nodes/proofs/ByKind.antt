-- A tree whose kind is known.
use Rattle.std.specs.Prelude.{if◌then◌else◌}
use mathlib.Core.Path.{◌≡◌, refl}
use Prim.Native.Nat.{◌≤◌}
use native.Mathlib.Omega.{arith}
use lib.Dec.{T, eqb}
use Rattle.definition.specs.Kind as K
use Rattle.definition.specs.Node as N
use Rattle.definition.proofs.Matches.{the_name}
use Rattle.definition.specs.Node.{Node, Nodes, Identifier, Module, Nominal, GenericParam, DependentMember, Tuple, FunctionType, GenericType, GenericSignature, ConformanceRequirement, SameTypeRequirement, ProtocolList, Metatype, InOut, BoundGeneric, Function, Variable, Accessor, Initializer, Deinitializer, VariableInitializer, Static, Record, Conformance, ProtocolWitness, ValueWitness, EmptyList, FirstElementMarker, VariadicMarker, Throws, Async, LazyWitness, AssociatedConformance, kind, nominal_kind, size, view, count, param_count, name_of}

-- a tree of that kind is an identifier
pub identifier_of : (x : Node) → T (K.is_identifier (kind x)) → x ≡ Identifier (the_name x)
unfolding kind nominal_kind view name_of the_name
identifier_of (Identifier n) h = refl
identifier_of (Module n) h = absurd h
identifier_of (Nominal N.Class c n) h = absurd h
identifier_of (Nominal N.Struct c n) h = absurd h
identifier_of (Nominal N.Enum c n) h = absurd h
identifier_of (Nominal N.Protocol c n) h = absurd h
identifier_of (Nominal N.TypeAlias c n) h = absurd h
identifier_of (GenericParam d i) h = absurd h
identifier_of (DependentMember b n) h = absurd h
identifier_of (Tuple es) h = absurd h
identifier_of (FunctionType a r t y) h = absurd h
identifier_of (GenericType s i) h = absurd h
identifier_of (GenericSignature k rs) h = absurd h
identifier_of (ConformanceRequirement a q) h = absurd h
identifier_of (SameTypeRequirement a o) h = absurd h
identifier_of (ProtocolList ps) h = absurd h
identifier_of (Metatype n) h = absurd h
identifier_of (InOut n) h = absurd h
identifier_of (BoundGeneric b args) h = absurd h
identifier_of (Function c n l t) h = absurd h
identifier_of (Variable c n t) h = absurd h
identifier_of (Accessor k v) h = absurd h
identifier_of (Initializer a c l t) h = absurd h
identifier_of (Deinitializer d c) h = absurd h
identifier_of (VariableInitializer v) h = absurd h
identifier_of (Static e) h = absurd h
identifier_of (Record w n) h = absurd h
identifier_of (Conformance t q m) h = absurd h
identifier_of (ProtocolWitness e c) h = absurd h
identifier_of (ValueWitness k t) h = absurd h
identifier_of EmptyList h = absurd h
identifier_of FirstElementMarker h = absurd h
identifier_of VariadicMarker h = absurd h
identifier_of Throws h = absurd h
identifier_of Async h = absurd h
identifier_of (LazyWitness w t c) h = absurd h
identifier_of (AssociatedConformance a q n r) h = absurd h

-- a tree of that kind is a list of protocols
pub list_of : (x : Node) → T (eqb (kind x) K.protocol_list) → (ps : Nodes) × (x ≡ ProtocolList ps)
unfolding kind nominal_kind
list_of (Identifier n) h = absurd h
list_of (Module n) h = absurd h
list_of (Nominal N.Class c n) h = absurd h
list_of (Nominal N.Struct c n) h = absurd h
list_of (Nominal N.Enum c n) h = absurd h
list_of (Nominal N.Protocol c n) h = absurd h
list_of (Nominal N.TypeAlias c n) h = absurd h
list_of (GenericParam d i) h = absurd h
list_of (DependentMember b n) h = absurd h
list_of (Tuple es) h = absurd h
list_of (FunctionType a r t y) h = absurd h
list_of (GenericType s i) h = absurd h
list_of (GenericSignature k rs) h = absurd h
list_of (ConformanceRequirement a q) h = absurd h
list_of (SameTypeRequirement a o) h = absurd h
list_of (ProtocolList ps) h = (ps, refl)
list_of (Metatype n) h = absurd h
list_of (InOut n) h = absurd h
list_of (BoundGeneric b args) h = absurd h
list_of (Function c n l t) h = absurd h
list_of (Variable c n t) h = absurd h
list_of (Accessor k v) h = absurd h
list_of (Initializer a c l t) h = absurd h
list_of (Deinitializer d c) h = absurd h
list_of (VariableInitializer v) h = absurd h
list_of (Static e) h = absurd h
list_of (Record w n) h = absurd h
list_of (Conformance t q m) h = absurd h
list_of (ProtocolWitness e c) h = absurd h
list_of (ValueWitness k t) h = absurd h
list_of EmptyList h = absurd h
list_of FirstElementMarker h = absurd h
list_of VariadicMarker h = absurd h
list_of Throws h = absurd h
list_of Async h = absurd h
list_of (LazyWitness w t c) h = absurd h
list_of (AssociatedConformance a q n r) h = absurd h

-- no tree has size 0
pub positive : (x : Node) → 1 ≤ size x
unfolding size
positive (Identifier n) = omega arith
positive (Module n) = omega arith
positive (Nominal k c n) = omega arith
positive (GenericParam d i) = omega arith
positive (DependentMember b n) = omega arith
positive (Tuple es) = omega arith
positive (FunctionType a r t y) = omega arith
positive (GenericType s i) = omega arith
positive (GenericSignature k rs) = omega arith
positive (ConformanceRequirement a q) = omega arith
positive (SameTypeRequirement a o) = omega arith
positive (ProtocolList ps) = omega arith
positive (Metatype n) = omega arith
positive (InOut n) = omega arith
positive (BoundGeneric b args) = omega arith
positive (Function c n l t) = omega arith
positive (Variable c n t) = omega arith
positive (Accessor k v) = omega arith
positive (Initializer a c l t) = omega arith
positive (Deinitializer d c) = omega arith
positive (VariableInitializer v) = omega arith
positive (Static e) = omega arith
positive (Record w n) = omega arith
positive (Conformance t q m) = omega arith
positive (ProtocolWitness e c) = omega arith
positive (ValueWitness k t) = omega arith
positive EmptyList = omega arith
positive FirstElementMarker = omega arith
positive VariadicMarker = omega arith
positive Throws = omega arith
positive Async = omega arith
positive (LazyWitness w t c) = omega arith
positive (AssociatedConformance a q n r) = omega arith

-- the elements of a tuple, otherwise 1
pub params_of : (x : Node) → param_count x ≡ (if eqb (kind x) K.tuple then count x else 1)
unfolding kind nominal_kind view count param_count
params_of (Identifier n) = refl
params_of (Module n) = refl
params_of (Nominal N.Class c n) = refl
params_of (Nominal N.Struct c n) = refl
params_of (Nominal N.Enum c n) = refl
params_of (Nominal N.Protocol c n) = refl
params_of (Nominal N.TypeAlias c n) = refl
params_of (GenericParam d i) = refl
params_of (DependentMember b n) = refl
params_of (Tuple es) = refl
params_of (FunctionType a r t y) = refl
params_of (GenericType s i) = refl
params_of (GenericSignature k rs) = refl
params_of (ConformanceRequirement a q) = refl
params_of (SameTypeRequirement a o) = refl
params_of (ProtocolList ps) = refl
params_of (Metatype n) = refl
params_of (InOut n) = refl
params_of (BoundGeneric b args) = refl
params_of (Function c n l t) = refl
params_of (Variable c n t) = refl
params_of (Accessor k v) = refl
params_of (Initializer a c l t) = refl
params_of (Deinitializer d c) = refl
params_of (VariableInitializer v) = refl
params_of (Static e) = refl
params_of (Record w n) = refl
params_of (Conformance t q m) = refl
params_of (ProtocolWitness e c) = refl
params_of (ValueWitness k t) = refl
params_of EmptyList = refl
params_of FirstElementMarker = refl
params_of VariadicMarker = refl
params_of Throws = refl
params_of Async = refl
params_of (LazyWitness w t c) = refl
params_of (AssociatedConformance a q n r) = refl
