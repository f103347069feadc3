-- 01, "Nodes": the tree of a name; its kind, size and count.
use Rattle.std.specs.Prelude.{Bool, List, ℕ, suc, ◌+◌}
use Rattle.std.proofs.Math.Option.{Option, some, none}
use Rattle.definition.specs.Words.{opened as opened₀}
use Rattle.definition.specs.Base.{Name}
use Rattle.definition.specs.Kind as K

-- lines 203 to 209
pub data NominalKind : Type 0 where
  Class Struct Enum Protocol TypeAlias : NominalKind

-- the labels of a function: none if it has none of its own; an entry is none for the marker of a
-- parameter with no label
abbrev pub Labels : Type 0
Labels = Option (List (Option Name))

-- Lines 83 to 200. The last two are separate forms for records about an identifier whose text the
-- Rust prints ahead (`Wl` and `WL`, lines 1531 to 1549; `Tn`, lines 1643 to 1662). They keep what
-- is printed, with no qualifier or one. Their kind is `Record`
mutual
  pub data Node : Type 0 where
    Identifier : Name → Node
    Module : Name → Node
    Nominal : NominalKind → (context : Node) → Name → Node
    GenericParam : (depth index : ℕ) → Node
    DependentMember : (base : Node) → Name → Node
    Tuple : Nodes → Node
    FunctionType : (params result : Node) → (throws is_async : Bool) → Node
    GenericType : (signature inner : Node) → Node
    GenericSignature : (params : ℕ) → (requirements : Nodes) → Node
    ConformanceRequirement : (param protocol : Node) → Node
    SameTypeRequirement : (param other : Node) → Node
    ProtocolList : Nodes → Node
    Metatype : Node → Node
    InOut : Node → Node
    BoundGeneric : (base : Node) → (args : Nodes) → Node
    Function : (context : Node) → Name → Labels → (ty : Node) → Node
    Variable : (context : Node) → Name → (ty : Node) → Node
    Accessor : (kind : Name) → (variable : Node) → Node
    Initializer : (allocating : Bool) → (context : Node) → Labels → (ty : Node) → Node
    Deinitializer : (deallocating : Bool) → (context : Node) → Node
    VariableInitializer : Node → Node
    Static : Node → Node
    Record : (what : Name) → (of : Node) → Node
    Conformance : (ty protocol home : Node) → Node
    ProtocolWitness : (entity conformance : Node) → Node
    ValueWitness : (kind : Name) → (ty : Node) → Node
    EmptyList FirstElementMarker VariadicMarker Throws Async : Node
    LazyWitness : (what : Name) → (ty conformance : Node) → Node
    AssociatedConformance : (protocol : Node) → (qualifier : Nodes) → Name → (required : Node) → Node

  -- nodes in the order of the source, each with the label that a tuple may give it
  pub data Nodes : Type 0 where
    nil : Nodes
    cons : Option Name → Node → Nodes → Nodes

unfoldable pub nominal_kind : NominalKind → ℕ
nominal_kind Class = K.class
nominal_kind Struct = K.struct
nominal_kind Enum = K.enum
nominal_kind Protocol = K.protocol
nominal_kind TypeAlias = K.type_alias

unfoldable pub kind : Node → ℕ
kind (Identifier n) = K.identifier
kind (Module n) = K.module_kind
kind (Nominal k c n) = nominal_kind k
kind (GenericParam d i) = K.generic_param
kind (DependentMember b n) = K.dependent_member
kind (Tuple es) = K.tuple
kind (FunctionType p r t a) = K.function_type
kind (GenericType s i) = K.generic_type
kind (GenericSignature p rs) = K.generic_signature
kind (ConformanceRequirement p q) = K.conformance_requirement
kind (SameTypeRequirement p o) = K.same_type_requirement
kind (ProtocolList ps) = K.protocol_list
kind (Metatype n) = K.metatype
kind (InOut n) = K.in_out
kind (BoundGeneric b args) = K.bound_generic
kind (Function c n l t) = K.function
kind (Variable c n t) = K.variable
kind (Accessor k v) = K.accessor
kind (Initializer a c l t) = K.initializer
kind (Deinitializer d c) = K.deinitializer
kind (VariableInitializer v) = K.variable_initializer
kind (Static e) = K.static
kind (Record w n) = K.record_kind
kind (Conformance t p m) = K.conformance
kind (ProtocolWitness e c) = K.protocol_witness
kind (ValueWitness k t) = K.value_witness
kind EmptyList = K.empty_list
kind FirstElementMarker = K.first_element_marker
kind VariadicMarker = K.variadic_marker
kind Throws = K.throws
kind Async = K.async
kind (LazyWitness w t c) = K.record_kind
kind (AssociatedConformance p q n r) = K.record_kind

-- lines 255 to 300; a record whose text is printed ahead is two nodes
unfoldable mutual
  pub size : Node → ℕ
  size (Identifier n) = 1
  size (Module n) = 1
  size (Nominal k c n) = 1 + size c
  size (GenericParam d i) = 1
  size (DependentMember b n) = 1 + size b
  size (Tuple es) = 1 + sizes es
  size (FunctionType p r t a) = 1 + (size p + size r)
  size (GenericType s i) = 1 + (size s + size i)
  size (GenericSignature p rs) = 1 + sizes rs
  size (ConformanceRequirement p q) = 1 + (size p + size q)
  size (SameTypeRequirement p o) = 1 + (size p + size o)
  size (ProtocolList ps) = 1 + sizes ps
  size (Metatype n) = 1 + size n
  size (InOut n) = 1 + size n
  size (BoundGeneric b args) = 1 + (size b + sizes args)
  size (Function c n l t) = 1 + (size c + size t)
  size (Variable c n t) = 1 + (size c + size t)
  size (Accessor k v) = 1 + size v
  size (Initializer a c l t) = 1 + (size c + size t)
  size (Deinitializer d c) = 1 + size c
  size (VariableInitializer v) = 1 + size v
  size (Static e) = 1 + size e
  size (Record w n) = 1 + size n
  size (Conformance t p m) = 1 + (size t + (size p + size m))
  size (ProtocolWitness e c) = 1 + (size e + size c)
  size (ValueWitness k t) = 1 + size t
  size EmptyList = 1
  size FirstElementMarker = 1
  size VariadicMarker = 1
  size Throws = 1
  size Async = 1
  size (LazyWitness w t c) = 2
  size (AssociatedConformance p q n r) = 2

  pub sizes : Nodes → ℕ
  sizes nil = 0
  sizes (cons l n ns) = size n + sizes ns

-- their number
unfoldable pub many : Nodes → ℕ
many nil = 0
many (cons l n ns) = suc (many ns)

-- What the operators look for inside a node: the name of an identifier, the elements of a tuple,
-- the parameters of a function type, the type under a signature, the members of a protocol list
pub data View : Type 0 where
  named : Name → View
  listed : Nodes → View
  with_params : (params : Node) → View
  under : (inner : Node) → View
  composed : Nodes → View
  other : View

unfoldable pub view : Node → View
view (Identifier n) = named n
view (Module n) = other
view (Nominal k c n) = other
view (GenericParam d i) = other
view (DependentMember b n) = other
view (Tuple es) = listed es
view (FunctionType p r t a) = with_params p
view (GenericType s i) = under i
view (GenericSignature p rs) = other
view (ConformanceRequirement p q) = other
view (SameTypeRequirement p o) = other
view (ProtocolList ps) = composed ps
view (Metatype n) = other
view (InOut n) = other
view (BoundGeneric b args) = other
view (Function c n l t) = other
view (Variable c n t) = other
view (Accessor k v) = other
view (Initializer a c l t) = other
view (Deinitializer d c) = other
view (VariableInitializer v) = other
view (Static e) = other
view (Record w n) = other
view (Conformance t p m) = other
view (ProtocolWitness e c) = other
view (ValueWitness k t) = other
view EmptyList = other
view FirstElementMarker = other
view VariadicMarker = other
view Throws = other
view Async = other
view (LazyWitness w t c) = other
view (AssociatedConformance p q n r) = other

-- the parameters of a function type whose parameter node is p: those of a tuple, otherwise 1 (lines
-- 1311 to 1314)
unfoldable pub param_count : Node → ℕ
param_count p = elim (view p) [ listed es ↦ many es | named _ ↦ 1 | with_params _ ↦ 1 | under _ ↦ 1 | composed _ ↦ 1 | other ↦ 1 ]

-- 01, "Shape entries": the elements of a tuple, the parameters of a function type, the members of a
-- protocol list, otherwise 0
unfoldable pub count : Node → ℕ
count n = elim (view n) [ listed es ↦ many es | with_params p ↦ param_count p | composed ps ↦ many ps | named _ ↦ 0 | under _ ↦ 0 | other ↦ 0 ]

-- What a `match` of the source extracts from a node: the name of an identifier, the type under a
-- signature, the member of a protocol list of one (line 1142)
unfoldable pub name_of : Node → Option Name
name_of n = elim (view n) [ named x ↦ some x | listed _ ↦ none | with_params _ ↦ none | under _ ↦ none | composed _ ↦ none | other ↦ none ]

unfoldable pub inner_of : Node → Option Node
inner_of n = elim (view n) [ under i ↦ some i | named _ ↦ none | listed _ ↦ none | with_params _ ↦ none | composed _ ↦ none | other ↦ none ]

unfoldable pub only_of : Nodes → Option Node
only_of nil = none
only_of (cons l n nil) = some n
only_of (cons l n (cons l₂ n₂ ns)) = none

unfoldable pub member_of : Node → Option Node
member_of n = elim (view n) [ composed ps ↦ only_of ps | named _ ↦ none | listed _ ↦ none | with_params _ ↦ none | under _ ↦ none | other ↦ none ]

-- the entry that a stopped reading writes for a tree
abbrev pub entry_of : Node → K.Entry
entry_of n = K.entry (kind n) (size n) (count n)

-- FOR PROOFS ONLY: this name on an `unfolding` line opens every definition up to here
unfoldable pub opened : ℕ
unfolding opened₀ nominal_kind kind size sizes many view param_count count name_of inner_of only_of member_of
opened = 0
