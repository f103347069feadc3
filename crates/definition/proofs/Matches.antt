-- What a `match` extracts from a node, by the kind of the node: the functions of specs/Perform that
-- look into a node, as tests of its kind.
use Rattle.std.specs.Prelude.{if◌then◌else◌}
use mathlib.Core.Path.{◌≡◌, refl, ap, ◌∙◌}
use mathlib.Core.Bool.{Bool, true, false, ◌&&◌, not}
use mathlib.Core.List.{[]}
use mathlib.Core.Option.{Option, some, none}
use Prim.Native.Nat.{ℕ, suc}
use native.Mathlib.Omega.{arith}
use lib.Dec.{T, eqb, eqb→eq, not_T}
use Rattle.definition.specs.Base.{Name, given, ret, refuse, ◌>>=◌}
use Rattle.definition.specs.Kind as K
use Rattle.definition.specs.Node as N
use Rattle.definition.specs.Node.{Node, Nodes, nil, cons, View, named, listed, with_params, under, composed, other, Identifier, Module, Nominal, GenericParam, DependentMember, Tuple, FunctionType, GenericType, GenericSignature, ConformanceRequirement, SameTypeRequirement, ProtocolList, Metatype, InOut, BoundGeneric, Function, Variable, Accessor, Initializer, Deinitializer, VariableInitializer, Static, Record, Conformance, ProtocolWitness, ValueWitness, EmptyList, FirstElementMarker, VariadicMarker, Throws, Async, LazyWitness, AssociatedConformance, nominal_kind, kind, many, count, view, name_of, inner_of, only_of, member_of}
use Rattle.definition.specs.Perform as R
use Rattle.definition.specs.Perform.{Run}
use Rattle.definition.proofs.SameText.{failed}

-- A node by its view: all that the laws need to know about the 35 kinds
abbrev pub ViewedAs : Node → View → Type 0
ViewedAs n (named x) = n ≡ Identifier x
ViewedAs n (listed es) = n ≡ Tuple es
ViewedAs n (with_params p) = (r : Node) × (t : Bool) × (a : Bool) × (n ≡ FunctionType p r t a)
ViewedAs n (under i) = (s : Node) × (n ≡ GenericType s i)
ViewedAs n (composed ps) = n ≡ ProtocolList ps
ViewedAs n other = T (not (eqb (kind n) K.tuple)) × T (not (eqb (kind n) K.protocol_list)) × T (not (eqb (kind n) K.identifier)) × T (not (eqb (kind n) K.generic_type))

pub viewed : (n : Node) → ViewedAs n (view n)
unfolding kind view nominal_kind
viewed (Identifier a) = refl
viewed (Module a) = (tt, tt, tt, tt)
viewed (Nominal N.Class c n) = (tt, tt, tt, tt)
viewed (Nominal N.Struct c n) = (tt, tt, tt, tt)
viewed (Nominal N.Enum c n) = (tt, tt, tt, tt)
viewed (Nominal N.Protocol c n) = (tt, tt, tt, tt)
viewed (Nominal N.TypeAlias c n) = (tt, tt, tt, tt)
viewed (GenericParam d i) = (tt, tt, tt, tt)
viewed (DependentMember b n) = (tt, tt, tt, tt)
viewed (Tuple es) = refl
viewed (FunctionType p r t a) = (r, t, a, refl)
viewed (GenericType s i) = (s, refl)
viewed (GenericSignature p rs) = (tt, tt, tt, tt)
viewed (ConformanceRequirement p q) = (tt, tt, tt, tt)
viewed (SameTypeRequirement p q) = (tt, tt, tt, tt)
viewed (ProtocolList ps) = refl
viewed (Metatype n) = (tt, tt, tt, tt)
viewed (InOut n) = (tt, tt, tt, tt)
viewed (BoundGeneric b args) = (tt, tt, tt, tt)
viewed (Function c n l t) = (tt, tt, tt, tt)
viewed (Variable c n t) = (tt, tt, tt, tt)
viewed (Accessor k n) = (tt, tt, tt, tt)
viewed (Initializer a c l t) = (tt, tt, tt, tt)
viewed (Deinitializer d c) = (tt, tt, tt, tt)
viewed (VariableInitializer n) = (tt, tt, tt, tt)
viewed (Static n) = (tt, tt, tt, tt)
viewed (Record w n) = (tt, tt, tt, tt)
viewed (Conformance t p m) = (tt, tt, tt, tt)
viewed (ProtocolWitness e c) = (tt, tt, tt, tt)
viewed (ValueWitness k t) = (tt, tt, tt, tt)
viewed EmptyList = (tt, tt, tt, tt)
viewed FirstElementMarker = (tt, tt, tt, tt)
viewed VariadicMarker = (tt, tt, tt, tt)
viewed Throws = (tt, tt, tt, tt)
viewed Async = (tt, tt, tt, tt)
viewed (LazyWitness w t c) = (tt, tt, tt, tt)
viewed (AssociatedConformance p q n r) = (tt, tt, tt, tt)

-- WHAT IS EXTRACTED, if there is such a thing; otherwise anything else
unfoldable pub the_name : Node → Name
the_name n = given (name_of n) [] (λ x. x)

unfoldable pub the_inner : Node → Node
the_inner n = given (inner_of n) n (λ x. x)

unfoldable pub the_member : Node → Node
the_member n = given (member_of n) n (λ x. x)

-- what a `match` extracts, if a test of the kind holds
if_given : {A B : Type 0} (b : Bool) (x : A) (z : B) (f : A → B) → given (if b then some x else none) z f ≡ (if b then f x else z)
if_given true x z f = refl
if_given false x z f = refl

abbrev Taken : {A : Type 0} → Option A → A → Bool → Type 0
Taken o x b = o ≡ (if b then some x else none)

name_of_is : (n : Node) → Taken (name_of n) (the_name n) (K.is_identifier (kind n))
unfolding name_of the_name kind view
name_of_is n = go (view n) refl (viewed n)
  where
    go : (w : View) → view n ≡ w → ViewedAs n w → Taken (name_of n) (the_name n) (K.is_identifier (kind n))
    go (named x) e v = rw v refl
    go (listed es) e v = rw v refl
    go (with_params q) e v = rw v.3 refl
    go (under i) e v = rw v.1 refl
    go (composed ps) e v = rw v refl
    go other e v = rw (e, name_of, failed (eqb (kind n) K.identifier) v.2) refl

inner_of_is : (n : Node) → Taken (inner_of n) (the_inner n) (eqb (kind n) K.generic_type)
unfolding inner_of the_inner kind view
inner_of_is n = go (view n) refl (viewed n)
  where
    go : (w : View) → view n ≡ w → ViewedAs n w → Taken (inner_of n) (the_inner n) (eqb (kind n) K.generic_type)
    go (named x) e v = rw v refl
    go (listed es) e v = rw v refl
    go (with_params q) e v = rw v.3 refl
    go (under i) e v = rw v.1 refl
    go (composed ps) e v = rw v refl
    go other e v = rw (e, inner_of, failed (eqb (kind n) K.generic_type) v.3) refl

pub not_one : (n : ℕ) → eqb (suc (suc n)) 1 ≡ false
not_one n = failed (eqb (suc (suc n)) 1) (not_T (eqb (suc (suc n)) 1) (λ h. omega (arith, eqb→eq (suc (suc n)) 1 h)))

one_member : (ps : Nodes) → Taken (only_of ps) (given (only_of ps) (ProtocolList ps) (λ x. x)) (eqb (many ps) 1)
unfolding only_of many
one_member nil = refl
one_member (cons l x nil) = refl
one_member (cons l x (cons l₂ y ns)) = rw (not_one (many ns)) refl

member_of_is : (n : Node) → Taken (member_of n) (the_member n) (eqb (kind n) K.protocol_list && eqb (count n) 1)
unfolding member_of the_member kind count view
member_of_is n = go (view n) refl (viewed n)
  where
    go : (w : View) → view n ≡ w → ViewedAs n w → Taken (member_of n) (the_member n) (eqb (kind n) K.protocol_list && eqb (count n) 1)
    go (named x) e v = rw v refl
    go (listed es) e v = rw v refl
    go (with_params q) e v = rw v.3 refl
    go (under i) e v = rw v.1 refl
    go (composed ps) e v = rw v (one_member ps)
    go other e v = rw (e, member_of, failed (eqb (kind n) K.protocol_list) v.1) refl

-- THE FUNCTIONS THAT LOOK INTO A NODE
given_by_test : {A B : Type 0} (o : Option A) (x : A) (b : Bool) (z : B) (f : A → B) → Taken o x b → given o z f ≡ (if b then f x else z)
given_by_test o x b z f e = ap (λ o. given o z f) e ∙ if_given b x z f

pub name_in_is : (n : Node) → R.name_in n ≡ (if K.is_identifier (kind n) then ret (the_name n) else refuse 10)
unfolding R.name_in
name_in_is n = given_by_test _ (the_name n) (K.is_identifier (kind n)) (refuse 10) ret (name_of_is n)

pub context_in_is : (n : Node) → R.context_in n ≡ (if K.is_identifier (kind n) then ret (Module (the_name n)) else if K.is_context (kind n) then ret n else refuse 10)
unfolding R.context_in
context_in_is n = given_by_test _ (the_name n) (K.is_identifier (kind n)) _ _ (name_of_is n)

pub protocol_in_is : (n : Node) →
    R.protocol_in n ≡ (if K.is_protocol (kind n) then ret n else if eqb (kind n) K.protocol_list && eqb (count n) 1 then ret (the_member n) else if K.is_identifier (kind n) then (R.context >>= λ c. ret (Nominal N.Protocol c (the_name n))) else refuse 10)
unfolding R.protocol_in
protocol_in_is n = ap (λ (x : Run Node). if K.is_protocol (kind n) then ret n else x) (given_by_test _ (the_member n) (eqb (kind n) K.protocol_list && eqb (count n) 1) _ _ (member_of_is n) ∙ ap (λ (x : Run Node). if eqb (kind n) K.protocol_list && eqb (count n) 1 then ret (the_member n) else x) (given_by_test _ (the_name n) (K.is_identifier (kind n)) _ _ (name_of_is n)))

pub label_in_is : (n : Node) → R.label_in n ≡ (if K.is_identifier (kind n) then ret (some (the_name n)) else if eqb (kind n) K.first_element_marker then ret none else refuse 10)
unfolding R.label_in
label_in_is n = given_by_test _ (the_name n) (K.is_identifier (kind n)) _ _ (name_of_is n)

pub arity_is : (ty : Node) → R.arity ty ≡ (if eqb (kind ty) K.generic_type then R.arity_of (the_inner ty) else R.arity_of ty)
unfolding R.arity
arity_is ty = given_by_test _ (the_inner ty) (eqb (kind ty) K.generic_type) (R.arity_of ty) R.arity_of (inner_of_is ty)
