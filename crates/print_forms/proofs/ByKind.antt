-- A tree of a kind has that form. Assumes nothing.
use mathlib.Core.Path.{◌≡◌, refl, sym, ap, subst, ◌∙◌}
use mathlib.Core.Bool.{Bool, true, ◌&&◌, ◌||◌, not}
use Prim.Native.Nat.{ℕ, ◌<◌, ◌≤◌}
use native.Mathlib.Omega.{arith}
use borrow.Author.Tests.{le-leb}
use lib.Dec.{T, eqb, leb}
use Rattle.definition.specs.Base.{Name}
use Rattle.definition.specs.Node.{NominalKind, Class, Struct, Enum, Protocol, TypeAlias, Node, Nodes, Identifier, Module, Nominal, GenericParam, DependentMember, Tuple, FunctionType, GenericType, GenericSignature, ConformanceRequirement, SameTypeRequirement, ProtocolList, Metatype, InOut, BoundGeneric, Function, Variable, Accessor, Initializer, Deinitializer, VariableInitializer, Static, Record, Conformance, ProtocolWitness, ValueWitness, EmptyList, FirstElementMarker, VariadicMarker, Throws, Async, LazyWitness, AssociatedConformance, nominal_kind, kind}

-- the kinds that the printer looks for
abbrev looked_for : ℕ → Bool
looked_for k = (leb 1 k && leb k 6) || (leb 9 k && leb k 11) || eqb k 18 || eqb k 20 || eqb k 21 || eqb k 30

not_between : (k : ℕ) → T (not (looked_for k)) → 2 ≤ k → k ≤ 6 → ⊥
not_between k t h g =
    let a : leb 1 k ≡ true = le-leb 1 k (omega arith) in
    let b : leb k 6 ≡ true = le-leb k 6 g in
    rw (a, b) at t

data Of (x : Node) : Type 0 where
  a_module : (n : Name) → x ≡ Module n → Of x
  a_nominal : (k : NominalKind) (c : Node) (n : Name) → x ≡ Nominal k c n → 2 ≤ kind x → kind x ≤ 6 → Of x
  a_tuple : (es : Nodes) → x ≡ Tuple es → Of x
  a_function_type : (p r : Node) (t a : Bool) → x ≡ FunctionType p r t a → Of x
  a_generic_type : (s i : Node) → x ≡ GenericType s i → Of x
  a_bound_generic : (b : Node) (args : Nodes) → x ≡ BoundGeneric b args → Of x
  a_variable : (c : Node) (n : Name) (t : Node) → x ≡ Variable c n t → Of x
  an_accessor : (k : Name) (v : Node) → x ≡ Accessor k v → Of x
  an_empty_list : x ≡ EmptyList → Of x
  another : (k : ℕ) → kind x ≡ k → T (not (looked_for k)) → Of x

of : (x : Node) → Of x
unfolding kind nominal_kind
of (Identifier n) = another 0 refl tt
of (Module n) = a_module n refl
of (Nominal Class c n) = a_nominal Class c n refl (omega arith) (omega arith)
of (Nominal Struct c n) = a_nominal Struct c n refl (omega arith) (omega arith)
of (Nominal Enum c n) = a_nominal Enum c n refl (omega arith) (omega arith)
of (Nominal Protocol c n) = a_nominal Protocol c n refl (omega arith) (omega arith)
of (Nominal TypeAlias c n) = a_nominal TypeAlias c n refl (omega arith) (omega arith)
of (GenericParam d i) = another 7 refl tt
of (DependentMember b n) = another 8 refl tt
of (Tuple es) = a_tuple es refl
of (FunctionType p r t a) = a_function_type p r t a refl
of (GenericType s i) = a_generic_type s i refl
of (GenericSignature n rs) = another 12 refl tt
of (ConformanceRequirement a q) = another 13 refl tt
of (SameTypeRequirement a o) = another 14 refl tt
of (ProtocolList ps) = another 15 refl tt
of (Metatype n) = another 16 refl tt
of (InOut n) = another 17 refl tt
of (BoundGeneric b args) = a_bound_generic b args refl
of (Function c n l t) = another 19 refl tt
of (Variable c n t) = a_variable c n t refl
of (Accessor k v) = an_accessor k v refl
of (Initializer a c l t) = another 22 refl tt
of (Deinitializer d c) = another 23 refl tt
of (VariableInitializer v) = another 24 refl tt
of (Static e) = another 25 refl tt
of (Record what n) = another 26 refl tt
of (Conformance t q m) = another 27 refl tt
of (ProtocolWitness e c) = another 28 refl tt
of (ValueWitness k t) = another 29 refl tt
of EmptyList = an_empty_list refl
of FirstElementMarker = another 31 refl tt
of VariadicMarker = another 32 refl tt
of Throws = another 33 refl tt
of Async = another 34 refl tt
of (LazyWitness what t c) = another 26 refl tt
of (AssociatedConformance a q n r) = another 26 refl tt

-- kinds are below 35
pub kind_small : (x : Node) → kind x < 35
unfolding kind nominal_kind
kind_small (Identifier n) = omega arith
kind_small (Module n) = omega arith
kind_small (Nominal Class c n) = omega arith
kind_small (Nominal Struct c n) = omega arith
kind_small (Nominal Enum c n) = omega arith
kind_small (Nominal Protocol c n) = omega arith
kind_small (Nominal TypeAlias c n) = omega arith
kind_small (GenericParam d i) = omega arith
kind_small (DependentMember b n) = omega arith
kind_small (Tuple es) = omega arith
kind_small (FunctionType p r t a) = omega arith
kind_small (GenericType s i) = omega arith
kind_small (GenericSignature n rs) = omega arith
kind_small (ConformanceRequirement a q) = omega arith
kind_small (SameTypeRequirement a o) = omega arith
kind_small (ProtocolList ps) = omega arith
kind_small (Metatype n) = omega arith
kind_small (InOut n) = omega arith
kind_small (BoundGeneric b args) = omega arith
kind_small (Function c n l t) = omega arith
kind_small (Variable c n t) = omega arith
kind_small (Accessor k v) = omega arith
kind_small (Initializer a c l t) = omega arith
kind_small (Deinitializer d c) = omega arith
kind_small (VariableInitializer v) = omega arith
kind_small (Static e) = omega arith
kind_small (Record what n) = omega arith
kind_small (Conformance t q m) = omega arith
kind_small (ProtocolWitness e c) = omega arith
kind_small (ValueWitness k t) = omega arith
kind_small EmptyList = omega arith
kind_small FirstElementMarker = omega arith
kind_small VariadicMarker = omega arith
kind_small Throws = omega arith
kind_small Async = omega arith
kind_small (LazyWitness what t c) = omega arith
kind_small (AssociatedConformance a q n r) = omega arith

pub tuple_of : (x : Node) → kind x ≡ 9 → (es : Nodes) × (x ≡ Tuple es)
unfolding kind
tuple_of x h = by_form (of x)
  where
    by_form : Of x → (es : Nodes) × (x ≡ Tuple es)
    by_form (a_module n e) = absurd (let z : 1 ≡ 9 = sym (ap kind e) ∙ h in omega arith)
    by_form (a_nominal k c n e lo hi) = absurd (omega arith)
    by_form (a_tuple es e) = (es, e)
    by_form (a_function_type p r t a e) = absurd (let z : 10 ≡ 9 = sym (ap kind e) ∙ h in omega arith)
    by_form (a_generic_type s i e) = absurd (let z : 11 ≡ 9 = sym (ap kind e) ∙ h in omega arith)
    by_form (a_bound_generic b args e) = absurd (let z : 18 ≡ 9 = sym (ap kind e) ∙ h in omega arith)
    by_form (a_variable c n t e) = absurd (let z : 20 ≡ 9 = sym (ap kind e) ∙ h in omega arith)
    by_form (an_accessor k v e) = absurd (let z : 21 ≡ 9 = sym (ap kind e) ∙ h in omega arith)
    by_form (an_empty_list e) = absurd (let z : 30 ≡ 9 = sym (ap kind e) ∙ h in omega arith)
    by_form (another k e t) = absurd (let z : k ≡ 9 = sym e ∙ h in subst (λ (j : ℕ). T (not (looked_for j))) z t)

pub function_type_of : (x : Node) → kind x ≡ 10 → (p : Node) × (r : Node) × (t : Bool) × (a : Bool) × (x ≡ FunctionType p r t a)
unfolding kind
function_type_of x h = by_form (of x)
  where
    by_form : Of x → (p : Node) × (r : Node) × (t : Bool) × (a : Bool) × (x ≡ FunctionType p r t a)
    by_form (a_module n e) = absurd (let z : 1 ≡ 10 = sym (ap kind e) ∙ h in omega arith)
    by_form (a_nominal k c n e lo hi) = absurd (omega arith)
    by_form (a_tuple es e) = absurd (let z : 9 ≡ 10 = sym (ap kind e) ∙ h in omega arith)
    by_form (a_function_type p r t a e) = (p, r, t, a, e)
    by_form (a_generic_type s i e) = absurd (let z : 11 ≡ 10 = sym (ap kind e) ∙ h in omega arith)
    by_form (a_bound_generic b args e) = absurd (let z : 18 ≡ 10 = sym (ap kind e) ∙ h in omega arith)
    by_form (a_variable c n t e) = absurd (let z : 20 ≡ 10 = sym (ap kind e) ∙ h in omega arith)
    by_form (an_accessor k v e) = absurd (let z : 21 ≡ 10 = sym (ap kind e) ∙ h in omega arith)
    by_form (an_empty_list e) = absurd (let z : 30 ≡ 10 = sym (ap kind e) ∙ h in omega arith)
    by_form (another k e t) = absurd (let z : k ≡ 10 = sym e ∙ h in subst (λ (j : ℕ). T (not (looked_for j))) z t)

pub generic_type_of : (x : Node) → kind x ≡ 11 → (s : Node) × (i : Node) × (x ≡ GenericType s i)
unfolding kind
generic_type_of x h = by_form (of x)
  where
    by_form : Of x → (s : Node) × (i : Node) × (x ≡ GenericType s i)
    by_form (a_module n e) = absurd (let z : 1 ≡ 11 = sym (ap kind e) ∙ h in omega arith)
    by_form (a_nominal k c n e lo hi) = absurd (omega arith)
    by_form (a_tuple es e) = absurd (let z : 9 ≡ 11 = sym (ap kind e) ∙ h in omega arith)
    by_form (a_function_type p r t a e) = absurd (let z : 10 ≡ 11 = sym (ap kind e) ∙ h in omega arith)
    by_form (a_generic_type s i e) = (s, i, e)
    by_form (a_bound_generic b args e) = absurd (let z : 18 ≡ 11 = sym (ap kind e) ∙ h in omega arith)
    by_form (a_variable c n t e) = absurd (let z : 20 ≡ 11 = sym (ap kind e) ∙ h in omega arith)
    by_form (an_accessor k v e) = absurd (let z : 21 ≡ 11 = sym (ap kind e) ∙ h in omega arith)
    by_form (an_empty_list e) = absurd (let z : 30 ≡ 11 = sym (ap kind e) ∙ h in omega arith)
    by_form (another k e t) = absurd (let z : k ≡ 11 = sym e ∙ h in subst (λ (j : ℕ). T (not (looked_for j))) z t)

pub bound_generic_of : (x : Node) → kind x ≡ 18 → (b : Node) × (args : Nodes) × (x ≡ BoundGeneric b args)
unfolding kind
bound_generic_of x h = by_form (of x)
  where
    by_form : Of x → (b : Node) × (args : Nodes) × (x ≡ BoundGeneric b args)
    by_form (a_module n e) = absurd (let z : 1 ≡ 18 = sym (ap kind e) ∙ h in omega arith)
    by_form (a_nominal k c n e lo hi) = absurd (omega arith)
    by_form (a_tuple es e) = absurd (let z : 9 ≡ 18 = sym (ap kind e) ∙ h in omega arith)
    by_form (a_function_type p r t a e) = absurd (let z : 10 ≡ 18 = sym (ap kind e) ∙ h in omega arith)
    by_form (a_generic_type s i e) = absurd (let z : 11 ≡ 18 = sym (ap kind e) ∙ h in omega arith)
    by_form (a_bound_generic b args e) = (b, args, e)
    by_form (a_variable c n t e) = absurd (let z : 20 ≡ 18 = sym (ap kind e) ∙ h in omega arith)
    by_form (an_accessor k v e) = absurd (let z : 21 ≡ 18 = sym (ap kind e) ∙ h in omega arith)
    by_form (an_empty_list e) = absurd (let z : 30 ≡ 18 = sym (ap kind e) ∙ h in omega arith)
    by_form (another k e t) = absurd (let z : k ≡ 18 = sym e ∙ h in subst (λ (j : ℕ). T (not (looked_for j))) z t)

pub variable_of : (x : Node) → kind x ≡ 20 → (c : Node) × (n : Name) × (t : Node) × (x ≡ Variable c n t)
unfolding kind
variable_of x h = by_form (of x)
  where
    by_form : Of x → (c : Node) × (n : Name) × (t : Node) × (x ≡ Variable c n t)
    by_form (a_module n e) = absurd (let z : 1 ≡ 20 = sym (ap kind e) ∙ h in omega arith)
    by_form (a_nominal k c n e lo hi) = absurd (omega arith)
    by_form (a_tuple es e) = absurd (let z : 9 ≡ 20 = sym (ap kind e) ∙ h in omega arith)
    by_form (a_function_type p r t a e) = absurd (let z : 10 ≡ 20 = sym (ap kind e) ∙ h in omega arith)
    by_form (a_generic_type s i e) = absurd (let z : 11 ≡ 20 = sym (ap kind e) ∙ h in omega arith)
    by_form (a_bound_generic b args e) = absurd (let z : 18 ≡ 20 = sym (ap kind e) ∙ h in omega arith)
    by_form (a_variable c n t e) = (c, n, t, e)
    by_form (an_accessor k v e) = absurd (let z : 21 ≡ 20 = sym (ap kind e) ∙ h in omega arith)
    by_form (an_empty_list e) = absurd (let z : 30 ≡ 20 = sym (ap kind e) ∙ h in omega arith)
    by_form (another k e t) = absurd (let z : k ≡ 20 = sym e ∙ h in subst (λ (j : ℕ). T (not (looked_for j))) z t)

pub accessor_of : (x : Node) → kind x ≡ 21 → (k : Name) × (v : Node) × (x ≡ Accessor k v)
unfolding kind
accessor_of x h = by_form (of x)
  where
    by_form : Of x → (k : Name) × (v : Node) × (x ≡ Accessor k v)
    by_form (a_module n e) = absurd (let z : 1 ≡ 21 = sym (ap kind e) ∙ h in omega arith)
    by_form (a_nominal k c n e lo hi) = absurd (omega arith)
    by_form (a_tuple es e) = absurd (let z : 9 ≡ 21 = sym (ap kind e) ∙ h in omega arith)
    by_form (a_function_type p r t a e) = absurd (let z : 10 ≡ 21 = sym (ap kind e) ∙ h in omega arith)
    by_form (a_generic_type s i e) = absurd (let z : 11 ≡ 21 = sym (ap kind e) ∙ h in omega arith)
    by_form (a_bound_generic b args e) = absurd (let z : 18 ≡ 21 = sym (ap kind e) ∙ h in omega arith)
    by_form (a_variable c n t e) = absurd (let z : 20 ≡ 21 = sym (ap kind e) ∙ h in omega arith)
    by_form (an_accessor k v e) = (k, v, e)
    by_form (an_empty_list e) = absurd (let z : 30 ≡ 21 = sym (ap kind e) ∙ h in omega arith)
    by_form (another k e t) = absurd (let z : k ≡ 21 = sym e ∙ h in subst (λ (j : ℕ). T (not (looked_for j))) z t)

pub empty_list_of : (x : Node) → kind x ≡ 30 → x ≡ EmptyList
unfolding kind
empty_list_of x h = by_form (of x)
  where
    by_form : Of x → x ≡ EmptyList
    by_form (a_module n e) = absurd (let z : 1 ≡ 30 = sym (ap kind e) ∙ h in omega arith)
    by_form (a_nominal k c n e lo hi) = absurd (omega arith)
    by_form (a_tuple es e) = absurd (let z : 9 ≡ 30 = sym (ap kind e) ∙ h in omega arith)
    by_form (a_function_type p r t a e) = absurd (let z : 10 ≡ 30 = sym (ap kind e) ∙ h in omega arith)
    by_form (a_generic_type s i e) = absurd (let z : 11 ≡ 30 = sym (ap kind e) ∙ h in omega arith)
    by_form (a_bound_generic b args e) = absurd (let z : 18 ≡ 30 = sym (ap kind e) ∙ h in omega arith)
    by_form (a_variable c n t e) = absurd (let z : 20 ≡ 30 = sym (ap kind e) ∙ h in omega arith)
    by_form (an_accessor k v e) = absurd (let z : 21 ≡ 30 = sym (ap kind e) ∙ h in omega arith)
    by_form (an_empty_list e) = e
    by_form (another k e t) = absurd (let z : k ≡ 30 = sym e ∙ h in subst (λ (j : ℕ). T (not (looked_for j))) z t)

pub module_of : (x : Node) → kind x ≡ 1 → (n : Name) × (x ≡ Module n)
unfolding kind
module_of x h = by_form (of x)
  where
    by_form : Of x → (n : Name) × (x ≡ Module n)
    by_form (a_module n e) = (n, e)
    by_form (a_nominal k c n e lo hi) = absurd (omega arith)
    by_form (a_tuple es e) = absurd (let z : 9 ≡ 1 = sym (ap kind e) ∙ h in omega arith)
    by_form (a_function_type p r t a e) = absurd (let z : 10 ≡ 1 = sym (ap kind e) ∙ h in omega arith)
    by_form (a_generic_type s i e) = absurd (let z : 11 ≡ 1 = sym (ap kind e) ∙ h in omega arith)
    by_form (a_bound_generic b args e) = absurd (let z : 18 ≡ 1 = sym (ap kind e) ∙ h in omega arith)
    by_form (a_variable c n t e) = absurd (let z : 20 ≡ 1 = sym (ap kind e) ∙ h in omega arith)
    by_form (an_accessor k v e) = absurd (let z : 21 ≡ 1 = sym (ap kind e) ∙ h in omega arith)
    by_form (an_empty_list e) = absurd (let z : 30 ≡ 1 = sym (ap kind e) ∙ h in omega arith)
    by_form (another k e t) = absurd (let z : k ≡ 1 = sym e ∙ h in subst (λ (j : ℕ). T (not (looked_for j))) z t)

pub nominal_of : (x : Node) → 2 ≤ kind x → kind x ≤ 6 → (k : NominalKind) × (c : Node) × (n : Name) × (x ≡ Nominal k c n)
unfolding kind
nominal_of x h g = by_form (of x)
  where
    by_form : Of x → (k : NominalKind) × (c : Node) × (n : Name) × (x ≡ Nominal k c n)
    by_form (a_module n e) = absurd (let z : kind x ≡ 1 = ap kind e in omega arith)
    by_form (a_nominal k c n e lo hi) = (k, c, n, e)
    by_form (a_tuple es e) = absurd (let z : kind x ≡ 9 = ap kind e in omega arith)
    by_form (a_function_type p r t a e) = absurd (let z : kind x ≡ 10 = ap kind e in omega arith)
    by_form (a_generic_type s i e) = absurd (let z : kind x ≡ 11 = ap kind e in omega arith)
    by_form (a_bound_generic b args e) = absurd (let z : kind x ≡ 18 = ap kind e in omega arith)
    by_form (a_variable c n t e) = absurd (let z : kind x ≡ 20 = ap kind e in omega arith)
    by_form (an_accessor k v e) = absurd (let z : kind x ≡ 21 = ap kind e in omega arith)
    by_form (an_empty_list e) = absurd (let z : kind x ≡ 30 = ap kind e in omega arith)
    by_form (another k e t) = absurd (not_between k t (omega arith) (omega arith))
