-- Among the nodes that may be a context (lines 225 to 227) only a module named Swift prints
-- `Swift`: every other one prints a dot or a space. So the test of line 398 may use the kind and
-- name of the context instead of its text.
use mathlib.Core.Path.{◌≡◌, sym, ap, ◌∙◌, subst}
use mathlib.Core.Bool.{Bool, true, false, ◌&&◌, and-false}
use mathlib.Core.List.{◌++◌}
use Prim.Native.String.{String}
use lib.Dec.{T, eqb}
use Rattle.definition.specs.Base.{Name, bytes, same}
use Rattle.definition.specs.Kind as K
use Rattle.definition.specs.Node.{NominalKind, Node, Identifier, Module, Nominal, GenericParam, DependentMember, Tuple, FunctionType, GenericType, GenericSignature, ConformanceRequirement, SameTypeRequirement, ProtocolList, Metatype, InOut, BoundGeneric, Function, Variable, Accessor, Initializer, Deinitializer, VariableInitializer, Static, Record, Conformance, ProtocolWitness, ValueWitness, EmptyList, FirstElementMarker, VariadicMarker, Throws, Async, LazyWitness, AssociatedConformance, kind}
use Rattle.definition.specs.Print.{dotted, initializer_name, deinitializer_name, printed, print_nominal, print_variable, printing, print}
use Rattle.definition.proofs.SameText.{same→≡, has, has_left}
use Rattle.definition.proofs.PrintEquations.{has_dotted, accessor_has_dot, standard, standard_of_nominal}

-- `Swift` has no dot (46) and no space (32)
no_dot : (x : Name) → T (has 46 x) → x ≡ bytes "Swift" → ⊥
unfolding bytes
no_dot x h e = subst (λ y. T (has 46 y)) e h

no_space : (x : Name) → T (has 32 x) → x ≡ bytes "Swift" → ⊥
unfolding bytes
no_space x h e = subst (λ y. T (has 32 y)) e h

-- a text that begins with "{a}.{b}" is not `Swift`
no_path : (a b rest : Name) → dotted a b ++ rest ≡ bytes "Swift" → ⊥
no_path a b rest e = no_dot (dotted a b ++ rest) (has_left 46 (dotted a b) rest (has_dotted a b)) e

pub only_swift : (c : Node) → T (K.is_context (kind c)) → print c ≡ bytes "Swift" → c ≡ Module (bytes "Swift")
unfolding kind bytes print printing printed print_nominal print_variable
only_swift (Identifier n) h e = absurd h
only_swift (Module n) h e = ap Module e
only_swift (Nominal k c n) h e = absurd (no_dot _ (has_dotted (print c) n) e)
only_swift (GenericParam d i) h e = absurd h
only_swift (DependentMember b n) h e = absurd h
only_swift (Tuple es) h e = absurd h
only_swift (FunctionType p r t a) h e = absurd h
only_swift (GenericType s i) h e = absurd h
only_swift (GenericSignature p rs) h e = absurd h
only_swift (ConformanceRequirement p q) h e = absurd h
only_swift (SameTypeRequirement p o) h e = absurd h
only_swift (ProtocolList ps) h e = absurd h
only_swift (Metatype n) h e = absurd h
only_swift (InOut n) h e = absurd h
only_swift (BoundGeneric b args) h e = absurd h
only_swift (Function c n l t) h e = absurd (no_path (print c) n _ e)
only_swift (Variable c n t) h e = absurd (no_path (print c) n _ e)
only_swift (Accessor k v) h e = absurd (no_dot _ (accessor_has_dot k v) e)
only_swift (Initializer a c l t) h e = absurd (no_path (print c) (initializer_name a c) _ e)
only_swift (Deinitializer d c) h e = absurd (no_dot _ (has_dotted (print c) (deinitializer_name d)) e)
only_swift (VariableInitializer v) h e = absurd (no_space _ tt e)
only_swift (Static n) h e = absurd (no_space _ tt e)
only_swift (Record w n) h e = absurd h
only_swift (Conformance t p m) h e = absurd h
only_swift (ProtocolWitness n c) h e = absurd h
only_swift (ValueWitness k t) h e = absurd h
only_swift EmptyList h e = absurd h
only_swift FirstElementMarker h e = absurd h
only_swift VariadicMarker h e = absurd h
only_swift Throws h e = absurd h
only_swift Async h e = absurd h
only_swift (LazyWitness w t c) h e = absurd h
only_swift (AssociatedConformance p q n r) h e = absurd h

-- the same as a test: the kind is tested before the text, which for a module is its name
-- (`print_module` of PrintEquations)
pub swift_by_kind : (c : Node) → T (K.is_context (kind c)) → same (print c) (bytes "Swift") ≡ (eqb (kind c) K.module_kind && same (print c) (bytes "Swift"))
unfolding kind
swift_by_kind c h = by_test (same (print c) (bytes "Swift")) λ s. ap kind (only_swift c h (same→≡ (print c) (bytes "Swift") s))
  where
    by_test : (b : Bool) → (T b → kind c ≡ K.module_kind) → b ≡ (eqb (kind c) K.module_kind && b)
    by_test true k = rw (k tt)
    by_test false k = sym (and-false (eqb (kind c) K.module_kind))

-- the test of lines 396 to 398, by the kind and the name of the context
pub standard_by_kind : (k : NominalKind) (context : Node) (own : Name) (name : String) → T (K.is_context (kind context)) →
    standard (Nominal k context own) name ≡ (same own (bytes name) && (eqb (kind context) K.module_kind && same (print context) (bytes "Swift")))
standard_by_kind k context own name h = standard_of_nominal k context own name ∙ ap (λ b. same own (bytes name) && b) (swift_by_kind context h)
