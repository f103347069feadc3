-- The equations of `print` (lines 330 to 507) and `print_params` (lines 557 to 578) as the source
-- writes them, one law for each arm. specs/Print.antt makes all the ways to print a node at once;
-- these laws say that the result is the same.
use Rattle.std.specs.Prelude.{if◌then◌else◌}
use mathlib.Core.Path.{◌≡◌, refl, ap, ◌∙◌, subst⁻¹}
use mathlib.Core.Bool.{Bool, true, false, ◌&&◌, ◌||◌, not}
use mathlib.Core.List.{[], ◌∷◌, ◌++◌}
use mathlib.Core.Option.{Option, none}
use Prim.Native.Nat.{ℕ}
use Prim.Native.String.{String}
use lib.Dec.{T, eqb, leb, not_T, T_not}
use Rattle.definition.specs.Base.{Name, bytes, same}
use Rattle.definition.specs.Kind as K
use Rattle.definition.specs.Node.{NominalKind, Class, Struct, Enum, Protocol, TypeAlias, Labels, Node, Nodes, nil, cons, Identifier, Module, Nominal, GenericParam, DependentMember, Tuple, FunctionType, GenericType, GenericSignature, ConformanceRequirement, SameTypeRequirement, ProtocolList, Metatype, InOut, BoundGeneric, Function, Variable, Accessor, Initializer, Deinitializer, VariableInitializer, Static, Record, Conformance, ProtocolWitness, ValueWitness, EmptyList, FirstElementMarker, VariadicMarker, Throws, Async, LazyWitness, AssociatedConformance, nominal_kind, kind, many}
use Rattle.definition.specs.Print.{join, dotted, generic_param_name, param_names, signature_text, params_from, in_parens, texts, effects, initializer_name, deinitializer_name, composition, printed, print_tuple, print_function_type, print_generic_type, print_nominal, print_variable, angled, bound, printing, printed_elements, print, print_params, qualified}
use Rattle.definition.proofs.SameText.{passed, failed, both, neither, same_both, has, has_left, has_right}

-- LISTS OF NODES
-- `printed_elements` goes through a list of nodes and prints each, together with its own label
pub elements_nil : printed_elements nil ≡ []
unfolding printed_elements
elements_nil = refl

pub elements_cons : (l : Option Name) (n : Node) (ns : Nodes) → printed_elements (cons l n ns) ≡ (l, print n) ∷ printed_elements ns
unfolding print printed_elements
elements_cons l n ns = refl

-- `.iter().map(Node::print)` is `texts (printed_elements ns)`
pub texts_nil : texts (printed_elements nil) ≡ []
unfolding printed_elements texts
texts_nil = refl

pub texts_cons : (l : Option Name) (n : Node) (ns : Nodes) → texts (printed_elements (cons l n ns)) ≡ print n ∷ texts (printed_elements ns)
unfolding print printed_elements texts
texts_cons l n ns = refl

-- THE CASE OF MOST NODES
-- the kinds of a Nominal
abbrev pub is_nominal : ℕ → Bool
is_nominal k = leb K.class k && leb k K.type_alias

-- The closure `standard` of lines 395 to 400, for a base
abbrev pub standard : Node → String → Bool
standard b name = (printing b).standard name

-- no text equals two texts that differ
two_names : (own : Name) (s t : String) (b : Bool) → T (not (same (bytes s) (bytes t))) → T (same own (bytes s) && b) → T (not (same own (bytes t) && b))
two_names own s t b d h = not_T (same own (bytes t) && b) λ k.
    T_not (same (bytes s) (bytes t)) d (same_both own (bytes s) (bytes t) (both (same own (bytes s)) b h).0 (both (same own (bytes t)) b k).0)

-- "{a}.{b}" contains a dot (byte 46)
pub has_dotted : (a b : Name) → T (has 46 (dotted a b))
unfolding bytes dotted
has_dotted a b = has_right 46 a (bytes "." ++ b) tt

-- The last arms of the source's matches on a part of a node: what holds for every node that the
-- arms before do not take. Also two facts about every node: the text of its accessor has a dot, and
-- it is the standard type of at most one name. All by cases, once, in `others`
record Others (n : Node) : Type 0 where
  in_params : T (not (eqb (kind n) K.tuple || eqb (kind n) K.empty_list)) → (ls : Labels) → print_params n ls ≡ in_parens ls ((none, print n) ∷ [])
  in_function : T (not (eqb (kind n) K.function_type)) → (ls : Labels) → (printing n).behind ls ≡ bytes " : " ++ print n
  unsigned : T (not (eqb (kind n) K.generic_type)) → (ls : Labels) → (printing n).signed ls ≡ (printing n).behind ls
  in_accessor : T (not (eqb (kind n) K.variable)) → (k : Name) → (printing n).accessed k ≡ dotted (print n) k
  accessor_dot : (k : Name) → T (has 46 ((printing n).accessed k))
  in_bound : T (not (is_nominal (kind n))) → (s : String) → standard n s ≡ false
  one_standard : (s t : String) → T (not (same (bytes s) (bytes t))) → T (standard n s) → T (not (standard n t))

-- a node that `printing` gives to `printed` is taken only by the last arm
by_printed : (n : Node) (t : Name) → printing n ≡ printed t → Others n
unfolding printed print print_params
by_printed n t e = record {
  in_params = λ h ls. subst⁻¹ (λ p. p.params ls ≡ in_parens ls ((none, p.text) ∷ [])) e refl;
  in_function = λ h ls. subst⁻¹ (λ p. p.behind ls ≡ bytes " : " ++ p.text) e refl;
  unsigned = λ h ls. subst⁻¹ (λ p. p.signed ls ≡ p.behind ls) e refl;
  in_accessor = λ h k. subst⁻¹ (λ p. p.accessed k ≡ dotted p.text k) e refl;
  accessor_dot = λ k. subst⁻¹ (λ p. T (has 46 (p.accessed k))) e (has_dotted t k);
  in_bound = λ h s. subst⁻¹ (λ p. p.standard s ≡ false) e refl;
  one_standard = λ s t. subst⁻¹ (λ p. T (not (same (bytes s) (bytes t))) → T (p.standard s) → T (not (p.standard t))) e (λ d h. absurd h);
}

of_nominal : (k : NominalKind) (c : Node) (x : Name) → T (is_nominal (nominal_kind k)) → Others (Nominal k c x)
unfolding kind print print_params printing print_nominal
of_nominal k c x i = record {
  in_params = λ h ls. refl;
  in_function = λ h ls. refl;
  unsigned = λ h ls. refl;
  in_accessor = λ h a. refl;
  accessor_dot = λ k. has_dotted _ k;
  in_bound = λ h s. absurd (T_not (is_nominal (nominal_kind k)) h i);
  one_standard = λ s t. two_names x s t (same (print c) (bytes "Swift"));
}

others : (n : Node) → Others n
unfolding kind nominal_kind print print_params printing print_tuple print_function_type print_generic_type print_variable in_parens
others (Identifier x) = by_printed _ _ refl
others (Module x) = by_printed _ _ refl
others (Nominal Class c x) = of_nominal Class c x tt
others (Nominal Struct c x) = of_nominal Struct c x tt
others (Nominal Enum c x) = of_nominal Enum c x tt
others (Nominal Protocol c x) = of_nominal Protocol c x tt
others (Nominal TypeAlias c x) = of_nominal TypeAlias c x tt
others (GenericParam d i) = by_printed _ _ refl
others (DependentMember b x) = by_printed _ _ refl
others (Tuple es) = record { in_params = λ h. absurd h; in_function = λ h ls. refl; unsigned = λ h ls. refl; in_accessor = λ h k. refl; accessor_dot = λ k. has_dotted _ k; in_bound = λ h s. refl; one_standard = λ s t d h. absurd h }
others (FunctionType p r t a) = record { in_params = λ h ls. refl; in_function = λ h. absurd h; unsigned = λ h ls. refl; in_accessor = λ h k. refl; accessor_dot = λ k. has_dotted _ k; in_bound = λ h s. refl; one_standard = λ s t d h. absurd h }
others (GenericType s i) = record { in_params = λ h ls. refl; in_function = λ h ls. refl; unsigned = λ h. absurd h; in_accessor = λ h k. refl; accessor_dot = λ k. has_dotted _ k; in_bound = λ h s. refl; one_standard = λ s t d h. absurd h }
others (GenericSignature p rs) = by_printed _ _ refl
others (ConformanceRequirement p q) = by_printed _ _ refl
others (SameTypeRequirement p o) = by_printed _ _ refl
others (ProtocolList ps) = by_printed _ _ refl
others (Metatype n) = by_printed _ _ refl
others (InOut n) = by_printed _ _ refl
others (BoundGeneric b args) = by_printed _ _ refl
others (Function c x l t) = by_printed _ _ refl
others (Variable c x t) = record { in_params = λ h ls. refl; in_function = λ h ls. refl; unsigned = λ h ls. refl; in_accessor = λ h. absurd h; accessor_dot = λ k. has_left 46 (dotted (dotted (print c) x) k) (bytes " : " ++ print t) (has_dotted (dotted (print c) x) k); in_bound = λ h s. refl; one_standard = λ s t d h. absurd h }
others (Accessor k v) = by_printed _ _ refl
others (Initializer a c l t) = by_printed _ _ refl
others (Deinitializer d c) = by_printed _ _ refl
others (VariableInitializer v) = by_printed _ _ refl
others (Static e) = by_printed _ _ refl
others (Record w n) = by_printed _ _ refl
others (Conformance t p m) = by_printed _ _ refl
others (ProtocolWitness e c) = by_printed _ _ refl
others (ValueWitness k t) = by_printed _ _ refl
others EmptyList = record { in_params = λ h. absurd h; in_function = λ h ls. refl; unsigned = λ h ls. refl; in_accessor = λ h k. refl; accessor_dot = λ k. has_dotted _ k; in_bound = λ h s. refl; one_standard = λ s t d h. absurd h }
others FirstElementMarker = by_printed _ _ refl
others VariadicMarker = by_printed _ _ refl
others Throws = by_printed _ _ refl
others Async = by_printed _ _ refl
others (LazyWitness w t c) = by_printed _ _ refl
others (AssociatedConformance p q n r) = by_printed _ _ refl

-- PARAMETERS
-- line 559
pub params_of_tuple : (es : Nodes) (ls : Labels) → print_params (Tuple es) ls ≡ in_parens ls (printed_elements es)
unfolding print_params printing print_tuple
params_of_tuple es ls = refl

-- line 560
pub params_of_empty_list : (ls : Labels) → print_params EmptyList ls ≡ in_parens ls []
unfolding print_params printing print_tuple
params_of_empty_list ls = refl

-- line 561
pub params_of_other : (n : Node) → T (not (eqb (kind n) K.tuple || eqb (kind n) K.empty_list)) → (ls : Labels) → print_params n ls ≡ in_parens ls ((none, print n) ∷ [])
params_of_other n h ls = (others n).in_params h ls

-- NODES WITH A NAME
-- line 332
pub print_identifier : (name : Name) → print (Identifier name) ≡ name
unfolding print printing printed
print_identifier name = refl

pub print_module : (name : Name) → print (Module name) ≡ name
unfolding print printing printed
print_module name = refl

-- line 333
pub print_nominal_node : (k : NominalKind) (context : Node) (name : Name) → print (Nominal k context name) ≡ dotted (print context) name
unfolding print printing print_nominal
print_nominal_node k context name = refl

-- line 334
pub print_generic_param : (depth index : ℕ) → print (GenericParam depth index) ≡ generic_param_name depth index
unfolding print printing printed
print_generic_param depth index = refl

-- line 335
pub print_dependent_member : (base : Node) (name : Name) → print (DependentMember base name) ≡ dotted (print base) name
unfolding print printing printed
print_dependent_member base name = refl

-- TYPES
-- lines 336 to 345
pub print_tuple_node : (es : Nodes) → print (Tuple es) ≡ in_parens none (printed_elements es)
unfolding print printing print_tuple
print_tuple_node es = refl

-- lines 346 to 357
pub print_function_type_node : (params result : Node) (throws is_async : Bool) →
    print (FunctionType params result throws is_async) ≡ print_params params none ++ (effects throws is_async ++ (bytes " -> " ++ print result))
unfolding print print_params printing print_function_type
print_function_type_node params result throws is_async = refl

-- lines 358 to 360
pub print_generic_type_node : (signature inner : Node) → print (GenericType signature inner) ≡ print signature ++ print inner
unfolding print printing print_generic_type
print_generic_type_node signature inner = refl

-- lines 361 to 373
pub print_signature_alone : (params : ℕ) → print (GenericSignature params nil) ≡ bytes "<" ++ (join ", " (param_names params 0) ++ bytes ">")
unfolding print printing printed signature_text printed_elements texts
print_signature_alone params = refl

pub print_signature_where : (params : ℕ) (l : Option Name) (r : Node) (rs : Nodes) →
    print (GenericSignature params (cons l r rs)) ≡ bytes "<" ++ (join ", " (param_names params 0) ++ (bytes " where " ++ (join ", " (texts (printed_elements (cons l r rs))) ++ bytes ">")))
unfolding print printing printed signature_text printed_elements texts
print_signature_where params l r rs = refl

-- lines 374 to 376
pub print_conformance_requirement : (param protocol : Node) → print (ConformanceRequirement param protocol) ≡ print param ++ (bytes ": " ++ print protocol)
unfolding print printing printed
print_conformance_requirement param protocol = refl

-- lines 377 to 379
pub print_same_type_requirement : (param other : Node) → print (SameTypeRequirement param other) ≡ print param ++ (bytes " == " ++ print other)
unfolding print printing printed
print_same_type_requirement param other = refl

-- lines 380 to 390
pub print_no_protocols : print (ProtocolList nil) ≡ bytes "Any"
unfolding print printing printed composition printed_elements texts
print_no_protocols = refl

pub print_protocols : (l : Option Name) (p : Node) (ps : Nodes) → print (ProtocolList (cons l p ps)) ≡ join " & " (texts (printed_elements (cons l p ps)))
unfolding print printing printed composition printed_elements texts
print_protocols l p ps = refl

-- line 391
pub print_metatype : (ty : Node) → print (Metatype ty) ≡ print ty ++ bytes ".Type"
unfolding print printing printed
print_metatype ty = refl

-- line 392
pub print_in_out : (ty : Node) → print (InOut ty) ≡ bytes "inout " ++ print ty
unfolding print printing printed
print_in_out ty = refl

-- BOUND GENERIC TYPES
-- lines 396 to 398
pub standard_of_nominal : (k : NominalKind) (context : Node) (own : Name) (name : String) →
    standard (Nominal k context own) name ≡ (same own (bytes name) && same (print context) (bytes "Swift"))
unfolding print printing print_nominal
standard_of_nominal k context own name = refl

-- line 399
pub standard_of_other : (base : Node) → T (not (is_nominal (kind base))) → (name : String) → standard base name ≡ false
standard_of_other base h name = (others base).in_bound h name

-- the guards of lines 402 to 404: some sugar fits
abbrev pub sugared : Node → Nodes → Bool
sugared base args = eqb (many args) 1 && (standard base "Optional" || standard base "Array") || eqb (many args) 2 && standard base "Dictionary"

-- line 402
pub print_optional : (base : Node) (l : Option Name) (arg : Node) → T (standard base "Optional") →
    print (BoundGeneric base (cons l arg nil)) ≡ print arg ++ bytes "?"
unfolding print printing printed bound printed_elements texts
print_optional base l arg h = rw (passed (standard base "Optional") h, bound)

-- line 403
pub print_array : (base : Node) (l : Option Name) (arg : Node) → T (standard base "Array") →
    print (BoundGeneric base (cons l arg nil)) ≡ bytes "[" ++ (print arg ++ bytes "]")
unfolding bytes print printing printed bound printed_elements texts
print_array base l arg h = rw (failed (standard base "Optional") ((others base).one_standard "Array" "Optional" tt h), bound, passed (standard base "Array") h)

-- line 404
pub print_dictionary : (base : Node) (l m : Option Name) (key value : Node) → T (standard base "Dictionary") →
    print (BoundGeneric base (cons l key (cons m value nil))) ≡ bytes "[" ++ (print key ++ (bytes " : " ++ (print value ++ bytes "]")))
unfolding print printing printed bound printed_elements texts
print_dictionary base l m key value h = rw (passed (standard base "Dictionary") h, bound)

-- line 405
pub print_bound_generic : (base : Node) (args : Nodes) → T (not (sugared base args)) →
    print (BoundGeneric base args) ≡ print base ++ (bytes "<" ++ (join ", " (texts (printed_elements args)) ++ bytes ">"))
unfolding print printing printed bound printed_elements texts angled many
print_bound_generic base nil h = refl
print_bound_generic base (cons l a nil) h =
    let h₁ : T (not (standard base "Optional" || standard base "Array")) = (neither (standard base "Optional" || standard base "Array") false h).0 in
    let h₂ : T (not (standard base "Optional")) × T (not (standard base "Array")) = neither (standard base "Optional") (standard base "Array") h₁ in
    rw (failed (standard base "Optional") h₂.0, bound, failed (standard base "Array") h₂.1)
print_bound_generic base (cons l a (cons m b nil)) h = rw (failed (standard base "Dictionary") h, bound)
print_bound_generic base (cons l a (cons m b (cons n c ns))) h = refl

-- FUNCTIONS, lines 408 to 431: by what `split_generic` (lines 547 to 552) splits off the type, and
-- what is left
-- no signature, and a function type
pub print_function : (context : Node) (name : Name) (labels : Labels) (params result : Node) (throws is_async : Bool) →
    print (Function context name labels (FunctionType params result throws is_async)) ≡
    dotted (print context) name ++ (print_params params labels ++ (effects throws is_async ++ (bytes " -> " ++ print result)))
unfolding print print_params printing printed print_function_type
print_function context name labels params result throws is_async = refl

-- a signature, and a function type under it
pub print_generic_function : (context : Node) (name : Name) (labels : Labels) (signature params result : Node) (throws is_async : Bool) →
    print (Function context name labels (GenericType signature (FunctionType params result throws is_async))) ≡
    dotted (print context) name ++ (print signature ++ (print_params params labels ++ (effects throws is_async ++ (bytes " -> " ++ print result))))
unfolding print print_params printing printed print_function_type print_generic_type
print_generic_function context name labels signature params result throws is_async = refl

-- no signature, and another type
pub print_function_other : (context : Node) (name : Name) (labels : Labels) (ty : Node) → T (not (eqb (kind ty) K.generic_type)) → T (not (eqb (kind ty) K.function_type)) →
    print (Function context name labels ty) ≡ dotted (print context) name ++ (bytes " : " ++ print ty)
unfolding print printing printed
print_function_other context name labels ty g h = ap (λ x. dotted (print context) name ++ x) ((others ty).unsigned g labels ∙ (others ty).in_function h labels)

-- a signature, and another type under it
pub print_generic_function_other : (context : Node) (name : Name) (labels : Labels) (signature inner : Node) → T (not (eqb (kind inner) K.function_type)) →
    print (Function context name labels (GenericType signature inner)) ≡ dotted (print context) name ++ (print signature ++ (bytes " : " ++ print inner))
unfolding print printing printed print_generic_type
print_generic_function_other context name labels signature inner h = ap (λ x. dotted (print context) name ++ (print signature ++ x)) ((others inner).in_function h labels)

-- VARIABLES AND ACCESSORS
-- lines 432 to 434
pub print_variable_node : (context : Node) (name : Name) (ty : Node) → print (Variable context name ty) ≡ dotted (print context) name ++ (bytes " : " ++ print ty)
unfolding print printing print_variable
print_variable_node context name ty = refl

-- lines 436 to 438
pub print_accessor : (k : Name) (context : Node) (name : Name) (ty : Node) →
    print (Accessor k (Variable context name ty)) ≡ dotted (dotted (print context) name) k ++ (bytes " : " ++ print ty)
unfolding print printing printed print_variable
print_accessor k context name ty = refl

-- line 439
pub print_accessor_other : (k : Name) (variable : Node) → T (not (eqb (kind variable) K.variable)) → print (Accessor k variable) ≡ dotted (print variable) k
unfolding print printing printed
print_accessor_other k variable h = (others variable).in_accessor h k

-- in both cases it contains a dot (byte 46)
pub accessor_has_dot : (k : Name) (variable : Node) → T (has 46 (print (Accessor k variable)))
unfolding print printing printed
accessor_has_dot k variable = (others variable).accessor_dot k

-- INITIALIZERS, lines 441 to 465: as functions, with the name of lines 512 to 525
pub name_allocating : (context : Node) (name : Name) → initializer_name true (Nominal Class context name) ≡ bytes "__allocating_init"
unfolding initializer_name kind nominal_kind
name_allocating context name = refl

pub name_init : (allocating : Bool) (context : Node) → T (not (allocating && eqb (kind context) K.class)) → initializer_name allocating context ≡ bytes "init"
unfolding initializer_name
name_init allocating context h = rw (failed (allocating && eqb (kind context) K.class) h)

pub print_initializer : (allocating : Bool) (context : Node) (labels : Labels) (params result : Node) (throws is_async : Bool) →
    print (Initializer allocating context labels (FunctionType params result throws is_async)) ≡
    dotted (print context) (initializer_name allocating context) ++ (print_params params labels ++ (effects throws is_async ++ (bytes " -> " ++ print result)))
unfolding print print_params printing printed print_function_type
print_initializer allocating context labels params result throws is_async = refl

pub print_generic_initializer : (allocating : Bool) (context : Node) (labels : Labels) (signature params result : Node) (throws is_async : Bool) →
    print (Initializer allocating context labels (GenericType signature (FunctionType params result throws is_async))) ≡
    dotted (print context) (initializer_name allocating context) ++ (print signature ++ (print_params params labels ++ (effects throws is_async ++ (bytes " -> " ++ print result))))
unfolding print print_params printing printed print_function_type print_generic_type
print_generic_initializer allocating context labels signature params result throws is_async = refl

pub print_initializer_other : (allocating : Bool) (context : Node) (labels : Labels) (ty : Node) → T (not (eqb (kind ty) K.generic_type)) → T (not (eqb (kind ty) K.function_type)) →
    print (Initializer allocating context labels ty) ≡ dotted (print context) (initializer_name allocating context) ++ (bytes " : " ++ print ty)
unfolding print printing printed
print_initializer_other allocating context labels ty g h =
    ap (λ x. dotted (print context) (initializer_name allocating context) ++ x) ((others ty).unsigned g labels ∙ (others ty).in_function h labels)

pub print_generic_initializer_other : (allocating : Bool) (context : Node) (labels : Labels) (signature inner : Node) → T (not (eqb (kind inner) K.function_type)) →
    print (Initializer allocating context labels (GenericType signature inner)) ≡
    dotted (print context) (initializer_name allocating context) ++ (print signature ++ (bytes " : " ++ print inner))
unfolding print printing printed print_generic_type
print_generic_initializer_other allocating context labels signature inner h =
    ap (λ x. dotted (print context) (initializer_name allocating context) ++ (print signature ++ x)) ((others inner).in_function h labels)

-- OTHER ENTITIES
-- lines 466 to 477
pub print_deinitializer : (deallocating : Bool) (context : Node) →
    print (Deinitializer deallocating context) ≡ dotted (print context) (if deallocating then bytes "__deallocating_deinit" else bytes "deinit")
unfolding print printing printed deinitializer_name
print_deinitializer deallocating context = refl

-- lines 478 to 480
pub print_variable_initializer : (variable : Node) → print (VariableInitializer variable) ≡ bytes "variable initialization expression of " ++ print variable
unfolding print printing printed
print_variable_initializer variable = refl

-- line 481
pub print_static : (entity : Node) → print (Static entity) ≡ bytes "static " ++ print entity
unfolding print printing printed
print_static entity = refl

-- RECORDS AND WITNESSES
-- line 482
pub print_record : (what : Name) (of : Node) → print (Record what of) ≡ what ++ print of
unfolding print printing printed
print_record what of = refl

-- lines 483 to 492
pub print_conformance : (ty protocol home : Node) → print (Conformance ty protocol home) ≡ print ty ++ (bytes " : " ++ (print protocol ++ (bytes " in " ++ print home)))
unfolding print printing printed
print_conformance ty protocol home = refl

-- lines 493 to 500
pub print_protocol_witness : (entity conformance : Node) →
    print (ProtocolWitness entity conformance) ≡ bytes "protocol witness for " ++ (print entity ++ (bytes " in conformance " ++ print conformance))
unfolding print printing printed
print_protocol_witness entity conformance = refl

-- line 501
pub print_value_witness : (k : Name) (ty : Node) → print (ValueWitness k ty) ≡ k ++ (bytes " value witness for " ++ print ty)
unfolding print printing printed
print_value_witness k ty = refl

-- MARKERS
-- line 502
pub print_empty_list : print EmptyList ≡ bytes "()"
unfolding print printing print_tuple in_parens params_from join bytes
print_empty_list = refl

-- lines 503 to 505
pub print_first_element_marker : print FirstElementMarker ≡ []
unfolding print printing printed
print_first_element_marker = refl

pub print_variadic_marker : print VariadicMarker ≡ []
unfolding print printing printed
print_variadic_marker = refl

pub print_throws : print Throws ≡ []
unfolding print printing printed
print_throws = refl

pub print_async : print Async ≡ []
unfolding print printing printed
print_async = refl

-- lines 1543 to 1549: the text that the Rust prints ahead, after the words of the record
pub print_lazy_witness : (what : Name) (ty conformance : Node) → print (LazyWitness what ty conformance) ≡ what ++ (print ty ++ (bytes " and conformance " ++ print conformance))
unfolding print printing printed
print_lazy_witness what ty conformance = refl

-- lines 1653 to 1661, with no qualifier and with one
pub print_associated_conformance : (protocol : Node) (name : Name) (required : Node) →
    print (AssociatedConformance protocol nil name required) ≡ bytes "associated conformance descriptor for " ++ (dotted (print protocol) name ++ (bytes ": " ++ print required))
unfolding print printing printed printed_elements texts qualified
print_associated_conformance protocol name required = refl

pub print_qualified_conformance : (protocol qualifier : Node) (name : Name) (required : Node) →
    print (AssociatedConformance protocol (cons none qualifier nil) name required) ≡
    bytes "associated conformance descriptor for " ++ (dotted (print protocol) (dotted (print qualifier) name) ++ (bytes ": " ++ print required))
unfolding print printing printed printed_elements texts qualified
print_qualified_conformance protocol qualifier name required = refl

-- A TYPE AFTER A NAME
-- lines 424 to 429 and 458 to 463: not a function type
pub behind_of_other : (n : Node) → T (not (eqb (kind n) K.function_type)) → (ls : Labels) → (printing n).behind ls ≡ bytes " : " ++ print n
behind_of_other n h ls = (others n).in_function h ls

-- lines 545 to 552: no signature to split off
pub signed_of_other : (n : Node) → T (not (eqb (kind n) K.generic_type)) → (ls : Labels) → (printing n).signed ls ≡ (printing n).behind ls
signed_of_other n h ls = (others n).unsigned h ls
