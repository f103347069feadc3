-- 01, "Printed text": the text of a node (lines 330 to 578). antt's functions can only recurse on
-- the parts of a tree, so `print`, `print_params` and the two ways to print a type after a name are
-- the fields of one record that is built bottom up. proofs/PrintEquations.antt states them as the
-- source writes them.
use Rattle.std.specs.Prelude.{Bool, true, false, ◌&&◌, List, [], ◌∷◌, ◌++◌, ℕ, zero, suc, ◌+◌, ◌/◌, ◌%◌, eqb, ltb, if◌then◌else◌}
use Rattle.std.proofs.Math.Option.{Option, some, none}
use Prim.Native.String.{String}
use Rattle.std.proofs.Math.ListN.{get_elem?}
use Rattle.definition.specs.Node.{opened as opened₀}
use Rattle.definition.specs.Base.{Name, bytes, decimal, same}
use Rattle.definition.specs.Kind as K
use Rattle.definition.specs.Node.{Labels, Node, Nodes, nil, cons, Identifier, Module, Nominal, GenericParam, DependentMember, Tuple, FunctionType, GenericType, GenericSignature, ConformanceRequirement, SameTypeRequirement, ProtocolList, Metatype, InOut, BoundGeneric, Function, Variable, Accessor, Initializer, Deinitializer, VariableInitializer, Static, Record, Conformance, ProtocolWitness, ValueWitness, EmptyList, FirstElementMarker, VariadicMarker, Throws, Async, LazyWitness, AssociatedConformance, kind}

-- `join`: texts with a text between them
unfoldable pub join : String → List Name → Name
join sep [] = []
join sep (x ∷ []) = x
join sep (x ∷ y ∷ ys) = x ++ (bytes sep ++ join sep (y ∷ ys))

-- "{a}.{b}"
unfoldable pub dotted : Name → Name → Name
dotted a b = a ++ (bytes "." ++ b)

-- GENERIC PARAMETERS (lines 527 to 543): the least significant letter first, then the depth if
-- above 0; f bounds the letters and is never reached (proofs/Bounds `letters_bound`,
-- `param_name_any`)
unfoldable pub param_letters : ℕ → ℕ → Name
param_letters zero i = []
param_letters (suc f) i = (65 + i % 26) ∷ elim (eqb (i / 26) 0) [ true ↦ [] | false ↦ param_letters f (i / 26) ]

unfoldable pub generic_param_name : ℕ → ℕ → Name
generic_param_name depth index = param_letters (suc index) index ++ (if ltb 0 depth then decimal depth else [])

-- the names of the n parameters from i on, at depth 0
unfoldable pub param_names : ℕ → ℕ → List Name
param_names zero i = []
param_names (suc n) i = generic_param_name 0 i ∷ param_names n (suc i)

-- lines 361 to 373
unfoldable pub signature_text : ℕ → List Name → Name
signature_text params [] = bytes "<" ++ (join ", " (param_names params 0) ++ bytes ">")
signature_text params (r ∷ reqs) = bytes "<" ++ (join ", " (param_names params 0) ++ (bytes " where " ++ (join ", " (r ∷ reqs) ++ bytes ">")))

-- ELEMENTS AND PARAMETERS
-- the text of an element of a list, with its own label if it has one
abbrev pub Element : Type 0
Element = Option Name × Name

-- "{label}: {text}"
unfoldable pub labelled : Option Name → Name → Name
labelled none t = t
labelled (some l) t = l ++ (bytes ": " ++ t)

-- lines 567 to 570: the label of the function if it has one, `_` where that is the marker for none,
-- and otherwise the element's own label
unfoldable pub label_at : Labels → ℕ → Option Name → Option Name
label_at none i own = own
label_at (some ls) i own = elim (get_elem? ls i) [ none ↦ own | some l ↦ elim l [ none ↦ some (bytes "_") | some n ↦ some n ] ]

unfoldable pub params_from : ℕ → Labels → List Element → List Name
params_from i ls [] = []
params_from i ls (e ∷ es) = labelled (label_at ls i e.0) e.1 ∷ params_from (suc i) ls es

-- "({parts})"
unfoldable pub in_parens : Labels → List Element → Name
in_parens ls es = bytes "(" ++ (join ", " (params_from 0 ls es) ++ bytes ")")

unfoldable pub texts : List Element → List Name
texts [] = []
texts (e ∷ es) = e.1 ∷ texts es

-- NAMES THAT DEPEND ON A FLAG
-- lines 354 and 355, 425 and 426, 459 and 460
unfoldable pub effects : Bool → Bool → Name
effects throws is_async = (if is_async then bytes " async" else []) ++ (if throws then bytes " throws" else [])

-- lines 510 to 525
unfoldable pub initializer_name : Bool → Node → Name
initializer_name allocating context = if allocating && eqb (kind context) K.class then bytes "__allocating_init" else bytes "init"

-- lines 466 to 477
unfoldable pub deinitializer_name : Bool → Name
deinitializer_name deallocating = if deallocating then bytes "__deallocating_deinit" else bytes "deinit"

-- lines 380 to 390
unfoldable pub composition : List Name → Name
composition [] = bytes "Any"
composition (p ∷ ps) = join " & " (p ∷ ps)

-- the path of an associated type: the protocol that it comes from, if there is one, and its name
-- (lines 1654 to 1657)
unfoldable pub qualified : List Name → Name → Name
qualified [] n = n
qualified (q ∷ qs) n = dotted q n

-- THE WAYS TO PRINT A NODE
pub record Printed : Type 0 where
  -- `print`
  pub text : Name
  -- `print_params`, with the labels given
  pub params : Labels → Name
  -- what follows the name of a function or initializer that has this type, after a signature was
  -- split off (lines 415 to 430 and 449 to 464)
  pub behind : Labels → Name
  -- the same, with a signature split off first (`split_generic`, lines 545 to 552)
  pub signed : Labels → Name
  -- printed as the variable of an accessor of a kind (lines 435 to 440)
  pub accessed : Name → Name
  -- whether it is the standard type of a name, as the base of a generic type (lines 395 to 400)
  pub standard : String → Bool

-- the case of most nodes
unfoldable pub printed : Name → Printed
printed t = record {
  text = t;
  params = λ ls. in_parens ls ((none, t) ∷ []);
  behind = λ ls. bytes " : " ++ t;
  signed = λ ls. bytes " : " ++ t;
  accessed = λ k. dotted t k;
  standard = λ s. false;
}

unfoldable pub print_tuple : List Element → Printed
print_tuple es = record {
  text = in_parens none es;
  params = λ ls. in_parens ls es;
  behind = λ ls. bytes " : " ++ in_parens none es;
  signed = λ ls. bytes " : " ++ in_parens none es;
  accessed = λ k. dotted (in_parens none es) k;
  standard = λ s. false;
}

unfoldable pub print_function_type : Printed → Printed → Bool → Bool → Printed
print_function_type p r throws is_async =
    let after : Labels → Name = λ ls. p.params ls ++ (effects throws is_async ++ (bytes " -> " ++ r.text)) in
    let t : Name = after none in
    record {
      text = t;
      params = λ ls. in_parens ls ((none, t) ∷ []);
      behind = after;
      signed = after;
      accessed = λ k. dotted t k;
      standard = λ s. false;
    }

unfoldable pub print_generic_type : Printed → Printed → Printed
print_generic_type s i =
    let t : Name = s.text ++ i.text in
    record {
      text = t;
      params = λ ls. in_parens ls ((none, t) ∷ []);
      behind = λ ls. bytes " : " ++ t;
      signed = λ ls. s.text ++ i.behind ls;
      accessed = λ k. dotted t k;
      standard = λ s. false;
    }

unfoldable pub print_nominal : Printed → Name → Printed
print_nominal c n =
    let t : Name = dotted c.text n in
    record {
      text = t;
      params = λ ls. in_parens ls ((none, t) ∷ []);
      behind = λ ls. bytes " : " ++ t;
      signed = λ ls. bytes " : " ++ t;
      accessed = λ k. dotted t k;
      standard = λ s. same n (bytes s) && same c.text (bytes "Swift");
    }

unfoldable pub print_variable : Printed → Name → Printed → Printed
print_variable c n ty =
    let t : Name = dotted c.text n ++ (bytes " : " ++ ty.text) in
    record {
      text = t;
      params = λ ls. in_parens ls ((none, t) ∷ []);
      behind = λ ls. bytes " : " ++ t;
      signed = λ ls. bytes " : " ++ t;
      accessed = λ k. dotted (dotted c.text n) k ++ (bytes " : " ++ ty.text);
      standard = λ s. false;
    }

-- lines 401 to 406: sugar by name, number of arguments and a context that prints `Swift`
unfoldable pub angled : Printed → List Name → Name
angled b args = b.text ++ (bytes "<" ++ (join ", " args ++ bytes ">"))

unfoldable pub bound : Printed → List Name → Name
bound b [] = angled b []
bound b (arg ∷ []) = elim (b.standard "Optional") [
  | true ↦ arg ++ bytes "?"
  | false ↦ elim (b.standard "Array") [ true ↦ bytes "[" ++ (arg ++ bytes "]") | false ↦ angled b (arg ∷ []) ]
]
bound b (key ∷ value ∷ []) = elim (b.standard "Dictionary") [
  | true ↦ bytes "[" ++ (key ++ (bytes " : " ++ (value ++ bytes "]")))
  | false ↦ angled b (key ∷ value ∷ [])
]
bound b (x ∷ y ∷ z ∷ args) = angled b (x ∷ y ∷ z ∷ args)

unfoldable mutual
  pub printing : Node → Printed
  printing (Identifier n) = printed n
  printing (Module n) = printed n
  printing (Nominal k c n) = print_nominal (printing c) n
  printing (GenericParam d i) = printed (generic_param_name d i)
  printing (DependentMember b n) = printed (dotted (printing b).text n)
  printing (Tuple es) = print_tuple (printed_elements es)
  printing (FunctionType p r t a) = print_function_type (printing p) (printing r) t a
  printing (GenericType s i) = print_generic_type (printing s) (printing i)
  printing (GenericSignature p rs) = printed (signature_text p (texts (printed_elements rs)))
  printing (ConformanceRequirement p q) = printed ((printing p).text ++ (bytes ": " ++ (printing q).text))
  printing (SameTypeRequirement p o) = printed ((printing p).text ++ (bytes " == " ++ (printing o).text))
  printing (ProtocolList ps) = printed (composition (texts (printed_elements ps)))
  printing (Metatype n) = printed ((printing n).text ++ bytes ".Type")
  printing (InOut n) = printed (bytes "inout " ++ (printing n).text)
  printing (BoundGeneric b args) = printed (bound (printing b) (texts (printed_elements args)))
  printing (Function c n l t) = printed (dotted (printing c).text n ++ (printing t).signed l)
  printing (Variable c n t) = print_variable (printing c) n (printing t)
  printing (Accessor k v) = printed ((printing v).accessed k)
  printing (Initializer a c l t) = printed (dotted (printing c).text (initializer_name a c) ++ (printing t).signed l)
  printing (Deinitializer d c) = printed (dotted (printing c).text (deinitializer_name d))
  printing (VariableInitializer v) = printed (bytes "variable initialization expression of " ++ (printing v).text)
  printing (Static e) = printed (bytes "static " ++ (printing e).text)
  printing (Record w n) = printed (w ++ (printing n).text)
  printing (Conformance t p m) = printed ((printing t).text ++ (bytes " : " ++ ((printing p).text ++ (bytes " in " ++ (printing m).text))))
  printing (ProtocolWitness e c) = printed (bytes "protocol witness for " ++ ((printing e).text ++ (bytes " in conformance " ++ (printing c).text)))
  printing (ValueWitness k t) = printed (k ++ (bytes " value witness for " ++ (printing t).text))
  printing EmptyList = print_tuple []
  printing FirstElementMarker = printed []
  printing VariadicMarker = printed []
  printing Throws = printed []
  printing Async = printed []
  printing (LazyWitness w t c) = printed (w ++ ((printing t).text ++ (bytes " and conformance " ++ (printing c).text)))
  printing (AssociatedConformance p q n r) =
      printed (bytes "associated conformance descriptor for " ++ (dotted (printing p).text (qualified (texts (printed_elements q)) n) ++ (bytes ": " ++ (printing r).text)))

  pub printed_elements : Nodes → List Element
  printed_elements nil = []
  printed_elements (cons l n ns) = (l, (printing n).text) ∷ printed_elements ns

-- lines 330 to 507
unfoldable pub print : Node → Name
print n = (printing n).text

-- lines 554 to 578
unfoldable pub print_params : Node → Labels → Name
print_params n ls = (printing n).params ls

-- FOR PROOFS ONLY: this name on an `unfolding` line opens every definition up to here
unfoldable pub opened : ℕ
unfolding opened₀ join dotted param_letters generic_param_name param_names signature_text labelled label_at params_from in_parens texts effects initializer_name deinitializer_name composition qualified printed print_tuple print_function_type print_generic_type print_nominal print_variable angled bound printing printed_elements print print_params
opened = 0
