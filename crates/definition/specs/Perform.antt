-- The effect of each operator on the machine of trees: `operator` (lines 726 to 786) and the
-- functions below it, without their letters.
use Rattle.std.specs.Prelude.{Bool, List, [], ◌∷◌, ℕ, zero, suc, ◌*◌, eqb, if◌then◌else◌}
use Rattle.std.proofs.Math.Option.{Option, some, none}
use Prim.Native.String.{String}
use Rattle.definition.specs.Print.{opened as opened₀}
use Rattle.definition.specs.Operators.{opened as opened₁}
use Rattle.definition.specs.Machine.{opened as opened₂}
use Rattle.definition.specs.Base.{Name, bytes, given, Step, Done, ret, refuse, ◌>>=◌, ◌>>◌, Late, judge}
use Rattle.definition.specs.Text.{Param}
use Rattle.definition.specs.Kind as K
use Rattle.definition.specs.Node.{NominalKind, Enum, Protocol, Labels, Node, Nodes, nil, cons, Module, Nominal, GenericParam, DependentMember, Tuple, FunctionType, GenericType, GenericSignature, ConformanceRequirement, SameTypeRequirement, ProtocolList, Metatype, InOut, BoundGeneric, Function, Variable, Accessor, Initializer, Deinitializer, VariableInitializer, Static, Record, Conformance, ProtocolWitness, ValueWitness, EmptyList, FirstElementMarker, VariadicMarker, Throws, Async, LazyWitness, AssociatedConformance, kind, size, count, name_of, inner_of, member_of}
use Rattle.definition.specs.Operators as Op
use Rattle.definition.specs.Budget as B
use Rattle.definition.specs.Machine as M
use Rattle.definition.specs.Machine.{Machine, machine, spend, wrap, remember, recall, push, push_copies, rounds}

abbrev pub Demangler : Type 0
Demangler = Machine Node (List Name)

abbrev pub Run : Type 0 → Type 0
Run A = Step Demangler A

abbrev pub pop_if : (ℕ → Bool) → Run Node
pop_if = M.pop_if kind

abbrev pub pop : Run Node
pop = M.pop kind

abbrev pub try : (ℕ → Bool) → Run (Option Node)
try = M.try kind

abbrev pub took : ℕ → Run Bool
took = M.took kind

-- NODES THAT ARE MADE
-- lines 1703 to 1709
unfoldable pub standard_nominal : NominalKind → String → Node
standard_nominal k name = Nominal k (Module (bytes "Swift")) (bytes name)

unfoldable pub any_object : Node
any_object = standard_nominal Protocol "AnyObject"

unfoldable pub generic_param : Param → Node
generic_param p = GenericParam p.depth p.index

unfoldable pub leaf_node : Op.Leaf → Node
leaf_node (Op.module_named name) = Module (bytes name)
leaf_node (Op.standard_nominal k name) = standard_nominal k name
leaf_node (Op.generic_param p) = generic_param p
leaf_node Op.empty_list = EmptyList
leaf_node Op.first_element_marker = FirstElementMarker
leaf_node Op.variadic_marker = VariadicMarker
leaf_node Op.throws = Throws
leaf_node Op.async = Async

-- WHAT SEVERAL OPERATORS TAKE
-- the name of an identifier, as taken in lines 917 to 920
unfoldable pub name_in : Node → Run Name
name_in n = given (name_of n) (refuse 10) ret

unfoldable pub pop_name : Run Name
pop_name = pop >>= name_in

-- lines 931 to 939
unfoldable pub context_in : Node → Run Node
context_in n = given (name_of n) (if K.is_context (kind n) then ret n else refuse 10) (λ name. ret (Module name))

unfoldable pub context : Run Node
context = pop >>= context_in

-- lines 1137 to 1153
unfoldable pub protocol_in : Node → Run Node
protocol_in n =
    if K.is_protocol (kind n) then ret n else
    given (member_of n) (given (name_of n) (refuse 10) (λ name. context >>= λ c. ret (Nominal Protocol c name))) ret

unfoldable pub protocol : Run Node
protocol = pop >>= protocol_in

-- lines 1105 to 1113
unfoldable pub assoc_type_name : Run Name
assoc_type_name = try K.is_protocol >> pop_name

-- lines 1503 to 1513
unfoldable pub conformance : Run Node
conformance = do
  home ← context
  p ← protocol
  ty ← pop_if K.is_type
  ret (Conformance ty p home)

-- lines 1025 to 1034
unfoldable pub function_params : Run Node
function_params = do
  empty ← took K.empty_list
  if empty then ret (Tuple nil) else pop_if K.is_type

-- lines 1009 to 1023
unfoldable pub function_type : Run Node
function_type = do
  wrap
  throws ← took K.throws
  is_async ← took K.async
  params ← function_params
  result ← function_params
  ret (FunctionType params result throws is_async)

-- a signature, if there is one on top (lines 1332, 1346 and 1411)
unfoldable pub try_signature : Run (Option Node)
try_signature = try (eqb K.generic_signature)

-- a type under a signature that was taken (lines 1333 to 1340, 1348 to 1354 and 1413 to 1419)
unfoldable pub under_signature : Option Node → Node → Run Node
under_signature none ty = ret ty
under_signature (some signature) ty = wrap >> ret (GenericType signature ty)

-- LABELS (lines 1298 to 1328)
unfoldable pub label_in : Node → Run (Option Name)
label_in n = given (name_of n) (if eqb (kind n) K.first_element_marker then ret none else refuse 10) (λ name. ret (some name))

unfoldable pub labels_from : ℕ → List (Option Name) → Run (List (Option Name))
labels_from zero ls = ret ls
labels_from (suc n) ls = do
  top ← pop
  l ← label_in top
  labels_from n (l ∷ ls)

-- the number of labels that a type requires: the parameters of a function type, also under a
-- signature
unfoldable pub arity_of : Node → ℕ
arity_of ty = if eqb (kind ty) K.function_type then count ty else 0

unfoldable pub arity : Node → ℕ
arity ty = given (inner_of ty) (arity_of ty) arity_of

-- the empty list is tried first
unfoldable pub labels : Node → Run Labels
labels ty = do
  empty ← took K.empty_list
  if empty then ret (some []) else
      if eqb (arity ty) 0 then ret none else (labels_from (arity ty) [] >>= λ ls. ret (some ls))

-- LISTS. Each is taken from its last node on, and each node is put in front
unfoldable pub label_of : Option Node → Option Name
label_of label = given label none name_of

-- lines 987 to 1003
unfoldable pub elements : ℕ → Nodes → Run Nodes
elements zero es = refuse 10
elements (suc f) es = do
  first ← took K.first_element_marker
  _ ← took K.variadic_marker
  label ← try K.is_identifier
  ty ← pop_if K.is_type
  if first then ret (cons (label_of label) ty es) else elements f (cons (label_of label) ty es)

-- lines 1123 to 1131
unfoldable pub members : ℕ → Nodes → Run Nodes
members zero ps = refuse 10
members (suc f) ps = do
  first ← took K.first_element_marker
  p ← protocol
  if first then ret (cons none p ps) else members f (cons none p ps)

-- lines 1161 to 1175: types down to the empty list, skipping the markers between levels
unfoldable pub arguments : ℕ → Nodes → Run Nodes
arguments zero args = refuse 10
arguments (suc f) args = do
  ty ← try K.is_type
  given ty (do
    opened ← took K.empty_list
    if opened then ret args else (pop_if (eqb K.first_element_marker) >> arguments f args)) λ n. arguments f (cons none n args)

-- lines 1264 to 1273
unfoldable pub requirements : ℕ → Nodes → Run Nodes
requirements zero rs = ret rs
requirements (suc f) rs = do
  r ← try K.is_requirement
  given r (ret rs) λ n. requirements f (cons none n rs)

-- THE OPERATORS
-- lines 915 to 929
unfoldable pub nominal : NominalKind → Run Done
nominal k = do
  name ← pop_name
  c ← context
  remember (Nominal k c name)
  push (Nominal k c name)

-- lines 978 to 1007
unfoldable pub tuple : Run Done
tuple = do
  wrap
  empty ← took K.empty_list
  f ← rounds
  es ← if empty then ret nil else elements f nil
  push (Tuple es)

-- lines 1115 to 1135
unfoldable pub protocol_list : Run Done
protocol_list = do
  wrap
  empty ← took K.empty_list
  f ← rounds
  ps ← if empty then ret nil else members f nil
  push (ProtocolList ps)

-- lines 1155 to 1183
unfoldable pub bound_generic : Run Done
bound_generic = do
  wrap
  f ← rounds
  args ← arguments f nil
  base ← pop_if K.is_type
  remember (BoundGeneric base args)
  push (BoundGeneric base args)

-- `z` and `m` (lines 754 to 763), `XM` and `Xp` (lines 1044 to 1056)
unfoldable pub wrapped : (Node → Node) → Run Done
wrapped f = do
  wrap
  ty ← pop_if K.is_type
  push (f ty)

-- lines 1096 to 1103
unfoldable pub archetype : Param → Run Done
archetype p = do
  name ← assoc_type_name
  remember (DependentMember (generic_param p) name)
  push (DependentMember (generic_param p) name)

-- lines 1211 to 1225
unfoldable pub subject : Op.Subject → Run Node
subject (Op.of_param p) = ret (generic_param p)
subject Op.of_stack = pop_if K.is_type
subject (Op.of_member p) = assoc_type_name >>= λ name. ret (DependentMember (generic_param p) name)

-- lines 1226 to 1258
unfoldable pub requirement : Node → Op.Constraint → Run Done
requirement s Op.conforms = protocol >>= λ p. push (ConformanceRequirement s p)
requirement s Op.superclass = pop_if K.is_type >>= λ ty. push (ConformanceRequirement s ty)
requirement s Op.same_type = pop_if K.is_type >>= λ ty. push (SameTypeRequirement s ty)
requirement s (Op.layout letter) = judge letter >> push (ConformanceRequirement s any_object)

-- lines 1261 to 1296
unfoldable pub generic_signature : ℕ → Run Done
generic_signature params = do
  f ← rounds
  rs ← requirements f nil
  push (GenericSignature params rs)

-- lines 1344 to 1367
unfoldable pub plain_function : Run Done
plain_function = do
  signature ← try_signature
  fn_type ← function_type
  ty ← under_signature signature fn_type
  ls ← labels ty
  name ← pop_name
  c ← context
  push (Function c name ls ty)

unfoldable pub accessed : Node → Option String → Node
accessed v none = v
accessed v (some accessor) = Accessor (bytes accessor) v

-- lines 1369 to 1404
unfoldable pub variable : Late (Option String) → Run Done
variable letter = do
  t ← pop_if K.is_type
  signature ← try_signature
  ty ← under_signature signature t
  _ ← took K.empty_list
  name ← pop_name
  c ← context
  accessor ← judge letter
  push (accessed (Variable c name ty) accessor)

-- lines 1410 to 1428
unfoldable pub initializer : Bool → Run Done
initializer allocating = do
  signature ← try_signature
  t ← pop_if K.is_type
  ty ← under_signature signature t
  ls ← labels ty
  c ← context
  push (Initializer allocating c ls ty)

-- the subject of a record
unfoldable pub about : Op.About → Run Node
about Op.a_type = pop_if K.is_type
about Op.an_entity = pop_if K.is_entity
about Op.a_context = context
about Op.a_protocol = protocol
about Op.a_conformance = conformance
about Op.anything = pop

-- `Wl` and `WL` (lines 1531 to 1549)
unfoldable pub lazy_witness : Name → Run Done
lazy_witness what = do
  c ← conformance
  ty ← pop_if K.is_type
  push (LazyWitness what ty c)

-- `TW` (lines 1605 to 1612)
unfoldable pub protocol_witness : Run Done
protocol_witness = do
  entity ← pop_if K.is_entity
  c ← conformance
  push (ProtocolWitness entity c)

-- `Tl` (lines 1627 to 1642)
unfoldable pub associated_type : Run Done
associated_type = do
  p ← protocol
  name ← pop_name
  push (Record (bytes "associated type descriptor for ") (DependentMember p name))

-- `Tn` (lines 1643 to 1662)
unfoldable pub one_or_none : Option Node → Nodes
one_or_none none = nil
one_or_none (some n) = cons none n nil

unfoldable pub associated_conformance : Run Done
associated_conformance = do
  required ← protocol
  _ ← took K.first_element_marker
  qualifier ← try K.is_protocol
  name ← pop_name
  p ← pop_if K.is_type
  push (AssociatedConformance p (one_or_none qualifier) name required)

-- lines 959 to 962
unfoldable pub optional_of : Node → Node
optional_of ty = BoundGeneric (standard_nominal Enum "Optional") (cons none ty nil)

module _ (N : ℕ) where
  -- copies, each charged its size (lines 908 to 911 and 971 to 974)
  unfoldable pub copied : ℕ → Node → Run Done
  copied times n = spend (B.charge N (size n * times)) >> push_copies times n

  -- `Sg` (lines 956 to 965)
  unfoldable pub optional : ℕ → Run Done
  optional repeat = do
    wrap
    ty ← pop_if K.is_type
    remember (optional_of ty)
    copied repeat (optional_of ty)

  -- `A` (lines 878 to 913)
  unfoldable pub substitutions : List Op.Substitution → Late Done → Run Done
  substitutions [] letter = judge letter
  substitutions (c ∷ cs) letter = do
    n ← recall c.index
    copied c.times n
    substitutions cs letter

  unfoldable pub perform : Op.Operator → Run Done
  perform (Op.substitutions cs letter) = substitutions cs letter
  perform (Op.nominal k) = nominal k
  perform (Op.leaf l) = push (leaf_node l)
  perform (Op.standard repeat l) = copied repeat (leaf_node l)
  perform (Op.optional repeat) = optional repeat
  perform Op.tuple = tuple
  perform Op.function_type = function_type >>= push
  perform Op.protocol_list = protocol_list
  perform Op.bound_generic = bound_generic
  perform Op.in_out = wrapped InOut
  perform Op.metatype = wrapped Metatype
  perform (Op.archetype p) = archetype p
  perform (Op.requirement s c) = subject s >>= λ n. requirement n c
  perform (Op.generic_signature params) = generic_signature params
  perform Op.plain_function = plain_function
  perform (Op.variable letter) = variable letter
  perform (Op.initializer allocating) = initializer allocating
  perform (Op.deinitializer deallocating) = context >>= λ c. push (Deinitializer deallocating c)
  perform Op.variable_initializer = pop_if (eqb K.variable) >>= λ v. push (VariableInitializer v)
  perform Op.static = pop_if K.is_entity >>= λ e. push (Static e)
  perform (Op.record_of a what) = about a >>= λ n. push (Record what n)
  perform (Op.lazy_witness what) = lazy_witness what
  perform (Op.value_witness k) = pop_if K.is_type >>= λ ty. push (ValueWitness k ty)
  perform Op.protocol_witness = protocol_witness
  perform Op.associated_type = associated_type
  perform Op.associated_conformance = associated_conformance

-- FOR PROOFS ONLY: this name on an `unfolding` line opens every definition up to here
unfoldable pub opened : ℕ
unfolding opened₀ opened₁ opened₂ standard_nominal any_object generic_param leaf_node name_in pop_name context_in context protocol_in protocol assoc_type_name conformance function_params function_type try_signature under_signature label_in labels_from arity_of arity labels label_of elements members arguments requirements nominal tuple protocol_list bound_generic wrapped archetype subject requirement generic_signature plain_function accessed variable initializer about lazy_witness protocol_witness associated_type one_or_none associated_conformance optional_of copied optional substitutions perform
opened = 0
