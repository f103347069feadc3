-- 01, "Shape entries": the rules of the check, a table of what each operator takes and leaves, and
-- the only interpreter, which runs its rows. The trees of the reading are not used here; of
-- specs/Node only the numbers of the five nominal kinds are used (`nominal_kind`).
use Rattle.std.specs.Prelude.{Bool, true, false, ◌&&◌, List, [], ◌∷◌, ◌++◌, ℕ, zero, suc, ◌+◌, ◌*◌, ◌-◌, eqb, if◌then◌else◌}
use Rattle.std.proofs.Math.Option.{Option, some, none}
use Prim.Native.String.{String}
use Rattle.definition.specs.Operators.{opened as opened₀}
use Rattle.definition.specs.Machine.{opened as opened₁}
use Rattle.definition.specs.Base.{given, Step, Done, ret, refuse, ◌>>=◌, ◌>>◌, Late, good, bad, judge}
use Rattle.definition.specs.Kind as K
use Rattle.definition.specs.Kind.{Entry, entry}
use Rattle.definition.specs.Node.{nominal_kind}
use Rattle.definition.specs.Operators as Op
use Rattle.definition.specs.Budget as B
use Rattle.definition.specs.Machine as M
use Rattle.definition.specs.Machine.{Machine, spend, wrap, remember, recall, push, push_copies, rounds}

-- THE TABLE
-- What an operator can take. Unless stated otherwise, the size of what is taken counts in the size
-- of what is left
pub data Take : Type 0 where
  -- a wrap is counted
  wraps : Take
  -- a node of such a kind
  a_node : (ℕ → Bool) → Take
  -- an identifier, whose name becomes part of the node that is left: it has no size there
  a_name : Take
  -- a context; an identifier represents a module
  a_context : Take
  -- a protocol; a list of one represents its member, an identifier and a context represent the
  -- protocol that they name
  a_protocol : Take
  -- a marker, or a protocol that says where a name comes from, if it is on top; no size
  marker : ℕ → Take
  qualifier : Take
  -- one side of a function type, whose parameters are counted; the empty list represents the empty
  -- tuple
  params result : Take
  -- a type; the parameters of a function type are counted
  a_labelled_type : Take
  -- as many labels as parameters were counted, or the empty list; no size
  labels : Take
  -- a generic signature if it is on top, which puts the type into one more node; and the wrap of
  -- that node
  a-signature under_signature : Take
  -- lists
  elements members arguments requirements : Take
  -- a letter that breaks a rule is refused only now
  refuses : ℕ → Take
  -- the text of what was taken is printed ahead: its size no longer counts
  printed_ahead : Take

-- What an operator leaves: a node of a kind, with that many nodes of its own; whether it has the
-- count of what was taken, whether it is remembered, and how many copies of it are charged and
-- pushed (none: it is pushed once and not charged)
pub record Leaves : Type 0 where
  pub kind : ℕ
  pub own : ℕ
  pub counted : Bool
  pub remembered : Bool
  pub copies : Option ℕ

abbrev pub plain : ℕ → ℕ → Leaves
plain k n = record { kind = k; own = n; counted = false; remembered = false; copies = none }

abbrev pub counted : ℕ → ℕ → Leaves
counted k n = record { kind = k; own = n; counted = true; remembered = false; copies = none }

abbrev pub remembered : ℕ → ℕ → Leaves
remembered k n = record { kind = k; own = n; counted = false; remembered = true; copies = none }

-- a row of the table
pub data Row : Type 0 where
  -- copies of remembered entries, then the letter that ended them
  recalls : List Op.Substitution → Late Done → Row
  rule : List Take → Leaves → Row

abbrev pub a_type : Take
a_type = a_node K.is_type

abbrev pub an_entity : Take
an_entity = a_node K.is_entity

abbrev pub a_function_type : List Take
a_function_type = wraps ∷ marker K.throws ∷ marker K.async ∷ params ∷ result ∷ []

abbrev pub a_conformance : List Take
a_conformance = a_context ∷ a_protocol ∷ a_type ∷ []

unfoldable pub leaf_kind : Op.Leaf → ℕ
leaf_kind (Op.module_named name) = K.module_kind
leaf_kind (Op.standard_nominal k name) = nominal_kind k
leaf_kind (Op.generic_param p) = K.generic_param
leaf_kind Op.empty_list = K.empty_list
leaf_kind Op.first_element_marker = K.first_element_marker
leaf_kind Op.variadic_marker = K.variadic_marker
leaf_kind Op.throws = K.throws
leaf_kind Op.async = K.async

-- a standard type is under its module
unfoldable pub leaf_size : Op.Leaf → ℕ
leaf_size (Op.module_named name) = 1
leaf_size (Op.standard_nominal k name) = 2
leaf_size (Op.generic_param p) = 1
leaf_size Op.empty_list = 1
leaf_size Op.first_element_marker = 1
leaf_size Op.variadic_marker = 1
leaf_size Op.throws = 1
leaf_size Op.async = 1

-- what a requirement takes as its subject, and the nodes that it makes for it
unfoldable pub subject_takes : Op.Subject → List Take
subject_takes (Op.of_param p) = []
subject_takes Op.of_stack = a_type ∷ []
subject_takes (Op.of_member p) = qualifier ∷ a_name ∷ []

unfoldable pub subject_own : Op.Subject → ℕ
subject_own (Op.of_param p) = 1
subject_own Op.of_stack = 0
subject_own (Op.of_member p) = 2

unfoldable pub letter : {A : Type 0} → Late A → List Take
letter (good a) = []
letter (bad r) = refuses r ∷ []

unfoldable pub constraint_takes : Op.Constraint → List Take
constraint_takes Op.conforms = a_protocol ∷ []
constraint_takes Op.superclass = a_type ∷ []
constraint_takes Op.same_type = a_type ∷ []
constraint_takes (Op.layout l) = letter l

-- the requirement itself; that of a layout is under the protocol AnyObject
unfoldable pub constraint_leaves : Op.Constraint → (subject : ℕ) → Leaves
constraint_leaves Op.conforms n = plain K.conformance_requirement (1 + n)
constraint_leaves Op.superclass n = plain K.conformance_requirement (1 + n)
constraint_leaves Op.same_type n = plain K.same_type_requirement (1 + n)
constraint_leaves (Op.layout l) n = plain K.conformance_requirement (3 + n)

-- the variable itself, or an accessor of it
unfoldable pub variable_leaves : Late (Option String) → Leaves
variable_leaves (good none) = plain K.variable 1
variable_leaves (good (some accessor)) = plain K.accessor 2
variable_leaves (bad r) = plain K.variable 1

-- a conformance is one more node
unfoldable pub about_row : Op.About → Row
about_row Op.a_type = rule (a_type ∷ []) (plain K.record_kind 1)
about_row Op.an_entity = rule (an_entity ∷ []) (plain K.record_kind 1)
about_row Op.a_context = rule (a_context ∷ []) (plain K.record_kind 1)
about_row Op.a_protocol = rule (a_protocol ∷ []) (plain K.record_kind 1)
about_row Op.a_conformance = rule a_conformance (plain K.record_kind 2)
about_row Op.anything = rule (a_node (λ k. true) ∷ []) (plain K.record_kind 1)

-- a leaf, pushed once or that many times
abbrev pub leaf_leaves : Op.Leaf → Option ℕ → Leaves
leaf_leaves l times = record { kind = leaf_kind l; own = leaf_size l; counted = false; remembered = false; copies = times }

-- the type under Optional, remembered, and that many copies of it
abbrev pub optional_leaves : ℕ → Leaves
optional_leaves times = record { kind = K.bound_generic; own = 3; counted = false; remembered = true; copies = some times }

unfoldable pub row : Op.Operator → Row
row (Op.substitutions cs l) = recalls cs l
row (Op.nominal k) = rule (a_name ∷ a_context ∷ []) (remembered (nominal_kind k) 1)
row (Op.leaf l) = rule [] (leaf_leaves l none)
row (Op.standard repeat l) = rule [] (leaf_leaves l (some repeat))
row (Op.optional repeat) = rule (wraps ∷ a_type ∷ []) (optional_leaves repeat)
row Op.tuple = rule (wraps ∷ elements ∷ []) (counted K.tuple 1)
row Op.function_type = rule a_function_type (counted K.function_type 1)
row Op.protocol_list = rule (wraps ∷ members ∷ []) (counted K.protocol_list 1)
row Op.bound_generic = rule (wraps ∷ arguments ∷ a_type ∷ []) (remembered K.bound_generic 1)
row Op.in_out = rule (wraps ∷ a_type ∷ []) (plain K.in_out 1)
row Op.metatype = rule (wraps ∷ a_type ∷ []) (plain K.metatype 1)
row (Op.archetype p) = rule (qualifier ∷ a_name ∷ []) (remembered K.dependent_member 2)
row (Op.requirement s c) = rule (subject_takes s ++ constraint_takes c) (constraint_leaves c (subject_own s))
row (Op.generic_signature n) = rule (requirements ∷ []) (plain K.generic_signature 1)
row Op.plain_function = rule ((a-signature ∷ a_function_type) ++ (under_signature ∷ labels ∷ a_name ∷ a_context ∷ [])) (plain K.function 2)
row (Op.variable l) = rule ((a_type ∷ a-signature ∷ under_signature ∷ marker K.empty_list ∷ a_name ∷ a_context ∷ []) ++ letter l) (variable_leaves l)
row (Op.initializer b) = rule (a-signature ∷ a_labelled_type ∷ under_signature ∷ labels ∷ a_context ∷ []) (plain K.initializer 1)
row (Op.deinitializer b) = rule (a_context ∷ []) (plain K.deinitializer 1)
row Op.variable_initializer = rule (a_node (eqb K.variable) ∷ []) (plain K.variable_initializer 1)
row Op.static = rule (an_entity ∷ []) (plain K.static 1)
row (Op.record_of a what) = about_row a
row (Op.lazy_witness what) = rule (a_conformance ++ (a_type ∷ printed_ahead ∷ [])) (plain K.record_kind 2)
row (Op.value_witness k) = rule (a_type ∷ []) (plain K.value_witness 1)
row Op.protocol_witness = rule (an_entity ∷ a_conformance) (plain K.protocol_witness 2)
row Op.associated_type = rule (a_protocol ∷ a_name ∷ []) (plain K.record_kind 2)
row Op.associated_conformance = rule (a_protocol ∷ marker K.first_element_marker ∷ qualifier ∷ a_name ∷ a_type ∷ printed_ahead ∷ []) (plain K.record_kind 2)

-- THE INTERPRETER
-- the word table becomes a count
abbrev pub Shapes : Type 0
Shapes = Machine Entry ℕ

abbrev pub Check : Type 0 → Type 0
Check A = Step Shapes A

abbrev pub kind_of : Entry → ℕ
kind_of e = e.kind

abbrev pub pop_if : (ℕ → Bool) → Check Entry
pop_if = M.pop_if kind_of

abbrev pub try : (ℕ → Bool) → Check (Option Entry)
try = M.try kind_of

abbrev pub took : ℕ → Check Bool
took = M.took kind_of

-- what was taken so far: the sum of the sizes, what was counted, whether there was a signature
pub record Taken : Type 0 where
  pub size : ℕ
  pub count : ℕ
  pub signed : Bool

abbrev pub taken : ℕ → ℕ → Bool → Taken
taken s c g = record { size = s; count = c; signed = g }

-- one more entry; also in a list, where it is counted
abbrev pub add : Entry → Taken → Taken
add e a = taken (e.size + a.size) a.count a.signed

abbrev pub add_counted : Entry → Taken → Taken
add_counted e a = taken (e.size + a.size) (suc a.count) a.signed

-- the parameters of a side: those of a tuple, otherwise 1
unfoldable pub add_params : Entry → Taken → Taken
add_params e a = taken (e.size + a.size) (if eqb e.kind K.tuple then e.count else 1) a.signed

-- the parameters of a type: those of a function type, otherwise 0
unfoldable pub add_labelled : Entry → Taken → Taken
add_labelled e a = taken (e.size + a.size) (if eqb e.kind K.function_type then e.count else 0) a.signed

unfoldable pub add_signature : Option Entry → Taken → Taken
add_signature none a = a
add_signature (some e) a = taken (1 + (e.size + a.size)) a.count true

unfoldable pub name_in : Entry → Check Done
name_in e = if K.is_identifier e.kind then ret tt else refuse 10

unfoldable pub pop_name : Check Done
pop_name = M.pop kind_of >>= name_in

unfoldable pub context_in : Entry → Check Entry
context_in e = if K.is_identifier e.kind then ret (entry K.module_kind 1 0) else if K.is_context e.kind then ret e else refuse 10

unfoldable pub context : Check Entry
context = M.pop kind_of >>= context_in

unfoldable pub protocol_in : Entry → Check Entry
protocol_in e =
    if K.is_protocol e.kind then ret e else
    if eqb e.kind K.protocol_list && eqb e.count 1 then ret (entry K.protocol (e.size - 1) 0) else
    if K.is_identifier e.kind then (context >>= λ c. ret (entry K.protocol (1 + c.size) 0)) else refuse 10

unfoldable pub protocol : Check Entry
protocol = M.pop kind_of >>= protocol_in

unfoldable pub side : Check Entry
side = do
  empty ← took K.empty_list
  if empty then ret (entry K.tuple 1 0) else pop_if K.is_type

-- lists: the bound f is `rounds`, and is never reached (proofs/Bounds)
unfoldable pub elements_from : ℕ → Taken → Check Taken
elements_from zero a = refuse 10
elements_from (suc f) a = do
  first ← took K.first_element_marker
  _ ← took K.variadic_marker
  _ ← try K.is_identifier
  e ← pop_if K.is_type
  if first then ret (add_counted e a) else elements_from f (add_counted e a)

unfoldable pub members_from : ℕ → Taken → Check Taken
members_from zero a = refuse 10
members_from (suc f) a = do
  first ← took K.first_element_marker
  e ← protocol
  if first then ret (add_counted e a) else members_from f (add_counted e a)

unfoldable pub arguments_from : ℕ → Taken → Check Taken
arguments_from zero a = refuse 10
arguments_from (suc f) a = do
  ty ← try K.is_type
  given ty (do
    opened ← took K.empty_list
    if opened then ret a else (pop_if (eqb K.first_element_marker) >> arguments_from f a)) λ e. arguments_from f (add_counted e a)

unfoldable pub requirements_from : ℕ → Taken → Check Taken
requirements_from zero a = ret a
requirements_from (suc f) a = do
  r ← try K.is_requirement
  given r (ret a) λ e. requirements_from f (add_counted e a)

unfoldable pub label_in : Entry → Check Done
label_in e = if K.is_identifier e.kind then ret tt else if eqb e.kind K.first_element_marker then ret tt else refuse 10

unfoldable pub labels_from : ℕ → Check Done
labels_from zero = ret tt
labels_from (suc n) = do
  top ← M.pop kind_of
  label_in top
  labels_from n

-- the takes of a row in order, then what is left
unfoldable pub taking : List Take → Taken → (Taken → Check Done) → Check Done
taking [] a leave = leave a
taking (wraps ∷ ts) a leave = do
  wrap
  taking ts a leave
taking (a_node want ∷ ts) a leave = do
  e ← pop_if want
  taking ts (add e a) leave
taking (a_name ∷ ts) a leave = do
  pop_name
  taking ts a leave
taking (a_context ∷ ts) a leave = do
  e ← context
  taking ts (add e a) leave
taking (a_protocol ∷ ts) a leave = do
  e ← protocol
  taking ts (add e a) leave
taking (marker k ∷ ts) a leave = do
  _ ← took k
  taking ts a leave
taking (qualifier ∷ ts) a leave = do
  _ ← try K.is_protocol
  taking ts a leave
taking (params ∷ ts) a leave = do
  e ← side
  taking ts (add_params e a) leave
taking (result ∷ ts) a leave = do
  e ← side
  taking ts (add e a) leave
taking (a_labelled_type ∷ ts) a leave = do
  e ← pop_if K.is_type
  taking ts (add_labelled e a) leave
taking (labels ∷ ts) a leave = do
  empty ← took K.empty_list
  if empty then ret tt else labels_from a.count
  taking ts a leave
taking (a-signature ∷ ts) a leave = do
  s ← try (eqb K.generic_signature)
  taking ts (add_signature s a) leave
taking (under_signature ∷ ts) a leave = do
  if a.signed then wrap else ret tt
  taking ts a leave
taking (elements ∷ ts) a leave = do
  empty ← took K.empty_list
  f ← rounds
  es ← if empty then ret a else elements_from f a
  taking ts es leave
taking (members ∷ ts) a leave = do
  empty ← took K.empty_list
  f ← rounds
  ps ← if empty then ret a else members_from f a
  taking ts ps leave
taking (arguments ∷ ts) a leave = do
  f ← rounds
  args ← arguments_from f a
  taking ts args leave
taking (requirements ∷ ts) a leave = do
  f ← rounds
  rs ← requirements_from f a
  taking ts rs leave
taking (refuses r ∷ ts) a leave = refuse r
taking (printed_ahead ∷ ts) a leave = taking ts (taken 0 a.count a.signed) leave

-- the entry that is left
abbrev pub left : Leaves → Taken → Entry
left l a = entry l.kind (l.own + a.size) (if l.counted then a.count else 0)

module _ (N : ℕ) where
  -- copies, each charged its size
  unfoldable pub copied : ℕ → Entry → Check Done
  copied times e = spend (B.charge N (e.size * times)) >> push_copies times e

  unfoldable pub leave : Leaves → Taken → Check Done
  leave l a = (if l.remembered then remember (left l a) else ret tt) >> given l.copies (push (left l a)) (λ times. copied times (left l a))

  unfoldable pub recalled : List Op.Substitution → Late Done → Check Done
  recalled [] l = judge l
  recalled (c ∷ cs) l = do
    e ← recall c.index
    copied c.times e
    recalled cs l

  unfoldable pub run_row : Row → Check Done
  run_row (recalls cs l) = recalled cs l
  run_row (rule ts l) = taking ts (taken 0 0 false) (leave l)

-- FOR PROOFS ONLY: this name on an `unfolding` line opens every definition up to here
unfoldable pub opened : ℕ
unfolding opened₀ opened₁ leaf_kind leaf_size subject_takes subject_own letter constraint_takes constraint_leaves variable_leaves about_row row add_params add_labelled add_signature name_in pop_name context_in context protocol_in protocol side elements_from members_from arguments_from requirements_from label_in labels_from taking copied leave recalled run_row
opened = 0
