-- Each operator, by its row of the table, has the same effect on the machine of the check as on the
-- machine of trees.
use Rattle.std.specs.Prelude.{if◌then◌else◌}
use mathlib.Core.Path.{◌≡◌, refl, ◌∙◌}
use mathlib.Core.Bool.{Bool, true, false}
use mathlib.Core.List.{List, [], ◌∷◌}
use mathlib.Core.Option.{Option, some, none}
use Prim.Native.Nat.{ℕ, ◌+◌, ◌*◌}
use Prim.Native.String.{String}
use native.Mathlib.Omega.{arith}
use lib.Dec.{eqb}
use Rattle.definition.specs.Base.{Name, bytes, given, Done, ret, ◌>>=◌, ◌>>◌, Late, good, bad, judge}
use Rattle.definition.specs.Text.{Param}
use Rattle.definition.specs.Kind as K
use Rattle.definition.specs.Kind.{Entry, entry}
use Rattle.definition.specs.Node as N
use Rattle.definition.specs.Node.{Labels, NominalKind, Node, Nodes, nil, cons, Identifier, Module, Nominal, GenericParam, DependentMember, Tuple, FunctionType, GenericType, GenericSignature, ConformanceRequirement, SameTypeRequirement, ProtocolList, Metatype, InOut, BoundGeneric, Function, Variable, Accessor, Initializer, Deinitializer, VariableInitializer, Static, Record, Conformance, ProtocolWitness, ValueWitness, EmptyList, FirstElementMarker, VariadicMarker, Throws, Async, LazyWitness, AssociatedConformance, nominal_kind, kind, size, sizes, count, many, view, param_count, entry_of}
use Rattle.definition.specs.Operators as Op
use Rattle.definition.specs.Budget as B
use Rattle.definition.specs.Machine as M
use Rattle.definition.specs.Machine.{spend, wrap, remember, recall, push, push_copies, rounds}
use Rattle.definition.specs.Perform as R
use Rattle.definition.specs.Perform.{Run}
use Rattle.definition.specs.Shape as C
use Rattle.definition.specs.Shape.{Check, Leaves, Taken, taken, plain, left, leave, run_row, row}
use Rattle.definition.proofs.Simulation.{Good, Sim, Any, itself, bind, assoc, ret_sim, refuse_sim, if_sim, judge_sim, spend_sim, wrap_sim, remember_sim, recall_sim, push_sim, push_copies_sim, rounds_sim, pop_if_sim, try_sim, took_sim, pop_name_sim, context_sim, params_by_entry, protocol_sim, side_sim, elements_sim, members_sim, arguments_sim, requirements_sim, labels_sim, under_signature_sim}

-- an operator of the trees, and a row
abbrev pub Alike : Run Done → Check Done → Type 0
Alike s e = Sim {A = Done} Any itself s e

nominal_good : (k : NominalKind) (c : Node) (x : Name) → Good (Nominal k c x)
unfolding kind view nominal_kind
nominal_good N.Class c x = (tt, tt)
nominal_good N.Struct c x = (tt, tt)
nominal_good N.Enum c x = (tt, tt)
nominal_good N.Protocol c x = (tt, tt)
nominal_good N.TypeAlias c x = (tt, tt)

-- `function_type`, `conformance`, `assoc_type_name` and `labels` continue with k; the check takes
-- their parts one by one and continues with l
module _ {A B : Type 0} {Q : A → Type 0} {g : A → B} where
  function_type_then : (k : Node → Run A) (l : Entry → Entry → Check B) → ((p r : Node) (th asy : Bool) → Sim Q g (k (FunctionType p r th asy)) (l (entry_of p) (entry_of r))) →
      Sim Q g (R.function_type >>= k) (wrap >> (C.took K.throws >>= λ _. C.took K.async >>= λ _. C.side >>= λ p. C.side >>= λ r. l p r))
  unfolding R.function_type
  function_type_then k l h =
      assoc wrap (λ _. marks) k (bind _ _ wrap_sim λ _ _. assoc (R.took K.throws) mark k (bind _ _ (took_sim K.throws) λ th _. assoc (R.took K.async) (sides th) k (bind _ _ (took_sim K.async) λ asy _.
      assoc R.function_params (last th asy) k (bind _ _ side_sim λ p _. assoc R.function_params (λ r. ret (FunctionType p r th asy)) k (bind _ _ side_sim λ r _. h p r th asy)))))
    where
      last : Bool → Bool → Node → Run Node
      last th asy p = R.function_params >>= λ r. ret (FunctionType p r th asy)

      sides : Bool → Bool → Run Node
      sides th asy = R.function_params >>= last th asy

      mark : Bool → Run Node
      mark th = R.took K.async >>= sides th

      marks : Run Node
      marks = R.took K.throws >>= mark

  conformance_then : (k : Node → Run A) (l : Entry → Entry → Entry → Check B) → ((t p m : Node) → Sim Q g (k (Conformance t p m)) (l (entry_of m) (entry_of p) (entry_of t))) →
      Sim Q g (R.conformance >>= k) (C.context >>= λ m. C.protocol >>= λ p. C.pop_if K.is_type >>= λ t. l m p t)
  unfolding R.conformance
  conformance_then k l h =
      assoc R.context rest k (bind _ _ context_sim λ m _. assoc R.protocol (last m) k (bind _ _ protocol_sim λ p _. assoc (R.pop_if K.is_type) (λ t. ret (Conformance t p m)) k (bind _ _ (pop_if_sim K.is_type) λ t _. h t p m)))
    where
      last : Node → Node → Run Node
      last m p = R.pop_if K.is_type >>= λ t. ret (Conformance t p m)

      rest : Node → Run Node
      rest m = R.protocol >>= last m

  assoc_type_name_then : (k : Name → Run A) (l : Check B) → ((name : Name) → Sim Q g (k name) l) → Sim Q g (R.assoc_type_name >>= k) (C.try K.is_protocol >>= λ _. C.pop_name >> l)
  unfolding R.assoc_type_name
  assoc_type_name_then k l h = assoc (R.try K.is_protocol) (λ _. R.pop_name) k (bind _ _ (try_sim K.is_protocol) λ _ _. bind _ _ pop_name_sim λ name _. h name)

  labels_then : (ty : Node) (n : ℕ) → R.arity ty ≡ n → (k : Labels → Run A) (l : Check B) → ((ls : Labels) → Sim Q g (k ls) l) →
      Sim Q g (R.labels ty >>= k) (C.took K.empty_list >>= λ empty. (if empty then ret tt else C.labels_from n) >> l)
  unfolding R.labels
  labels_then ty n e k l h = rw (← e) (assoc (R.took K.empty_list) _ k (bind _ _ (took_sim K.empty_list) λ empty _. bind _ _ (labels_sim (R.arity ty) empty) λ ls _. h ls))

module _ (N : ℕ) where
  copied_sim : (k : ℕ) (n : Node) → Good n → Alike (R.copied N k n) (C.copied N k (entry_of n))
  unfolding R.copied C.copied
  copied_sim k n g = bind _ _ (spend_sim (B.charge N (size n * k))) λ _ _. push_copies_sim k n g

  -- what the trees do at the end of an operator that leaves the node n
  abbrev leaving : Leaves → Node → Run Done
  leaving r n = (if r.remembered then remember n else ret tt) >> given r.copies (push n) (λ times. R.copied N times n)

  -- what a row leaves is the entry of n
  leave_entry : (r : Leaves) (a : Taken) (n : Node) → Good n → entry_of n ≡ left r a → Alike (leaving r n) (leave N r a)
  unfolding leave
  leave_entry r a n g e = rw (← e) (bind _ _ (if_sim r.remembered (λ _. remember_sim n g) (λ _. ret_sim tt tt)) λ _ _. go r.copies)
    where
      go : (o : Option ℕ) → Alike (given o (push n) (λ times. R.copied N times n)) (given o (push (entry_of n)) (λ times. C.copied N times (entry_of n)))
      go none = push_sim n g
      go (some times) = copied_sim times n g

  -- by kind, size and count
  leave_sim : (r : Leaves) (a : Taken) (n : Node) → Good n → kind n ≡ r.kind → size n ≡ r.own + a.size → count n ≡ (if r.counted then a.count else 0) → Alike (leaving r n) (leave N r a)
  leave_sim r a n g k s c = leave_entry r a n g (λ i. entry (k i) (s i) (c i))

  nominal_sim : (k : NominalKind) → Alike (R.nominal k) (run_row N (row (Op.nominal k)))
  unfolding R.nominal run_row row C.taking kind size count view
  nominal_sim k = bind _ _ pop_name_sim λ x _. bind _ _ context_sim λ c _. leave_sim _ _ (Nominal k c x) (nominal_good k c x) refl (omega arith) refl

  -- a leaf is valid, and its kind and size are those of the table
  on_leaf : (l : Op.Leaf) (P : Node → ℕ → ℕ → Type 0) → ((n : Node) → Good n → count n ≡ 0 → P n (kind n) (size n)) → P (R.leaf_node l) (C.leaf_kind l) (C.leaf_size l)
  unfolding R.leaf_node R.standard_nominal R.generic_param C.leaf_kind C.leaf_size kind size count view
  on_leaf (Op.module_named name) P h = h (Module (bytes name)) (tt, tt) refl
  on_leaf (Op.standard_nominal k name) P h = h (Nominal k (Module (bytes "Swift")) (bytes name)) (nominal_good k (Module (bytes "Swift")) (bytes name)) refl
  on_leaf (Op.generic_param p) P h = h (GenericParam p.depth p.index) (tt, tt) refl
  on_leaf Op.empty_list P h = h EmptyList (tt, tt) refl
  on_leaf Op.first_element_marker P h = h FirstElementMarker (tt, tt) refl
  on_leaf Op.variadic_marker P h = h VariadicMarker (tt, tt) refl
  on_leaf Op.throws P h = h Throws (tt, tt) refl
  on_leaf Op.async P h = h Async (tt, tt) refl

  -- pushed once, or that many times and charged
  leaf_sim : (l : Op.Leaf) (o : Option ℕ) →
      Alike (given o (push (R.leaf_node l)) (λ times. R.copied N times (R.leaf_node l))) (leave N (C.leaf_leaves l o) (taken 0 0 false))
  leaf_sim l o = on_leaf l
      (λ n k s. Alike (given o (push n) (λ times. R.copied N times n)) (leave N (record { kind = k; own = s; counted = false; remembered = false; copies = o }) (taken 0 0 false)))
      (λ n g c. leave_sim _ _ n g refl (omega arith) c)

  optional_sim : (k : ℕ) → Alike (R.optional N k) (run_row N (row (Op.optional k)))
  unfolding R.optional R.optional_of R.standard_nominal run_row row C.taking kind size count view
  optional_sim k = bind _ _ wrap_sim λ _ _. bind _ _ (pop_if_sim K.is_type) λ t _. leave_sim _ _ (R.optional_of t) (tt, tt) refl (omega arith) refl

  tuple_sim : Alike R.tuple (run_row N (row Op.tuple))
  unfolding R.tuple run_row row C.taking kind size count view many
  tuple_sim =
      bind _ _ wrap_sim λ _ _. bind _ _ (took_sim K.empty_list) λ empty _. bind _ _ rounds_sim λ f _.
      bind _ _ (if_sim empty (λ _. ret_sim nil tt) (λ _. elements_sim f nil)) λ es _. leave_sim _ _ (Tuple es) (tt, tt) refl refl refl

  protocol_list_sim : Alike R.protocol_list (run_row N (row Op.protocol_list))
  unfolding R.protocol_list run_row row C.taking kind size count view many
  protocol_list_sim =
      bind _ _ wrap_sim λ _ _. bind _ _ (took_sim K.empty_list) λ empty _. bind _ _ rounds_sim λ f _.
      bind _ _ (if_sim empty (λ _. ret_sim nil tt) (λ _. members_sim f nil tt)) λ ps g. leave_sim _ _ (ProtocolList ps) (tt, g) refl refl refl

  bound_generic_sim : Alike R.bound_generic (run_row N (row Op.bound_generic))
  unfolding R.bound_generic run_row row C.taking kind size count view many
  bound_generic_sim =
      bind _ _ wrap_sim λ _ _. bind _ _ rounds_sim λ f _. bind _ _ (arguments_sim f nil) λ es _. bind _ _ (pop_if_sim K.is_type) λ b _.
      leave_sim _ _ (BoundGeneric b es) (tt, tt) refl refl refl

  function_type_sim : Alike (R.function_type >>= push) (run_row N (row Op.function_type))
  unfolding run_row row C.taking C.add_params kind size count view
  function_type_sim = function_type_then push _ λ p r th asy. leave_sim _ _ (FunctionType p r th asy) (tt, tt) refl (omega arith) (params_by_entry p)

  in_out_sim : Alike (R.wrapped InOut) (run_row N (row Op.in_out))
  unfolding R.wrapped run_row row C.taking kind size count view
  in_out_sim = bind _ _ wrap_sim λ _ _. bind _ _ (pop_if_sim K.is_type) λ t _. leave_sim _ _ (InOut t) (tt, tt) refl (omega arith) refl

  metatype_sim : Alike (R.wrapped Metatype) (run_row N (row Op.metatype))
  unfolding R.wrapped run_row row C.taking kind size count view
  metatype_sim = bind _ _ wrap_sim λ _ _. bind _ _ (pop_if_sim K.is_type) λ t _. leave_sim _ _ (Metatype t) (tt, tt) refl (omega arith) refl

  archetype_sim : (p : Param) → Alike (R.archetype p) (run_row N (row (Op.archetype p)))
  unfolding R.archetype R.generic_param run_row row C.taking kind size count view
  archetype_sim p = assoc_type_name_then _ _ λ name. leave_sim _ _ (DependentMember (GenericParam p.depth p.index) name) (tt, tt) refl refl refl

  -- a requirement on s: o nodes are the requirement's own and z were taken
  requirement_sim : (c : Op.Constraint) (s : Node) (o z : ℕ) → size s ≡ o + z → Alike (R.requirement s c) (C.taking (C.constraint_takes c) (taken z 0 false) (leave N (C.constraint_leaves c o)))
  unfolding R.requirement R.any_object R.standard_nominal C.taking C.constraint_takes C.constraint_leaves C.letter kind size count view
  requirement_sim Op.conforms s o z e = bind _ _ protocol_sim λ p _. leave_sim _ _ (ConformanceRequirement s p) (tt, tt) refl (omega arith) refl
  requirement_sim Op.superclass s o z e = bind _ _ (pop_if_sim K.is_type) λ t _. leave_sim _ _ (ConformanceRequirement s t) (tt, tt) refl (omega arith) refl
  requirement_sim Op.same_type s o z e = bind _ _ (pop_if_sim K.is_type) λ t _. leave_sim _ _ (SameTypeRequirement s t) (tt, tt) refl (omega arith) refl
  requirement_sim (Op.layout (good _)) s o z e = leave_sim _ _ (ConformanceRequirement s R.any_object) (tt, tt) refl (omega arith) refl
  requirement_sim (Op.layout (bad r)) s o z e = refuse_sim r

  subject_sim : (s : Op.Subject) (c : Op.Constraint) → Alike (R.subject s >>= λ n. R.requirement n c) (run_row N (row (Op.requirement s c)))
  unfolding R.subject R.generic_param run_row row C.taking C.subject_takes C.subject_own size
  subject_sim (Op.of_param p) c = requirement_sim c (GenericParam p.depth p.index) 1 0 refl
  subject_sim Op.of_stack c = bind _ _ (pop_if_sim K.is_type) λ t _. requirement_sim c t 0 (size t + 0) (omega arith)
  subject_sim (Op.of_member p) c =
      assoc R.assoc_type_name _ _ (assoc_type_name_then _ _ λ name. requirement_sim c (DependentMember (GenericParam p.depth p.index) name) 2 0 refl)

  generic_signature_sim : (n : ℕ) → Alike (R.generic_signature n) (run_row N (row (Op.generic_signature n)))
  unfolding R.generic_signature run_row row C.taking kind size count view many
  generic_signature_sim n = bind _ _ rounds_sim λ f _. bind _ _ (requirements_sim f nil) λ es _. leave_sim _ _ (GenericSignature n es) (tt, tt) refl refl refl

  plain_function_sim : Alike R.plain_function (run_row N (row Op.plain_function))
  unfolding R.plain_function R.try_signature R.arity_of run_row row C.taking C.add_params kind size count view
  plain_function_sim =
      bind _ _ (try_sim (eqb K.generic_signature)) λ o g. function_type_then _ _ λ p r th asy.
      bind _ _ (under_signature_sim o (FunctionType p r th asy) 0 (tt, tt)) λ ty u. labels_then ty _ (u.arity_is ∙ params_by_entry p) _ _ λ ls.
      bind _ _ pop_name_sim λ name _. bind _ _ context_sim λ c _. leave_sim _ _ (Function c name _ ty) (tt, tt) refl (omega (arith, u.size_is)) refl

  initializer_sim : (allocating : Bool) → Alike (R.initializer allocating) (run_row N (row (Op.initializer allocating)))
  unfolding R.initializer R.try_signature R.arity_of run_row row C.taking C.add_labelled kind size count view
  initializer_sim allocating =
      bind _ _ (try_sim (eqb K.generic_signature)) λ o g. bind _ _ (pop_if_sim K.is_type) λ t h.
      bind _ _ (under_signature_sim o t 0 h) λ ty u. labels_then ty _ u.arity_is _ _ λ ls.
      bind _ _ context_sim λ c _. leave_sim _ _ (Initializer allocating c ls ty) (tt, tt) refl (omega (arith, u.size_is)) refl

  -- the variable, or what its letter makes of it
  accessed_sim : (l : Late (Option String)) (v : Node) (a : Taken) → kind v ≡ K.variable → Good v → count v ≡ 0 → size v ≡ 1 + a.size →
      Alike (judge l >>= λ accessor. push (R.accessed v accessor)) (C.taking (C.letter l) a (leave N (C.variable_leaves l)))
  unfolding R.accessed C.letter C.variable_leaves C.taking kind size count view
  accessed_sim (good none) v a k g c e = leave_sim _ _ v g k e c
  accessed_sim (good (some accessor)) v a k g c e = leave_sim _ _ (Accessor (bytes accessor) v) (tt, tt) refl (omega (arith, e)) refl
  accessed_sim (bad r) v a k g c e = refuse_sim r

  variable_sim : (l : Late (Option String)) → Alike (R.variable l) (run_row N (row (Op.variable l)))
  unfolding R.variable R.try_signature run_row row C.taking kind size count view
  variable_sim l =
      bind _ _ (pop_if_sim K.is_type) λ t h. bind _ _ (try_sim (eqb K.generic_signature)) λ o g.
      bind _ _ (under_signature_sim o t (size t + 0) h) λ ty u. bind _ _ (took_sim K.empty_list) λ _ _.
      bind _ _ pop_name_sim λ name _. bind _ _ context_sim λ c _. accessed_sim l (Variable c name ty) _ refl (tt, tt) refl (omega (arith, u.size_is))

  about_sim : (a : Op.About) (what : Name) → Alike (R.about a >>= λ n. push (Record what n)) (run_row N (C.about_row a))
  unfolding M.pop R.about run_row C.about_row C.taking kind size count view
  about_sim Op.a_type what = bind _ _ (pop_if_sim K.is_type) λ n _. leave_sim _ _ (Record what n) (tt, tt) refl (omega arith) refl
  about_sim Op.an_entity what = bind _ _ (pop_if_sim K.is_entity) λ n _. leave_sim _ _ (Record what n) (tt, tt) refl (omega arith) refl
  about_sim Op.a_context what = bind _ _ context_sim λ n _. leave_sim _ _ (Record what n) (tt, tt) refl (omega arith) refl
  about_sim Op.a_protocol what = bind _ _ protocol_sim λ n _. leave_sim _ _ (Record what n) (tt, tt) refl (omega arith) refl
  about_sim Op.a_conformance what = conformance_then _ _ λ t p m. leave_sim _ _ (Record what (Conformance t p m)) (tt, tt) refl (omega arith) refl
  about_sim Op.anything what = bind _ _ (pop_if_sim (λ k. true)) λ n _. leave_sim _ _ (Record what n) (tt, tt) refl (omega arith) refl

  lazy_witness_sim : (what : Name) → Alike (R.lazy_witness what) (run_row N (row (Op.lazy_witness what)))
  unfolding R.lazy_witness run_row row C.taking kind size count view
  lazy_witness_sim what = conformance_then _ _ λ t p m. bind _ _ (pop_if_sim K.is_type) λ t₂ _. leave_sim _ _ (LazyWitness what t₂ (Conformance t p m)) (tt, tt) refl refl refl

  protocol_witness_sim : Alike R.protocol_witness (run_row N (row Op.protocol_witness))
  unfolding R.protocol_witness run_row row C.taking kind size count view
  protocol_witness_sim = bind _ _ (pop_if_sim K.is_entity) λ e _. conformance_then _ _ λ t p m. leave_sim _ _ (ProtocolWitness e (Conformance t p m)) (tt, tt) refl (omega arith) refl

  associated_type_sim : Alike R.associated_type (run_row N (row Op.associated_type))
  unfolding R.associated_type run_row row C.taking kind size count view
  associated_type_sim = bind _ _ protocol_sim λ p _. bind _ _ pop_name_sim λ name _. leave_sim _ _ (Record _ (DependentMember p name)) (tt, tt) refl (omega arith) refl

  associated_conformance_sim : Alike R.associated_conformance (run_row N (row Op.associated_conformance))
  unfolding R.associated_conformance run_row row C.taking kind size count view
  associated_conformance_sim =
      bind _ _ protocol_sim λ r _. bind _ _ (took_sim K.first_element_marker) λ _ _. bind _ _ (try_sim K.is_protocol) λ q _. bind _ _ pop_name_sim λ name _. bind _ _ (pop_if_sim K.is_type) λ p _.
      leave_sim _ _ (AssociatedConformance p (R.one_or_none q) name r) (tt, tt) refl refl refl

  substitutions_sim : (cs : List Op.Substitution) (l : Late Done) → Alike (R.substitutions N cs l) (C.recalled N cs l)
  unfolding R.substitutions C.recalled
  substitutions_sim [] l = judge_sim l
  substitutions_sim (c ∷ cs) l = bind _ _ (recall_sim c.index) λ n g. bind _ _ (copied_sim c.times n g) λ _ _. substitutions_sim cs l

  pub perform_sim : (op : Op.Operator) → Alike (R.perform N op) (run_row N (row op))
  unfolding R.perform run_row row C.taking kind size count view
  perform_sim (Op.substitutions cs l) = substitutions_sim cs l
  perform_sim (Op.nominal k) = nominal_sim k
  perform_sim (Op.leaf l) = leaf_sim l none
  perform_sim (Op.standard repeat l) = leaf_sim l (some repeat)
  perform_sim (Op.optional repeat) = optional_sim repeat
  perform_sim Op.tuple = tuple_sim
  perform_sim Op.function_type = function_type_sim
  perform_sim Op.protocol_list = protocol_list_sim
  perform_sim Op.bound_generic = bound_generic_sim
  perform_sim Op.in_out = in_out_sim
  perform_sim Op.metatype = metatype_sim
  perform_sim (Op.archetype p) = archetype_sim p
  perform_sim (Op.requirement s c) = subject_sim s c
  perform_sim (Op.generic_signature n) = generic_signature_sim n
  perform_sim Op.plain_function = plain_function_sim
  perform_sim (Op.variable l) = variable_sim l
  perform_sim (Op.initializer b) = initializer_sim b
  perform_sim (Op.deinitializer b) = bind _ _ context_sim λ c _. leave_sim _ _ (Deinitializer b c) (tt, tt) refl (omega arith) refl
  perform_sim Op.variable_initializer = bind _ _ (pop_if_sim (eqb K.variable)) λ v _. leave_sim _ _ (VariableInitializer v) (tt, tt) refl (omega arith) refl
  perform_sim Op.static = bind _ _ (pop_if_sim K.is_entity) λ e _. leave_sim _ _ (Static e) (tt, tt) refl (omega arith) refl
  perform_sim (Op.record_of a what) = about_sim a what
  perform_sim (Op.lazy_witness what) = lazy_witness_sim what
  perform_sim (Op.value_witness k) = bind _ _ (pop_if_sim K.is_type) λ t _. leave_sim _ _ (ValueWitness k t) (tt, tt) refl (omega arith) refl
  perform_sim Op.protocol_witness = protocol_witness_sim
  perform_sim Op.associated_type = associated_type_sim
  perform_sim Op.associated_conformance = associated_conformance_sim
