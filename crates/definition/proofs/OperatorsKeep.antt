-- No operator changes the steps, and only an identifier changes the words: one line for each
-- function of specs/Perform.antt.
use Rattle.std.specs.Prelude.{if◌then◌else◌}
use mathlib.Core.Path.{◌≡◌, refl, ◌∙◌, subst}
use mathlib.Core.Bool.{Bool, true, false}
use mathlib.Core.List.{List, [], ◌∷◌}
use mathlib.Core.Option.{Option, some, none}
use Prim.Native.Nat.{ℕ, zero, suc, ◌+◌}
use Prim.Native.String.{String}
use lib.Dec.{eqb, ltb, leb}
use lib.ListN.{get_elem?}
use Rattle.definition.specs.Base.{Name, given, is_some, Out, ok, refused, Step, Done, ret, refuse, and_then, ◌>>=◌, Late, good, bad, judge}
use Rattle.definition.specs.Text.{Text, Param}
use Rattle.definition.specs.Kind as K
use Rattle.definition.specs.Node.{NominalKind, Node, Nodes, InOut, Metatype, Module, kind, name_of, member_of}
use Rattle.definition.specs.Budget as B
use Rattle.definition.specs.Budget.{Budget}
use Rattle.definition.specs.Machine as M
use Rattle.definition.specs.Machine.{restack, spent, spend, wrap, remember, recall, push, push_copies, rounds}
use Rattle.definition.specs.Operators as Op
use Rattle.definition.specs.Perform as P
use Rattle.definition.specs.Perform.{Demangler, Run, pop_if, pop, try, took, perform}
use Rattle.definition.specs.Calls.{then_run}

-- STEPS
-- P holds for what a step gives, unless it is refused
abbrev pub Yields : {S A : Type 0} → (A → S → Type 0) → Out S A → Type 0
Yields P (ok a s) = P a s
Yields P (refused r) = Unit {0}

module _ {S A B : Type 0} {P : A → S → Type 0} (Q : B → S → Type 0) where
  pub yields_then : (o : Out S A) (k : A → Step S B) → Yields P o → ((a : A) (s : S) → P a s → Yields Q (k a s)) → Yields Q (and_then o k)
  yields_then (ok a s) k h f = f a s h
  yields_then (refused r) k h f = tt

-- what came before does not matter
pub yields_after : {S A B : Type 0} (Q : B → S → Type 0) (o : Out S A) (k : A → Step S B) → ((a : A) (s : S) → Yields Q (k a s)) → Yields Q (and_then o k)
yields_after Q (ok a s) k f = f a s
yields_after Q (refused r) k f = tt

pub yields_map : {S A : Type 0} {P : A → S → Type 0} (Q : A → S → Type 0) (o : Out S A) → ((a : A) (s : S) → P a s → Q a s) → Yields P o → Yields Q o
yields_map Q (ok a s) f h = f a s h
yields_map Q (refused r) f h = tt

-- OPERATORS
-- what no operator except an identifier changes: the words and the steps
pub record Kept (m n : Demangler) : Type 0 where
  pub words : n.words ≡ m.words
  pub steps : n.budget.steps ≡ m.budget.steps

kept_all : (m : Demangler) → Kept m m
kept_all m = record { words = refl; steps = refl }

kept_both : {l m n : Demangler} → Kept l m → Kept m n → Kept l n
kept_both a b = record { words = b.words ∙ a.words; steps = b.steps ∙ a.steps }

-- A step leaves them unchanged. Such steps are closed under `bind`, so each function of
-- specs/Perform.antt takes one line
pub record Keeps {A : Type 0} (s : Run A) : Type 0 where
  pub at : (m : Demangler) → Yields (λ a n. Kept m n) (s m)

bind : {A B : Type 0} {s : Run A} {k : A → Run B} → Keeps s → ((a : A) → Keeps (k a)) → Keeps (s >>= k)
bind {s = s} {k = k} h f = record { at = λ m. yields_then _ (s m) k (h.at m) (λ a n e. yields_map _ (k a n) (λ b o d. kept_both e d) ((f a).at n)) }

pub keeps_ret : {A : Type 0} (a : A) → Keeps (ret a)
keeps_ret a = record { at = λ m. record { words = refl; steps = refl } }

keeps_refuse : {A : Type 0} (r : ℕ) → Keeps {A = A} (refuse r)
keeps_refuse r = record { at = λ m. tt }

keeps_if : {A : Type 0} (b : Bool) {s s' : Run A} → Keeps s → Keeps s' → Keeps (if b then s else s')
keeps_if true h k = h
keeps_if false h k = k

keeps_given : {A B : Type 0} (o : Option A) {s : Run B} (f : A → Run B) → Keeps s → ((a : A) → Keeps (f a)) → Keeps (given o s f)
keeps_given none f h k = h
keeps_given (some a) f h k = k a

keeps_judge : {A : Type 0} (l : Late A) → Keeps (judge l)
keeps_judge (good a) = record { at = kept_all }
keeps_judge (bad r) = record { at = λ m. tt }

-- spending does not change the steps
keeps_spend : (s : Step Budget Done) → ((b : Budget) → Yields (λ a c. c.steps ≡ b.steps) (s b)) → Keeps (spend s)
unfolding spend
keeps_spend s h = record { at = λ m. go m (s m.budget) (h m.budget) }
  where
    go : (m : Demangler) (o : Out Budget Done) → Yields (λ a c. c.steps ≡ m.budget.steps) o → Yields (λ a n. Kept m n) (spent o m)
    go m (ok a b) e = record { words = refl; steps = e }
    go m (refused r) e = tt

same_steps : (t : Bool) (b c : Budget) (r : ℕ) → c.steps ≡ b.steps → Yields {A = Done} (λ a c. c.steps ≡ b.steps) (if t then ok tt c else refused r)
same_steps true b c r e = e
same_steps false b c r e = tt

keeps_wrap : Keeps wrap
unfolding wrap B.wrap
keeps_wrap = keeps_spend B.wrap λ b. same_steps (ltb b.wraps B.most_wraps) b _ 8 refl

keeps_charge : (N n : ℕ) → Keeps (spend (B.charge N n))
unfolding B.charge
keeps_charge N n = keeps_spend (B.charge N n) λ b. same_steps (leb (b.total + n) N) b _ 7 refl

keeps_remember : (n : Node) → Keeps (remember n)
unfolding remember
keeps_remember n = record { at = λ m. record { words = refl; steps = refl } }

keeps_push : (n : Node) → Keeps (push n)
unfolding push
keeps_push n = record { at = λ m. record { words = refl; steps = refl } }

keeps_push_copies : (k : ℕ) (n : Node) → Keeps (push_copies k n)
unfolding push_copies
keeps_push_copies k n = record { at = λ m. record { words = refl; steps = refl } }

keeps_rounds : Keeps rounds
unfolding rounds
keeps_rounds = record { at = λ m. record { words = refl; steps = refl } }

keeps_recall : (i : ℕ) → Keeps (recall i)
unfolding recall
keeps_recall i = record { at = λ m. go m (get_elem? m.substitutions i) }
  where
    go : (m : Demangler) (o : Option Node) → Yields (λ a n. Kept m n) (given o (refused 9) (λ n. ok n m))
    go m none = tt
    go m (some n) = kept_all m

keeps_pop_if : (want : ℕ → Bool) → Keeps (pop_if want)
unfolding M.pop_if M.pop_from
keeps_pop_if want = record { at = λ m. go m m.stack }
  where
    take : (m : Demangler) (b : Bool) (n : Node) (s : List Node) → Yields (λ a k. Kept m k) (if b then ok n (restack s m) else refused 10)
    take m true n s = record { words = refl; steps = refl }
    take m false n s = tt

    go : (m : Demangler) (s : List Node) → Yields (λ a k. Kept m k) (M.pop_from kind want s m)
    go m [] = tt
    go m (n ∷ s) = take m (want (kind n)) n s

keeps_pop : Keeps pop
unfolding M.pop
keeps_pop = keeps_pop_if (λ k. true)

keeps_try : (want : ℕ → Bool) → Keeps (try want)
unfolding M.try M.try_from
keeps_try want = record { at = λ m. go m m.stack }
  where
    take : (m : Demangler) (b : Bool) (n : Node) (s : List Node) → Yields (λ a k. Kept m k) (if b then ok (some n) (restack s m) else ok none m)
    take m true n s = record { words = refl; steps = refl }
    take m false n s = kept_all m

    go : (m : Demangler) (s : List Node) → Yields (λ a k. Kept m k) (M.try_from kind want s m)
    go m [] = kept_all m
    go m (n ∷ s) = take m (want (kind n)) n s

keeps_took : (k : ℕ) → Keeps (took k)
unfolding M.took
keeps_took k = bind (keeps_try (eqb k)) λ o. keeps_ret (is_some o)

keeps_name_in : (n : Node) → Keeps (P.name_in n)
unfolding P.name_in
keeps_name_in n = keeps_given (name_of n) _ (keeps_refuse 10) λ name. keeps_ret name

keeps_pop_name : Keeps P.pop_name
unfolding P.pop_name
keeps_pop_name = bind keeps_pop keeps_name_in

keeps_context_in : (n : Node) → Keeps (P.context_in n)
unfolding P.context_in
keeps_context_in n = keeps_given (name_of n) _ (keeps_if (K.is_context (kind n)) (keeps_ret n) (keeps_refuse 10)) λ name. keeps_ret (Module name)

keeps_context : Keeps P.context
unfolding P.context
keeps_context = bind keeps_pop keeps_context_in

keeps_protocol_in : (n : Node) → Keeps (P.protocol_in n)
unfolding P.protocol_in
keeps_protocol_in n = keeps_if (K.is_protocol (kind n)) (keeps_ret n) (keeps_given (member_of n) _ (keeps_given (name_of n) _ (keeps_refuse 10) λ name. bind keeps_context λ c. keeps_ret _) λ p. keeps_ret p)

keeps_protocol : Keeps P.protocol
unfolding P.protocol
keeps_protocol = bind keeps_pop keeps_protocol_in

keeps_assoc_type_name : Keeps P.assoc_type_name
unfolding P.assoc_type_name
keeps_assoc_type_name = bind (keeps_try _) λ _. keeps_pop_name

keeps_conformance : Keeps P.conformance
unfolding P.conformance
keeps_conformance = bind keeps_context λ home. bind keeps_protocol λ p. bind (keeps_pop_if _) λ ty. keeps_ret _

keeps_function_params : Keeps P.function_params
unfolding P.function_params
keeps_function_params = bind (keeps_took _) λ empty. keeps_if empty (keeps_ret _) (keeps_pop_if _)

keeps_function_type : Keeps P.function_type
unfolding P.function_type
keeps_function_type = bind keeps_wrap λ _. bind (keeps_took _) λ t. bind (keeps_took _) λ a. bind keeps_function_params λ p. bind keeps_function_params λ r. keeps_ret _

keeps_try_signature : Keeps P.try_signature
unfolding P.try_signature
keeps_try_signature = keeps_try _

keeps_under_signature : (o : Option Node) (ty : Node) → Keeps (P.under_signature o ty)
unfolding P.under_signature
keeps_under_signature none ty = keeps_ret _
keeps_under_signature (some s) ty = bind keeps_wrap λ _. keeps_ret _

keeps_label_in : (n : Node) → Keeps (P.label_in n)
unfolding P.label_in
keeps_label_in n = keeps_given (name_of n) _ (keeps_if (eqb (kind n) K.first_element_marker) (keeps_ret _) (keeps_refuse 10)) λ name. keeps_ret (some name)

keeps_labels_from : (n : ℕ) (ls : List (Option Name)) → Keeps (P.labels_from n ls)
unfolding P.labels_from
keeps_labels_from zero ls = keeps_ret _
keeps_labels_from (suc n) ls = bind keeps_pop λ top. bind (keeps_label_in top) λ l. keeps_labels_from n (l ∷ ls)

keeps_labels : (ty : Node) → Keeps (P.labels ty)
unfolding P.labels
keeps_labels ty = bind (keeps_took _) λ empty. keeps_if empty (keeps_ret _) (keeps_if (eqb (P.arity ty) 0) (keeps_ret _) (bind (keeps_labels_from _ _) λ ls. keeps_ret _))

keeps_elements : (f : ℕ) (es : Nodes) → Keeps (P.elements f es)
unfolding P.elements
keeps_elements zero es = keeps_refuse 10
keeps_elements (suc f) es = bind (keeps_took _) λ first. bind (keeps_took _) λ _. bind (keeps_try _) λ l. bind (keeps_pop_if _) λ ty. keeps_if first (keeps_ret _) (keeps_elements f _)

keeps_members : (f : ℕ) (ps : Nodes) → Keeps (P.members f ps)
unfolding P.members
keeps_members zero ps = keeps_refuse 10
keeps_members (suc f) ps = bind (keeps_took _) λ first. bind keeps_protocol λ p. keeps_if first (keeps_ret _) (keeps_members f _)

keeps_arguments : (f : ℕ) (args : Nodes) → Keeps (P.arguments f args)
unfolding P.arguments
keeps_arguments zero args = keeps_refuse 10
keeps_arguments (suc f) args = bind (keeps_try _) λ ty.
    keeps_given ty _ (bind (keeps_took _) λ opened. keeps_if opened (keeps_ret _) (bind (keeps_pop_if _) λ _. keeps_arguments f args)) λ n. keeps_arguments f _

keeps_requirements : (f : ℕ) (rs : Nodes) → Keeps (P.requirements f rs)
unfolding P.requirements
keeps_requirements zero rs = keeps_ret _
keeps_requirements (suc f) rs = bind (keeps_try _) λ r. keeps_given r _ (keeps_ret _) λ n. keeps_requirements f _

keeps_nominal : (k : NominalKind) → Keeps (P.nominal k)
unfolding P.nominal
keeps_nominal k = bind keeps_pop_name λ n. bind keeps_context λ c. bind (keeps_remember _) λ _. keeps_push _

keeps_tuple : Keeps P.tuple
unfolding P.tuple
keeps_tuple = bind keeps_wrap λ _. bind (keeps_took _) λ empty. bind keeps_rounds λ f. bind (keeps_if empty (keeps_ret _) (keeps_elements f _)) λ es. keeps_push _

keeps_protocol_list : Keeps P.protocol_list
unfolding P.protocol_list
keeps_protocol_list = bind keeps_wrap λ _. bind (keeps_took _) λ empty. bind keeps_rounds λ f. bind (keeps_if empty (keeps_ret _) (keeps_members f _)) λ ps. keeps_push _

keeps_bound_generic : Keeps P.bound_generic
unfolding P.bound_generic
keeps_bound_generic = bind keeps_wrap λ _. bind keeps_rounds λ f. bind (keeps_arguments f _) λ args. bind (keeps_pop_if _) λ base. bind (keeps_remember _) λ _. keeps_push _

keeps_wrapped : (f : Node → Node) → Keeps (P.wrapped f)
unfolding P.wrapped
keeps_wrapped f = bind keeps_wrap λ _. bind (keeps_pop_if _) λ ty. keeps_push _

keeps_archetype : (p : Param) → Keeps (P.archetype p)
unfolding P.archetype
keeps_archetype p = bind keeps_assoc_type_name λ n. bind (keeps_remember _) λ _. keeps_push _

keeps_subject : (s : Op.Subject) → Keeps (P.subject s)
unfolding P.subject
keeps_subject (Op.of_param p) = keeps_ret _
keeps_subject Op.of_stack = keeps_pop_if _
keeps_subject (Op.of_member p) = bind keeps_assoc_type_name λ n. keeps_ret _

keeps_requirement : (s : Node) (c : Op.Constraint) → Keeps (P.requirement s c)
unfolding P.requirement
keeps_requirement s Op.conforms = bind keeps_protocol λ p. keeps_push _
keeps_requirement s Op.superclass = bind (keeps_pop_if _) λ ty. keeps_push _
keeps_requirement s Op.same_type = bind (keeps_pop_if _) λ ty. keeps_push _
keeps_requirement s (Op.layout letter) = bind (keeps_judge letter) λ _. keeps_push _

keeps_generic_signature : (params : ℕ) → Keeps (P.generic_signature params)
unfolding P.generic_signature
keeps_generic_signature params = bind keeps_rounds λ f. bind (keeps_requirements f _) λ rs. keeps_push _

keeps_plain_function : Keeps P.plain_function
unfolding P.plain_function
keeps_plain_function = bind keeps_try_signature λ s. bind keeps_function_type λ t. bind (keeps_under_signature s t) λ ty. bind (keeps_labels ty) λ ls. bind keeps_pop_name λ n. bind keeps_context λ c. keeps_push _

keeps_variable : (l : Late (Option String)) → Keeps (P.variable l)
unfolding P.variable
keeps_variable l = bind (keeps_pop_if _) λ t. bind keeps_try_signature λ s. bind (keeps_under_signature s t) λ ty. bind (keeps_took _) λ _. bind keeps_pop_name λ n. bind keeps_context λ c. bind (keeps_judge l) λ a. keeps_push _

keeps_initializer : (b : Bool) → Keeps (P.initializer b)
unfolding P.initializer
keeps_initializer b = bind keeps_try_signature λ s. bind (keeps_pop_if _) λ t. bind (keeps_under_signature s t) λ ty. bind (keeps_labels ty) λ ls. bind keeps_context λ c. keeps_push _

keeps_about : (a : Op.About) → Keeps (P.about a)
unfolding P.about
keeps_about Op.a_type = keeps_pop_if _
keeps_about Op.an_entity = keeps_pop_if _
keeps_about Op.a_context = keeps_context
keeps_about Op.a_protocol = keeps_protocol
keeps_about Op.a_conformance = keeps_conformance
keeps_about Op.anything = keeps_pop

keeps_lazy_witness : (what : Name) → Keeps (P.lazy_witness what)
unfolding P.lazy_witness
keeps_lazy_witness what = bind keeps_conformance λ c. bind (keeps_pop_if _) λ ty. keeps_push _

keeps_protocol_witness : Keeps P.protocol_witness
unfolding P.protocol_witness
keeps_protocol_witness = bind (keeps_pop_if _) λ e. bind keeps_conformance λ c. keeps_push _

keeps_associated_type : Keeps P.associated_type
unfolding P.associated_type
keeps_associated_type = bind keeps_protocol λ p. bind keeps_pop_name λ n. keeps_push _

keeps_associated_conformance : Keeps P.associated_conformance
unfolding P.associated_conformance
keeps_associated_conformance = bind keeps_protocol λ r. bind (keeps_took _) λ _. bind (keeps_try _) λ q. bind keeps_pop_name λ n. bind (keeps_pop_if _) λ p. keeps_push _

module _ (N : ℕ) where
  keeps_copied : (times : ℕ) (n : Node) → Keeps (P.copied N times n)
  unfolding P.copied
  keeps_copied times n = bind (keeps_charge N _) λ _. keeps_push_copies times n

  keeps_optional : (repeat : ℕ) → Keeps (P.optional N repeat)
  unfolding P.optional
  keeps_optional repeat = bind keeps_wrap λ _. bind (keeps_pop_if _) λ ty. bind (keeps_remember _) λ _. keeps_copied repeat _

  keeps_substitutions : (cs : List Op.Substitution) (l : Late Done) → Keeps (P.substitutions N cs l)
  unfolding P.substitutions
  keeps_substitutions [] l = keeps_judge l
  keeps_substitutions (c ∷ cs) l = bind (keeps_recall _) λ n. bind (keeps_copied _ n) λ _. keeps_substitutions cs l

  pub keeps_perform : (op : Op.Operator) → Keeps (perform N op)
  unfolding perform
  keeps_perform (Op.substitutions cs l) = keeps_substitutions cs l
  keeps_perform (Op.nominal k) = keeps_nominal k
  keeps_perform (Op.leaf l) = keeps_push _
  keeps_perform (Op.standard repeat l) = keeps_copied repeat _
  keeps_perform (Op.optional repeat) = keeps_optional repeat
  keeps_perform Op.tuple = keeps_tuple
  keeps_perform Op.function_type = bind keeps_function_type keeps_push
  keeps_perform Op.protocol_list = keeps_protocol_list
  keeps_perform Op.bound_generic = keeps_bound_generic
  keeps_perform Op.in_out = keeps_wrapped InOut
  keeps_perform Op.metatype = keeps_wrapped Metatype
  keeps_perform (Op.archetype p) = keeps_archetype p
  keeps_perform (Op.requirement s c) = bind (keeps_subject s) λ n. keeps_requirement n c
  keeps_perform (Op.generic_signature params) = keeps_generic_signature params
  keeps_perform Op.plain_function = keeps_plain_function
  keeps_perform (Op.variable l) = keeps_variable l
  keeps_perform (Op.initializer b) = keeps_initializer b
  keeps_perform (Op.deinitializer b) = bind keeps_context λ c. keeps_push _
  keeps_perform Op.variable_initializer = bind (keeps_pop_if _) λ v. keeps_push _
  keeps_perform Op.static = bind (keeps_pop_if _) λ e. keeps_push _
  keeps_perform (Op.record_of a what) = bind (keeps_about a) λ n. keeps_push _
  keeps_perform (Op.lazy_witness what) = keeps_lazy_witness what
  keeps_perform (Op.value_witness k) = bind (keeps_pop_if _) λ ty. keeps_push _
  keeps_perform Op.protocol_witness = keeps_protocol_witness
  keeps_perform Op.associated_type = keeps_associated_type
  keeps_perform Op.associated_conformance = keeps_associated_conformance

  -- every operator except an identifier leaves the words and the steps unchanged, if it is not
  -- refused (lines 733 to 784)
  pub perform_keeps : (op : Op.Operator) (m n : Demangler) → perform N op m ≡ ok tt n → Kept m n
  perform_keeps op m n e = subst (Yields (λ a k. Kept m k)) e ((keeps_perform op).at m)

pub keeps_then_run : {A : Type 0} (o : Out Text A) (f : A → Run Done) → ((a : A) → Keeps (f a)) → Keeps (then_run o f)
unfolding then_run
keeps_then_run (ok a u) f h = bind (h a) λ _. keeps_ret u
keeps_then_run (refused r) f h = keeps_refuse r
