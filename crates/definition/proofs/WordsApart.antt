-- Only an identifier uses the words of the check: with other words every other operator has the
-- same result, with those other words.
use Rattle.std.specs.Prelude.{if◌then◌else◌}
use mathlib.Core.Path.{◌≡◌, refl, sym, ap, ◌∙◌}
use mathlib.Core.Bool.{Bool, true, false, ◌&&◌}
use mathlib.Core.List.{List, [], ◌∷◌}
use mathlib.Core.Option.{Option, some, none}
use Prim.Native.Nat.{ℕ, zero, suc}
use lib.Dec.{eqb}
use lib.ListN.{get_elem?}
use Rattle.definition.specs.Base.{given, is_some, digit, Out, ok, refused, Step, Done, ret, refuse, and_then, ◌>>=◌, Late, good, bad, judge}
use Rattle.definition.specs.Text.{Text}
use Rattle.definition.specs.Kind as K
use Rattle.definition.specs.Kind.{Entry}
use Rattle.definition.specs.Operators as Op
use Rattle.definition.specs.Operators.{operator}
use Rattle.definition.specs.Budget as B
use Rattle.definition.specs.Budget.{Budget}
use Rattle.definition.specs.Machine as M
use Rattle.definition.specs.Machine.{machine, restack, spent, spend, wrap, remember, recall, push, push_copies, rounds}
use Rattle.definition.specs.Shape as C
use Rattle.definition.specs.Shape.{Shapes, Check, Take, Taken, Leaves, Row, kind_of, pop_if, try, took, taking}
use Rattle.definition.specs.Calls.{then_run, turn}
use Rattle.definition.specs.Check.{one}

-- WHAT IS STATED
-- the machine with other words
abbrev pub rewords : ℕ → Shapes → Shapes
rewords w m = machine m.budget m.stack m.substitutions w

-- the result of a step, with other words
abbrev pub reworded : {A : Type 0} → ℕ → Out Shapes A → Out Shapes A
reworded w (ok a m) = ok a (rewords w m)
reworded w (refused r) = refused r

-- a step has the same result whatever the words are
abbrev pub Apart : Check Done → Type 0
Apart f = (w : ℕ) (m : Shapes) → f (rewords w m) ≡ reworded w (f m)

-- A step has the same result whatever the words are. Such steps are closed under `bind`, so each
-- function of specs/Shape.antt takes one line
record Independent {A : Type 0} (s : Check A) : Type 0 where
  at : (w : ℕ) (m : Shapes) → s (rewords w m) ≡ reworded w (s m)

-- STEPS
bind : {A B : Type 0} {s : Check A} {k : A → Check B} → Independent s → ((a : A) → Independent (k a)) → Independent (s >>= k)
bind {A = A} {s = s} {k = k} h f = record { at = λ w m. ap (λ o. and_then o k) (h.at w m) ∙ go w (s m) }
  where
    go : (w : ℕ) (o : Out Shapes A) → and_then (reworded w o) k ≡ reworded w (and_then o k)
    go w (ok a n) = (f a).at w n
    go w (refused r) = refl

independent_ret : {A : Type 0} (a : A) → Independent (ret a)
independent_ret a = record { at = λ w m. refl }

independent_refuse : {A : Type 0} (r : ℕ) → Independent {A = A} (refuse r)
independent_refuse r = record { at = λ w m. refl }

independent_if : {A : Type 0} (b : Bool) {s s' : Check A} → Independent s → Independent s' → Independent (if b then s else s')
independent_if true h k = h
independent_if false h k = k

independent_given : {A B : Type 0} (o : Option A) {s : Check B} (f : A → Check B) → Independent s → ((a : A) → Independent (f a)) → Independent (given o s f)
independent_given none f h k = h
independent_given (some a) f h k = k a

independent_judge : {A : Type 0} (l : Late A) → Independent (judge l)
independent_judge (good a) = record { at = λ w m. refl }
independent_judge (bad r) = record { at = λ w m. refl }

independent_spend : (s : Step Budget Done) → Independent (spend s)
unfolding spend
independent_spend s = record { at = λ w m. go w m (s m.budget) }
  where
    go : (w : ℕ) (m : Shapes) (o : Out Budget Done) → spent o (rewords w m) ≡ reworded w (spent o m)
    go w m (ok a b) = refl
    go w m (refused r) = refl

independent_wrap : Independent wrap
unfolding wrap
independent_wrap = independent_spend B.wrap

independent_remember : (e : Entry) → Independent (remember e)
unfolding remember
independent_remember e = record { at = λ w m. refl }

independent_push : (e : Entry) → Independent (push e)
unfolding push
independent_push e = record { at = λ w m. refl }

independent_push_copies : (k : ℕ) (e : Entry) → Independent (push_copies k e)
unfolding push_copies
independent_push_copies k e = record { at = λ w m. refl }

independent_rounds : Independent rounds
unfolding rounds
independent_rounds = record { at = λ w m. refl }

independent_recall : (i : ℕ) → Independent (recall i)
unfolding recall
independent_recall i = record { at = λ w m. go w m (get_elem? m.substitutions i) }
  where
    go : (w : ℕ) (m : Shapes) (o : Option Entry) → given o (refused 9) (λ e. ok e (rewords w m)) ≡ reworded w (given o (refused 9) (λ e. ok e m))
    go w m none = refl
    go w m (some e) = refl

independent_pop_if : (want : ℕ → Bool) → Independent (pop_if want)
unfolding M.pop_if M.pop_from
independent_pop_if want = record { at = λ w m. go w m m.stack }
  where
    take : (w : ℕ) (m : Shapes) (b : Bool) (e : Entry) (s : List Entry) → (if b then ok e (restack s (rewords w m)) else refused 10) ≡ reworded w (if b then ok e (restack s m) else refused 10)
    take w m true e s = refl
    take w m false e s = refl

    go : (w : ℕ) (m : Shapes) (s : List Entry) → M.pop_from kind_of want s (rewords w m) ≡ reworded w (M.pop_from kind_of want s m)
    go w m [] = refl
    go w m (e ∷ s) = take w m (want e.kind) e s

independent_pop : Independent (M.pop kind_of)
unfolding M.pop
independent_pop = independent_pop_if (λ k. true)

independent_try : (want : ℕ → Bool) → Independent (try want)
unfolding M.try M.try_from
independent_try want = record { at = λ w m. go w m m.stack }
  where
    take : (w : ℕ) (m : Shapes) (b : Bool) (e : Entry) (s : List Entry) →
        (if b then ok (some e) (restack s (rewords w m)) else ok none (rewords w m)) ≡ reworded w (if b then ok (some e) (restack s m) else ok none m)
    take w m true e s = refl
    take w m false e s = refl

    go : (w : ℕ) (m : Shapes) (s : List Entry) → M.try_from kind_of want s (rewords w m) ≡ reworded w (M.try_from kind_of want s m)
    go w m [] = refl
    go w m (e ∷ s) = take w m (want e.kind) e s

independent_took : (k : ℕ) → Independent (took k)
unfolding M.took
independent_took k = bind (independent_try (eqb k)) λ o. independent_ret (is_some o)

-- TAKES
independent_name_in : (e : Entry) → Independent (C.name_in e)
unfolding C.name_in
independent_name_in e = independent_if (K.is_identifier e.kind) (independent_ret _) (independent_refuse 10)

independent_pop_name : Independent C.pop_name
unfolding C.pop_name
independent_pop_name = bind independent_pop independent_name_in

independent_context_in : (e : Entry) → Independent (C.context_in e)
unfolding C.context_in
independent_context_in e = independent_if (K.is_identifier e.kind) (independent_ret _) (independent_if (K.is_context e.kind) (independent_ret _) (independent_refuse 10))

independent_context : Independent C.context
unfolding C.context
independent_context = bind independent_pop independent_context_in

independent_protocol_in : (e : Entry) → Independent (C.protocol_in e)
unfolding C.protocol_in
independent_protocol_in e =
    independent_if (K.is_protocol e.kind) (independent_ret _)
    (independent_if (eqb e.kind K.protocol_list && eqb e.count 1) (independent_ret _)
    (independent_if (K.is_identifier e.kind) (bind independent_context λ c. independent_ret _) (independent_refuse 10)))

independent_protocol : Independent C.protocol
unfolding C.protocol
independent_protocol = bind independent_pop independent_protocol_in

independent_side : Independent C.side
unfolding C.side
independent_side = bind (independent_took _) λ empty. independent_if empty (independent_ret _) (independent_pop_if _)

independent_elements_from : (f : ℕ) (a : Taken) → Independent (C.elements_from f a)
unfolding C.elements_from
independent_elements_from zero a = independent_refuse 10
independent_elements_from (suc f) a = bind (independent_took _) λ first. bind (independent_took _) λ _. bind (independent_try _) λ _. bind (independent_pop_if _) λ e. independent_if first (independent_ret _) (independent_elements_from f _)

independent_members_from : (f : ℕ) (a : Taken) → Independent (C.members_from f a)
unfolding C.members_from
independent_members_from zero a = independent_refuse 10
independent_members_from (suc f) a = bind (independent_took _) λ first. bind independent_protocol λ e. independent_if first (independent_ret _) (independent_members_from f _)

independent_arguments_from : (f : ℕ) (a : Taken) → Independent (C.arguments_from f a)
unfolding C.arguments_from
independent_arguments_from zero a = independent_refuse 10
independent_arguments_from (suc f) a = bind (independent_try _) λ ty.
    independent_given ty _ (bind (independent_took _) λ opened. independent_if opened (independent_ret _) (bind (independent_pop_if _) λ _. independent_arguments_from f a)) λ e. independent_arguments_from f _

independent_requirements_from : (f : ℕ) (a : Taken) → Independent (C.requirements_from f a)
unfolding C.requirements_from
independent_requirements_from zero a = independent_ret a
independent_requirements_from (suc f) a = bind (independent_try _) λ r. independent_given r _ (independent_ret _) λ e. independent_requirements_from f _

independent_label_in : (e : Entry) → Independent (C.label_in e)
unfolding C.label_in
independent_label_in e = independent_if (K.is_identifier e.kind) (independent_ret _) (independent_if (eqb e.kind K.first_element_marker) (independent_ret _) (independent_refuse 10))

independent_labels_from : (n : ℕ) → Independent (C.labels_from n)
unfolding C.labels_from
independent_labels_from zero = independent_ret _
independent_labels_from (suc n) = bind independent_pop λ top. bind (independent_label_in top) λ _. independent_labels_from n

independent_taking : (ts : List Take) (a : Taken) (leave : Taken → Check Done) → ((x : Taken) → Independent (leave x)) → Independent (taking ts a leave)
unfolding taking
independent_taking [] a leave l = l a
independent_taking (C.wraps ∷ ts) a leave l = bind independent_wrap λ _. independent_taking ts a leave l
independent_taking (C.a_node want ∷ ts) a leave l = bind (independent_pop_if want) λ e. independent_taking ts _ leave l
independent_taking (C.a_name ∷ ts) a leave l = bind independent_pop_name λ _. independent_taking ts a leave l
independent_taking (C.a_context ∷ ts) a leave l = bind independent_context λ e. independent_taking ts _ leave l
independent_taking (C.a_protocol ∷ ts) a leave l = bind independent_protocol λ e. independent_taking ts _ leave l
independent_taking (C.marker k ∷ ts) a leave l = bind (independent_took k) λ _. independent_taking ts a leave l
independent_taking (C.qualifier ∷ ts) a leave l = bind (independent_try _) λ _. independent_taking ts a leave l
independent_taking (C.params ∷ ts) a leave l = bind independent_side λ e. independent_taking ts _ leave l
independent_taking (C.result ∷ ts) a leave l = bind independent_side λ e. independent_taking ts _ leave l
independent_taking (C.a_labelled_type ∷ ts) a leave l = bind (independent_pop_if _) λ e. independent_taking ts _ leave l
independent_taking (C.labels ∷ ts) a leave l = bind (independent_took _) λ empty. bind (independent_if empty (independent_ret _) (independent_labels_from _)) λ _. independent_taking ts a leave l
independent_taking (C.a-signature ∷ ts) a leave l = bind (independent_try _) λ s. independent_taking ts _ leave l
independent_taking (C.under_signature ∷ ts) a leave l = bind (independent_if a.signed independent_wrap (independent_ret _)) λ _. independent_taking ts a leave l
independent_taking (C.elements ∷ ts) a leave l = bind (independent_took _) λ empty. bind independent_rounds λ f. bind (independent_if empty (independent_ret _) (independent_elements_from f a)) λ es. independent_taking ts es leave l
independent_taking (C.members ∷ ts) a leave l = bind (independent_took _) λ empty. bind independent_rounds λ f. bind (independent_if empty (independent_ret _) (independent_members_from f a)) λ ps. independent_taking ts ps leave l
independent_taking (C.arguments ∷ ts) a leave l = bind independent_rounds λ f. bind (independent_arguments_from f a) λ args. independent_taking ts args leave l
independent_taking (C.requirements ∷ ts) a leave l = bind independent_rounds λ f. bind (independent_requirements_from f a) λ rs. independent_taking ts rs leave l
independent_taking (C.refuses r ∷ ts) a leave l = independent_refuse r
independent_taking (C.printed_ahead ∷ ts) a leave l = independent_taking ts _ leave l

-- ROWS AND TURNS
independent_then_run : {A : Type 0} (o : Out Text A) (f : A → Check Done) → ((a : A) → Independent (f a)) → Independent (then_run o f)
unfolding then_run
independent_then_run (ok a u) f h = bind (h a) λ _. independent_ret u
independent_then_run (refused r) f h = independent_refuse r

module _ (N : ℕ) where
  independent_copied : (times : ℕ) (e : Entry) → Independent (C.copied N times e)
  unfolding C.copied
  independent_copied times e = bind (independent_spend _) λ _. independent_push_copies times e

  independent_leave : (l : Leaves) (a : Taken) → Independent (C.leave N l a)
  unfolding C.leave
  independent_leave l a = bind (independent_if l.remembered (independent_remember _) (independent_ret _)) λ _. independent_given l.copies _ (independent_push _) λ times. independent_copied times _

  independent_recalled : (cs : List Op.Substitution) (l : Late Done) → Independent (C.recalled N cs l)
  unfolding C.recalled
  independent_recalled [] l = independent_judge l
  independent_recalled (c ∷ cs) l = bind (independent_recall _) λ e. bind (independent_copied _ e) λ _. independent_recalled cs l

  independent_run_row : (r : Row) → Independent (C.run_row N r)
  unfolding C.run_row
  independent_run_row (C.recalls cs l) = independent_recalled cs l
  independent_run_row (C.rule ts l) = independent_taking ts _ (C.leave N l) (independent_leave l)

  -- a row has the same result with other words, and those are the words after it
  pub row_apart : (r : Row) → Apart (C.run_row N r)
  row_apart r w m = (independent_run_row r).at w m

  -- and so have copies of what is remembered
  pub recall_apart : (times i : ℕ) → Apart (recall i >>= λ e. C.copied N times e)
  recall_apart times i w m = (bind (independent_recall i) λ e. independent_copied times e).at w m

-- such a step leaves the words unchanged, if it is not refused
pub keeps_words : (f : Check Done) → Apart f → (m n : Shapes) → f m ≡ ok tt n → n.words ≡ m.words
keeps_words f h m n q = go (sym q ∙ (h m.words m ∙ ap (reworded m.words) q))
  where
    go : ◌≡◌ {A = Out Shapes Done} (ok tt n) (ok tt (rewords m.words n)) → n.words ≡ m.words
    go d = let z : n ≡ rewords m.words n = cc in ap (λ (x : Shapes). x.words) z

module _ (N c : ℕ) (t : Text) (e : digit c ≡ false) where
  independent_one : Independent (one N (c ∷ t))
  unfolding one
  independent_one = rw (e, one) (independent_then_run (operator c t) (λ op. C.run_row N (C.row op)) λ op. independent_run_row N (C.row op))

  independent_turn : Independent (turn N (one N) (c ∷ t))
  unfolding turn
  independent_turn = bind (independent_spend B.step) λ _. bind (independent_spend (B.charge N 1)) λ _. independent_one

  -- a turn where the byte is not a digit has the same result with other words, and those are the
  -- words after it
  pub turn_apart : (w : ℕ) (m : Shapes) → turn N (one N) (c ∷ t) (rewords w m) ≡ reworded w (turn N (one N) (c ∷ t) m)
  turn_apart w m = independent_turn.at w m

  -- so it leaves the words unchanged, if it is not refused
  pub turn_keeps_words : (m n : Shapes) (u : Text) → turn N (one N) (c ∷ t) m ≡ ok u n → n.words ≡ m.words
  turn_keeps_words m n u q = go (sym q ∙ (turn_apart m.words m ∙ ap (reworded m.words) q))
    where
      go : ◌≡◌ {A = Out Shapes Text} (ok u n) (ok u (rewords m.words n)) → n.words ≡ m.words
      go d = let z : n ≡ rewords m.words n = cc in ap (λ (x : Shapes). x.words) z
