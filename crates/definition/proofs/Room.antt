-- How much a run can make for what it is charged: the depth of the stack, the weight of the entries
-- on it, and what is remembered. Proved over the table of the check, row by row, with a computed
-- test.
use Rattle.std.specs.Prelude.{if◌then◌else◌}
use mathlib.Core.Path.{◌≡◌, refl, sym, ap, ◌∙◌, subst}
use mathlib.Core.Bool.{Bool, true, false, ◌&&◌}
use mathlib.Core.List.{List, [], ◌∷◌, ◌++◌}
use mathlib.Core.Option.{Option, some, none}
use Prim.Native.Nat.{ℕ, zero, suc, ◌+◌, ◌*◌, ◌-◌, ◌≤◌}
use native.Mathlib.Omega.{arith}
use lib.Dec.{T, eqb, ltb, leb, leb→le}
use borrow.Author.Tests.{leb-true}
use native.Mathlib.Nat.{mul-zero, mul-suc, one-mul, le_trans, le_of_eq, mul-le-mul_right}
use lib.ListN.{length, length-append, length-replicate, get_elem?, replicate}
use Rattle.definition.specs.Base.{given, is_some, Out, ok, refused, Done, ret, refuse, and_then, ◌>>=◌, ◌>>◌, Late, good, bad}
use Rattle.definition.specs.Kind as K
use Rattle.definition.specs.Kind.{Entry, entry}
use Rattle.definition.specs.Operators as Op
use Rattle.definition.specs.Budget as B
use Rattle.definition.specs.Machine as M
use Rattle.definition.specs.Machine.{restack, spent, spend, wrap, know, remember, recall, push, push_copies, rounds}
use Rattle.definition.specs.Shape as C
use Rattle.definition.specs.Check as Ch
use Rattle.definition.proofs.SameText.{both}
use Rattle.definition.specs.Shape.{Shapes, Check, kind_of, Take, Leaves, Taken, taken}

-- the sum of the sizes of entries
unfoldable pub weigh : List Entry → ℕ
weigh [] = 0
weigh (e ∷ es) = e.size + weigh es

abbrev pub AllOf : (Entry → Type 0) → List Entry → Type 0
AllOf P [] = Unit {0}
AllOf P (e ∷ es) = P e × AllOf P es

-- each entry is at least one node
abbrev pub Sized : List Entry → Type 0
Sized = AllOf (λ e. 1 ≤ e.size)

-- a remembered entry, where the charged total is T
abbrev pub Bounded : ℕ → Entry → Type 0
Bounded T e = (1 ≤ e.size) × (e.size ≤ 4 * T)

-- Every push is charged, and a charge of 1 makes at most 4 nodes. j of the charge is not used yet
pub record Fits (j : ℕ) (s : Shapes) : Type 0 where
  pub depth : length s.stack + j ≤ s.budget.total
  pub weight : weigh s.stack + 4 * j ≤ 4 * s.budget.total
  pub kept : length s.substitutions + j ≤ s.budget.total
  pub sized : Sized s.stack
  pub remembered : AllOf (Bounded s.budget.total) s.substitutions

-- WHAT A STEP ENSURES, if it is not refused
module _ {A : Type 0} (Q : A → Shapes → Type 0) where
  abbrev Result : Out Shapes A → Type 0
  Result (ok a s) = Q a s
  Result (refused r) = Unit {0}

record Holds {A : Type 0} (P : Shapes → Type 0) (e : Check A) (Q : A → Shapes → Type 0) : Type 0 where
  at : (s : Shapes) → P s → Result Q (e s)

module _ {A B : Type 0} {Q : A → Shapes → Type 0} {R : B → Shapes → Type 0} where
  bind_result : (x : Out Shapes A) (k : A → Check B) → Result Q x → ((a : A) → Holds (Q a) (k a) R) → Result R (and_then x k)
  bind_result (ok a s) k h c = (c a).at s h
  bind_result (refused r) k h c = tt

  bind : {P : Shapes → Type 0} {e : Check A} (k : A → Check B) → Holds P e Q → ((a : A) → Holds (Q a) (k a) R) → Holds P (e >>= k) R
  bind {e = e} k h c = record { at = λ s p. bind_result (e s) k (h.at s p) c }

module _ {A : Type 0} {P : Shapes → Type 0} {Q : A → Shapes → Type 0} where
  returns : (a : A) → ((s : Shapes) → P s → Q a s) → Holds P (ret a) Q
  returns a h = record { at = λ s p. h s p }

  refuses : (r : ℕ) → Holds P (refuse r) Q
  refuses r = record { at = λ s p. tt }

  if_holds : {e e' : Check A} (b : Bool) → Holds P e Q → Holds P e' Q → Holds P (if b then e else e') Q
  if_holds true h k = h
  if_holds false h k = k

-- what holds before
before : {A : Type 0} {P P' : Shapes → Type 0} {Q : A → Shapes → Type 0} {e : Check A} → ((s : Shapes) → P s → P' s) → Holds P' e Q → Holds P e Q
before h k = record { at = λ s p. k.at s (h s p) }

-- the number of names among the takes of a row, and the number of signatures
abbrev worth : Take → ℕ × ℕ
worth C.wraps = (0, 0)
worth (C.a_node want) = (0, 0)
worth C.a_name = (1, 0)
worth C.a_context = (0, 0)
worth C.a_protocol = (0, 0)
worth (C.marker k) = (0, 0)
worth C.qualifier = (0, 0)
worth C.params = (0, 0)
worth C.result = (0, 0)
worth C.a_labelled_type = (0, 0)
worth C.labels = (0, 0)
worth C.a-signature = (0, 1)
worth C.under_signature = (0, 0)
worth C.elements = (0, 0)
worth C.members = (0, 0)
worth C.arguments = (0, 0)
worth C.requirements = (0, 0)
worth (C.refuses r) = (0, 0)
worth C.printed_ahead = (0, 0)

unfoldable pub names : List Take → ℕ
names [] = 0
names (t ∷ ts) = (worth t).0 + names ts

unfoldable pub signatures : List Take → ℕ
signatures [] = 0
signatures (t ∷ ts) = (worth t).1 + signatures ts

-- WHILE A ROW TAKES. Since s₀ nothing was charged or remembered, and the stack has not grown. Of
-- what was taken (its size is in a), n nodes were names, and g are nodes made under signatures
pub record Taking (s₀ : Shapes) (n g : ℕ) (a : Taken) (s : Shapes) : Type 0 where
  pub charged : s.budget.total ≡ s₀.budget.total
  pub substitutions : s.substitutions ≡ s₀.substitutions
  pub depth : length s.stack ≤ length s₀.stack
  pub weight : weigh s.stack + (a.size + n) ≤ weigh s₀.stack + g
  pub sized : Sized s.stack

module _ (s₀ : Shapes) where
  -- with less taken or more allowed
  weaker : {n g n' g' : ℕ} {a a' : Taken} {s : Shapes} → a'.size + n' + g ≤ a.size + n + g' → Taking s₀ n g a s → Taking s₀ n' g' a' s
  weaker h t = record { charged = t.charged; substitutions = t.substitutions; depth = t.depth; weight = omega (arith, t.weight, h); sized = t.sized }

  -- an entry was removed that is added to a
  abbrev With : (n g : ℕ) → Taken → Entry → Shapes → Type 0
  With n g a e s = (1 ≤ e.size) × Taking s₀ n g (C.add e a) s

  abbrev WithIf : (n g : ℕ) → Taken → Option Entry → Shapes → Type 0
  WithIf n g a none s = Taking s₀ n g a s
  WithIf n g a (some e) s = With n g a e s

  module _ {n g : ℕ} {a : Taken} where
    popped : (e : Entry) (es : List Entry) (s : Shapes) → s.stack ≡ e ∷ es → Taking s₀ n g a s → With n g a e (restack es s)
    unfolding weigh
    popped e es s q t =
        let d : suc (length es) ≤ length s₀.stack = subst (λ (l : List Entry). length l ≤ length s₀.stack) q t.depth in
        let w : (e.size + weigh es) + (a.size + n) ≤ weigh s₀.stack + g = subst (λ (l : List Entry). weigh l + (a.size + n) ≤ weigh s₀.stack + g) q t.weight in
        let z : Sized (e ∷ es) = subst (λ (l : List Entry). Sized l) q t.sized in
        (z.0, record { charged = t.charged; substitutions = t.substitutions; depth = omega arith; weight = omega arith; sized = z.1 })

    pop_if_takes : (want : ℕ → Bool) → Holds (Taking s₀ n g a) (C.pop_if want) (With n g a)
    unfolding M.pop_if M.pop_from
    pop_if_takes want = record { at = λ s t. go s t s.stack refl }
      where
        pick : (s : Shapes) (e : Entry) (es : List Entry) → With n g a e (restack es s) → (b : Bool) → Result (With n g a) (if b then ok e (restack es s) else refused 10)
        pick s e es h true = h
        pick s e es h false = tt

        go : (s : Shapes) → Taking s₀ n g a s → (es : List Entry) → s.stack ≡ es → Result (With n g a) (M.pop_from kind_of want es s)
        go s t [] q = tt
        go s t (e ∷ es) q = pick s e es (popped e es s q t) (want e.kind)

    try_takes : (want : ℕ → Bool) → Holds (Taking s₀ n g a) (C.try want) (WithIf n g a)
    unfolding M.try M.try_from
    try_takes want = record { at = λ s t. go s t s.stack refl }
      where
        pick : (s : Shapes) (e : Entry) (es : List Entry) → Taking s₀ n g a s → With n g a e (restack es s) → (b : Bool) → Result (WithIf n g a) (if b then ok (some e) (restack es s) else ok none s)
        pick s e es t h true = h
        pick s e es t h false = t

        go : (s : Shapes) → Taking s₀ n g a s → (es : List Entry) → s.stack ≡ es → Result (WithIf n g a) (M.try_from kind_of want es s)
        go s t [] q = t
        go s t (e ∷ es) q = pick s e es t (popped e es s q t) (want e.kind)

    pop_takes : Holds (Taking s₀ n g a) (M.pop kind_of) (With n g a)
    unfolding M.pop
    pop_takes = pop_if_takes (λ k. true)

    -- what was taken does not count
    dropped : (o : Option Entry) (s : Shapes) → WithIf n g a o s → Taking s₀ n g a s
    dropped none s t = t
    dropped (some e) s t = weaker (omega arith) t.1

    -- a marker that was there is one node less
    took_takes : (k : ℕ) → Holds (Taking s₀ n g a) (C.took k) (λ b s. Taking s₀ (if b then n + 1 else n) g a s)
    unfolding M.took is_some
    took_takes k = bind _ (try_takes (eqb k)) λ o. returns (is_some o) (λ s t. go o s t)
      where
        go : (o : Option Entry) (s : Shapes) → WithIf n g a o s → Taking s₀ (if is_some o then n + 1 else n) g a s
        go none s t = t
        go (some e) s t = weaker (omega (arith, t.0)) t.1

    marker_takes : (k : ℕ) → Holds (Taking s₀ n g a) (C.took k) (λ b s. Taking s₀ n g a s)
    marker_takes k = record { at = λ s t. after (C.took k s) ((took_takes k).at s t) }
      where
        less : (b : Bool) (s : Shapes) → Taking s₀ (if b then n + 1 else n) g a s → Taking s₀ n g a s
        less true s t = weaker (omega arith) t
        less false s t = t

        after : (x : Out Shapes Bool) → Result (λ b s. Taking s₀ (if b then n + 1 else n) g a s) x → Result (λ b s. Taking s₀ n g a s) x
        after (ok b s) h = less b s h
        after (refused r) h = tt

    wrap_takes : Holds (Taking s₀ n g a) wrap (λ x s. Taking s₀ n g a s)
    unfolding wrap spend B.wrap
    wrap_takes = record { at = λ s t. go s t (ltb s.budget.wraps 256) }
      where
        go : (s : Shapes) → Taking s₀ n g a s → (b : Bool) → Result (λ x s. Taking s₀ n g a s) (spent (if b then ok tt (B.budget s.budget.steps s.budget.total (suc s.budget.wraps)) else refused 8) s)
        go s t true = record { charged = t.charged; substitutions = t.substitutions; depth = t.depth; weight = t.weight; sized = t.sized }
        go s t false = tt

    -- the node of a name is removed, and none is made for it
    pop_name_takes : Holds (Taking s₀ n g a) C.pop_name (λ x s. Taking s₀ (n + 1) g a s)
    unfolding C.pop_name C.name_in
    pop_name_takes = bind _ pop_takes λ e. if_holds (K.is_identifier e.kind) (returns tt (λ s t. weaker (omega (arith, t.0)) t.1)) (refuses 10)

    -- what represents an entry that was taken is not larger
    context_takes : Holds (Taking s₀ n g a) C.context (λ e s. Taking s₀ n g (C.add e a) s)
    unfolding C.context C.context_in
    context_takes = bind _ pop_takes λ e.
        if_holds (K.is_identifier e.kind) (returns (entry K.module_kind 1 0) (λ s t. weaker (omega (arith, t.0)) t.1))
        (if_holds (K.is_context e.kind) (returns e (λ s t. t.1)) (refuses 10))

  protocol_takes : {n g : ℕ} {a : Taken} → Holds (Taking s₀ n g a) C.protocol (λ e s. Taking s₀ n g (C.add e a) s)
  unfolding C.protocol C.protocol_in
  protocol_takes {n} {g} {a} = bind _ pop_takes λ e.
      if_holds (K.is_protocol e.kind) (returns e (λ s t. t.1))
      (if_holds (eqb e.kind K.protocol_list && eqb e.count 1) (returns (entry K.protocol (e.size - 1) 0) (λ s t. weaker (omega arith) t.1))
      (if_holds (K.is_identifier e.kind) (named e) (refuses 10)))
    where
      -- the node of the identifier is the protocol's own
      named : (e : Entry) → Holds (λ s. With n g a e s) (C.context >>= λ c. ret (entry K.protocol (1 + c.size) 0)) (λ e s. Taking s₀ n g (C.add e a) s)
      named e = record {
        at = λ s t.
            let h : Holds (Taking s₀ n g (C.add e a)) (C.context >>= λ c. ret (entry K.protocol (1 + c.size) 0)) (λ e s. Taking s₀ n g (C.add e a) s) =
            bind _ context_takes λ c. returns (entry K.protocol (1 + c.size) 0) (λ s₁ u. weaker (omega (arith, t.0)) u) in
            h.at s t.1;
      }

  -- the node of the empty list is that of the tuple
  side_takes : {n g : ℕ} {a : Taken} → Holds (Taking s₀ n g a) C.side (λ e s. Taking s₀ n g (C.add e a) s)
  unfolding C.side
  side_takes {n} {g} {a} = bind _ (took_takes K.empty_list) λ b. go b
    where
      go : (b : Bool) → Holds (Taking s₀ (if b then n + 1 else n) g a) (if b then ret (entry K.tuple 1 0) else C.pop_if K.is_type) (λ e s. Taking s₀ n g (C.add e a) s)
      go true = returns (entry K.tuple 1 0) (λ s t. weaker (omega arith) t)
      go false = record { at = λ s t. after (C.pop_if K.is_type s) ((pop_if_takes K.is_type).at s t) }
        where
          after : (x : Out Shapes Entry) → Result (With n g a) x → Result (λ e s. Taking s₀ n g (C.add e a) s) x
          after (ok e s) h = h.1
          after (refused r) h = tt

  -- LISTS: what is added to a
  module _ {n g : ℕ} where
    -- one node of the list was taken, and then the rest is taken
    added : (a : Taken) (e : Entry) (s : Shapes) → With n g a e s → Taking s₀ n g (C.add_counted e a) s
    added a e s t = weaker (omega arith) t.1

    elements_take : (f : ℕ) (a : Taken) → Holds (Taking s₀ n g a) (C.elements_from f a) (λ es s. Taking s₀ n g es s)
    unfolding C.elements_from
    elements_take zero a = refuses 10
    elements_take (suc f) a =
        bind _ (marker_takes K.first_element_marker) λ first. bind _ (marker_takes K.variadic_marker) λ _. bind _ (try_takes K.is_identifier) λ o.
        bind _ (before (dropped o) (pop_if_takes K.is_type)) λ e.
        if_holds first (returns (C.add_counted e a) (added a e)) (before (added a e) (elements_take f (C.add_counted e a)))

    members_take : (f : ℕ) (a : Taken) → Holds (Taking s₀ n g a) (C.members_from f a) (λ es s. Taking s₀ n g es s)
    unfolding C.members_from
    members_take zero a = refuses 10
    members_take (suc f) a =
        bind _ (marker_takes K.first_element_marker) λ first. bind _ protocol_takes λ e.
        if_holds first (returns (C.add_counted e a) (λ s t. weaker (omega arith) t)) (before (λ s t. weaker (omega arith) t) (members_take f (C.add_counted e a)))

    given_takes : {A : Type 0} {Q : A → Shapes → Type 0} (a : Taken) (o : Option Entry) {e : Check A} {k : Entry → Check A} → Holds (Taking s₀ n g a) e Q → ((x : Entry) → Holds (With n g a x) (k x) Q) → Holds (WithIf n g a o) (given o e k) Q
    given_takes a none h c = h
    given_takes a (some x) h c = c x

    arguments_take : (f : ℕ) (a : Taken) → Holds (Taking s₀ n g a) (C.arguments_from f a) (λ es s. Taking s₀ n g es s)
    unfolding C.arguments_from
    arguments_take zero a = refuses 10
    arguments_take (suc f) a =
        bind _ (try_takes K.is_type) λ o. given_takes a o
        (bind _ (marker_takes K.empty_list) λ b. if_holds b (returns a (λ s t. t)) (bind _ (pop_if_takes (eqb K.first_element_marker)) λ e. before (dropped (some e)) (arguments_take f a)))
        (λ e. before (added a e) (arguments_take f (C.add_counted e a)))

    requirements_take : (f : ℕ) (a : Taken) → Holds (Taking s₀ n g a) (C.requirements_from f a) (λ es s. Taking s₀ n g es s)
    unfolding C.requirements_from
    requirements_take zero a = returns a (λ s t. t)
    requirements_take (suc f) a =
        bind _ (try_takes K.is_requirement) λ o. given_takes a o (returns a (λ s t. t)) (λ e. before (added a e) (requirements_take f (C.add_counted e a)))

    labels_take : (k : ℕ) (a : Taken) → Holds (Taking s₀ n g a) (C.labels_from k) (λ x s. Taking s₀ n g a s)
    unfolding C.labels_from C.label_in
    labels_take zero a = returns tt (λ s t. t)
    labels_take (suc k) a = bind _ pop_takes λ e. bind _ (before (dropped (some e)) (label e)) λ _. labels_take k a
      where
        label : (e : Entry) → Holds (Taking s₀ n g a) (C.label_in e) (λ x s. Taking s₀ n g a s)
        label e = if_holds (K.is_identifier e.kind) (returns tt (λ s t. t)) (if_holds (eqb e.kind K.first_element_marker) (returns tt (λ s t. t)) (refuses 10))

  -- THE TAKES OF A ROW, and then k
  rounds_take : {n g : ℕ} {a : Taken} → Holds (Taking s₀ n g a) rounds (λ f s. Taking s₀ n g a s)
  unfolding rounds
  rounds_take = record { at = λ s t. t }

  module _ (R : Done → Shapes → Type 0) where
    -- what is proved of k after all of ts can be used after its first
    on : {n g n' g' : ℕ} {k : Taken → Check Done} → n ≤ n' → g' ≤ g → ((a : Taken) → Holds (Taking s₀ n g a) (k a) R) → (a : Taken) → Holds (Taking s₀ n' g' a) (k a) R
    on p q h a = before (λ s t. weaker (omega (arith, p, q)) t) (h a)

    taking_holds : (ts : List Take) (n g : ℕ) (a : Taken) (k : Taken → Check Done) → ((a' : Taken) → Holds (Taking s₀ (names ts + n) (signatures ts + g) a') (k a') R) → Holds (Taking s₀ n g a) (C.taking ts a k) R
    unfolding C.taking C.add_params C.add_labelled C.add_signature names signatures
    taking_holds [] n g a k h = on (omega arith) (omega arith) h a
    taking_holds (C.wraps ∷ ts) n g a k h = bind _ wrap_takes λ _. taking_holds ts n g a k (on (omega arith) (omega arith) h)
    taking_holds (C.a_node want ∷ ts) n g a k h = bind _ (pop_if_takes want) λ e. before (λ s t. t.1) (taking_holds ts n g (C.add e a) k (on (omega arith) (omega arith) h))
    taking_holds (C.a_name ∷ ts) n g a k h = bind _ pop_name_takes λ _. taking_holds ts (n + 1) g a k (on (omega arith) (omega arith) h)
    taking_holds (C.a_context ∷ ts) n g a k h = bind _ context_takes λ e. taking_holds ts n g (C.add e a) k (on (omega arith) (omega arith) h)
    taking_holds (C.a_protocol ∷ ts) n g a k h = bind _ protocol_takes λ e. taking_holds ts n g (C.add e a) k (on (omega arith) (omega arith) h)
    taking_holds (C.marker m ∷ ts) n g a k h = bind _ (marker_takes m) λ _. taking_holds ts n g a k (on (omega arith) (omega arith) h)
    taking_holds (C.qualifier ∷ ts) n g a k h = bind _ (try_takes K.is_protocol) λ o. before (dropped o) (taking_holds ts n g a k (on (omega arith) (omega arith) h))
    taking_holds (C.params ∷ ts) n g a k h = bind _ side_takes λ e. before (λ s t. weaker (omega arith) t) (taking_holds ts n g (C.add_params e a) k (on (omega arith) (omega arith) h))
    taking_holds (C.result ∷ ts) n g a k h = bind _ side_takes λ e. taking_holds ts n g (C.add e a) k (on (omega arith) (omega arith) h)
    taking_holds (C.a_labelled_type ∷ ts) n g a k h = bind _ (pop_if_takes K.is_type) λ e. before (λ s t. weaker (omega arith) t.1) (taking_holds ts n g (C.add_labelled e a) k (on (omega arith) (omega arith) h))
    taking_holds (C.labels ∷ ts) n g a k h =
        bind _ (marker_takes K.empty_list) λ empty. bind _ (if_holds empty (returns tt (λ s t. t)) (labels_take a.count a)) λ _. taking_holds ts n g a k (on (omega arith) (omega arith) h)
    taking_holds (C.a-signature ∷ ts) n g a k h = bind _ (try_takes (eqb K.generic_signature)) λ o. before (signed o) (taking_holds ts n (g + 1) (C.add_signature o a) k (on (omega arith) (omega arith) h))
      where
        signed : (o : Option Entry) (s : Shapes) → WithIf n g a o s → Taking s₀ n (g + 1) (C.add_signature o a) s
        signed none s t = weaker (omega arith) t
        signed (some e) s t = weaker (omega arith) t.1
    taking_holds (C.under_signature ∷ ts) n g a k h = bind _ (if_holds a.signed wrap_takes (returns tt (λ s t. t))) λ _. taking_holds ts n g a k (on (omega arith) (omega arith) h)
    taking_holds (C.elements ∷ ts) n g a k h =
        bind _ (marker_takes K.empty_list) λ empty. bind _ rounds_take λ f. bind _ (if_holds empty (returns a (λ s t. t)) (elements_take f a)) λ es. taking_holds ts n g es k (on (omega arith) (omega arith) h)
    taking_holds (C.members ∷ ts) n g a k h =
        bind _ (marker_takes K.empty_list) λ empty. bind _ rounds_take λ f. bind _ (if_holds empty (returns a (λ s t. t)) (members_take f a)) λ ps. taking_holds ts n g ps k (on (omega arith) (omega arith) h)
    taking_holds (C.arguments ∷ ts) n g a k h = bind _ rounds_take λ f. bind _ (arguments_take f a) λ args. taking_holds ts n g args k (on (omega arith) (omega arith) h)
    taking_holds (C.requirements ∷ ts) n g a k h = bind _ rounds_take λ f. bind _ (requirements_take f a) λ rs. taking_holds ts n g rs k (on (omega arith) (omega arith) h)
    taking_holds (C.refuses r ∷ ts) n g a k h = refuses r
    taking_holds (C.printed_ahead ∷ ts) n g a k h = before (λ s t. weaker (omega arith) t) (taking_holds ts n g (taken 0 a.count a.signed) k (on (omega arith) (omega arith) h))

-- WHAT A ROW LEAVES
bounded_more : (T T' : ℕ) (es : List Entry) → T ≤ T' → AllOf (Bounded T) es → AllOf (Bounded T') es
bounded_more T T' [] h b = tt
bounded_more T T' (e ∷ es) h b = ((b.0.0, omega (arith, b.0.1)), bounded_more T T' es h b.1)

bounded_snoc : (T : ℕ) (e : Entry) (es : List Entry) → Bounded T e → AllOf (Bounded T) es → AllOf (Bounded T) (es ++ (e ∷ []))
bounded_snoc T e [] h b = (h, tt)
bounded_snoc T e (x ∷ es) h b = (b.0, bounded_snoc T e es h b.1)

-- the entry e can be remembered and pushed
record Ready (e : Entry) (s : Shapes) : Type 0 where
  one : 1 ≤ e.size
  depth : length s.stack + 1 ≤ s.budget.total
  weight : weigh s.stack + e.size ≤ 4 * s.budget.total
  kept : length s.substitutions + 1 ≤ s.budget.total
  sized : Sized s.stack
  remembered : AllOf (Bounded s.budget.total) s.substitutions

ready : (s₀ s : Shapes) (n g : ℕ) (l : Leaves) (a : Taken) → Fits 1 s₀ → 1 ≤ l.own → l.own + g ≤ 4 + n → Taking s₀ n g a s → Ready (C.left l a) s
ready s₀ s n g l a f o p t =
    let c : s.budget.total ≡ s₀.budget.total = t.charged in
    record {
      one = omega (arith, o);
      depth = omega (arith, c, t.depth, f.depth);
      weight = omega (arith, c, t.weight, f.weight, p);
      kept = subst (λ (r : List Entry). length r + 1 ≤ s.budget.total) (sym t.substitutions) (omega (arith, c, f.kept));
      sized = t.sized;
      remembered = subst (λ (r : List Entry). AllOf (Bounded s.budget.total) r) (sym t.substitutions) (subst (λ (T : ℕ). AllOf (Bounded T) s₀.substitutions) (sym c) f.remembered);
    }

-- it was remembered or not, and can be pushed
record Pushable (e : Entry) (s : Shapes) : Type 0 where
  one : 1 ≤ e.size
  depth : length s.stack + 1 ≤ s.budget.total
  weight : weigh s.stack + e.size ≤ 4 * s.budget.total
  kept : length s.substitutions ≤ s.budget.total
  sized : Sized s.stack
  remembered : AllOf (Bounded s.budget.total) s.substitutions

remember_fits : (e : Entry) (b : Bool) → Holds (Ready e) (if b then remember e else ret tt) (λ x s. Pushable e s)
unfolding remember
remember_fits e true = record {
  at = λ s r. record {
    one = r.one;
    depth = r.depth;
    weight = r.weight;
    kept = rw (length-append s.substitutions (e ∷ [])) r.kept;
    sized = r.sized;
    remembered = bounded_snoc s.budget.total e s.substitutions (r.one, omega (arith, r.weight)) r.remembered;
  };
}
remember_fits e false = record { at = λ s r. record { one = r.one; depth = r.depth; weight = r.weight; kept = omega (arith, r.kept); sized = r.sized; remembered = r.remembered } }

push_fits : (e : Entry) → Holds (Pushable e) (push e) (λ x s. Fits 0 s)
unfolding push weigh
push_fits e = record { at = λ s r. record { depth = omega (arith, r.depth); weight = omega (arith, r.weight); kept = omega (arith, r.kept); sized = (r.one, r.sized); remembered = r.remembered } }

-- COPIES are paid for by their own charge
weigh_copies : (k : ℕ) (e : Entry) (es : List Entry) → weigh (replicate k e ++ es) ≡ e.size * k + weigh es
unfolding weigh
weigh_copies zero e es = omega (arith, mul-zero e.size)
weigh_copies (suc k) e es = omega (arith, weigh_copies k e es, mul-suc e.size k)

length_copies : (k : ℕ) (e : Entry) (es : List Entry) → length (replicate k e ++ es) ≡ k + length es
length_copies k e es = length-append (replicate k e) es ∙ ap (λ n. n + length es) (length-replicate k e)

sized_copies : (k : ℕ) (e : Entry) (es : List Entry) → 1 ≤ e.size → Sized es → Sized (replicate k e ++ es)
sized_copies zero e es h z = z
sized_copies (suc k) e es h z = (h, sized_copies k e es h z)

times_le : (z k : ℕ) → 1 ≤ z → k ≤ z * k
times_le z k h = le_trans (le_of_eq (sym (one-mul k))) (mul-le-mul_right k h)

copied_fits : (N k : ℕ) (e : Entry) (j : ℕ) → 1 ≤ e.size → Holds (Fits j) (C.copied N k e) (λ x s. Fits j s)
unfolding C.copied push_copies spend B.charge
copied_fits N k e j o = record { at = λ s f. go s f (leb (s.budget.total + e.size * k) N) }
  where
    go : (s : Shapes) → Fits j s → (b : Bool) →
        Result {A = Done} (λ x s. Fits j s) (and_then (spent (if b then ok tt (B.budget s.budget.steps (s.budget.total + e.size * k) s.budget.wraps) else refused 7) s) (λ x. push_copies k e))
    go s f true = record {
      depth = rw (length_copies k e s.stack) (omega (arith, f.depth, times_le e.size k o));
      weight = rw (weigh_copies k e s.stack) (omega (arith, f.weight));
      kept = omega (arith, f.kept);
      sized = sized_copies k e s.stack o f.sized;
      remembered = bounded_more s.budget.total (s.budget.total + e.size * k) s.substitutions (omega arith) f.remembered;
    }
    go s f false = tt

module _ (N : ℕ) where
  leave_fits : (s₀ : Shapes) (n g : ℕ) (l : Leaves) (a : Taken) → Fits 1 s₀ → 1 ≤ l.own → l.own + g ≤ 4 + n → Holds (Taking s₀ n g a) (C.leave N l a) (λ x s. Fits 0 s)
  unfolding C.leave
  leave_fits s₀ n g l a f o p = bind _ (before (λ s t. ready s₀ s n g l a f o p t) (remember_fits (C.left l a) l.remembered)) λ _. go l.copies
    where
      unpushed : (s : Shapes) → Pushable (C.left l a) s → Fits 0 s
      unpushed s r = record { depth = omega (arith, r.depth); weight = omega (arith, r.weight); kept = omega (arith, r.kept); sized = r.sized; remembered = r.remembered }

      go : (c : Option ℕ) → Holds (Pushable (C.left l a)) (given c (push (C.left l a)) (λ times. C.copied N times (C.left l a))) (λ x s. Fits 0 s)
      go none = push_fits (C.left l a)
      go (some times) = record { at = λ s r. (copied_fits N times (C.left l a) 0 r.one).at s (unpushed s r) }

  -- a remembered entry, and that many copies of it
  recall_fits : (j i : ℕ) → Holds (Fits j) (recall i) (λ e s. (1 ≤ e.size) × Fits j s)
  unfolding recall
  recall_fits j i = record { at = λ s f. go s f s.substitutions i f.remembered }
    where
      go : (s : Shapes) → Fits j s → (es : List Entry) (i : ℕ) → AllOf (Bounded s.budget.total) es → Result (λ e s. (1 ≤ e.size) × Fits j s) (given (get_elem? es i) (refused 9) (λ n. ok n s))
      go s f [] i b = tt
      go s f (e ∷ es) zero b = (b.0.0, f)
      go s f (e ∷ es) (suc i) b = go s f es i b.1

  recalled_copies_fit : (j times : ℕ) (e : Entry) → Holds (λ s. (1 ≤ e.size) × Fits j s) (C.copied N times e) (λ x s. Fits j s)
  recalled_copies_fit j times e = record { at = λ s f. (copied_fits N times e j f.0).at s f.1 }

  recalled_fits : (cs : List Op.Substitution) (letter : Late Done) (j : ℕ) → Holds (Fits j) (C.recalled N cs letter) (λ x s. Fits j s)
  unfolding C.recalled
  recalled_fits [] (good x) j = returns x (λ s f. f)
  recalled_fits [] (bad r) j = refuses r
  recalled_fits (c ∷ cs) letter j = bind _ (recall_fits j c.index) λ e. bind _ (recalled_copies_fit j c.times e) λ _. recalled_fits cs letter j

  -- WHAT IS CHARGED never exceeds the ceiling
  abbrev Charged : Shapes → Type 0
  Charged s = s.budget.total ≤ N

  copied_charged : {P : Shapes → Type 0} (times : ℕ) (e : Entry) → Holds P (C.copied N times e) (λ x s. Charged s)
  unfolding C.copied push_copies spend B.charge
  copied_charged times e = record { at = λ s p. go s (leb (s.budget.total + e.size * times) N) refl }
    where
      go : (s : Shapes) (b : Bool) → leb (s.budget.total + e.size * times) N ≡ b →
          Result {A = Done} (λ x s. Charged s) (and_then (spent (if b then ok tt (B.budget s.budget.steps (s.budget.total + e.size * times) s.budget.wraps) else refused 7) s) (λ x. push_copies times e))
      go s true q = leb-true (s.budget.total + e.size * times) N q
      go s false q = tt

  recall_charged : (i : ℕ) → Holds Charged (recall i) (λ e s. Charged s)
  unfolding recall
  recall_charged i = record { at = λ s h. go s h (get_elem? s.substitutions i) }
    where
      go : (s : Shapes) → Charged s → (o : Option Entry) → Result {A = Entry} (λ e s. Charged s) (given o (refused 9) (λ n. ok n s))
      go s h none = tt
      go s h (some e) = h

  recalled_charged : (cs : List Op.Substitution) (letter : Late Done) → Holds Charged (C.recalled N cs letter) (λ x s. Charged s)
  unfolding C.recalled
  recalled_charged [] (good x) = returns x (λ s h. h)
  recalled_charged [] (bad r) = refuses r
  recalled_charged (c ∷ cs) letter = bind _ (recall_charged c.index) λ e. bind _ (copied_charged c.times e) λ _. recalled_charged cs letter

  leave_charged : (s₀ : Shapes) (n g : ℕ) (l : Leaves) (a : Taken) → Charged s₀ → Holds (Taking s₀ n g a) (C.leave N l a) (λ x s. Charged s)
  unfolding C.leave remember push
  leave_charged s₀ n g l a h = bind _ (kept l.remembered) λ _. go l.copies
    where
      kept : (b : Bool) → Holds (Taking s₀ n g a) (if b then remember (C.left l a) else ret tt) (λ x s. Charged s)
      kept true = record { at = λ s t. omega (arith, t.charged, h) }
      kept false = record { at = λ s t. omega (arith, t.charged, h) }

      go : (c : Option ℕ) → Holds Charged (given c (push (C.left l a)) (λ times. C.copied N times (C.left l a))) (λ x s. Charged s)
      go none = record { at = λ s k. k }
      go (some times) = copied_charged times (C.left l a)

-- THE TABLE: no row makes more than 4 nodes besides those that it takes
row_makes_four : C.Row → Bool
row_makes_four (C.recalls cs letter) = true
row_makes_four (C.rule ts l) = leb 1 l.own && leb (l.own + signatures ts) (4 + names ts)

leaves_make_four : (l : Op.Leaf) → T (leb 1 (C.leaf_size l) && leb (C.leaf_size l + 0) 4)
unfolding C.leaf_size
leaves_make_four (Op.module_named name) = tt
leaves_make_four (Op.standard_nominal k name) = tt
leaves_make_four (Op.generic_param p) = tt
leaves_make_four Op.empty_list = tt
leaves_make_four Op.first_element_marker = tt
leaves_make_four Op.variadic_marker = tt
leaves_make_four Op.throws = tt
leaves_make_four Op.async = tt

requirements_make_four : (s : Op.Subject) (c : Op.Constraint) → T (row_makes_four (C.row (Op.requirement s c)))
unfolding row_makes_four C.row C.subject_takes C.subject_own C.letter C.constraint_takes C.constraint_leaves names signatures
requirements_make_four (Op.of_param p) Op.conforms = tt
requirements_make_four (Op.of_param p) Op.superclass = tt
requirements_make_four (Op.of_param p) Op.same_type = tt
requirements_make_four (Op.of_param p) (Op.layout (good x)) = tt
requirements_make_four (Op.of_param p) (Op.layout (bad r)) = tt
requirements_make_four Op.of_stack Op.conforms = tt
requirements_make_four Op.of_stack Op.superclass = tt
requirements_make_four Op.of_stack Op.same_type = tt
requirements_make_four Op.of_stack (Op.layout (good x)) = tt
requirements_make_four Op.of_stack (Op.layout (bad r)) = tt
requirements_make_four (Op.of_member p) Op.conforms = tt
requirements_make_four (Op.of_member p) Op.superclass = tt
requirements_make_four (Op.of_member p) Op.same_type = tt
requirements_make_four (Op.of_member p) (Op.layout (good x)) = tt
requirements_make_four (Op.of_member p) (Op.layout (bad r)) = tt

rows_make_four : (op : Op.Operator) → T (row_makes_four (C.row op))
unfolding row_makes_four C.row C.leaf_size C.subject_takes C.subject_own C.letter C.constraint_takes C.constraint_leaves C.variable_leaves C.about_row names signatures
rows_make_four (Op.substitutions cs letter) = tt
rows_make_four (Op.nominal k) = tt
rows_make_four (Op.leaf l) = leaves_make_four l
rows_make_four (Op.standard repeat l) = leaves_make_four l
rows_make_four (Op.optional repeat) = tt
rows_make_four Op.tuple = tt
rows_make_four Op.function_type = tt
rows_make_four Op.protocol_list = tt
rows_make_four Op.bound_generic = tt
rows_make_four Op.in_out = tt
rows_make_four Op.metatype = tt
rows_make_four (Op.archetype p) = tt
rows_make_four (Op.requirement s c) = requirements_make_four s c
rows_make_four (Op.generic_signature n) = tt
rows_make_four Op.plain_function = tt
rows_make_four (Op.variable (good none)) = tt
rows_make_four (Op.variable (good (some accessor))) = tt
rows_make_four (Op.variable (bad r)) = tt
rows_make_four (Op.initializer b) = tt
rows_make_four (Op.deinitializer b) = tt
rows_make_four Op.variable_initializer = tt
rows_make_four Op.static = tt
rows_make_four (Op.record_of Op.a_type what) = tt
rows_make_four (Op.record_of Op.an_entity what) = tt
rows_make_four (Op.record_of Op.a_context what) = tt
rows_make_four (Op.record_of Op.a_protocol what) = tt
rows_make_four (Op.record_of Op.a_conformance what) = tt
rows_make_four (Op.record_of Op.anything what) = tt
rows_make_four (Op.lazy_witness what) = tt
rows_make_four (Op.value_witness k) = tt
rows_make_four Op.protocol_witness = tt
rows_make_four Op.associated_type = tt
rows_make_four Op.associated_conformance = tt

-- TURNS
nothing_taken : (s : Shapes) → Fits 1 s → Taking s 0 0 (taken 0 0 false) s
nothing_taken s f = record { charged = refl; substitutions = refl; depth = le_of_eq refl; weight = omega arith; sized = f.sized }

module _ (N : ℕ) where
  row_fits : (r : C.Row) → T (row_makes_four r) → Holds (Fits 1) (C.run_row N r) (λ x s. Fits 0 s)
  unfolding C.run_row row_makes_four
  row_fits (C.recalls cs letter) h = before (λ s f. less s f) (recalled_fits N cs letter 0)
    where
      less : (s : Shapes) → Fits 1 s → Fits 0 s
      less s f = record { depth = omega (arith, f.depth); weight = omega (arith, f.weight); kept = omega (arith, f.kept); sized = f.sized; remembered = f.remembered }
  row_fits (C.rule ts l) h = record {
    at = λ s₀ f.
        let g : T (leb 1 l.own) × T (leb (l.own + signatures ts) (4 + names ts)) = both (leb 1 l.own) (leb (l.own + signatures ts) (4 + names ts)) h in
        let p : l.own + (signatures ts + 0) ≤ 4 + (names ts + 0) = omega (arith, leb→le (l.own + signatures ts) (4 + names ts) g.1) in
        (taking_holds s₀ (λ x s. Fits 0 s) ts 0 0 (taken 0 0 false) (C.leave N l) (λ a. leave_fits N s₀ (names ts + 0) (signatures ts + 0) l a f (leb→le 1 l.own g.0) p)).at s₀ (nothing_taken s₀ f);
  }

  row_charged : (r : C.Row) → Holds (λ s. Fits 1 s × Charged N s) (C.run_row N r) (λ x s. Charged N s)
  unfolding C.run_row
  row_charged (C.recalls cs letter) = before (λ s h. h.1) (recalled_charged N cs letter)
  row_charged (C.rule ts l) = record {
    at = λ s₀ h. (taking_holds s₀ (λ x s. Charged N s) ts 0 0 (taken 0 0 false) (C.leave N l) (λ a. leave_charged N s₀ (names ts + 0) (signatures ts + 0) l a h.1)).at s₀ (nothing_taken s₀ h.0);
  }

  name_fits : (words : ℕ) → Holds (Fits 1) (Ch.name N words) (λ x s. Fits 0 s)
  unfolding Ch.name know remember push weigh
  name_fits words = record {
    at = λ s f. record {
      depth = omega (arith, f.depth);
      weight = omega (arith, f.weight);
      kept = rw (length-append s.substitutions (entry K.identifier 1 0 ∷ [])) (omega (arith, f.kept));
      sized = (le_of_eq refl, f.sized);
      remembered = bounded_snoc s.budget.total (entry K.identifier 1 0) s.substitutions (le_of_eq refl, omega (arith, f.kept)) f.remembered;
    };
  }

  step_fits : (j : ℕ) → Holds (Fits j) (spend B.step) (λ x s. Fits j s)
  unfolding spend B.step
  step_fits j = record { at = λ s f. go s f (ltb s.budget.steps 4096) }
    where
      go : (s : Shapes) → Fits j s → (b : Bool) → Result {A = Done} (λ x s. Fits j s) (spent (if b then ok tt (B.budget (suc s.budget.steps) s.budget.total s.budget.wraps) else refused 6) s)
      go s f true = record { depth = f.depth; weight = f.weight; kept = f.kept; sized = f.sized; remembered = f.remembered }
      go s f false = tt

  charge_fits : (j n : ℕ) → Holds (Fits j) (spend (B.charge N n)) (λ x s. Fits (j + n) s)
  unfolding spend B.charge
  charge_fits j n = record { at = λ s f. go s f (leb (s.budget.total + n) N) }
    where
      go : (s : Shapes) → Fits j s → (b : Bool) → Result {A = Done} (λ x s. Fits (j + n) s) (spent (if b then ok tt (B.budget s.budget.steps (s.budget.total + n) s.budget.wraps) else refused 7) s)
      go s f true = record {
        depth = omega (arith, f.depth);
        weight = omega (arith, f.weight);
        kept = omega (arith, f.kept);
        sized = f.sized;
        remembered = bounded_more s.budget.total (s.budget.total + n) s.substitutions (omega arith) f.remembered;
      }
      go s f false = tt

  charge_charged : {P : Shapes → Type 0} (n : ℕ) → Holds P (spend (B.charge N n)) (λ x s. Charged N s)
  unfolding spend B.charge
  charge_charged n = record { at = λ s p. go s (leb (s.budget.total + n) N) refl }
    where
      go : (s : Shapes) (b : Bool) → leb (s.budget.total + n) N ≡ b → Result {A = Done} (λ x s. Charged N s) (spent (if b then ok tt (B.budget s.budget.steps (s.budget.total + n) s.budget.wraps) else refused 7) s)
      go s true q = leb-true (s.budget.total + n) N q
      go s false q = tt

  kept : (P R : Shapes → Type 0) {A : Type 0} (e : Check A) → Holds P e (λ x s. R s) → (s s₁ : Shapes) (a : A) → P s → e s ≡ ok a s₁ → R s₁
  kept P R e h s s₁ a p q = rw q at (h.at s p)

  -- the step and the charge at the beginning of a turn
  begun_fits : Holds (Fits 0) (spend B.step >> spend (B.charge N 1)) (λ x s. Fits 1 s)
  begun_fits = bind _ (step_fits 0) λ _. charge_fits 0 1

  begun_charged : Holds (Fits 0) (spend B.step >> spend (B.charge N 1)) (λ x s. Charged N s)
  begun_charged = bind _ (step_fits 0) λ _. charge_charged 1

  pub begin_keeps : (s s₁ : Shapes) → Fits 0 s → (spend B.step >> spend (B.charge N 1)) s ≡ ok tt s₁ → Fits 1 s₁
  begin_keeps s s₁ f q = kept (Fits 0) (Fits 1) (spend B.step >> spend (B.charge N 1)) begun_fits s s₁ tt f q

  pub begin_total : (s s₁ : Shapes) → Fits 0 s → (spend B.step >> spend (B.charge N 1)) s ≡ ok tt s₁ → s₁.budget.total ≤ N
  begin_total s s₁ f q = kept (Fits 0) (Charged N) (spend B.step >> spend (B.charge N 1)) begun_charged s s₁ tt f q

  -- one operator, given the charge of its turn; a name; and copies of a remembered entry
  pub row_keeps : (op : Op.Operator) (s s₁ : Shapes) → Fits 1 s → C.run_row N (C.row op) s ≡ ok tt s₁ → Fits 0 s₁
  row_keeps op s s₁ f q = kept (Fits 1) (Fits 0) (C.run_row N (C.row op)) (row_fits (C.row op) (rows_make_four op)) s s₁ tt f q

  pub name_keeps : (words : ℕ) (s s₁ : Shapes) → Fits 1 s → Ch.name N words s ≡ ok tt s₁ → Fits 0 s₁
  name_keeps words s s₁ f q = kept (Fits 1) (Fits 0) (Ch.name N words) (name_fits words) s s₁ tt f q

  pub recall_keeps : (times i : ℕ) (s s₁ : Shapes) → Fits 0 s → (recall i >>= λ e. C.copied N times e) s ≡ ok tt s₁ → Fits 0 s₁
  recall_keeps times i s s₁ f q =
      kept (Fits 0) (Fits 0) (recall i >>= λ e. C.copied N times e) (bind _ (recall_fits N 0 i) λ e. recalled_copies_fit N 0 times e) s s₁ tt f q

  -- the charged total is at most the ceiling
  pub row_total : (op : Op.Operator) (s s₁ : Shapes) → Fits 1 s → s.budget.total ≤ N → C.run_row N (C.row op) s ≡ ok tt s₁ → s₁.budget.total ≤ N
  row_total op s s₁ f h q = kept (λ s. Fits 1 s × Charged N s) (Charged N) (C.run_row N (C.row op)) (row_charged (C.row op)) s s₁ tt (f, h) q

  pub recall_total : (times i : ℕ) (s s₁ : Shapes) → s.budget.total ≤ N → (recall i >>= λ e. C.copied N times e) s ≡ ok tt s₁ → s₁.budget.total ≤ N
  recall_total times i s s₁ h q =
      kept (Charged N) (Charged N) (recall i >>= λ e. C.copied N times e) (bind _ (recall_charged N i) λ e. copied_charged N times e) s s₁ tt h q
