-- Labels, and rounds of the loops over lists. Assumes nothing.
use Rattle.std.specs.Prelude.{if◌then◌else◌}
use mathlib.Core.Path.{◌≡◌, refl, sym, ap, ◌∙◌}
use mathlib.Core.Bool.{Bool, true, false}
use mathlib.Core.Option.{some, none}
use Prim.Native.Nat.{ℕ, suc, ◌+◌, ◌-◌, ◌≤◌, ◌<◌}
use native.Mathlib.Omega.{arith}
use borrow.Author.Tests.{eq-eqb, ne_eqb}
use lib.Dec.{eqb}
use Rattle.definition.specs.Base.{ret, and_then}
use Rattle.definition.specs.Kind as K
use Rattle.definition.specs.Machine as M
use Rattle.definition.specs.Machine.{rounds}
use Rattle.definition.specs.Shape as C
use Rattle.definition.specs.Shape.{Check, kind_of}
use Rattle.definition.specs.Enums.{number}
use Rattle.definition.specs.declared.Refusal.{Refusal}
use Rattle.definition.specs.declared.Refusal.TheVariants.{Stack}
use Rattle.check_entries.specs.Lies.{machine_of, entry_of, Lent}
use Rattle.check_entries.specs.EntriesTaken.{Went, Refuses, looked}
use Rattle.check_takes.specs.Taken.{taken_of}
use Rattle.check_takes.specs.ListRounds.{one_label, all_of, Adds, Gathered, Last, More, Fails, Gathers}
use Rattle.check_entries.proofs.Top.{length_stack, held_less, lighter, same_lent}
use Rattle.check_entries.proofs.Steps.{assoc, on, off, past, lent_both, next, next_refuses, stays, stops, yes_went, no_went, no_refuses}
use Rattle.check_entries.specs.declared.Entry.{Entry}
use Rattle.check_entries.specs.declared.Entries.{Entries}
use Rattle.check_takes.specs.declared.sums.Taken.{Taken}

-- LABELS
module _ {s t : Entries} {e : Entry} (h : Went (M.pop kind_of) s t 1 e.size (entry_of e)) where
  pub label_name : e.kind ≡ 0 → Went one_label s t 0 0 tt
  unfolding C.label_in
  label_name q = next _ h (yes_went _ (eq-eqb e.kind 0 q) (stays tt)) (omega arith) (omega arith)

  pub label_marker : (e.kind ≡ 0 → ⊥) → e.kind ≡ 31 → Went one_label s t 0 0 tt
  unfolding C.label_in
  label_marker z q = next _ h (no_went _ (ne_eqb e.kind 0 z) (yes_went _ (eq-eqb e.kind 31 q) (stays tt))) (omega arith) (omega arith)

  pub label_other : (e.kind ≡ 0 → ⊥) → (e.kind ≡ 31 → ⊥) → Refuses one_label s t Stack
  unfolding C.label_in number
  label_other z q = next_refuses _ h (no_refuses _ (ne_eqb e.kind 0 z) (no_refuses _ (ne_eqb e.kind 31 q) (stops Stack)))

-- the labels up to here: k of n are left
pub record Labelled (s : Entries) (n : ℕ) (t : Entries) (k : ℕ) : Type 0 where
  pub is : C.labels_from n (machine_of s) ≡ C.labels_from k (machine_of t)
  pub depth : t.state.depth ≤ s.state.depth
  pub seen : t.state.seen ≡ s.state.seen
  pub total : t.state.budget.total ≡ s.state.budget.total
  pub unwritten : t.ws.now ≡ s.ws.now
  pub lent : Lent s t

pub labels_start : (s : Entries) (n : ℕ) → Labelled s n s n
labels_start s n = record { is = refl; depth = omega arith; seen = refl; total = refl; unwritten = refl; lent = same_lent }

module _ {s t : Entries} {n k : ℕ} (r : Labelled s n t k) where
  one_left : 0 < k → C.labels_from n (machine_of s) ≡ and_then (one_label (machine_of t)) (λ x. C.labels_from (k - 1))
  unfolding C.labels_from
  one_left h =
      let q : k ≡ suc (k - 1) = omega arith in
      r.is ∙ (ap (λ (j : ℕ). C.labels_from j (machine_of t)) q ∙ sym (assoc (M.pop kind_of (machine_of t)) C.label_in (λ x. C.labels_from (k - 1))))

  pub labels_more : {u : Entries} → 0 < k → Went one_label t u 0 0 tt → Labelled s n u (k - 1)
  labels_more h g = record { is = one_left h ∙ on g _; depth = omega (arith, r.depth, g.depth); seen = g.seen ∙ r.seen; total = g.total ∙ r.total; unwritten = g.unwritten ∙ r.unwritten; lent = lent_both r.lent g.lent }

  pub labels_fail : {u : Entries} {x : Refusal} → 0 < k → Refuses one_label t u x → Refuses (C.labels_from n) s u x
  labels_fail h g = record { is = one_left h ∙ off g _; unwritten = g.unwritten ∙ r.unwritten; lent = lent_both r.lent g.lent }

  pub labels_end : k ≡ 0 → Went (C.labels_from n) s t 0 0 tt
  unfolding C.labels_from
  labels_end z = record { is = r.is ∙ ap (λ (j : ℕ). C.labels_from j (machine_of t)) z; depth = omega (arith, r.depth); lighter = omega (arith, lighter s t r.unwritten r.depth); seen = r.seen; total = r.total; unwritten = r.unwritten; lent = r.lent }

-- ADDING UP
-- with another count
pub recounted : {x y : C.Taken} {n m : ℕ} → x ≡ y → n ≡ m → C.taken x.size n x.signed ≡ C.taken y.size m y.signed
recounted p q = cc

-- an entry was taken, and is counted
pub one_more : {A : Type 0} {f : Check A} {s t : Entries} {x : A} (e : Entry) {a b : Taken} → Went f s t 1 e.size x → taken_of b ≡ C.add_counted (entry_of e) (taken_of a) → Gathered s a t b
one_more e {a = a} {b = b} h q =
    let m : b.size ≡ e.size + a.size = ap (λ (x : C.Taken). x.size) q in
    let n : b.count ≡ suc a.count = ap (λ (x : C.Taken). x.count) q in
    record { depth = omega (arith, h.depth); size = omega (arith, h.lighter, m); count = omega (arith, h.depth, n); seen = h.seen; total = h.total; unwritten = h.unwritten; lent = h.lent }

-- nothing is added
pub no_more : {A : Type 0} {f : Check A} {s t : Entries} {x : A} {l m : ℕ} (a : Taken) → Went f s t l m x → Gathered s a t a
no_more a h = record { depth = omega (arith, h.depth); size = omega (arith, h.lighter); count = omega (arith, h.depth); seen = h.seen; total = h.total; unwritten = h.unwritten; lent = h.lent }

-- another step succeeded before
pub before : {A : Type 0} {f : Check A} {s t u : Entries} {x : A} {l m : ℕ} {a b : Taken} → Went f s t l m x → Gathered t a u b → Gathered s a u b
before h g = record { depth = omega (arith, h.depth, g.depth); size = omega (arith, h.lighter, g.size); count = omega (arith, h.depth, g.count); seen = g.seen ∙ h.seen; total = g.total ∙ h.total; unwritten = g.unwritten ∙ h.unwritten; lent = lent_both h.lent g.lent }

pub gathered_both : {s t u : Entries} {a b d : Taken} → Gathered s a t b → Gathered t b u d → Gathered s a u d
gathered_both h g = record { depth = omega (arith, h.depth, g.depth); size = omega (arith, h.size, g.size); count = omega (arith, h.count, g.count); seen = g.seen ∙ h.seen; total = g.total ∙ h.total; unwritten = g.unwritten ∙ h.unwritten; lent = lent_both h.lent g.lent }

pub gathered_none : {s : Entries} {a : Taken} → Gathered s a s a
gathered_none = record { depth = omega arith; size = omega arith; count = omega arith; seen = refl; total = refl; unwritten = refl; lent = same_lent }

pub adds_after : {s t : Entries} {a b : Taken} → Adds s a → Gathered s a t b → Adds t b
adds_after h g = record { held = held_less h.held g.unwritten g.depth; light = omega (arith, h.light, g.size); few = omega (arith, h.few, g.count) }

-- ONE ROUND
module _ {s t : Entries} {first : Bool} {l m : ℕ} (h : Went (C.took K.first_element_marker) s t l m first) where
  module _ {u v : Entries} {l₁ m₁ l₂ m₂ : ℕ} {b₁ b₂ : Bool} (h₁ : Went (C.took K.variadic_marker) t u l₁ m₁ b₁) (h₂ : Went (looked K.is_identifier) u v l₂ m₂ b₂) where
    module _ {w : Entries} {e : Entry} (h₃ : Went (C.pop_if K.is_type) v w 1 e.size (entry_of e)) (a : Taken) {b : Taken} (q : taken_of b ≡ C.add_counted (entry_of e) (taken_of a)) where
      element_is : (f : ℕ) → C.elements_from (suc f) (taken_of a) (machine_of s) ≡ (if first then ret (taken_of b) else C.elements_from f (taken_of b)) (machine_of w)
      unfolding C.elements_from
      element_is f = on h _ ∙ (on h₁ _ ∙ (past K.is_identifier h₂ _ ∙ (on h₃ _ ∙ ap (λ (x : C.Taken). (if first then ret x else C.elements_from f x) (machine_of w)) (sym q))))

      added_up : Gathered s a w b
      added_up = before h (before h₁ (before h₂ (one_more e h₃ q)))

      pub element_last : first ≡ true → Last C.elements_from s a w b
      element_last p = record { is = λ f. rw p at (element_is f); gathered = added_up }

      pub element_more : first ≡ false → More C.elements_from s a w b
      element_more p = record { is = λ f. rw p at (element_is f); less = omega (arith, h.depth, h₁.depth, h₂.depth, h₃.depth); gathered = added_up }

    pub element_fails : {w : Entries} {r : Refusal} → Refuses (C.pop_if K.is_type) v w r → (a : Taken) → Fails C.elements_from s a w r
    unfolding C.elements_from
    element_fails h₃ a = record {
      is = λ f. on h _ ∙ (on h₁ _ ∙ (past K.is_identifier h₂ _ ∙ off h₃ _));
      unwritten = h₃.unwritten ∙ (h₂.unwritten ∙ (h₁.unwritten ∙ h.unwritten));
      lent = lent_both h.lent (lent_both h₁.lent (lent_both h₂.lent h₃.lent));
    }

  module _ {w : Entries} {e : Entry} (h₁ : Went C.protocol t w 1 e.size (entry_of e)) (a : Taken) {b : Taken} (q : taken_of b ≡ C.add_counted (entry_of e) (taken_of a)) where
    member_is : (f : ℕ) → C.members_from (suc f) (taken_of a) (machine_of s) ≡ (if first then ret (taken_of b) else C.members_from f (taken_of b)) (machine_of w)
    unfolding C.members_from
    member_is f = on h _ ∙ (on h₁ _ ∙ ap (λ (x : C.Taken). (if first then ret x else C.members_from f x) (machine_of w)) (sym q))

    pub member_last : first ≡ true → Last C.members_from s a w b
    member_last p = record { is = λ f. rw p at (member_is f); gathered = before h (one_more e h₁ q) }

    pub member_more : first ≡ false → More C.members_from s a w b
    member_more p = record { is = λ f. rw p at (member_is f); less = omega (arith, h.depth, h₁.depth); gathered = before h (one_more e h₁ q) }

  pub member_fails : {w : Entries} {r : Refusal} → Refuses C.protocol t w r → (a : Taken) → Fails C.members_from s a w r
  unfolding C.members_from
  member_fails h₁ a = record { is = λ f. on h _ ∙ off h₁ _; unwritten = h₁.unwritten ∙ h.unwritten; lent = lent_both h.lent h₁.lent }

module _ {s t : Entries} where
  module _ {e : Entry} {a b : Taken} (q : taken_of b ≡ C.add_counted (entry_of e) (taken_of a)) where
    pub argument_more : Went (C.try K.is_type) s t 1 e.size (some (entry_of e)) → More C.arguments_from s a t b
    unfolding C.arguments_from
    argument_more h = record { is = λ f. on h _ ∙ ap (λ (x : C.Taken). C.arguments_from f x (machine_of t)) (sym q); less = omega (arith, h.depth); gathered = one_more e h q }

    pub requirement_more : Went (C.try K.is_requirement) s t 1 e.size (some (entry_of e)) → More C.requirements_from s a t b
    unfolding C.requirements_from
    requirement_more h = record { is = λ f. on h _ ∙ ap (λ (x : C.Taken). C.requirements_from f x (machine_of t)) (sym q); less = omega (arith, h.depth); gathered = one_more e h q }

  pub requirement_last : Went (C.try K.is_requirement) s t 0 0 none → (a : Taken) → Last C.requirements_from s a t a
  unfolding C.requirements_from
  requirement_last h a = record { is = λ f. on h _; gathered = no_more a h }

  -- no argument is on top: the empty list, or the marker between two lists of arguments
  module _ (h : Went (C.try K.is_type) s t 0 0 none) (a : Taken) where
    pub arguments_end : {u : Entries} → Went (C.took K.empty_list) t u 1 1 true → Last C.arguments_from s a u a
    unfolding C.arguments_from
    arguments_end g = record { is = λ f. on h _ ∙ on g _; gathered = before h (no_more a g) }

    module _ {u v : Entries} (g : Went (C.took K.empty_list) t u 0 0 false) where
      pub arguments_go_on : {m : ℕ} {x : K.Entry} → Went (C.pop_if (eqb K.first_element_marker)) u v 1 m x → More C.arguments_from s a v a
      unfolding C.arguments_from
      arguments_go_on k = record { is = λ f. on h _ ∙ (on g _ ∙ on k _); less = omega (arith, h.depth, g.depth, k.depth); gathered = before h (before g (no_more a k)) }

      pub arguments_fail : {r : Refusal} → Refuses (C.pop_if (eqb K.first_element_marker)) u v r → Fails C.arguments_from s a v r
      unfolding C.arguments_from
      arguments_fail k = record { is = λ f. on h _ ∙ (on g _ ∙ off k _); unwritten = k.unwritten ∙ (g.unwritten ∙ h.unwritten); lent = lent_both h.lent (lent_both g.lent k.lent) }

-- ALL ROUNDS: those up to here; the remaining number is enough
pub record Rounds (E : ℕ → C.Taken → Check C.Taken) (s : Entries) (a : Taken) (t : Entries) (b : Taken) : Type 0 where
  pub left : ℕ
  pub enough : t.state.depth < left
  pub is : all_of E (taken_of a) (machine_of s) ≡ E left (taken_of b) (machine_of t)
  pub gathered : Gathered s a t b

pub rounds_start : (E : ℕ → C.Taken → Check C.Taken) (s : Entries) (a : Taken) → Rounds E s a s a
unfolding rounds
rounds_start E s a = record { left = suc s.state.depth; enough = omega arith; is = ap (λ (n : ℕ). E (suc n) (taken_of a) (machine_of s)) (length_stack s.ws.now s.state.depth); gathered = gathered_none }

module _ {E : ℕ → C.Taken → Check C.Taken} {s t : Entries} {a b : Taken} (r : Rounds E s a t b) where
  -- a round is left
  one_round : (k : ℕ) → t.state.depth < k → k ≡ suc (k - 1)
  one_round k h = omega arith

  from_left : all_of E (taken_of a) (machine_of s) ≡ E (suc (r.left - 1)) (taken_of b) (machine_of t)
  from_left = r.is ∙ ap (λ (n : ℕ). E n (taken_of b) (machine_of t)) (one_round r.left r.enough)

  pub rounds_last : {d : Taken} {u : Entries} → Last E t b u d → Gathers (all_of E (taken_of a)) s a u d
  rounds_last h = record { is = from_left ∙ h.is (r.left - 1); gathered = gathered_both r.gathered h.gathered }

  pub rounds_more : {d : Taken} {u : Entries} → More E t b u d → Rounds E s a u d
  rounds_more h = record { left = r.left - 1; enough = omega (arith, r.enough, h.less); is = from_left ∙ h.is (r.left - 1); gathered = gathered_both r.gathered h.gathered }

  pub rounds_fail : {u : Entries} {x : Refusal} → Fails E t b u x → Refuses (all_of E (taken_of a)) s u x
  rounds_fail h = record { is = from_left ∙ h.is (r.left - 1); unwritten = h.unwritten ∙ r.gathered.unwritten; lent = lent_both r.gathered.lent h.lent }
