-- What represents one entry, by the kind of what was on top. Assumes nothing.
use Rattle.std.specs.Prelude.{Option, Some, None, Result, Ok, Err}
use Rattle.std.specs.Option.{ok_or, is_some as given}
use mathlib.Core.Path.{◌≡◌, ap, ◌∙◌}
use mathlib.Core.Bool.{Bool, true, false, ◌&&◌}
use Prim.Native.Nat.{ℕ, ◌-◌}
use native.Mathlib.Omega.{arith}
use borrow.Author.Tests.{eq-eqb, ne_eqb}
use lib.Dec.{eqb}
use Rattle.definition.specs.Base.{is_some, ret}
use Rattle.definition.specs.Kind as K
use Rattle.definition.specs.Machine as M
use Rattle.definition.specs.Shape as C
use Rattle.definition.specs.Shape.{kind_of}
use Rattle.definition.specs.Enums.{number}
use Rattle.definition.specs.declared.Refusal.{Refusal}
use Rattle.definition.specs.declared.Refusal.TheVariants.{Stack}
use Rattle.check_entries.specs.Lies.{entry_of, machine_of, Held}
use Rattle.check_entries.specs.EntriesTaken.{Went, Refuses, Trying, Popping, Marking, Naming, looked, named_protocol}
use Rattle.check_entries.proofs.Top.{pop_top, pop_other}
use Rattle.check_entries.proofs.Steps.{next, next_refuses, stays, stops, yes_went, no_went, yes_refuses, no_refuses, one_node}
use Rattle.check_entries.specs.declared.Entry.{Entry}
use Rattle.check_entries.specs.declared.Entries.{Entries}

-- A TRY WHOSE RESULT IS USED
module _ (want : ℕ → Bool) (s t : Entries) where
  pub popped : (o : Option Entry) → Trying (C.try want) s t o → {r : Result Entry Refusal} → r ≡ ok_or o Stack → Popping (C.pop_if want) s t r
  unfolding number
  popped (Some e) h q = rw q (record { is = pop_top want (machine_of s) h.is; depth = h.depth; lighter = h.lighter; seen = h.seen; total = h.total; unwritten = h.unwritten; lent = h.lent })
  popped None h q = rw q (record { is = pop_other want (machine_of s) h.is; unwritten = h.unwritten; lent = h.lent })

  pub looks : Held s → (o : Option Entry) → Trying (C.try want) s t o → {b : Bool} → b ≡ given o → Marking (looked want) s t b
  unfolding is_some
  looks k (Some e) h q = rw q (next (λ x. ret (is_some x)) (one_node k h) (stays true) (omega arith) (omega arith))
  looks k None h q = rw q (next (λ x. ret (is_some x)) h (stays false) (omega arith) (omega arith))

module _ {s t : Entries} {e : Entry} (h : Went (M.pop kind_of) s t 1 e.size (entry_of e)) where
  pub name_there : e.kind ≡ 0 → Went C.pop_name s t 0 0 tt
  unfolding C.pop_name C.name_in
  name_there q = next _ h (yes_went _ (eq-eqb e.kind 0 q) (stays tt)) (omega arith) (omega arith)

  pub name_other : (e.kind ≡ 0 → ⊥) → Refuses C.pop_name s t Stack
  unfolding C.pop_name C.name_in number
  name_other q = next_refuses _ h (no_refuses _ (ne_eqb e.kind 0 q) (stops Stack))

  -- an identifier represents a module
  pub context_module : Held s → e.kind ≡ 0 → Went C.context s t 1 1 (K.entry 1 1 0)
  unfolding C.context C.context_in
  context_module k q = next _ (one_node k h) (yes_went _ (eq-eqb e.kind 0 q) (stays (K.entry 1 1 0))) (omega arith) (omega arith)

  pub context_itself : (e.kind ≡ 0 → ⊥) → K.is_context e.kind ≡ true → Went C.context s t 1 e.size (entry_of e)
  unfolding C.context C.context_in
  context_itself q r = next _ h (no_went _ (ne_eqb e.kind 0 q) (yes_went _ r (stays (entry_of e)))) (omega arith) (omega arith)

  pub context_other : (e.kind ≡ 0 → ⊥) → K.is_context e.kind ≡ false → Refuses C.context s t Stack
  unfolding C.context C.context_in number
  context_other q r = next_refuses _ h (no_refuses _ (ne_eqb e.kind 0 q) (no_refuses _ r (stops Stack)))

  pub protocol_itself : e.kind ≡ 5 → Went C.protocol s t 1 e.size (entry_of e)
  unfolding C.protocol C.protocol_in
  protocol_itself q = next _ h (yes_went _ (eq-eqb e.kind 5 q) (stays (entry_of e))) (omega arith) (omega arith)

  -- a list of one represents its member
  pub protocol_member : e.kind ≡ 15 → e.count ≡ 1 → Went C.protocol s t 1 (e.size - 1) (K.entry 5 (e.size - 1) 0)
  unfolding C.protocol C.protocol_in
  protocol_member q r =
      let x : eqb e.kind 5 ≡ false = ap (λ (k : ℕ). eqb k 5) q in
      let y : (eqb e.kind 15 && eqb e.count 1) ≡ true = ap (λ (k : ℕ). eqb k 15 && eqb e.count 1) q ∙ ap (λ (k : ℕ). eqb k 1) r in
      next _ h (no_went _ x (yes_went _ y (stays (K.entry 5 (e.size - 1) 0)))) (omega arith) (omega arith)

  -- an identifier and a context name it
  named_is : e.kind ≡ 0 → {l m : ℕ} {p : K.Entry} {u : Entries} → Went named_protocol t u l m p → Went (C.protocol_in (entry_of e)) t u l m p
  unfolding C.protocol_in
  named_is q g =
      let x : eqb e.kind 5 ≡ false = ap (λ (k : ℕ). eqb k 5) q in
      let y : (eqb e.kind 15 && eqb e.count 1) ≡ false = ap (λ (k : ℕ). eqb k 15 && eqb e.count 1) q in
      no_went _ x (no_went _ y (yes_went _ (eq-eqb e.kind 0 q) g))

  unnamed_is : e.kind ≡ 0 → {r : Refusal} {u : Entries} → Refuses named_protocol t u r → Refuses (C.protocol_in (entry_of e)) t u r
  unfolding C.protocol_in
  unnamed_is q g =
      let x : eqb e.kind 5 ≡ false = ap (λ (k : ℕ). eqb k 5) q in
      let y : (eqb e.kind 15 && eqb e.count 1) ≡ false = ap (λ (k : ℕ). eqb k 15 && eqb e.count 1) q in
      no_refuses _ x (no_refuses _ y (yes_refuses _ (eq-eqb e.kind 0 q) g))

  pub protocol_named : Held s → e.kind ≡ 0 → (u : Entries) (r : Result Entry Refusal) → Naming t u r → Popping C.protocol s u r
  unfolding C.protocol
  protocol_named k q u (Ok p) g = next _ (one_node k h) (named_is q g) (omega arith) (omega arith)
  protocol_named k q u (Err f) g = next_refuses _ h (unnamed_is q g)

  pub protocol_other : (e.kind ≡ 5 → ⊥) → (e.kind ≡ 0 → ⊥) → (eqb e.kind 15 && eqb e.count 1) ≡ false → Refuses C.protocol s t Stack
  unfolding C.protocol C.protocol_in number
  protocol_other p z q = next_refuses _ h (no_refuses _ (ne_eqb e.kind 5 p) (no_refuses _ q (no_refuses _ (ne_eqb e.kind 0 z) (stops Stack))))

pub not_list : (k n : ℕ) → (k ≡ 15 → ⊥) → (eqb k 15 && eqb n 1) ≡ false
not_list k n q = rw (ne_eqb k 15 q)

pub not_one : (k n : ℕ) → k ≡ 15 → (n ≡ 1 → ⊥) → (eqb k 15 && eqb n 1) ≡ false
not_one k n p q = rw (eq-eqb k 15 p, ne_eqb n 1 q)

-- a side of a function type
module _ {s t : Entries} where
  pub side_empty : Went (C.took K.empty_list) s t 1 1 true → Went C.side s t 1 1 (K.entry 9 1 0)
  unfolding C.side
  side_empty h = next _ h (stays (K.entry 9 1 0)) (omega arith) (omega arith)

  pub side_type : Went (C.took K.empty_list) s t 0 0 false → (u : Entries) (r : Result Entry Refusal) → Popping (C.pop_if K.is_type) t u r → Popping C.side s u r
  unfolding C.side
  side_type h u (Ok e) g = next _ h g (omega arith) (omega arith)
  side_type h u (Err r) g = next_refuses _ h g
