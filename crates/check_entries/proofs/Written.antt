-- The machine in a workspace that was written. Assumes nothing.
use mathlib.Core.Path.{◌≡◌, refl, sym, ap, subst, ◌∙◌}
use mathlib.Core.List.{List, [], ◌∷◌, ◌++◌}
use Prim.Native.Nat.{ℕ, zero, suc, ◌+◌, ◌*◌, ◌≤◌, ◌<◌}
use native.Mathlib.Omega.{arith}
use native.Mathlib.Numerals.{add-one}
use lib.ListN.{length, get_or, replicate, length-append, length-replicate}
use Rattle.definition.specs.Base.{Out, ok, refused, Done, and_then}
use Rattle.definition.specs.Kind as K
use Rattle.definition.specs.Budget as B
use Rattle.definition.specs.Machine as M
use Rattle.definition.specs.Machine.{spent, spend}
use Rattle.definition.specs.Shape as C
use Rattle.definition.specs.Shape.{Shapes}
use Rattle.definition.specs.Enums.{number}
use Rattle.definition.specs.declared.Refusal.{Refusal}
use Rattle.machine.specs.Spent.{budget_of}
use Rattle.machine.specs.declared.budget.Budget.{Budget}
use Rattle.machine.specs.Beyond.{Beyond, beyond_itself, beyond_both}
use Rattle.check_entries.specs.Lies.{stack_of, seen_of, entry_of, entry_at, machine_of}
use Rattle.check_entries.specs.Stores.{Storing, Wrote, Did, Failed, Remembered}
use Rattle.check_entries.proofs.Top.{length_stack, same_lent}
use Rattle.check_entries.proofs.Steps.{lent_both}
use Rattle.check_entries.specs.declared.Entry.{Entry}
use Rattle.check_entries.specs.declared.State.{State}
use Rattle.check_entries.specs.declared.Entries.{Entries}

entry_same : {a b d a₁ b₁ d₁ : ℕ} → a ≡ a₁ → b ≡ b₁ → d ≡ d₁ → K.entry a b d ≡ K.entry a₁ b₁ d₁
entry_same {a} {b} {d} {a₁} {b₁} {d₁} p q r = ap (λ (x : ℕ). K.entry x b d) p ∙ (ap (λ (x : ℕ). K.entry a₁ x d) q ∙ ap (λ (x : ℕ). K.entry a₁ b₁ x) r)

-- WHAT IS UNCHANGED
module _ (w w₁ : List ℕ) where
  at_same : (i : ℕ) → ((k : ℕ) → 3 * i ≤ k → k < 3 * i + 3 → get_or w₁ k 0 ≡ get_or w k 0) → entry_at w₁ i ≡ entry_at w i
  at_same i h = entry_same (h (3 * i) (omega arith) (omega arith)) (h (3 * i + 1) (omega arith) (omega arith)) (h (3 * i + 2) (omega arith) (omega arith))

  pub stack_same : (d : ℕ) → ((k : ℕ) → k < 3 * d → get_or w₁ k 0 ≡ get_or w k 0) → stack_of w₁ d ≡ stack_of w d
  unfolding stack_of
  stack_same zero h = refl
  stack_same (suc d) h =
      ap (λ (x : K.Entry). x ∷ stack_of w₁ d) (at_same d (λ k p q. h k (omega arith))) ∙ ap (λ (l : List K.Entry). entry_at w d ∷ l) (stack_same d (λ k p. h k (omega arith)))

  pub seen_same : (N n : ℕ) → ((k : ℕ) → 3 * N ≤ k → k < 3 * (N + n) → get_or w₁ k 0 ≡ get_or w k 0) → seen_of w₁ N n ≡ seen_of w N n
  unfolding seen_of
  seen_same N zero h = refl
  seen_same N (suc n) h =
      ap (λ (l : List K.Entry). l ++ (entry_at w₁ (N + n) ∷ [])) (seen_same N n (λ k p q. h k p (omega arith)))
      ∙ ap (λ (x : K.Entry). seen_of w N n ++ (x ∷ [])) (at_same (N + n) (λ k p q. h k (omega arith) (omega arith)))

-- one more on the stack
module _ {s t : Entries} {e : Entry} (h : Storing s t s.state.depth e) (room : s.state.depth < s.ceiling) where
  on_top : stack_of t.ws.now (s.state.depth + 1) ≡ entry_of e ∷ stack_of s.ws.now s.state.depth
  unfolding stack_of
  on_top =
      ap (stack_of t.ws.now) (add-one s.state.depth) ∙ (ap (λ (x : K.Entry). x ∷ stack_of t.ws.now s.state.depth) h.stored.there
      ∙ ap (λ (l : List K.Entry). entry_of e ∷ l) (stack_same s.ws.now t.ws.now s.state.depth h.stored.below))

  pub pushed : Did (M.push (entry_of e)) s (record t { state = record t.state { depth = t.state.depth + 1 } })
  unfolding M.push
  pushed =
      let stack = on_top in
      let seen = seen_same s.ws.now t.ws.now s.ceiling s.state.seen (λ k p q. h.stored.above k (omega arith)) in
      let state = h.state in
      let ceiling = h.lent.ceiling in
      record {
        is = cc;
        wrote = record { outside = record { long = h.stored.long; past = λ k p. h.stored.above k (omega arith) }; lent = record { name = h.lent.name; ceiling = h.lent.ceiling } };
      }

-- one more remembered
module _ {s t : Entries} {e : Entry} (h : Storing s t (s.ceiling + s.state.seen) e) (room : s.state.seen < s.ceiling) (low : s.state.depth ≤ s.ceiling) where
  last : seen_of t.ws.now s.ceiling (s.state.seen + 1) ≡ seen_of s.ws.now s.ceiling s.state.seen ++ (entry_of e ∷ [])
  unfolding seen_of
  last =
      ap (seen_of t.ws.now s.ceiling) (add-one s.state.seen) ∙ (ap (λ (x : K.Entry). seen_of t.ws.now s.ceiling s.state.seen ++ (x ∷ [])) h.stored.there
      ∙ ap (λ (l : List K.Entry). l ++ (entry_of e ∷ [])) (seen_same s.ws.now t.ws.now s.ceiling s.state.seen (λ k p q. h.stored.below k (omega arith))))

  pub remembered_is : Remembered (M.remember (entry_of e)) s (record t { state = record t.state { seen = t.state.seen + 1 } })
  unfolding M.remember
  remembered_is =
      let stack = stack_same s.ws.now t.ws.now s.state.depth (λ k p. h.stored.below k (omega arith)) in
      let seen = last in
      let state = h.state in
      let ceiling = h.lent.ceiling in
      record {
        did = record {
          is = cc;
          wrote = record { outside = record { long = h.stored.long; past = λ k p. h.stored.above k (omega arith) }; lent = record { name = h.lent.name; ceiling = h.lent.ceiling } };
        };
        depth = ap (λ (x : State). x.depth) h.state;
        budget = ap (λ (x : State). x.budget) h.state;
        seen = omega (arith, ap (λ (x : State). x.seen) h.state);
      }

-- STEPS THAT WRITE, one after another
pub wrote_itself : {s : Entries} → Wrote s s
wrote_itself {s} = record { outside = beyond_itself s.ws.now s.ceiling; lent = same_lent }

pub wrote_both : {s t u : Entries} → Wrote s t → Wrote t u → Wrote s u
wrote_both {s} {t} {u} h g = record {
  outside = beyond_both h.outside (subst (λ (N : ℕ). Beyond 8 N t.ws.now u.ws.now) h.lent.ceiling g.outside);
  lent = lent_both h.lent g.lent;
}

-- COPIES: i of them are on top of what was there
pub no_copies : (s : Entries) (e : Entry) → Did (M.push_copies 0 (entry_of e)) s s
unfolding M.push_copies
no_copies s e = record { is = refl; wrote = wrote_itself }

module _ {s t : Entries} (e : Entry) (i : ℕ) (c : Did (M.push_copies i (entry_of e)) s t) where
  copies_are : M.restack (replicate i (entry_of e) ++ (machine_of s).stack) (machine_of s) ≡ machine_of t
  unfolding M.push_copies
  copies_are = let q = c.is in cc

  pub copies_depth : t.state.depth ≡ s.state.depth + i
  copies_depth =
      sym (length_stack t.ws.now t.state.depth) ∙ (sym (ap (λ (m : Shapes). length m.stack) copies_are)
      ∙ (length-append (replicate i (entry_of e)) (stack_of s.ws.now s.state.depth) ∙ omega (arith, length_stack s.ws.now s.state.depth, length-replicate i (entry_of e))))

  pub one_copy : {u : Entries} → Did (M.push (entry_of e)) t u → Did (M.push_copies (i + 1) (entry_of e)) s u
  unfolding M.push_copies M.push
  one_copy h = record {
    is = rw (add-one i) (ap (λ (m : Shapes). M.push (entry_of e) m) copies_are ∙ h.is);
    wrote = wrote_both c.wrote h.wrote;
  }

-- copies, each charged its size
module _ {s t : Entries} (e : Entry) (times : ℕ) where
  pub copied_done : (b : Budget) → B.charge s.ceiling (e.size * times) (budget_of s.state.budget) ≡ ok tt (budget_of b) → Did (M.push_copies times (entry_of e)) (record s { state = record s.state { budget = b } }) t → Did (C.copied s.ceiling times (entry_of e)) s t
  unfolding C.copied spend
  copied_done b q h = record { is = ap (λ (o : Out B.Budget Done). and_then (spent o (machine_of s)) (λ x. M.push_copies times (entry_of e))) q ∙ h.is; wrote = record { outside = h.wrote.outside; lent = record { name = h.wrote.lent.name; ceiling = h.wrote.lent.ceiling } } }

pub copied_refused : {s : Entries} (e : Entry) (times : ℕ) (r : Refusal) → B.charge s.ceiling (e.size * times) (budget_of s.state.budget) ≡ refused (number r) → Failed (C.copied s.ceiling times (entry_of e)) s s r
unfolding C.copied spend
copied_refused {s} e times r q = record { is = ap (λ (o : Out B.Budget Done). and_then (spent o (machine_of s)) (λ x. M.push_copies times (entry_of e))) q; wrote = wrote_itself }
