-- The step and the charge at the beginning of a turn, however many words are counted. Assumes
-- nothing.
use mathlib.Core.Path.{◌≡◌, refl, sym, ap, subst, ◌∙◌}
use Prim.Native.Nat.{ℕ}
use Rattle.definition.specs.Base.{Out, ok, refused, Done, and_then, ◌>>◌}
use Rattle.definition.specs.Budget as B
use Rattle.definition.specs.Machine.{machine, spent, spend}
use Rattle.definition.specs.Shape.{Shapes}
use Rattle.definition.specs.Enums.{number}
use Rattle.definition.specs.declared.Refusal.{Refusal}
use Rattle.definition.proofs.Room.{begin_keeps, begin_total}
use Rattle.machine.specs.Beyond.{beyond_itself}
use Rattle.check_entries.specs.Lies.{machine_of}
use Rattle.check_entries.specs.EntriesTaken.{Charged, NotCharged}
use Rattle.check_entries.specs.Stores.{Wrote}
use Rattle.check_entries.proofs.Written.{wrote_itself}
use Rattle.check_entries.specs.declared.Entries.{Entries}
use Rattle.check_perform.specs.Performs.{Sound}
use Rattle.check_run.specs.Meant.{with_words}

abbrev pub begin : ℕ → Shapes → Out Shapes Done
begin N = spend B.step >> spend (B.charge N 1)

begin_is : (N : ℕ) (m : Shapes) → begin N m ≡ spent ((B.step >> B.charge N 1) m.budget) m
unfolding spend
begin_is N m = first (B.step m.budget)
  where
    second : (b : B.Budget) (o : Out B.Budget Done) → spent o (machine b m.stack m.substitutions m.words) ≡ spent o m
    second b (ok x d) = refl
    second b (refused r) = refl

    first : (o : Out B.Budget Done) → and_then (spent o m) (λ x. spend (B.charge N 1)) ≡ spent (and_then o (λ x. B.charge N 1)) m
    first (ok x b) = second b (B.charge N 1 b)
    first (refused r) = refl

module _ {s t : Entries} {x : Refusal} (a : NotCharged s t x) where
  pub begin_refused : (v : ℕ) → begin s.ceiling (machine_of (with_words v s)) ≡ refused (number x)
  begin_refused v = begin_is s.ceiling (machine_of (with_words v s)) ∙ ap (λ (o : Out B.Budget Done). spent o (machine_of (with_words v s))) a.is

  pub not_begun : Wrote s t
  not_begun = subst (λ (e : Entries). Wrote s e) (sym a.rest) wrote_itself

module _ {s t : Entries} (a : Charged s t) where
  pub begin_charged : (v : ℕ) → begin s.ceiling (machine_of (with_words v s)) ≡ ok tt (machine_of (with_words v t))
  begin_charged v =
      begin_is s.ceiling (machine_of (with_words v s)) ∙ (ap (λ (o : Out B.Budget Done). spent o (machine_of (with_words v s))) a.is
      ∙ ap (λ (e : Entries). ok tt (machine_of (with_words v e))) (sym a.rest))

  pub same_words : t.state.words ≡ s.state.words
  same_words = ap (λ (e : Entries). e.state.words) a.rest

  -- only the budget is another
  pub begun : Wrote s t
  begun = subst (λ (e : Entries). Wrote s e) (sym a.rest) (record { outside = beyond_itself s.ws.now s.ceiling; lent = record { name = refl; ceiling = refl } })

  -- the charge is available for the operator
  pub begin_sound : Sound 0 s → Sound 1 t
  begin_sound h =
      let e : Entries = record s { state = record s.state { budget = t.state.budget } } in
      let q : begin s.ceiling (machine_of s) ≡ ok tt (machine_of e) = begin_is s.ceiling (machine_of s) ∙ ap (λ (o : Out B.Budget Done). spent o (machine_of s)) a.is in
      subst (λ (x : Entries). Sound 1 x) (sym a.rest) (record {
        long = h.long;
        ceiling = h.ceiling;
        total = begin_total s.ceiling (machine_of s) (machine_of e) h.fits q;
        fits = begin_keeps s.ceiling (machine_of s) (machine_of e) h.fits q;
      })
