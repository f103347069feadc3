-- The result at the end of the check. Assumes nothing.
use Rattle.std.specs.Prelude.{Option as Written, Ok, Err}
use Rattle.std.specs.Borrow.{MutBor}
use mathlib.Core.Path.{◌≡◌, refl, sym, ap, subst, ◌∙◌}
use mathlib.Core.Bool.{Bool, true, false, not}
use mathlib.Core.List.{List, [], reverse}
use mathlib.Core.Option.{Option, some, none}
use Prim.Native.Nat.{ℕ, ◌+◌}
use lib.Dec.{T}
use lib.ListN.{length}
use Rattle.definition.specs.Base.{given, is_some}
use Rattle.definition.specs.Text.{Text, Symbol}
use Rattle.definition.specs.Kind as K₀
use Rattle.definition.specs.Shape as C
use Rattle.definition.specs.Calls as Calls
use Rattle.definition.specs.Calls.{refusal, accepted, within, admit, single, finished, entry_numbers}
use Rattle.definition.specs.Check as Check
use Rattle.definition.specs.Enums.{number, values}
use Rattle.definition.specs.Enums.{Answer}
use Rattle.definition.specs.declared.Refusal.TheVariants as Refusal
use Rattle.machine.specs.Beyond.{Beyond}
use Rattle.machine.specs.Spent.{budget_of}
use Rattle.machine.specs.RunEnds.{kinds_of, Writing}
use Rattle.machine.specs.declared.runs.Final.{Final}
use Rattle.call_endings.specs.Answers.{Answers, Stacked}
use Rattle.call_endings.proofs.Ends.{answers_is, refused_answers, stacked_answers, ended_ran, ended_stopped}
use Rattle.check_entries.specs.Lies.{machine_of, stack_of, Begun}
use Rattle.check_entries.specs.Stores.{Wrote}
use Rattle.check_entries.specs.declared.Entries.{Entries}
use Rattle.check_run.specs.Meant.{with_words}
use Rattle.check_run.specs.Runs as K
use Rattle.definition.specs.declared.Refused.{Refused}
use Rattle.call_endings.specs.Workspace.{Scratch}
use Rattle.call_endings.proofs.Entering.{entered, entered_values, scratch_run}
use Rattle.call_endings.proofs.Runs.{check_ran, within_late, check_k_ran as check_k_runs}
use Rattle.call_admission.specs.Admits.{framed, parts, Passed}
use Rattle.call_admission.specs.declared.admitted.Admitted.{Admitted}
use Rattle.swift_shape.specs.Calls.{check_whole, check_stopped as stopped_call}

-- the workspace once it is no longer lent
pub given_back : {r : MutBor (List ℕ)} {N : ℕ} {s t : Entries} {w : List ℕ} → Begun r N s → Wrote s t → (r.ghost_name ≡ t.ws.ghost_name → w ≡ t.ws.now) → Beyond 8 N r.now w
given_back {r} {N} {s} {t} {w} b h q =
    let e : w ≡ t.ws.now = q (sym (h.lent.name ∙ b.name)) in
    rw (e, ← b.now, ← b.ceiling) h.outside

-- the end of the run over the parts y of a text
module _ (y : Symbol) (s t : Entries) where
  abbrev judge : Final → C.Shapes → Calls.Answer
  judge what = finished C.kind_of (kinds_of what) (λ e. []) y

  abbrev left : List K₀.Entry
  left = stack_of t.ws.now t.state.depth

  -- one entry is left, or not
  module _ (what : Final) (a : K.Ran 4097 y.body s t) where
    whole_is : Check.whole s.ceiling (kinds_of what) y ≡ judge what (machine_of (with_words a.words t))
    unfolding Check.whole
    whole_is = ended_ran y (judge what) (K.check s.ceiling 4097 y.body) (machine_of (with_words a.words t)) a.is

    judged : (o : Option _) → single C.kind_of (kinds_of what) left ≡ o →
        Check.whole s.ceiling (kinds_of what) y ≡ given o (refusal 11 (y.start + length y.body)) (λ e. accepted (budget_of t.state.budget) [])
    unfolding finished
    judged o h = whole_is ∙ ap (λ (x : Option _). given x (refusal 11 (y.start + length y.body)) (λ e. accepted (budget_of t.state.budget) [])) h

    pub check_taken : is_some (single C.kind_of (kinds_of what) left) ≡ true → values (Ok (record { counts = record { steps = t.state.budget.steps; total = t.state.budget.total; wraps = t.state.budget.wraps }; length = 0 })) ≡ (Check.whole s.ceiling (kinds_of what) y).values
    unfolding values accepted is_some
    check_taken h = go (single C.kind_of (kinds_of what) left) refl h
      where
        go : (o : Option _) → single C.kind_of (kinds_of what) left ≡ o → is_some o ≡ true → (accepted (budget_of t.state.budget) []).values ≡ (Check.whole s.ceiling (kinds_of what) y).values
        go (some e) q x = sym (ap (λ (x : Calls.Answer). x.values) (judged (some e) q))
        go none q x = absurd (subst (λ (b : Bool). T (not b)) x tt)

    pub check_not_taken : is_some (single C.kind_of (kinds_of what) left) ≡ false → values (Err (record { refusal = Refusal.Leftover; place = y.start + length y.body })) ≡ (Check.whole s.ceiling (kinds_of what) y).values
    unfolding values refusal number is_some
    check_not_taken h = go (single C.kind_of (kinds_of what) left) refl h
      where
        go : (o : Option _) → single C.kind_of (kinds_of what) left ≡ o → is_some o ≡ false → (refusal 11 (y.start + length y.body)).values ≡ (Check.whole s.ceiling (kinds_of what) y).values
        go (some e) q x = absurd (subst (λ (b : Bool). T b) x tt)
        go none q x = sym (ap (λ (x : Calls.Answer). x.values) (judged none q))

  pub check_stopped : (what : Final) (x : Refused) → K.Stops 4097 y.body s t x → values (Err (record { refusal = x.refusal; place = y.start + x.place })) ≡ (Check.whole s.ceiling (kinds_of what) y).values
  unfolding Check.whole values refusal
  check_stopped what x a = sym (ap (λ (z : Calls.Answer). z.values) (ended_stopped y (judge what) (K.check s.ceiling 4097 y.body) x.refusal x.place a.inside a.is))

  -- stopped after k operators
  module _ (k : ℕ) (out : List ℕ) where
    pub check_k_ran : (out' : List ℕ) (v : Written ℕ) (r : Answer) → K.Ran k y.body s t →
        Writing (entry_numbers (reverse left)) out out' v → Stacked (budget_of t.state.budget) v r →
        Answers (within (length out) (Check.stopped_after s.ceiling k y)) out out' r
    unfolding Check.stopped_after
    check_k_ran out' v r a f g =
        answers_is (ap (within (length out)) (ended_ran y (λ m. accepted m.budget (entry_numbers (reverse m.stack))) (K.check s.ceiling k y.body) (machine_of (with_words a.words t)) a.is))
        (stacked_answers (budget_of t.state.budget) (entry_numbers (reverse left)) out out' r v f g)

    pub check_k_stopped : (x : Refused) → K.Stops k y.body s t x →
        Answers (within (length out) (Check.stopped_after s.ceiling k y)) out out (Err (record { refusal = x.refusal; place = y.start + x.place }))
    unfolding Check.stopped_after
    check_k_stopped x a =
        answers_is (ap (within (length out)) (ended_stopped y (λ m. accepted m.budget (entry_numbers (reverse m.stack))) (K.check s.ceiling k y.body) x.refusal x.place a.inside a.is))
        (refused_answers out x.refusal (y.start + x.place))

-- the call's answer is the run's
module _ (what : Final) (t : Text) {N : ℕ} {w w' : List ℕ} {a : Admitted} (p : Passed (λ read. admit 8 N (length w) t (framed what t read)) 8 N (length w) a) (b : Beyond 8 N w w') where
  pub checked : (r : Answer) → values r ≡ (Check.whole N (kinds_of what) (parts a)).values → (values r ≡ (check_whole what t N (length w)).values) × Scratch 8 N (values r).number w w'
  checked r h = (
    entered_values what 8 N (length w) t (Check.whole N (kinds_of what)) r p.body h,
    scratch_run 8 N _ w w' _ (ap (λ (v : Calls.Values). v.number) h) (check_ran N (kinds_of what) (parts a)).late b,
  )

  pub checked_k : (k : ℕ) {out out' : List ℕ} {r : Answer} → Answers (within (length out) (Check.stopped_after N k (parts a))) out out' r →
      Answers (stopped_call what t N k (length w) (length out)) out out' r × Scratch 8 N (values r).number w w'
  checked_k k {out} h = (
    entered what 8 N (length w) t (Check.stopped_after N k) p.body h,
    scratch_run 8 N _ w w' _ (ap (λ (v : Calls.Values). v.number) h.values) (within_late (length out) _ (check_k_runs N k (parts a))) b,
  )
