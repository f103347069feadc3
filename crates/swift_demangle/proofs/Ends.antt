-- The result at the end of the reading. Assumes nothing.
use mathlib.Core.Path.{◌≡◌, refl, sym, ap, subst, ◌∙◌}
use mathlib.Core.Bool.{Bool, true, false, not}
use mathlib.Core.List.{List, ◌++◌, map, reverse}
use mathlib.Core.Option.{Option}
use Prim.Native.Nat.{ℕ, ◌*◌, ◌+◌, ◌≤◌, ◌<◌}
use native.Mathlib.Omega.{arith}
use lib.Dec.{T, leb, leb→le, nleb→lt}
use lib.ListN.{length}
use Rattle.definition.specs.Base.{Name, given}
use Rattle.definition.specs.Text.{Text, Symbol, suffix_text}
use Rattle.definition.specs.Node.{Node, kind, entry_of}
use Rattle.definition.specs.Print.{print}
use Rattle.definition.specs.Budget as B
use Rattle.definition.specs.Perform.{Demangler}
use Rattle.definition.specs.Calls.{refusal, accepted, within, admit, finished, entry_numbers}
use Rattle.definition.specs.Reading as D
use Rattle.definition.specs.Enums.{number, values}
use Rattle.definition.specs.Enums.{Answer}
use Rattle.definition.specs.declared.Refusal.{Refusal}
use Rattle.machine.specs.Spent.{budget_of}
use Rattle.call_endings.specs.Answers.{Answers, Measured, Stacked}
use Rattle.call_endings.proofs.Ends.{answers_is, refused_answers, written_answers, past_answers, stacked_answers, ended_ran, ended_stopped}
use Rattle.tree_records.specs.NamesOf.{noted, names_of, naming}
use Rattle.print_names.specs.Naming.{Some}
use Rattle.tree_nodes.specs.Gives.{nothing_spare}
use Rattle.tree_records.specs.Holds.{Names, Named, Holds}
use Rattle.tree_records.specs.Lies.{Lies}
use Rattle.tree_records.specs.declared.State.{State}
use Rattle.tree_run.specs.Runs as R
use Rattle.tree_ends.specs.Ends as E
use Rattle.tree_run.specs.Meant.{Wrote}
use Rattle.tree_records.specs.declared.Trees.{Trees}
use Rattle.tree_records.specs.Trees.{Begun, Has}
use Rattle.definition.specs.declared.Refused.{Refused}
use Rattle.std.specs.Borrow.{MutBor}
use Rattle.machine.specs.RunEnds.{kinds_of, Writing}
use Rattle.machine.specs.declared.runs.Final.{Final}
use Rattle.std.specs.Prelude as Lib
use Rattle.print_tree.specs.Prints.{Shown, Rendered}
use Rattle.print_labels.specs.RowTexts.{Prints}
use Rattle.call_endings.specs.Workspace.{Scratch}
use Rattle.call_endings.proofs.Entering.{entered, scratch_run}
use Rattle.call_endings.proofs.Runs.{within_late, read_ran as read_runs, read_k_ran as read_k_runs}
use Rattle.call_admission.specs.Admits.{framed, parts, Passed}
use Rattle.call_admission.specs.declared.admitted.Admitted.{Admitted}
use Rattle.machine.specs.Beyond.{Beyond}
use Rattle.definition.specs.Calls as Calls
use Rattle.swift_demangle.specs.Calls.{read_whole, read_stopped}
use Rattle.text_words.specs.Table.{table}
use Rattle.text_words.specs.Table.{Words}
use Rattle.tree_run.proofs.MoreWords.{lies_more}
use Rattle.definition.proofs.WordsAdded.{begins_refl}
use Rattle.swift_demangle.specs.Body.{Held, Finishes}

-- A TEXT THAT WAS MEASURED AND WRITTEN
module _ (b : B.Budget) (s out out' : List ℕ) (r : Answer) where
  pub shown_answers : (n : ℕ) → Shown s out out' n → Measured b n (length out) r → Answers (within (length out) (accepted b s)) out out' r
  shown_answers n h m = go (leb n (length out)) refl
    where
      go : (t : Bool) → leb n (length out) ≡ t → Answers (within (length out) (accepted b s)) out out' r
      go true e = let l : n ≤ length out = leb→le n (length out) (subst T (sym e) tt) in written_answers b s out out' r n (omega (arith, h.count, l)) l (h.fits l) (m.fits l)
      go false e = let l : length out < n = nleb→lt n (length out) (subst (λ (x : Bool). T (not x)) (sym e) tt) in past_answers b s out out' r (omega (arith, h.count, l)) (h.refused l) (m.past l)

-- READING
module _ (what : Final) (y : Symbol) (words : Words) (w : List ℕ) (N : ℕ) (st : State) where
  -- the names of the machine, and those of the printer: words that are noted and not in the table
  -- are not used
  abbrev with_all : List Name → Names
  with_all all = names_of y.body (noted (table y.body words) all)

  printed : (x : Node) {p : ℕ} (all : List Name) → Lies (Named (with_all all)) x w p → Prints (naming y.body words) w p (print x)
  printed x {p} all l = record { tree = x; lies = lies_more y.body (noted (table y.body words) all) (noted (table y.body words) (table y.body words)) (begins_refl (table y.body words)) x w p l; is = refl }

  pub left_prints : (p : ℕ) → Held y.body words w N st → E.Singles w N st what (Lib.Some p) → Some (Prints (naming y.body words) w p)
  left_prints p h s =
      let a = s (with_all h.all) h.machine h.holds in
      record { text = print a.tree; is = printed a.tree h.all a.lies }

  -- its text
  pub finishes_at : (p n : ℕ) (out out' : List ℕ) (r : Answer) → E.Singles w N st what (Lib.Some p) → Rendered (naming y.body words) w p y.suffix out out' n → Measured (budget_of st.budget) n (length out) r →
      Finishes what y words w N st out out' r
  unfolding finished
  finishes_at p n out out' r s d m = record {
    each = λ mach all h.
        let a = s (with_all all) mach h in
        let shown : Shown (print a.tree ++ suffix_text y.suffix) out out' n = d.each (print a.tree) (printed a.tree all a.lies) in
        let m₁ : Measured mach.budget n (length out) r = subst (λ (x : B.Budget). Measured x n (length out) r) h.budget m in
        answers_is (ap (λ (o : Option Node). within (length out) (given o (refusal 11 (y.start + length y.body)) (λ x. accepted mach.budget (print x ++ suffix_text y.suffix)))) a.is)
        (shown_answers mach.budget (print a.tree ++ suffix_text y.suffix) out out' r n shown m₁);
  }

  pub finishes_not : (out : List ℕ) → E.Singles w N st what Lib.None → Finishes what y words w N st out out (Lib.Err (record { refusal = Refusal.Leftover; place = y.start + length y.body }))
  unfolding finished number
  finishes_not out s = record {
    each = λ mach all h.
        answers_is (ap (λ (o : Option Node). within (length out) (given o (refusal 11 (y.start + length y.body)) (λ x. accepted mach.budget (print x ++ suffix_text y.suffix)))) (s (with_all all) mach h))
        (refused_answers out Refusal.Leftover (y.start + length y.body));
  }

-- the tree that is left is inside the workspace
pub left_inside : (t : Text) (words : Words) (w : List ℕ) (what : Final) (N : ℕ) (st : State) (p : ℕ) → Held t words w N st → E.Singles w N st what (Lib.Some p) → 8 * p + 8 ≤ length w
left_inside t words w what N st p h e =
    let a = e (names_of t (noted (table t words) h.all)) h.machine h.holds in
    omega (arith, a.below, h.holds.room, h.holds.charged, h.holds.long)

-- the workspace once it is no longer lent
pub given_back : {r : MutBor (List ℕ)} {N : ℕ} {s t : Trees} {w : List ℕ} → Begun r N s → Wrote s t → (r.ghost_name ≡ t.ws.ghost_name → w ≡ t.ws.now) → Beyond 64 N r.now w
given_back {w = w} a h q =
    let e : w ≡ _ = q (sym (h.stays.slice ∙ a.name)) in
    rw (e, ← a.slice, ← a.ceiling) h.beyond

-- THE RUN over the parts y of a text
module _ (y : Symbol) (s t : Trees) (words : Words) where
  -- a run that ended
  pub ran_held : (k : ℕ) → length y.body ≤ 65535 → R.Ran k y.body s t words → Held y.body words t.ws.now t.n t.state
  ran_held k h a = record { short = h; fitting = a.fitting; machine = a.machine; all = a.all; holds = a.holds }

  pub ran_ready : (k : ℕ) → R.Ran k y.body s t words → Has t nothing_spare
  ran_ready k a = record { names = names_of y.body (noted (table y.body words) a.all); machine = a.machine; holds = a.holds }

  pub read_ran : (what : Final) (out out' : List ℕ) (r : Answer) → R.Ran 4097 y.body s t words →
      Finishes what y words t.ws.now t.n t.state out out' r → Answers (within (length out) (D.whole s.n (kinds_of what) y)) out out' r
  unfolding D.whole
  read_ran what out out' r a f =
      answers_is (ap (within (length out)) (ended_ran y (finished kind (kinds_of what) (λ n. print n ++ suffix_text y.suffix) y) (R.read s.n 4097 y.body) a.machine a.is))
      (f.each a.machine a.all a.holds)

  -- stopped after k operators
  pub read_k_ran : (k : ℕ) (out out' : List ℕ) (v : Lib.Option ℕ) (r : Answer) → R.Ran k y.body s t words →
      ((nm : Names) (m : Demangler) → Holds nm t.ws.now t.n t.state nothing_spare m → Writing (entry_numbers (map entry_of (reverse m.stack))) out out' v) → Stacked (budget_of t.state.budget) v r →
      Answers (within (length out) (D.stopped_after s.n k y)) out out' r
  unfolding D.stopped_after
  read_k_ran k out out' v r a f g =
      answers_is (ap (within (length out)) (ended_ran y (λ m. accepted m.budget (entry_numbers (map entry_of (reverse m.stack)))) (R.read s.n k y.body) a.machine a.is))
      (stacked_answers a.machine.budget (entry_numbers (map entry_of (reverse a.machine.stack))) out out' r v (f _ a.machine a.holds) (subst (λ (b : B.Budget). Stacked b v r) a.holds.budget g))

module _ (y : Symbol) (s t : Trees) where
  pub read_not_ran : (what : Final) (out : List ℕ) (x : Refused) → R.Stops 4097 y.body s t x →
      Answers (within (length out) (D.whole s.n (kinds_of what) y)) out out (Lib.Err (record { refusal = x.refusal; place = y.start + x.place }))
  unfolding D.whole
  read_not_ran what out x a =
      answers_is (ap (within (length out)) (ended_stopped y (finished kind (kinds_of what) (λ n. print n ++ suffix_text y.suffix) y) (R.read s.n 4097 y.body) x.refusal x.place a.inside a.is))
      (refused_answers out x.refusal (y.start + x.place))

  pub read_k_not_ran : (k : ℕ) (out : List ℕ) (x : Refused) → R.Stops k y.body s t x →
      Answers (within (length out) (D.stopped_after s.n k y)) out out (Lib.Err (record { refusal = x.refusal; place = y.start + x.place }))
  unfolding D.stopped_after
  read_k_not_ran k out x a =
      answers_is (ap (within (length out)) (ended_stopped y (λ m. accepted m.budget (entry_numbers (map entry_of (reverse m.stack)))) (R.read s.n k y.body) x.refusal x.place a.inside a.is))
      (refused_answers out x.refusal (y.start + x.place))

-- the call's answer is the run's
module _ (what : Final) (t : Text) {N : ℕ} {w w' : List ℕ} {a : Admitted} (p : Passed (λ read. admit 64 N (length w) t (framed what t read)) 64 N (length w) a) (b : Beyond 64 N w w') where
  pub answered : {out out' : List ℕ} {r : Answer} → Answers (within (length out) (D.whole N (kinds_of what) (parts a))) out out' r →
      Answers (read_whole what t N (length w) (length out)) out out' r × Scratch 64 N (values r).number w w'
  answered {out} h = (
    entered what 64 N (length w) t (D.whole N (kinds_of what)) p.body h,
    scratch_run 64 N _ w w' _ (ap (λ (v : Calls.Values). v.number) h.values) (within_late (length out) _ (read_runs N (kinds_of what) (parts a))) b,
  )

  pub answered_k : (k : ℕ) {out out' : List ℕ} {r : Answer} → Answers (within (length out) (D.stopped_after N k (parts a))) out out' r →
      Answers (read_stopped what t N k (length w) (length out)) out out' r × Scratch 64 N (values r).number w w'
  answered_k k {out} h = (
    entered what 64 N (length w) t (D.stopped_after N k) p.body h,
    scratch_run 64 N _ w w' _ (ap (λ (v : Calls.Values). v.number) h.values) (within_late (length out) _ (read_k_runs N k (parts a))) b,
  )
