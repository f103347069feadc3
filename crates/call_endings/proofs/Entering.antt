-- From the checks before a run to the answer of a call. Assumes nothing.
use Rattle.std.specs.Prelude.{Result, Err}
use Rattle.std.specs.Result.{IsErrAnd}
use Rattle.std.proofs.lemmas.Result.{err_from_is_err_and}
use mathlib.Core.Path.{◌≡◌, refl, sym, ap, subst, ◌∙◌}
use mathlib.Core.Bool.{not}
use mathlib.Core.List.{List}
use Prim.Native.Nat.{ℕ}
use lib.Dec.{T, T_not}
use lib.ListN.{length}
use Rattle.definition.specs.Text.{Text, Symbol}
use Rattle.definition.specs.Calls as Calls
use Rattle.definition.specs.Calls.{refusal, within, admit}
use Rattle.definition.specs.Enums.{values}
use Rattle.definition.specs.Enums.{Answer}
use Rattle.definition.specs.declared.Refusal.{Refusal}
use Rattle.machine.specs.declared.runs.Final.{Final}
use Rattle.call_admission.specs.Admits.{framed, Body, Refused}
use Rattle.machine.specs.Beyond.{Beyond, beyond_itself}
use Rattle.call_endings.specs.Answers.{Answers}
use Rattle.call_endings.proofs.Ends.{answers_is, refused_answers}
use Rattle.call_endings.specs.Workspace.{early, Scratch}

-- THE WORKSPACE
pub scratch_same : (need N n : ℕ) (w : List ℕ) → Scratch need N n w w
scratch_same need N n w = record { beyond = beyond_itself w N; untouched = λ h. refl }

pub scratch_run : (need N n : ℕ) (w w' : List ℕ) (m : ℕ) → n ≡ m → T (not (early m)) → Beyond need N w w' → Scratch need N n w w'
scratch_run need N n w w' m e h b = record {
  beyond = b;
  untouched = λ k. absurd (T_not (early m) h (subst (λ (x : ℕ). T (early x)) e k));
}

-- what a `?` returns: the callee's refusal
pub failed : {A E : Type 0} {r : Result A E} {e : E} → IsErrAnd r (λ x. x ≡ e) → r ≡ Err e
failed {A} {E} {r} {e} h = let p = err_from_is_err_and r h in p.1 ∙ ap Err p.2

-- THE ANSWER
module _ (what : Final) (need N w : ℕ) (t : Text) where
  abbrev before : (Symbol → Calls.Answer) → Calls.Answer
  before read = admit need N w t (framed what t read)

  -- the text is admitted, and what is read of its body is the answer
  pub entered : (read : Symbol → Calls.Answer) {s : Symbol} {out out' : List ℕ} {r : Answer} → Body before s →
      Answers (within (length out) (read s)) out out' r → Answers (within (length out) (before read)) out out' r
  entered read {out = out} b h = answers_is (ap (within (length out)) (b.is read)) h

  pub entered_values : (read : Symbol → Calls.Answer) {s : Symbol} (r : Answer) → Body before s → values r ≡ (read s).values → values r ≡ (before read).values
  entered_values read r b h = h ∙ sym (ap (λ (a : Calls.Answer). a.values) (b.is read))

  -- it is refused before a run
  pub kept_out : (read : Symbol → Calls.Answer) {x : Refusal} {place : ℕ} (out : List ℕ) → Refused before x place → Answers (within (length out) (before read)) out out (Err (record { refusal = x; place = place }))
  kept_out read {x} {place} out h = answers_is (ap (within (length out)) (h.is read)) (refused_answers out x place)

  pub kept_out_values : (read : Symbol → Calls.Answer) {x : Refusal} {place : ℕ} → Refused before x place → values (Err (record { refusal = x; place = place })) ≡ (before read).values
  unfolding values refusal
  kept_out_values read h = sym (ap (λ (a : Calls.Answer). a.values) (h.is read))
