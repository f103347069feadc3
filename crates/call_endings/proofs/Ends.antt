-- The result at the end of any run. Assumes nothing.
use Rattle.std.specs.Prelude.{if◌then◌else◌}
use mathlib.Core.Path.{◌≡◌, refl, sym, ap, subst, ◌∙◌}
use mathlib.Core.Bool.{Bool}
use mathlib.Core.List.{List, ◌++◌}
use Prim.Native.Nat.{ℕ, ◌+◌, ◌-◌, ◌≤◌, ◌<◌}
use native.Mathlib.Omega.{arith}
use lib.Dec.{leb, leb-zero, leb→le, le→leb, not_T}
use lib.ListN.{length, drop}
use Rattle.definition.specs.Text.{Symbol}
use Rattle.definition.specs.Budget as B
use Rattle.definition.specs.Calls as Calls
use Rattle.definition.specs.Calls.{refusal, accepted, within, End, ran, stopped, ended}
use Rattle.definition.specs.Enums.{number, values}
use Rattle.definition.specs.Enums.{Answer}
use Rattle.definition.specs.declared.Refusal.{Refusal}
use Rattle.definition.proofs.SameText.{passed, failed}
use Rattle.machine.specs.RunEnds.{Writing}
use Rattle.std.specs.Prelude.{Option, Some, None, Err}
use Rattle.call_endings.specs.Answers.{Answers, Stacked}

-- THE LAST CHECK
pub within_refusal : (out n p : ℕ) → within out (refusal n p) ≡ refusal n p
unfolding within refusal
within_refusal out n p = ap (λ (b : Bool). if b then refusal n p else refusal 12 0) (leb-zero out)

fits : (out : ℕ) (b : B.Budget) (s : List ℕ) → length s ≤ out → within out (accepted b s) ≡ accepted b s
unfolding within accepted
fits out b s h = ap (λ (t : Bool). if t then accepted b s else refusal 12 0) (passed (leb (length s) out) (le→leb (length s) out h))

past : (out : ℕ) (b : B.Budget) (s : List ℕ) → out < length s → within out (accepted b s) ≡ refusal 12 0
unfolding within accepted
past out b s h = ap (λ (t : Bool). if t then accepted b s else refusal 12 0) (failed (leb (length s) out) (not_T (leb (length s) out) (λ q. omega (arith, leb→le (length s) out q, h))))

-- the same answer
pub answers_is : {a b : Calls.Answer} {out out' : List ℕ} {r : Answer} → a ≡ b → Answers b out out' r → Answers a out out' r
answers_is {out = out} {out' = out'} {r = r} e h = subst (λ (x : Calls.Answer). Answers x out out' r) (sym e) h

-- a refusal leaves the output slice unchanged
pub refused_answers : (out : List ℕ) (r : Refusal) (p : ℕ) → Answers (within (length out) (refusal (number r) p)) out out (Err (record { refusal = r; place = p }))
unfolding refusal values
refused_answers out r p = answers_is (within_refusal (length out) (number r) p) (record { values = refl; written = refl })

module _ (b : B.Budget) (s out out' : List ℕ) (r : Answer) where
  pub written_answers : (n : ℕ) → n ≡ length s → n ≤ length out → out' ≡ s ++ drop n out →
      values r ≡ record { number = 0; place = 0; steps = b.steps; total = b.total; wraps = b.wraps; length = n } → Answers (within (length out) (accepted b s)) out out' r
  unfolding accepted
  written_answers n e l w v = answers_is (fits (length out) b s (omega (arith, e, l))) (record {
    values = v ∙ ap (λ (k : ℕ). record { number = 0; place = 0; steps = b.steps; total = b.total; wraps = b.wraps; length = k }) e;
    written = w ∙ ap (λ (k : ℕ). s ++ drop k out) e;
  })

  pub past_answers : length out < length s → out' ≡ out → values r ≡ (refusal 12 0).values → Answers (within (length out) (accepted b s)) out out' r
  unfolding refusal
  past_answers l w v = answers_is (past (length out) b s l) (record { values = v; written = w })

  -- the numbers of a stack
  pub stacked_answers : (w : Option ℕ) → Writing s out out' w → Stacked b w r → Answers (within (length out) (accepted b s)) out out' r
  stacked_answers (Some n) h v = written_answers n h.many h.within h.is v
  stacked_answers None h v = past_answers h.past h.same v

-- THE BODY
module _ (s : Symbol) where
  -- the place of a refusal
  place : (at : ℕ) → at ≤ length s.body → s.start + (length s.body - (length s.body - at)) ≡ s.start + at
  place at h = omega (arith, h)

  module _ {S : Type 0} (read : S → Calls.Answer) where
    pub ended_ran : (e : End S) (m : S) → e ≡ ran m → ended s e read ≡ read m
    unfolding ended
    ended_ran e m h = ap (λ (x : End S). ended s x read) h

    pub ended_stopped : (e : End S) (r : Refusal) (at : ℕ) → at ≤ length s.body → e ≡ stopped (number r) (length s.body - at) → ended s e read ≡ refusal (number r) (s.start + at)
    unfolding ended
    ended_stopped e r at l h = ap (λ (x : End S). ended s x read) h ∙ ap (λ (p : ℕ). refusal (number r) p) (place at l)
