-- The answers of the definition's runs, and the numbers that they refuse with. Assumes nothing.
use Rattle.std.specs.Prelude.{if◌then◌else◌}
use mathlib.Core.Path.{◌≡◌, refl}
use mathlib.Core.Bool.{Bool, true, false, not}
use mathlib.Core.List.{List, []}
use mathlib.Core.Option.{Option, some, none}
use Prim.Native.Nat.{ℕ, ◌+◌, ◌-◌, ◌≤◌}
use native.Mathlib.Omega.{arith}
use lib.Dec.{T, eqb, ltb, leb, ltb→lt, not_T}
use lib.ListN.{length}
use Rattle.definition.specs.Base.{given}
use Rattle.definition.specs.Text.{Symbol}
use Rattle.definition.specs.Machine.{Machine}
use Rattle.definition.specs.Budget as B
use Rattle.definition.specs.Calls as Calls
use Rattle.definition.specs.Calls.{refusal, accepted, within, End, ran, stopped, ended, all_turns, single, finished}
use Rattle.definition.specs.Reading as Reading
use Rattle.definition.specs.Check as Check
use Rattle.definition.proofs.SameText.{both}
use Rattle.definition.proofs.RunNumbers.{InRun, read_numbers, check_numbers}
use Rattle.call_endings.specs.Workspace.{early}

-- BEFORE 12
-- a refusal writes nothing; the length is that of what is written; the number is 0 to 11
pub record Plain (a : Calls.Answer) : Type 0 where
  pub silent : T (not (eqb a.values.number 0)) → a.written ≡ []
  pub long : a.values.length ≡ length a.written
  pub below : a.values.number ≤ 11

pub refusal_plain : (n p : ℕ) → n ≤ 11 → Plain (refusal n p)
unfolding refusal
refusal_plain n p h = record { silent = λ _. refl; long = refl; below = h }

-- refused by none of 1 to 5
abbrev pub Late : Calls.Answer → Type 0
Late a = T (not (early a.values.number))

pub record Ran (a : Calls.Answer) : Type 0 where
  pub plain : Plain a
  pub late : Late a

refusal_ran : (n p : ℕ) → 6 ≤ n → n ≤ 11 → Ran (refusal n p)
unfolding refusal
refusal_ran n p l h = record {
  plain = refusal_plain n p h;
  late = not_T (early n) (λ e. omega (arith, ltb→lt n 6 (both (ltb 0 n) (ltb n 6) e).1, l));
}

accepted_ran : (b : B.Budget) (text : List ℕ) → Ran (accepted b text)
unfolding accepted
accepted_ran b text = record { plain = record { silent = λ h. absurd h; long = refl; below = omega arith }; late = tt }

finished_ran : {A W : Type 0} (kind : A → ℕ) (takes : ℕ → Bool) (text : A → List ℕ) (s : Symbol) (m : Machine A W) → Ran (finished kind takes text s m)
unfolding finished
finished_ran {A} kind takes text s m = go (single kind takes m.stack)
  where
    go : (o : Option A) → Ran (given o (refusal 11 (s.start + length s.body)) (λ n. accepted m.budget (text n)))
    go none = refusal_ran 11 (s.start + length s.body) (omega arith) (omega arith)
    go (some n) = accepted_ran m.budget (text n)

ended_ran : {S : Type 0} (s : Symbol) (e : End S) (read : S → Calls.Answer) → ((r left : ℕ) → e ≡ stopped r left → InRun r) → ((m : S) → Ran (read m)) → Ran (ended s e read)
unfolding ended
ended_ran s (ran m) read h k = k m
ended_ran s (stopped r left) read h k = let q = h r left refl in let l = q.0 in let b = q.1 in refusal_ran r (s.start + (length s.body - left)) l (omega (arith, b))

-- THE FOUR RUNS
pub read_ran : (N : ℕ) (takes : ℕ → Bool) (s : Symbol) → Ran (Reading.whole N takes s)
unfolding Reading.whole
read_ran N takes s = ended_ran s _ _ (read_numbers N all_turns s.body) (λ m. finished_ran _ takes _ s m)

pub read_k_ran : (N k : ℕ) (s : Symbol) → Ran (Reading.stopped_after N k s)
unfolding Reading.stopped_after
read_k_ran N k s = ended_ran s _ _ (read_numbers N k s.body) (λ m. accepted_ran m.budget _)

pub check_ran : (N : ℕ) (takes : ℕ → Bool) (s : Symbol) → Ran (Check.whole N takes s)
unfolding Check.whole
check_ran N takes s = ended_ran s _ _ (check_numbers N all_turns s.body) (λ m. finished_ran _ takes _ s m)

pub check_k_ran : (N k : ℕ) (s : Symbol) → Ran (Check.stopped_after N k s)
unfolding Check.stopped_after
check_k_ran N k s = ended_ran s _ _ (check_numbers N k s.body) (λ m. accepted_ran m.budget _)

-- 12 is also late
pub within_late : (out : ℕ) (a : Calls.Answer) → Ran a → Late (within out a)
unfolding within refusal
within_late out a h = go (leb (length a.written) out)
  where
    go : (b : Bool) → Late (if b then a else refusal 12 0)
    go true = h.late
    go false = tt
