-- A whole run is not cut off by the number of its turns: if none is refused no text is left, and
-- more turns would change nothing.
use Rattle.std.specs.Prelude.{if◌then◌else◌}
use mathlib.Core.Path.{◌≡◌, refl, sym, ap, ◌∙◌, subst}
use mathlib.Core.Bool.{Bool, true, false}
use mathlib.Core.List.{[], ◌∷◌}
use Prim.Native.Nat.{ℕ, zero, suc, ◌+◌, ◌≤◌, ◌<◌}
use native.Mathlib.Omega.{arith}
use lib.Dec.{T, ltb, leb, ltb→lt}
use lib.ListN.{length}
use Rattle.definition.specs.Base.{digit, Out, ok, refused, Step, Done, ◌>>=◌}
use Rattle.definition.specs.Text.{Text}
use Rattle.definition.specs.Words.{Identified, identifier}
use Rattle.definition.specs.Budget as B
use Rattle.definition.specs.Budget.{most_steps}
use Rattle.definition.specs.Machine.{fresh, spent, spend, know, remember, push}
use Rattle.definition.specs.Operators.{operator}
use Rattle.definition.specs.Perform.{Demangler, perform}
use Rattle.definition.specs.Calls.{End, ran, stopped, then_run, turn, turns, all_turns}
use Rattle.definition.specs.Reading.{name, one}
use Rattle.definition.proofs.OperatorsKeep.{Yields, yields_then, yields_map, keeps_then_run, keeps_perform}
use Rattle.definition.proofs.WordsAdded.{by_test}
use Rattle.definition.proofs.JudgingAlike.{shapes_end, read_turns, check_turns, runs_alike}

-- STEPS
-- m is the machine before a turn and n the one after it: there was a step left, and it is counted
pub record Counted (m n : Demangler) : Type 0 where
  pub before : m.budget.steps < most_steps
  pub after : n.budget.steps ≡ suc m.budget.steps

abbrev SameSteps : (m n : Demangler) → Type 0
SameSteps m n = n.budget.steps ≡ m.budget.steps

module _ (N : ℕ) where
  identifier_steps : (t : Text) (m : Demangler) → Yields (λ u n. SameSteps m n) (then_run (identifier m.words t) (λ r. name N r.name r.words) m)
  unfolding then_run name know remember push
  identifier_steps t m = go (identifier m.words t)
    where
      go : (o : Out Text Identified) → Yields (λ u n. SameSteps m n) (then_run o (λ r. name N r.name r.words) m)
      go (ok r u) = refl
      go (refused r) = tt

  abbrev Counts : Step Demangler Text → Type 0
  Counts s = (m : Demangler) → Yields (λ u n. SameSteps m n) (s m)

  one_steps : (t : Text) → Counts (one N t)
  unfolding one
  one_steps [] = λ m. tt
  one_steps (c ∷ t) = by_test Counts (digit c) _ _ (identifier_steps (c ∷ t))
      (λ m. yields_map _ (then_run (operator c t) (λ op. perform N op) m) (λ u n k. k.steps) ((keeps_then_run (operator c t) (λ op. perform N op) (keeps_perform N)).at m))

  step_steps : (m : Demangler) → Yields (λ a n. Counted m n) (spend B.step m)
  unfolding spend B.step
  step_steps m = go (ltb m.budget.steps most_steps) (ltb→lt m.budget.steps most_steps)
    where
      go : (b : Bool) → (T b → m.budget.steps < most_steps) →
          Yields {A = Done} (λ a n. Counted m n) (spent (if b then ok tt (B.budget (suc m.budget.steps) m.budget.total m.budget.wraps) else refused 6) m)
      go true h = record { before = h tt; after = refl }
      go false h = tt

  charge_steps : (n : ℕ) (m : Demangler) → Yields (λ a k. SameSteps m k) (spend (B.charge N n) m)
  unfolding spend B.charge
  charge_steps n m = go (leb (m.budget.total + n) N)
    where
      go : (b : Bool) → Yields {A = Done} (λ a k. SameSteps m k) (spent (if b then ok tt (B.budget m.budget.steps (m.budget.total + n) m.budget.wraps) else refused 7) m)
      go true = refl
      go false = tt

  pub turn_steps : (t : Text) (m : Demangler) → Yields (λ u n. Counted m n) (turn N (one N) t m)
  unfolding turn
  turn_steps t m =
      yields_then _ (spend B.step m) (λ _. spend (B.charge N 1) >>= λ _. one N t) (step_steps m) λ _ k s.
      yields_then _ (spend (B.charge N 1) k) (λ _. one N t) (charge_steps 1 k) λ _ l e.
      yields_map _ (one N t l) (λ u n f. record { before = s.before; after = f ∙ e ∙ s.after }) (one_steps t l)

-- WHAT IS LEFT
-- what is left of the text after k turns, or at the beginning of the one that is refused
unfoldable pub left_after : {S : Type 0} → (Text → Step S Text) → ℕ → Text → S → Text
left_after turn zero t s = t
left_after turn (suc k) [] s = []
left_after turn (suc k) (c ∷ t) s = elim (turn (c ∷ t) s) [ ok u s₁ ↦ left_after turn k u s₁ | refused r ↦ c ∷ t ]

-- the machine m can make fewer than k more turns
record Few (k : ℕ) (m : Demangler) : Type 0 where
  now : m.budget.steps ≤ most_steps
  more : most_steps < m.budget.steps + k

few_less : {k : ℕ} {m n : Demangler} → Few (suc k) m → Counted m n → Few k n
few_less f s = record { now = omega (arith, s.before, s.after); more = omega (arith, f.more, s.after) }

suc_plus : (k j : ℕ) → suc k + j ≡ suc (k + j)
suc_plus k j = omega arith

not_ran : {A : Type 0} {S : Type 0} {s : S} {r left : ℕ} → stopped r left ≡ ran s → A
not_ran {s = s} e = absurd (subst is_stopped e tt)
  where
    is_stopped : {S : Type 0} → End S → Type 0
    is_stopped (ran s) = ⊥
    is_stopped (stopped r left) = Unit {0}

module _ (N : ℕ) where
  nothing_left : (k : ℕ) (t : Text) (m n : Demangler) → Few k m → turns (turn N (one N)) k t m ≡ ran n → left_after (turn N (one N)) k t m ≡ []
  unfolding turns left_after
  nothing_left zero t m n f e = absurd (omega (arith, f.now, f.more))
  nothing_left (suc k) [] m n f e = refl
  nothing_left (suc k) (c ∷ t) m n f e = go (λ u l. nothing_left k u l n) (turn N (one N) (c ∷ t) m) (turn_steps N (c ∷ t) m) e
    where
      go : ((u : Text) (l : Demangler) → Few k l → turns (turn N (one N)) k u l ≡ ran n → left_after (turn N (one N)) k u l ≡ []) → (o : Out Demangler Text) → Yields (λ u n. Counted m n) o → ◌≡◌ {A = End Demangler} (elim o [ ok u s₁ ↦ turns (turn N (one N)) k u s₁ | refused r ↦ stopped r (length (c ∷ t)) ]) (ran n) →
          ◌≡◌ {A = Text} (elim o [ ok u s₁ ↦ left_after (turn N (one N)) k u s₁ | refused r ↦ c ∷ t ]) []
      go next (ok u l) s e = next u l (few_less f s) e
      go next (refused r) s e = not_ran e

  same_end : (k j : ℕ) (t : Text) (m : Demangler) → Few k m → turns (turn N (one N)) (k + j) t m ≡ turns (turn N (one N)) k t m
  unfolding turns
  same_end zero j t m f = absurd (omega (arith, f.now, f.more))
  same_end (suc k) j [] m f = rw (suc_plus k j) refl
  same_end (suc k) j (c ∷ t) m f = rw (suc_plus k j) (go (same_end k j) (turn N (one N) (c ∷ t) m) (turn_steps N (c ∷ t) m))
    where
      go : ((u : Text) (l : Demangler) → Few k l → turns (turn N (one N)) (k + j) u l ≡ turns (turn N (one N)) k u l) → (o : Out Demangler Text) → Yields (λ u n. Counted m n) o →
          ◌≡◌ {A = End Demangler} (elim o [ ok u s₁ ↦ turns (turn N (one N)) (k + j) u s₁ | refused r ↦ stopped r (length (c ∷ t)) ]) (elim o [ ok u s₁ ↦ turns (turn N (one N)) k u s₁ | refused r ↦ stopped r (length (c ∷ t)) ])
      go next (ok u l) s = next u l (few_less f s)
      go next (refused r) s = refl

  begins_few : Few all_turns (fresh [])
  unfolding B.fresh
  begins_few = record { now = omega arith; more = omega arith }

  -- a whole run that is not refused ends with no text left
  pub whole_run_ends : (t : Text) (n : Demangler) → read_turns N all_turns t ≡ ran n → left_after (turn N (one N)) all_turns t (fresh []) ≡ []
  whole_run_ends t n = nothing_left all_turns t (fresh []) n begins_few

  -- with more turns a whole run ends the same, refused or not: the reading's and the check's
  pub whole_reading_same : (j : ℕ) (t : Text) → read_turns N (all_turns + j) t ≡ read_turns N all_turns t
  whole_reading_same j t = same_end all_turns j t (fresh []) begins_few

  pub whole_check_same : (j : ℕ) (t : Text) → check_turns N (all_turns + j) t ≡ check_turns N all_turns t
  whole_check_same j t = (runs_alike N (all_turns + j) t).end_is ∙ ap (shapes_end N) (whole_reading_same j t) ∙ sym (runs_alike N all_turns t).end_is
