-- Turns at a place of the body, and steps one after another, for any machine that they run over.
-- Assumes nothing.
use mathlib.Core.Path.{◌≡◌, refl, sym, ap, ◌∙◌}
use mathlib.Core.List.{◌∷◌}
use Prim.Native.Nat.{ℕ, zero, suc, ◌+◌, ◌-◌, ◌≤◌, ◌<◌}
use lib.ListN.{length, get_or, drop, length-drop}
use Rattle.definition.specs.Base.{Out, ok, refused, Step, Done, and_then}
use Rattle.definition.specs.Text.{Text}
use Rattle.definition.specs.Calls.{ran, stopped, turns}
use Rattle.text_cursor.proofs.Steps.{front, ended}

module _ {S : Type 0} (f : Text → S → Out S Text) (body : Text) where
  -- the body has ended
  pub over : (j at : ℕ) (m : S) → length body ≤ at → turns f j (drop at body) m ≡ ran m
  unfolding turns
  over zero at m h = refl
  over (suc j) at m h = ap (λ (t : Text). turns f (suc j) t m) (ended body at h)

  pub no_more : (j at : ℕ) (m : S) → j ≡ 0 → turns f j (drop at body) m ≡ ran m
  unfolding turns
  no_more j at m h = ap (λ (k : ℕ). turns f k (drop at body) m) h

  turn_ok : (k b : ℕ) (t u : Text) (m m₁ : S) → f (b ∷ t) m ≡ ok u m₁ → turns f (suc k) (b ∷ t) m ≡ turns f k u m₁
  unfolding turns
  turn_ok k b t u m m₁ q = rw (q, turns)

  turn_refused : (k b : ℕ) (t : Text) (m : S) (r : ℕ) → f (b ∷ t) m ≡ refused r → turns f (suc k) (b ∷ t) m ≡ stopped r (length (b ∷ t))
  unfolding turns
  turn_refused k b t m r q = rw (q, turns)

  module _ (at : ℕ) (h : at < length body) (m : S) (j k : ℕ) (e : j ≡ suc k) where
    here : turns f j (drop at body) m ≡ turns f (suc k) (get_or body at 0 ∷ drop (at + 1) body) m
    here = ap (λ (n : ℕ). turns f n (drop at body) m) e ∙ ap (λ (t : Text). turns f (suc k) t m) (front body at h)

    pub goes_on : (u : Text) (m₁ : S) → f (drop at body) m ≡ ok u m₁ → turns f j (drop at body) m ≡ turns f k u m₁
    goes_on u m₁ q = here ∙ turn_ok k (get_or body at 0) (drop (at + 1) body) u m m₁ (ap (λ (t : Text). f t m) (sym (front body at h)) ∙ q)

    pub stops : (r : ℕ) → f (drop at body) m ≡ refused r → turns f j (drop at body) m ≡ stopped r (length body - at)
    stops r q =
        here ∙ (turn_refused k (get_or body at 0) (drop (at + 1) body) m r (ap (λ (t : Text). f t m) (sym (front body at h)) ∙ q)
        ∙ ap (stopped r) (ap length (sym (front body at h)) ∙ length-drop at body))

-- brackets to the left
pub inner : {S A B : Type 0} (o : Out S A) (g : Step S Done) (h : Step S B) → and_then (and_then o (λ x. g)) (λ x. h) ≡ and_then o (λ x s. and_then (g s) (λ y. h))
inner (ok a s) g h = refl
inner (refused r) g h = refl

pub regroup : {S A B D : Type 0} (o : Out S A) (f : A → Step S B) (g : Step S Done) (h : Step S D) → and_then (and_then o (λ a s. and_then (f a s) (λ x. g))) (λ x. h) ≡ and_then (and_then o f) (λ x s. and_then (g s) (λ y. h))
regroup (ok a s) f g h = inner (f a s) g h
regroup (refused r) f g h = refl
