-- What an append says of a sink, and appends one after another. Assumes nothing.
use Rattle.std.specs.Prelude.{◌≡◌, List, [], ◌++◌, ℕ, ◌<◌, refl}
use Rattle.std.proofs.Common.{sym, subst, ◌∙◌}
use Rattle.text_output.specs.Sink.{Wrote, wrote_is, wrote_nothing, wrote_stays, wrote_then}
use Rattle.text_output.specs.declared.Sink.{Sink}

-- the bytes are appended, as far as there is room, to the same slice
pub record Appended (s s' : Sink) (bytes : List ℕ) : Type 0 where
  pub same : s'.out.ghost_name ≡ s.out.ghost_name
  pub room : s'.room ≡ s.room
  pub wrote : Wrote s.room s.out.now s'.out.now s.at bytes s'.at

pub appended_is : {s s' : Sink} {a b : List ℕ} → a ≡ b → Appended s s' a → Appended s s' b
appended_is e h = record { same = h.same; room = h.room; wrote = wrote_is e h.wrote }

pub appended_then : {s s₁ s₂ : Sink} {a b : List ℕ} → Appended s s₁ a → Appended s₁ s₂ b → Appended s s₂ (a ++ b)
appended_then {s₁ = s₁} {s₂ = s₂} {b = b} h k = record {
  same = k.same ∙ h.same;
  room = k.room ∙ h.room;
  wrote = wrote_then h.wrote (subst (λ (n : ℕ). Wrote n s₁.out.now s₂.out.now s₁.at b s₂.at) h.room k.wrote);
}

pub appended_nothing : (s : Sink) → Appended s s []
appended_nothing s = record { same = refl; room = refl; wrote = wrote_nothing s.fits }

-- once past the room, nothing is appended
pub appended_past : (s : Sink) (a : List ℕ) → s.room < s.at → Appended s s a
appended_past s a h = record { same = refl; room = refl; wrote = wrote_stays a s.fits h }

-- In a loop: appending `rest` to s appends the whole to s₀
pub record Rest (s₀ : Sink) (whole : List ℕ) (s : Sink) (rest : List ℕ) : Type 0 where
  pub ends : (s' : Sink) → Appended s s' rest → Appended s₀ s' whole

pub rest_start : {s : Sink} {whole : List ℕ} → Rest s whole s whole
rest_start = record { ends = λ s' h. h }

module _ {s₀ s : Sink} {whole : List ℕ} where
  pub rest_then : {s' : Sink} {a b : List ℕ} → Appended s s' a → Rest s₀ whole s (a ++ b) → Rest s₀ whole s' b
  rest_then h r = record { ends = λ s'' k. r.ends s'' (appended_then h k) }

  pub rest_is : {a b : List ℕ} → a ≡ b → Rest s₀ whole s a → Rest s₀ whole s b
  rest_is e r = record { ends = λ s' h. r.ends s' (appended_is (sym e) h) }

  pub rest_end : Rest s₀ whole s [] → Appended s₀ s whole
  rest_end r = r.ends s (appended_nothing s)

  pub rest_past : {a : List ℕ} → s.room < s.at → Rest s₀ whole s a → Appended s₀ s whole
  rest_past {a} h r = r.ends s (appended_past s a h)
