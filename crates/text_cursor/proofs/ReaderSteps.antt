-- From what a method of `Reader` ensures to what the function that calls it does. Assumes nothing.
use mathlib.Core.Path.{◌≡◌, sym, ap, ◌∙◌}
use mathlib.Core.Bool.{Bool, true, false, not}
use mathlib.Core.List.{[], ◌∷◌}
use Prim.Native.Nat.{ℕ, ◌+◌, ◌≤◌, ◌<◌}
use native.Mathlib.Omega.{arith}
use lib.ListN.{length, length-drop}
use Rattle.std.specs.Prelude.{Result, Ok, Err}
use Rattle.std.specs.Result.{IsErrAnd}
use Rattle.definition.specs.Base.{Out, ok, refused}
use Rattle.definition.specs.Text.{Text, Lex, next}
use Rattle.definition.specs.Enums.{number}
use Rattle.definition.specs.declared.Refusal.{Refusal}
use Rattle.text_cursor.specs.declared.Reader.{Reader}
use Rattle.text_cursor.specs.Reads.{rest, Stands, Reads}

-- WHAT A BYTE THAT WAS READ SAYS ABOUT THE TEXT
pub next_cons : (t : Text) {b : ℕ} {u : Text} → next t ≡ ok b u → t ≡ b ∷ u
unfolding next
next_cons [] e = cc
next_cons (c ∷ t) {b} {u} e = let k : c ≡ b = cc in let l : t ≡ u = cc in cc

-- TESTS
pub not_flip : {b d : Bool} → not b ≡ d → b ≡ not d
not_flip {b = true} e = ap not e
not_flip {b = false} e = ap not e

-- AFTER A CALL
pub shorter : {A : Type 0} {o : Out Text A} {a : A} {least : ℕ} {old new : Reader} → Stands o a least old new → 0 < least → length (rest new) < length (rest old)
shorter {old = old} {new = new} h l = let i : new.at ≤ length old.text.now = rw (← h.text) h.inside in rw h.text (simp length-drop (omega (arith, h.onward)))

module _ {A B : Type 0} {mean : B → A} {m : Lex A} {least : ℕ} {old new : Reader} where
  -- what is read from `mid` on was read from `old` on, if the step on the rest of `old` comes to the
  -- step on the rest of `mid`
  pub reads_on : {m' : Lex A} {least' : ℕ} {mid : Reader} {r : Result B Refusal} → m (rest old) ≡ m' (rest mid) → mid.text ≡ old.text → old.at + least ≤ mid.at + least' → Reads mean least' m' mid new r → Reads mean least m old new r
  reads_on {r = Ok b} e t l h = record { says = record { is = e ∙ h.says.is; text = h.says.text ∙ t; inside = h.says.inside; onward = omega arith }; text = h.text ∙ t }
  reads_on {r = Err f} e t l h = record { says = e ∙ h.says; text = h.text ∙ t }

  -- what `?` hands on
  pub refused_on : {D : Type 0} {s : Result D Refusal} {f : Refusal} {r : Result B Refusal} → s ≡ Err f → m (rest old) ≡ refused (number f) → new.text ≡ old.text → IsErrAnd r (λ g. g ≡ f) → Reads mean least m old new r
  refused_on {r = Ok b} w e t h = absurd h
  refused_on {r = Err g} w e t h = record { says = e ∙ ap (λ (x : Refusal). refused (number x)) (sym h); text = t }
