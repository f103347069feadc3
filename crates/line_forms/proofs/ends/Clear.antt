-- The first newline of a text from a place on. Assumes nothing.
use Rattle.std.proofs.Common.{◌≡◌, Bool, true, false, ℕ, ◌+◌, ◌-◌, ◌<◌, ◌≤◌, length, get_or, take, drop, sym, ap, ◌∙◌, arith, length-drop, length-take, get_or-drop, get_or-take, refl}
use Rattle.std.specs.Prelude.{◌==◌, Some, None, position, cond, nat_lt}
use Rattle.std.specs.List.{position_or_len}
use Rattle.std.proofs.lemmas.List.Sums.{fails_before_first}
use Rattle.std.proofs.lemmas.List.Quantifiers.{position-Some}
use Rattle.std.proofs.lemmas.Bool.{eqb-true, eq-eqb}
use borrow.Author.Tests.{ltb-false}
use Rattle.definition.specs.Text.{Text}
use Rattle.line_forms.specs.LineEnds.{newline, Ends}

is_newline : ℕ → Bool
is_newline b = b == newline

true_false : true ≡ false → ⊥
true_false e = cc

module _ (t : Text) (from : ℕ) (inside : from ≤ length t) where
  -- what is left
  rest : Text
  rest = take (length t - from) (drop from t)

  rest_length : length (take (length t - from) (drop from t)) ≡ length t - from
  rest_length = length-take (length t - from) (drop from t) ∙ omega (arith, length-drop from t)

  byte_at : (i : ℕ) → i < length t - from → get_or (take (length t - from) (drop from t)) i 0 ≡ get_or t (from + i) 0
  byte_at i h = get_or-take (length t - from) (drop from t) i 0 h ∙ get_or-drop from t i 0

  clear_to : (n : ℕ) → n ≤ length t - from → ((k : ℕ) → k < n → (get_or (take (length t - from) (drop from t)) k 0 == newline) ≡ false) → (i : ℕ) → from ≤ i → i < from + n → get_or t i 0 ≡ newline → ⊥
  clear_to n w h i a b q =
      let place : from + (i - from) ≡ i = omega arith in
      let is : get_or (take (length t - from) (drop from t)) (i - from) 0 ≡ newline = byte_at (i - from) (omega arith) ∙ ap (λ (k : ℕ). get_or t k 0) place ∙ q in
      true_false (sym (eq-eqb _ _ is) ∙ h (i - from) (omega arith))

  pub ends_at : (n : ℕ) → position (λ b. b == newline) (take (length t - from) (drop from t)) ≡ Some n → Ends t from (from + n)
  ends_at n e =
      let p = position-Some (λ b. b == newline) (take (length t - from) (drop from t)) n 0 e in
      let w : n < length t - from = omega (arith, p.0, rest_length) in
      record {
        order = omega arith;
        inside = omega arith;
        clear = clear_to n (omega arith) p.2;
        stop = λ h. sym (byte_at n w) ∙ eqb-true _ _ p.1;
      }

  none_past : (m l : ℕ) → cond (nat_lt m l) (Some m) None ≡ None → l ≤ m
  none_past m l e = go (nat_lt m l) refl e
    where
      go : (b : Bool) → nat_lt m l ≡ b → cond b (Some m) None ≡ None → l ≤ m
      go true q z = absurd (cc)
      go false q z = ltb-false m l q

  pub ends_with : position (λ b. b == newline) (take (length t - from) (drop from t)) ≡ None → Ends t from (length t)
  ends_with e =
      let past : length (take (length t - from) (drop from t)) ≤ position_or_len (λ b. b == newline) (take (length t - from) (drop from t)) = none_past _ _ e in
      record {
        order = inside;
        inside = omega arith;
        clear = λ i a b. clear_to (length t - from) (omega arith) (λ k h. fails_before_first (λ x. x == newline) _ k 0 (omega (arith, rest_length))) i a (omega arith);
        stop = λ h. absurd (omega arith);
      }
