-- The digits of a number and the letters of a generic parameter, one at a time. Assumes nothing.
use mathlib.Core.Path.{◌≡◌, refl, sym, ap, ◌∙◌}
use mathlib.Core.Bool.{Bool, true, false}
use mathlib.Core.List.{[], ◌∷◌, ◌++◌, append-nil}
use Prim.Native.Nat.{ℕ, zero, suc, ◌+◌, ◌-◌, ◌/◌, ◌%◌, ◌≤◌, ◌<◌}
use native.Mathlib.Omega.{arith}
use native.Mathlib.Numerals.{add-one, sub-one}
use borrow.Author.Tests.{lt-ltb, le-ltb, eq-eqb, ne_eqb}
use lib.Dec.{ltb}
use Rattle.definition.specs.Base.{Name, decimal_before, decimal}
use Rattle.definition.specs.Print.{param_letters, generic_param_name}
use Rattle.definition.proofs.Bounds.{digits_bound}
use Rattle.text_output.specs.Appends.{Appended, appended_is, Rest, rest_start, rest_then, rest_is}
use Rattle.text_output.specs.declared.Sink.{Sink}

-- DIGITS
-- a number below 10 is a digit
digit_step : (f m : ℕ) (t : Name) → ltb m 10 ≡ true → decimal_before (suc f) m t ≡ (48 + m) ∷ t
unfolding decimal_before
digit_step f m t e = rw (e, decimal_before)

-- and for any other number the last digit is the remainder
digits_step : (f m : ℕ) (t : Name) → ltb m 10 ≡ false → decimal_before (suc f) m t ≡ decimal_before f (m / 10) ((48 + m % 10) ∷ t)
unfolding decimal_before
digits_step f m t e = rw (e, decimal_before)

-- what follows the digits
digits_then : (f m : ℕ) (t u : Name) → decimal_before f m (t ++ u) ≡ decimal_before f m t ++ u
unfolding decimal_before
digits_then zero m t u = refl
digits_then (suc f) m t u = by_size (digits_then f (m / 10) ((48 + m % 10) ∷ t) u) (ltb m 10) refl
  where
    by_size : decimal_before f (m / 10) ((48 + m % 10) ∷ (t ++ u)) ≡ decimal_before f (m / 10) ((48 + m % 10) ∷ t) ++ u → (x : Bool) → ltb m 10 ≡ x → decimal_before (suc f) m (t ++ u) ≡ decimal_before (suc f) m t ++ u
    by_size ih true e = digit_step f m (t ++ u) e ∙ sym (ap (λ (x : Name). x ++ u) (digit_step f m t e))
    by_size ih false e = digits_step f m (t ++ u) e ∙ ih ∙ sym (ap (λ (x : Name). x ++ u) (digits_step f m t e))

pub one_digit : (n : ℕ) → n < 10 → (48 + n) ∷ [] ≡ decimal n
unfolding decimal
one_digit n h = sym (digit_step n n [] (lt-ltb n 10 h))

pub more_digits : (n : ℕ) → 10 ≤ n → decimal (n / 10) ++ ((48 + n % 10) ∷ []) ≡ decimal n
unfolding decimal
more_digits n h =
    sym
    (digits_step n n [] (le-ltb n 10 h) ∙ digits_bound n (suc (n / 10)) (n / 10) ((48 + n % 10) ∷ []) (omega arith) (omega arith) ∙ digits_then (suc (n / 10)) (n / 10) [] ((48 + n % 10) ∷ []))

-- LETTERS
pub last_letter : (f n : ℕ) → n < f → n / 26 ≡ 0 → (65 + n % 26) ∷ [] ≡ param_letters f n
unfolding param_letters
last_letter zero n h e = absurd (omega arith)
last_letter (suc f) n h e = sym (simp (eq-eqb (n / 26) 0 e))

pub more_letters : (f n : ℕ) → n < f → (n / 26 ≡ 0 → ⊥) → ((65 + n % 26) ∷ []) ++ param_letters (f - 1) (n / 26) ≡ param_letters f n
unfolding param_letters
more_letters zero n h e = absurd (omega arith)
more_letters (suc f) n h e = rw (sub-one (suc f)) (sym (simp (ne_eqb (n / 26) 0 e)))

-- the depth, if above 0
pub at_no_depth : (d i : ℕ) → d ≡ 0 → param_letters (i + 1) i ≡ generic_param_name d i
unfolding generic_param_name
at_no_depth d i e = rw (e, add-one i) (sym (append-nil (param_letters (suc i) i)))

pub at_depth : (d i : ℕ) → (d ≡ 0 → ⊥) → param_letters (i + 1) i ++ decimal d ≡ generic_param_name d i
unfolding generic_param_name
at_depth d i e = let h : 0 < d = omega arith in rw (add-one i) (sym (simp (lt-ltb 0 d h)))

-- The loop over the letters: n is what is left of the index
pub record Lettering (s₀ : Sink) (index : ℕ) (s : Sink) (n : ℕ) : Type 0 where
  pub bound : ℕ
  pub above : n < bound
  pub rest : Rest s₀ (param_letters (index + 1) index) s (param_letters bound n)

pub lettering_first : (index : ℕ) (s : Sink) → Lettering s index s index
lettering_first index s = record { bound = index + 1; above = omega arith; rest = rest_start }

module _ {s₀ s s' : Sink} {index n : ℕ} where
  pub lettering_next : Lettering s₀ index s n → Appended s s' ((65 + n % 26) ∷ []) → (n / 26 ≡ 0 → ⊥) → Lettering s₀ index s' (n / 26)
  lettering_next l w e =
      let a = l.above in
      record { bound = l.bound - 1; above = omega arith; rest = rest_then w (rest_is (sym (more_letters l.bound n a e)) l.rest) }

  pub lettering_last : Lettering s₀ index s n → Appended s s' ((65 + n % 26) ∷ []) → n / 26 ≡ 0 → Appended s₀ s' (param_letters (index + 1) index)
  lettering_last l w e = l.rest.ends s' (appended_is (last_letter l.bound n l.above e) w)
