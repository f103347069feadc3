-- Texts with a text between them, one at a time. Assumes nothing.
use mathlib.Core.Path.{◌≡◌, refl, sym, ap, ◌∙◌}
use mathlib.Core.Bool.{Bool, true, false}
use mathlib.Core.List.{List, [], ◌∷◌, ◌++◌, append-nil}
use Prim.Native.Nat.{ℕ, zero, suc, ◌+◌, ◌-◌, ◌≤◌, ◌<◌}
use native.Mathlib.Omega.{arith}
use native.Mathlib.Numerals.{add-one}
use lib.ListN.{get_or}
use Rattle.definition.specs.Base.{Name, bytes, decimal}
use Rattle.definition.specs.Operators.{suspend_resume_text}
use Rattle.definition.specs.Print.{join, generic_param_name, param_names, effects}
use Rattle.text_output.specs.Appends.{Appended, Rest, rest_start, rest_then, rest_is, rest_end, rest_past}
use Rattle.text_output.specs.declared.Sink.{Sink}
use Rattle.print_names.specs.Texts.{texts, text_of, sep_before}

-- each text preceded by the text with number n
unfoldable pub led : ℕ → List Name → Name
led n [] = []
led n (x ∷ xs) = text_of n ++ (x ++ led n xs)

-- what is left of a list after i of its texts were put
unfoldable pub left : ℕ → ℕ → List Name → Name
left n zero xs = join (get_or texts n "") xs
left n (suc i) xs = led n xs

join_led : (n : ℕ) (x : Name) (xs : List Name) → join (get_or texts n "") (x ∷ xs) ≡ x ++ led n xs
unfolding join led text_of
join_led n x [] = sym (append-nil x)
join_led n x (y ∷ ys) = ap (λ (z : Name). x ++ (bytes (get_or texts n "") ++ z)) (join_led n y ys)

-- the next of them
pub left_more : (n i : ℕ) (x : Name) (xs : List Name) → left n i (x ∷ xs) ≡ sep_before i n ++ (x ++ left n (i + 1) xs)
unfolding left led sep_before
left_more n zero x xs = join_led n x xs
left_more n (suc i) x xs = rw (add-one (suc i))

pub left_none : (n i : ℕ) → left n i [] ≡ []
unfolding left led join
left_none n zero = refl
left_none n (suc i) = refl

-- before the first
pub left_first : (n : ℕ) (xs : List Name) → left n 0 xs ≡ join (get_or texts n "") xs
unfolding left
left_first n xs = refl

pub sep_first : (i n : ℕ) → i ≡ 0 → [] ≡ sep_before i n
unfolding sep_before
sep_first zero n e = refl
sep_first (suc i) n e = absurd (omega arith)

pub sep_later : (i n : ℕ) → (i ≡ 0 → ⊥) → text_of n ≡ sep_before i n
unfolding sep_before
sep_later zero n e = absurd (e refl)
sep_later (suc i) n e = refl

-- GENERIC PARAMETERS
pub names_step : (i n : ℕ) → i < n → param_names (n - i) i ≡ generic_param_name 0 i ∷ param_names (n - (i + 1)) (i + 1)
unfolding param_names
names_step i n h =
    let e : n - i ≡ suc (n - (i + 1)) = omega arith in
    rw (e, add-one i)

pub names_done : (i n : ℕ) → n ≤ i → param_names (n - i) i ≡ []
unfolding param_names
names_done i n h = let e : n - i ≡ 0 = omega arith in rw e

-- EFFECTS
module _ (throws is_async : Bool) where
  pub both_effects : is_async ≡ true → throws ≡ true → text_of 27 ++ text_of 28 ≡ effects throws is_async
  unfolding effects text_of texts bytes
  both_effects a t = rw (a, t)

  pub only_async : is_async ≡ true → throws ≡ false → text_of 27 ≡ effects throws is_async
  unfolding effects text_of texts bytes
  only_async a t = rw (a, t)

  pub only_throws : is_async ≡ false → throws ≡ true → text_of 28 ≡ effects throws is_async
  unfolding effects text_of texts bytes
  only_throws a t = rw (a, t)

  pub no_effects : is_async ≡ false → throws ≡ false → [] ≡ effects throws is_async
  unfolding effects
  no_effects a t = rw (a, t)

-- WORDS WITH A NUMBER
pub suspend_resume_is : (n : ℕ) → (text_of 6 ++ decimal n) ++ text_of 34 ≡ suspend_resume_text n
unfolding suspend_resume_text text_of texts bytes
suspend_resume_is n = refl

-- the loop over the generic parameters' names
pub record Listing (o₀ o : Sink) (count i : ℕ) : Type 0 where
  pub rest : Rest o₀ (join ", " (param_names count 0)) o (left 4 i (param_names (count - i) i))

pub listing_first : (o : Sink) (count : ℕ) → Listing o o count 0
unfolding texts
listing_first o count =
    let z : count - 0 ≡ count = omega arith in
    record { rest = rest_is (sym (ap (λ (k : ℕ). left 4 0 (param_names k 0)) z ∙ left_first 4 (param_names count 0))) rest_start }

module _ {o₀ o : Sink} {count i : ℕ} where
  pub listing_next : {o₁ o₂ : Sink} → Listing o₀ o count i → i < count → Appended o o₁ (sep_before i 4) → Appended o₁ o₂ (generic_param_name 0 i) → Listing o₀ o₂ count (i + 1)
  listing_next l h a b =
      record { rest = rest_then b (rest_then a (rest_is (ap (left 4 i) (names_step i count h) ∙ left_more 4 i (generic_param_name 0 i) (param_names (count - (i + 1)) (i + 1))) l.rest)) }

  pub listing_end : Listing o₀ o count i → count ≤ i → Appended o₀ o (join ", " (param_names count 0))
  listing_end l h = rest_end (rest_is (ap (left 4 i) (names_done i count h) ∙ left_none 4 i) l.rest)

  pub listing_past : Listing o₀ o count i → o.room < o.at → Appended o₀ o (join ", " (param_names count 0))
  listing_past l h = rest_past h l.rest
