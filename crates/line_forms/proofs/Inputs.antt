-- A whole input, line by line. Assumes nothing.
use mathlib.Core.Path.{◌≡◌, refl, sym, ap, ◌∙◌}
use mathlib.Core.Bool.{Bool, true, false}
use mathlib.Core.List.{List, [], ◌∷◌, ◌++◌, append_assoc, append-nil}
use Prim.Native.Nat.{ℕ, suc, ◌<◌}
use native.Mathlib.Omega.{arith}
use borrow.Author.Tests.{ne_eqb}
use lib.Dec.{eqb}
use lib.ListN.{length, length-append}
use Rattle.definition.specs.Text.{Text}
use Rattle.line_forms.specs.LineEnds.{newline}
use Rattle.line_forms.specs.Lines.{last_answer, answers_from, answers, Clear, after_line, owed}

clear_tail : (c : ℕ) (t : Text) → Clear (c ∷ t) → Clear t
clear_tail c t h i j = h (suc i) (omega arith)

clear_head : (c : ℕ) (t : Text) → Clear (c ∷ t) → eqb c newline ≡ false
clear_head c t h = ne_eqb c newline (h 0 (omega arith))

-- AFTER A LINE
after_byte : (c : ℕ) (t : Text) → eqb c newline ≡ false → after_line (c ∷ t) ≡ after_line t
unfolding after_line
after_byte c t e = rw (e, after_line)

pub after_clear : (l u : Text) → Clear l → after_line (l ++ u) ≡ after_line u
after_clear [] u h = refl
after_clear (c ∷ l) u h = after_byte c (l ++ u) (clear_head c l h) ∙ after_clear l u (clear_tail c l h)

pub after_newline : (u : Text) → after_line (newline ∷ u) ≡ u
unfolding after_line
after_newline u = refl

module _ (line : Text → List ℕ) where
  goes_on : (b : Text) (c : ℕ) (t : Text) → eqb c newline ≡ false → answers_from line b (c ∷ t) ≡ answers_from line (b ++ (c ∷ [])) t
  unfolding answers_from
  goes_on b c t e = rw (e, answers_from)

  -- bytes of a line that continues
  begun : (b l u : Text) → Clear l → answers_from line b (l ++ u) ≡ answers_from line (b ++ l) u
  begun b [] u h = ap (λ (x : Text). answers_from line x u) (sym (append-nil b))
  begun b (c ∷ l) u h =
      goes_on b c (l ++ u) (clear_head c l h) ∙ begun (b ++ (c ∷ [])) l u (clear_tail c l h) ∙ ap (λ (x : Text). answers_from line x u) (append_assoc b (c ∷ []) l)

  -- a line with its newline, then the rest
  pub one_line : (l u : Text) → Clear l → answers line (l ++ (newline ∷ u)) ≡ line l ++ answers line u
  unfolding answers answers_from
  one_line l u h = begun [] l (newline ∷ u) h

  pub nothing_left : answers line [] ≡ []
  unfolding answers answers_from last_answer
  nothing_left = refl

  -- THE LAST LINE
  begun_is : (c : ℕ) (t : Text) → last_answer line (c ∷ t) ≡ line (c ∷ t)
  unfolding last_answer
  begun_is c t = refl

  last_is : (t : Text) → 0 < length t → last_answer line t ≡ line t
  last_is [] h = absurd (omega arith)
  last_is (c ∷ t) h = begun_is c t

  last_line : (t : Text) → Clear t → answers line t ≡ last_answer line t
  unfolding answers answers_from
  last_line t h = ap (answers_from line []) (sym (append-nil t)) ∙ begun [] t [] h

  -- a last line needs no newline
  pub owed_last : (t : Text) → Clear t → 0 < length t → owed line false t ≡ line t
  unfolding owed
  owed_last t h k = last_line t h ∙ last_is t k

  -- if nothing is left, nothing is answered
  pub owed_none : (t : Text) → length t ≡ 0 → owed line false t ≡ []
  unfolding owed
  owed_none [] e = nothing_left
  owed_none (c ∷ t) e = absurd (omega arith)

  -- INSIDE A LINE that is already answered
  pub owed_inside : (l u : Text) → Clear l → owed line true (l ++ u) ≡ owed line true u
  unfolding owed
  owed_inside l u h = ap (answers line) (after_clear l u h)

  pub owed_after : (l u : Text) → Clear l → owed line true (l ++ (newline ∷ u)) ≡ owed line false u
  unfolding owed
  owed_after l u h = ap (answers line) (after_clear l (newline ∷ u) h ∙ after_newline u)

  pub owed_ended : owed line true [] ≡ []
  unfolding owed after_line
  owed_ended = nothing_left

  -- A LONG LINE: if all lines of more than n bytes are answered alike
  module _ (n : ℕ) (alike : (s t : Text) → n < length s → n < length t → line s ≡ line t) where
    long_from : (a b u : Text) → n < length a → n < length b → answers_from line b u ≡ line a ++ answers line (after_line u)
    unfolding answers answers_from after_line
    long_from a b [] h k =
        let e : 0 < length b = omega arith in
        last_is b e ∙ alike b a k h ∙ sym (append-nil (line a)) ∙ ap (λ (x : List ℕ). line a ++ x) (sym nothing_left)
    long_from a b (c ∷ u) h k = go (long_from a (b ++ (c ∷ [])) u h (omega (arith, length-append b (c ∷ [])))) (eqb c newline) refl
      where
        go : answers_from line (b ++ (c ∷ [])) u ≡ line a ++ answers line (after_line u) → (x : Bool) → eqb c newline ≡ x → answers_from line b (c ∷ u) ≡ line a ++ answers line (after_line (c ∷ u))
        go ih true e = rw (e, answers_from, after_line, alike b a k h)
        go ih false e = goes_on b c u e ∙ ih ∙ ap (λ (x : Text). line a ++ answers line x) (sym (after_byte c u e))

    -- it is answered once, whatever follows
    pub owed_long : (t u : Text) → Clear t → n < length t → owed line false (t ++ u) ≡ line t ++ owed line true u
    unfolding owed answers
    owed_long t u h k = begun [] t u h ∙ long_from t t u k k
