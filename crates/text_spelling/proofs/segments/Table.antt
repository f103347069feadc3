-- A word of the table, by its number. Assumes nothing.
use mathlib.Core.Path.{◌≡◌, refl, sym, ap, ◌∙◌}
use mathlib.Core.Logic.{⊎_elim}
use mathlib.Core.List.{List, [], ◌∷◌, ◌++◌}
use mathlib.Core.Option.{some, none}
use Prim.Native.Nat.{ℕ, zero, suc, ◌+◌, ◌-◌, ◌≤◌, ◌<◌}
use native.Mathlib.Omega.{arith}
use native.Mathlib.Nat.{eq-or-lt_of_le}
use lib.ListN.{length, take, drop, get_elem?, length-append, length-drop, length-take}
use Rattle.definition.specs.Base.{Name}
use Rattle.definition.specs.Text.{Text}
use Rattle.text_words.specs.declared.spans.Span.{Span}
use Rattle.text_words.specs.Table.{span_at, spans_of, word_of, words_of, table, Fitting}
use Rattle.text_words.specs.Table.{Words}
use Rattle.text_spelling.specs.SegmentsRead.{Word}

found_before : (ws : List Name) (w : Name) (i : ℕ) → i < length ws → get_elem? (ws ++ (w ∷ [])) i ≡ get_elem? ws i
found_before [] w i h = absurd (omega arith)
found_before (v ∷ ws) w zero h = refl
found_before (v ∷ ws) w (suc i) h = found_before ws w i (omega arith)

found_last : (ws : List Name) (w : Name) → get_elem? (ws ++ (w ∷ [])) (length ws) ≡ some w
found_last [] w = refl
found_last (v ∷ ws) w = found_last ws w

found_none : (ws : List Name) (i : ℕ) → length ws ≤ i → get_elem? ws i ≡ none
found_none [] i h = refl
found_none (v ∷ ws) zero h = absurd (omega arith)
found_none (v ∷ ws) (suc i) h = found_none ws i (omega arith)

module _ (text : Text) (spans : List Span) where
  words_length : (n : ℕ) → length (words_of text spans n) ≡ n
  unfolding words_of
  words_length zero = refl
  words_length (suc n) = length-append (words_of text spans n) _ ∙ omega (arith, words_length n)

  words_at : (n i : ℕ) → i < n → get_elem? (words_of text spans n) i ≡ some (word_of text spans i)
  unfolding words_of
  words_at zero i h = absurd (omega arith)
  words_at (suc n) i h = let le : i ≤ n = omega arith in ⊎_elim (last n i) (before n i (words_at n i)) (eq-or-lt_of_le le)
    where
      before : (n i : ℕ) → (i < n → get_elem? (words_of text spans n) i ≡ some (word_of text spans i)) → i < n →
          get_elem? (words_of text spans n ++ (word_of text spans n ∷ [])) i ≡ some (word_of text spans i)
      before n i ih k = let l : i < length (words_of text spans n) = omega (arith, words_length n) in found_before (words_of text spans n) (word_of text spans n) i l ∙ ih k

      last : (n i : ℕ) → i ≡ n → get_elem? (words_of text spans n ++ (word_of text spans n ∷ [])) i ≡ some (word_of text spans i)
      last n i k =
          ap (get_elem? (words_of text spans n ++ (word_of text spans n ∷ []))) (k ∙ sym (words_length n)) ∙ found_last (words_of text spans n) (word_of text spans n)
          ∙ ap (λ (m : ℕ). some (word_of text spans m)) (sym k)

module _ (text : Text) (w : Words) (i : ℕ) where
  pub no_word : w.count ≤ i → get_elem? (table text w) i ≡ none
  no_word h = found_none (table text w) i (omega (arith, words_length text (spans_of w) w.count))

  pub the_word : {from to : ℕ} {s : Span} {bytes : Name} → s ≡ span_at (spans_of w) i → from ≡ s.start → to ≡ s.start + s.length → i < w.count → Fitting text w → bytes ≡ take (to - from) (drop from text) → Word (get_elem? (table text w) i) text bytes
  the_word {from} {to} {s} {bytes} e a b h g k =
      let n : to - from ≡ s.length = omega arith in
      let q : bytes ≡ word_of text (spans_of w) i = k ∙ ap (λ (m : ℕ). take m (drop from text)) n ∙ ap (λ (f : ℕ). take s.length (drop f text)) a ∙ ap (λ (t : Span). take t.length (drop t.start text)) e in
      let l : length bytes ≤ length (drop from text) = rw k (omega (arith, length-take (to - from) (drop from text))) in
      record { is = words_at text (spans_of w) w.count i h ∙ ap (λ (x : Name). some x) (sym q); short = omega (arith, l, length-drop from text) }
