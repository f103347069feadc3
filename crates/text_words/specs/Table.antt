-- The word table: what its numbers say about a text (01, "Words"). Assumes nothing.
use Rattle.std.specs.Prelude.{◌≡◌, List, [], ◌∷◌, ◌++◌, ℕ, zero, suc, ◌+◌, ◌≤◌, ◌<◌, length, get_or, take, drop, Option, Some, None}
use Rattle.definition.specs.Base.{Name}
use Rattle.definition.specs.Text.{Text}
use Rattle.definition.specs.Words as W
pub use Rattle.text_cursor.specs.Part.{part}
use Rattle.text_words.specs.declared.spans.Span.{Span}
use Rattle.text_words.specs.declared.Words as D

abbrev pub Words : Type 0
Words = D.Words

-- parts, from where each starts and how long it is
unfoldable pub paired : (starts lengths : List ℕ) → List Span
paired [] lengths = []
paired (s ∷ starts) [] = []
paired (s ∷ starts) (l ∷ lengths) = record { start = s; length = l } ∷ paired starts lengths

-- the parts of a table
abbrev pub spans_of : Words → List Span
spans_of w = paired w.starts w.lengths

-- the i-th of these parts; past the last, a part of no bytes
abbrev pub span_at : List Span → ℕ → Span
span_at spans i = get_or spans i (record { start = 0; length = 0 })

-- the bytes of a part
abbrev pub spanned : Text → Span → Name
spanned text s = part text s.start (s.start + s.length)

-- the i-th word
abbrev pub word_of : Text → List Span → ℕ → Name
word_of text spans i = take (span_at spans i).length (drop (span_at spans i).start text)

-- that many words, in order
unfoldable pub words_of : Text → List Span → ℕ → List Name
words_of text spans zero = []
words_of text spans (suc n) = words_of text spans n ++ (word_of text spans n ∷ [])

abbrev pub table : Text → Words → List Name
table text w = words_of text (spans_of w) w.count

-- at most 26 words, each of 2 bytes or more and inside the text
pub record Fitting (text : Text) (w : Words) : Type 0 where
  pub few : w.count ≤ W.most_words
  pub inside : (i : ℕ) → i < w.count → (span_at (spans_of w) i).start + (span_at (spans_of w) i).length ≤ length text
  pub long : (i : ℕ) → i < w.count → 2 ≤ (span_at (spans_of w) i).length

-- the table w holds these words
pub record Lists (text : Text) (w : Words) (words : List Name) : Type 0 where
  pub is : table text w ≡ words
  pub fitting : Fitting text w

-- The byte b is at a place, after the byte previous, and the open word there begins at start (at
-- the place: it has no byte yet). After b the next word begins at `next`, and the open one has ended
pub record Ends (start at previous b next : ℕ) : Type 0 where
  pub most : next ≤ at + 1
  pub noted : (text t : Text) (words : List Name) → at < length text → get_or text at 0 ≡ b →
      W.note_words_from (part text start at) previous (b ∷ t) words ≡ W.note_words_from (part text next (at + 1)) b t (W.keep (part text start at) words)

-- or it goes on
pub record Grows (start at previous b : ℕ) : Type 0 where
  pub noted : (text t : Text) (words : List Name) → at < length text → get_or text at 0 ≡ b →
      W.note_words_from (part text start at) previous (b ∷ t) words ≡ W.note_words_from (part text start (at + 1)) b t words

abbrev pub Turns : (start at previous b : ℕ) → Option ℕ → Type 0
Turns start at previous b (Some next) = Ends start at previous b next
Turns start at previous b None = Grows start at previous b
