-- The waiting literals: what their numbers say about a text, and what is known once all are noted
-- (01, "Words"). Assumes nothing.
use Rattle.std.specs.Prelude.{◌≡◌, List, ℕ, zero, suc, ◌+◌, ◌≤◌, ◌<◌, length}
use Rattle.definition.specs.Base.{Name}
use Rattle.definition.specs.Text.{Text}
use Rattle.definition.specs.Words as W
use Rattle.definition.specs.Check as C
use Rattle.text_words.specs.Table.{part, span_at, word_of}
use Rattle.text_words.specs.declared.spans.Span.{Span}
use Rattle.text_words.specs.declared.spans.Spans.{Spans}

abbrev pub Waiting : Type 0
Waiting = Spans 16

-- what is known after that many literals, each noted after those before it
unfoldable pub noted_from : {A : Type 0} → (Name → A → A) → Text → List Span → ℕ → A → A
noted_from note text spans zero known = known
noted_from note text spans (suc n) known = note (word_of text spans n) (noted_from note text spans n known)

-- what is known once all waiting literals are noted: words, or their number
abbrev pub noted_behind : {A : Type 0} → (Name → A → A) → Text → Waiting → A → A
noted_behind note text q known = noted_from note text q.spans q.count known

-- at most 16 literals, each inside the text
pub record Waits (text : Text) (q : Waiting) : Type 0 where
  pub few : q.count ≤ 16
  pub inside : (i : ℕ) → i < q.count → (span_at q.spans i).start + (span_at q.spans i).length ≤ length text

-- r is q followed by the literal from one place to another, whether words are noted or counted
pub record More (text : Text) (from to : ℕ) (q r : Waiting) : Type 0 where
  pub waits : Waits text r
  pub words : (known : List Name) → noted_behind W.note_words text r known ≡ W.note_words (part text from to) (noted_behind W.note_words text q known)
  pub count : (known : ℕ) → noted_behind (C.count_words_from 0 0) text r known ≡ C.count_words_from 0 0 (part text from to) (noted_behind (C.count_words_from 0 0) text q known)
