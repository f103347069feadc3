-- What the functions of this crate say about the segments of an identifier. Assumes nothing.
use Rattle.std.specs.Prelude.{◌≡◌, List, ℕ, ◌+◌, ◌≤◌, length, drop, Option, Some, None}
use Rattle.std.proofs.Math.Option as M
use Rattle.std.proofs.Math.ListN.{get_elem?}
use denote.Bor.{Bor}
use Rattle.definition.specs.Base.{Name, ok}
use Rattle.definition.specs.Text.{Text}
use Rattle.text_cursor.specs.Reads.{rest}
use Rattle.text_words.specs.Table.{Words, table}
use Rattle.text_spelling.specs.Segments as P
use Rattle.text_spelling.specs.declared.segments.Segments.{Segments}

-- the definition's segment at the place
abbrev pub coming : Segments → P.Segment
coming s = P.segment_of (table s.text.text.now s.words.now) s.more s.punycoded (rest s.text)

-- the segments after the lead of an identifier
pub record Begun (whole : Text) (w : Words) (p : ℕ) (s : Segments) : Type 0 where
  pub is : P.start (drop p whole) ≡ ok (P.lead s.more s.punycoded) (rest s.text)
  pub text : s.text.text.now ≡ whole
  pub words : s.words.now ≡ w
  pub inside : p ≤ length whole → s.text.at ≤ length whole

-- the segment is these bytes, and `new` is what is left
pub record Taken (out : P.Segment) (bytes : Name) (old new : Segments) : Type 0 where
  pub is : out ≡ P.segment bytes new.more (rest new.text)
  pub text : new.text.text ≡ old.text.text
  pub words : new.words ≡ old.words
  pub kept : new.punycoded ≡ old.punycoded
  pub short : length bytes ≤ length old.text.text.now
  pub onward : old.text.at + 1 ≤ new.text.at
  pub within : new.text.at ≤ length old.text.text.now

-- the name ends here; the text and the words stay
pub record NoSegment (out : P.Segment) (old new : Segments) : Type 0 where
  pub is : out ≡ P.end
  pub text : new.text.text ≡ old.text.text
  pub words : new.words ≡ old.words

abbrev pub SegmentIs : P.Segment → Segments → Segments → Option (Bor (List ℕ)) → Type 0
SegmentIs out old new (Some b) = Taken out b.now old new
SegmentIs out old new None = NoSegment out old new

-- the word is these bytes, which are no more than the text has
pub record Word (out : M.Option Name) (text : Text) (bytes : Name) : Type 0 where
  pub is : out ≡ M.some bytes
  pub short : length bytes ≤ length text

abbrev pub WordIs : M.Option Name → Text → Option (Bor (List ℕ)) → Type 0
WordIs out text (Some b) = Word out text b.now
WordIs out text None = out ≡ M.none

-- a letter was taken, and the segment is word i; or there is no letter here
pub record Letter (i : ℕ) (old new : Segments) : Type 0 where
  pub is : (words : List Name) → P.segment_of words old.more old.punycoded (rest old.text) ≡ P.of_word (get_elem? words i) new.more (rest new.text)
  pub text : new.text.text ≡ old.text.text
  pub words : new.words ≡ old.words
  pub kept : new.punycoded ≡ old.punycoded
  pub onward : old.text.at + 1 ≤ new.text.at
  pub within : new.text.at ≤ length old.text.text.now

pub record NoLetter (old new : Segments) : Type 0 where
  pub is : (words : List Name) → P.segment_of words old.more old.punycoded (rest old.text) ≡ P.literal_segment old.more old.punycoded (rest old.text)
  pub same : new ≡ old

abbrev pub LetterIs : Segments → Segments → Option ℕ → Type 0
LetterIs old new (Some i) = Letter i old new
LetterIs old new None = NoLetter old new
