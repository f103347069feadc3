-- What the results over a reader say about the definition's steps. Assumes nothing. A relation over
-- a step has the arguments: the step or its outcome, the reader before and after it, the result.
use Rattle.std.specs.Prelude.{◌≡◌, false, List, ℕ, ◌≤◌, ◌<◌, length, drop, Result, Ok, Err}
use Rattle.definition.specs.Base.{Name, Out, ok, is}
use Rattle.definition.specs.Text.{Text, Lex, next_if}
use Rattle.definition.specs.Words as W
use Rattle.definition.specs.Check as C
use Rattle.definition.proofs.WordsAdded.{Begins}
use Rattle.definition.specs.declared.Refusal.{Refusal}
use Rattle.text_cursor.specs.declared.Reader.{Reader}
use Rattle.text_cursor.specs.Reads.{rest, Stands, Refuses}
use Rattle.text_words.specs.Table.{part, Words, table, Fitting}
use Rattle.text_identifiers.specs.Rounds.{Round, closes, takes, Got, got}
use Rattle.text_identifiers.specs.declared.Letters.{Letters}
use Rattle.text_identifiers.specs.declared.Extent.{Extent}
use Rattle.text_identifiers.specs.declared.Piece.{Piece}

abbrev pub spelled : Letters → C.Spelled
spelled l = C.spelled l.empty l.more

-- the letters were taken, if there are any
pub record Spells (m : Lex C.Spelled) (l : Letters) (old new : Reader) : Type 0 where
  pub is : m (rest old) ≡ ok (spelled l) (rest new)
  pub text : new.text ≡ old.text
  pub onward : old.at ≤ new.at

abbrev pub SpelledAs : Lex C.Spelled → Reader → Reader → Result Letters Refusal → Type 0
SpelledAs m old new (Ok l) = Spells m l old new
SpelledAs m old new (Err f) = Refuses (m (rest old)) f old new

-- the outcome is f of the bytes from one place to another, which are one or more, and its rest is
-- what follows them
pub record Lies {A : Type 0} (out : Out Text A) (f : Name → A) (text : Text) (least from to : ℕ) : Type 0 where
  pub is : out ≡ ok (f (part text from to)) (drop to text)
  pub onward : least ≤ from
  pub some : from < to
  pub inside : to ≤ length text

-- the same, where the reader is then behind those bytes
pub record Taken {A : Type 0} (out : Out Text A) (f : Name → A) (old new : Reader) (e : Extent) : Type 0 where
  pub lies : Lies out f old.text.now old.at e.from e.to
  pub text : new.text ≡ old.text
  pub here : new.at ≡ e.to

-- the byte at a place is not `0`
pub record NoZero (text : Text) (at : ℕ) : Type 0 where
  pub is : next_if (is "0") (drop at text) ≡ ok false (drop at text)

abbrev pub Extends : Lex Name → Reader → Reader → Result Extent Refusal → Type 0
Extends m old new (Ok e) = Taken (m (rest old)) (λ s. s) old new e
Extends m old new (Err f) = Refuses (m (rest old)) f old new

abbrev pub Pieced : Lex Round → Reader → Reader → Result Piece Refusal → Type 0
Pieced m old new (Ok (Piece.Closed e)) = Stands (m (rest old)) (closes e) 1 old new
Pieced m old new (Ok (Piece.Literal l e)) = Taken (m (rest old)) (takes l.empty l.more) old new e
Pieced m old new (Err f) = Refuses (m (rest old)) f old new

-- what is known after an identifier stands for these words; if it is refused, for `first` and maybe
-- words noted before
pub record Found (stands : List Name → Type 0) (out : Out Text (Got (List Name))) (old new : Reader) : Type 0 where
  pub words : List Name
  pub met : stands words
  pub is : Stands out (got false words) 1 old new

pub record Missed (stands : List Name → Type 0) (first : List Name) (out : Out Text (Got (List Name))) (old new : Reader) (f : Refusal) : Type 0 where
  pub words : List Name
  pub met : stands words
  pub begins : Begins first words
  pub is : Refuses out f old new

abbrev pub Finds : (List Name → Type 0) → List Name → Out Text (Got (List Name)) → Reader → Reader → Result Unit Refusal → Type 0
Finds stands first out old new (Ok u) = Found stands out old new
Finds stands first out old new (Err f) = Missed stands first out old new f

-- AN IDENTIFIER
-- it is read: some name, after which the words are those of the table w
pub record Named (out : Out Text W.Identified) (old new : Reader) (w : Words) : Type 0 where
  pub name : Name
  pub is : Stands out (W.identified name (table old.text.now w)) 1 old new

abbrev pub Answered : Out Text W.Identified → Reader → Reader → Words → Result Unit Refusal → Type 0
Answered out old new w (Ok u) = Named out old new w
Answered out old new w (Err f) = Refuses out f old new

-- the result of an identifier; whether it is read or refused, the table is inside the text, and its
-- words are those of the table w₀ before it and maybe more
pub record Identifies (out : Out Text W.Identified) (old new : Reader) (w₀ w : Words) (r : Result Unit Refusal) : Type 0 where
  pub answer : Answered out old new w r
  pub fitting : Fitting old.text.now w
  pub begins : Begins (table old.text.now w₀) (table old.text.now w)

-- the identifier is refused: the count was n₀, and words of its first literals may be counted
pub record NotCounted (out : Out Text C.Identified) (old new : Reader) (n₀ n : ℕ) (f : Refusal) : Type 0 where
  pub refuses : Refuses out f old new
  pub grown : n₀ ≤ n

-- the result where words are a count
abbrev pub Counted : Out Text C.Identified → Reader → Reader → ℕ → ℕ → Result Unit Refusal → Type 0
Counted out old new n₀ n (Ok u) = Stands out (C.identified false n) 1 old new
Counted out old new n₀ n (Err f) = NotCounted out old new n₀ n f
