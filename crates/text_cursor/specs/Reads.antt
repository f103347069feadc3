-- What the result of a method of `Reader` says about a step of the definition (01, "Text and
-- cursor"). Assumes nothing.
use denote.Bor.{Bor}
use Rattle.std.specs.Prelude.{◌≡◌, Bool, true, false, ℕ, ◌+◌, ◌≤◌, ◌<◌, List, [], ◌∷◌, length, take, drop, Result, MatchResult, Option, Some, None}
use Rattle.definition.specs.Base.{digit, Out, ok, refused}
use Rattle.definition.specs.Text.{Text, Lex, peek}
use Rattle.definition.specs.Text as Text
use Rattle.definition.specs.Enums.{number, param}
use Rattle.definition.specs.declared.Refusal.{Refusal}
use Rattle.definition.specs.declared.Param.{Param}
use Rattle.text_cursor.specs.declared.Reader.{Reader}

-- the text from the reader's place on
abbrev pub rest : Reader → Text
rest r = drop r.at r.text.now

-- the byte at the reader's place is b, or the text ends there
pub record Byte (r : Reader) (b : ℕ) : Type 0 where
  pub is : rest r ≡ b ∷ drop (r.at + 1) r.text.now
  pub inside : r.at < length r.text.now

abbrev pub Peeks : Reader → Option ℕ → Type 0
Peeks r (Some b) = Byte r b
Peeks r None = rest r ≡ []

-- the outcome is the value a, and `new` is where the outcome's rest begins: in the text of `old`, at
-- least so many bytes further on
pub record Stands {A : Type 0} (out : Out Text A) (a : A) (least : ℕ) (old new : Reader) : Type 0 where
  pub is : out ≡ ok a (rest new)
  pub text : new.text ≡ old.text
  pub inside : new.at ≤ length new.text.now
  pub onward : old.at + least ≤ new.at

-- r is the result of the step m on the rest of `old`, where b represents the value `mean b`: the step
-- takes at least so many bytes, or is refused as r is. Either way the reader keeps its text
pub record Reads {A B : Type 0} (mean : B → A) (least : ℕ) (m : Lex A) (old new : Reader) (r : Result B Refusal) : Type 0 where
  pub says : MatchResult r (λ b. Stands (m (rest old)) (mean b) least old new) (λ f. m (rest old) ≡ refused (number f))
  pub text : new.text ≡ old.text

-- the outcome is the refusal f, and the reader keeps its text
pub record Refuses {A : Type 0} (out : Out Text A) (f : Refusal) (old new : Reader) : Type 0 where
  pub is : out ≡ refused (number f)
  pub text : new.text ≡ old.text

-- a step that takes one byte or more, and gives a number or a parameter
abbrev pub ReadsNumber : Lex ℕ → Reader → Reader → Result ℕ Refusal → Type 0
ReadsNumber = Reads (λ (n : ℕ). n) 1

abbrev pub ReadsParam : Lex Text.Param → Reader → Reader → Result Param Refusal → Type 0
ReadsParam = Reads param 1

-- a step that looks at one byte, and takes it or leaves it
pub record Took (m : Lex Bool) (old new : Reader) : Type 0 where
  pub is : m (rest old) ≡ ok true (rest new)
  pub text : new.text ≡ old.text
  pub inside : new.at ≤ length new.text.now
  pub onward : new.at ≡ old.at + 1

pub record Left (m : Lex Bool) (old new : Reader) : Type 0 where
  pub is : m (rest old) ≡ ok false (rest new)
  pub text : new.text ≡ old.text
  pub here : new.at ≡ old.at

abbrev pub Takes : Lex Bool → Reader → Reader → Bool → Type 0
Takes m old new true = Took m old new
Takes m old new false = Left m old new

-- the byte b was taken; or the text ends here
pub record TookByte (b : ℕ) (old new : Reader) : Type 0 where
  pub is : rest old ≡ b ∷ rest new
  pub text : new.text ≡ old.text
  pub inside : new.at ≤ length new.text.now
  pub onward : new.at ≡ old.at + 1

pub record Ended (old new : Reader) : Type 0 where
  pub is : rest old ≡ []
  pub same : new ≡ old

abbrev pub TakesByte : Reader → Reader → Option ℕ → Type 0
TakesByte old new (Some b) = TookByte b old new
TakesByte old new None = Ended old new

-- a digit d was taken, which is the byte 48 + d; or there is none
pub record TookDigit (d : ℕ) (old new : Reader) : Type 0 where
  pub is : rest old ≡ (48 + d) ∷ rest new
  pub small : d < 10
  pub text : new.text ≡ old.text
  pub inside : new.at ≤ length new.text.now
  pub onward : new.at ≡ old.at + 1

pub record LeftDigit (old new : Reader) : Type 0 where
  pub is : peek digit (rest old) ≡ false
  pub text : new.text ≡ old.text
  pub here : new.at ≡ old.at

abbrev pub TakesDigit : Reader → Reader → Option ℕ → Type 0
TakesDigit old new (Some d) = TookDigit d old new
TakesDigit old new None = LeftDigit old new

-- the next n bytes were taken, which are the slice b; or the text has fewer
pub record TookPart (n : ℕ) (b : Text) (old new : Reader) : Type 0 where
  pub is : b ≡ take n (rest old)
  pub text : new.text ≡ old.text
  pub inside : new.at ≤ length new.text.now
  pub onward : new.at ≡ old.at + n

pub record Short (n : ℕ) (old new : Reader) : Type 0 where
  pub few : length old.text.now < old.at + n
  pub same : new ≡ old

abbrev pub TakesPart : ℕ → Reader → Reader → Option (Bor (List ℕ)) → Type 0
TakesPart n old new (Some b) = TookPart n b.now old new
TakesPart n old new None = Short n old new
