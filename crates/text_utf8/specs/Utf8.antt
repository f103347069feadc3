-- What a result about UTF-8 says about the definition (RFC 3629). Assumes nothing.
use Rattle.std.specs.Prelude.{◌≡◌, Bool, ℕ, ◌≤◌, ltb, length, Some, None}
use Rattle.std.specs.Prelude as Std
use Rattle.std.proofs.Math.Option.{Option, some, none}
use Rattle.definition.specs.Text.{Text, Utf8Row, utf8_row, utf8_rows, second, by_row}
use Rattle.text_cursor.specs.declared.Reader.{Reader}
use Rattle.text_cursor.specs.Reads.{rest}
use Rattle.text_utf8.specs.declared.Row.{Row}

-- the definition's row, with no first bytes: they do not bear on what follows
abbrev pub row : Row → Utf8Row
row r = utf8_row 0 0 r.low r.high r.more

-- what follows a first byte b, by the row that it begins
abbrev pub RowIs : ℕ → Std.Option Row → Type 0
RowIs b (Some r) = (t : Text) → by_row b utf8_rows t ≡ second (row r) t
RowIs b None = (t : Text) → by_row b utf8_rows t ≡ none

-- the outcome is the text from the new place on
pub record Skipped (out : Option Text) (old new : Reader) : Type 0 where
  pub is : out ≡ some (rest new)
  pub text : new.text ≡ old.text
  pub onward : old.at ≤ new.at
  pub inside : old.at ≤ length old.text.now → new.at ≤ length old.text.now

-- there is none; the reader keeps its text
pub record NotSkipped (out : Option Text) (old new : Reader) : Type 0 where
  pub is : out ≡ none
  pub text : new.text ≡ old.text

abbrev pub Skips : Option Text → Reader → Reader → Std.Option Unit → Type 0
Skips out old new (Some u) = Skipped out old new
Skips out old new None = NotSkipped out old new

abbrev pub Placed : Option ℕ → Std.Option ℕ → Type 0
Placed out (Some i) = out ≡ some i
Placed out None = out ≡ none

-- ASCII
abbrev pub below_80 : ℕ → Bool
below_80 b = ltb b 128
