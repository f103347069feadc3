-- A length and its bytes. Assumes nothing.
use Rattle.std.specs.Prelude.{◌≡◌, Bool, List, ℕ, ◌+◌, ◌≤◌, length, Option, Some, None}
use denote.Bor.{Bor}
use Rattle.definition.specs.Base.{Name, ok}
use Rattle.definition.specs.Text.{natural}
use Rattle.text_cursor.specs.Reads.{rest}
use Rattle.text_cursor.specs.declared.Reader.{Reader}
use Rattle.text_spelling.specs.Segments as P

-- the bytes were read, and `new` is behind them
pub record Measured (bytes : Name) (punycoded : Bool) (old new : Reader) : Type 0 where
  pub is : (more : Bool) → P.of_length more punycoded (natural (rest old)) ≡ P.of_bytes more (ok bytes (rest new))
  pub text : new.text ≡ old.text
  pub short : length bytes ≤ length old.text.now
  pub onward : old.at + 1 ≤ new.at
  pub inside : new.at ≤ length new.text.now

-- there is no length, or fewer bytes than it says; the reader keeps its text
pub record Unmeasured (punycoded : Bool) (old new : Reader) : Type 0 where
  pub is : (more : Bool) → P.of_length more punycoded (natural (rest old)) ≡ P.end
  pub text : new.text ≡ old.text

abbrev pub MeasuredIs : Bool → Reader → Reader → Option (Bor (List ℕ)) → Type 0
MeasuredIs punycoded old new (Some b) = Measured b.now punycoded old new
MeasuredIs punycoded old new None = Unmeasured punycoded old new
