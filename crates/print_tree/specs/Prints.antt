-- What the functions of this crate return. Assumes nothing.
use Rattle.std.specs.Prelude.{◌≡◌, List, ◌++◌, ℕ, ◌+◌, ◌≤◌, ◌<◌, eqb, min, length, drop, if◌then◌else◌}
use Rattle.definition.specs.Base.{Name}
use Rattle.definition.specs.Text.{suffix_text}
use Rattle.definition.specs.Text as T
use Rattle.operator_names.specs.declared.Text.{Text}
use Rattle.operator_names.specs.declared.Text.TheVariants.{Ampersand, SpacedColon, Comma}
use Rattle.text_output.specs.Sink.{Room, Wrote}
use Rattle.tree_records.specs.Lies.{at}
use Rattle.tree_records.specs.Holds.{Names}
use Rattle.print_labels.specs.RowTexts.{Prints}

-- the text between the elements of a list of that code, whose number is `list_sep`
abbrev pub sep_text : ℕ → Text
sep_text code = if eqb code 33 then Ampersand else if eqb code 37 then SpacedColon else Comma

-- the piece with that code of the record at p is a piece of the record at r
pub record Placed (ws : List ℕ) (p code r : ℕ) : Type 0 where
  pub own : code < 128 → r ≡ p
  pub via : 128 ≤ code → r ≡ at ws p 4

-- the text s in the slice o, which is then o': r is its length, or one more than the length of the
-- slice if it does not fit; in that case the slice is unchanged
pub record Shown (s : Name) (o o' : List ℕ) (r : ℕ) : Type 0 where
  pub count : r ≡ min (length s) (length o + 1)
  pub fits : r ≤ length o → o' ≡ s ++ drop r o
  pub refused : length o < r → o' ≡ o

-- whichever text is meant, it is appended at the front of a slice
pub record Shows (Is : Name → Type 0) (room : ℕ) (o o' : List ℕ) (r : ℕ) : Type 0 where
  pub next : Room room o' r
  pub len : length o' ≡ length o
  pub each : (s : Name) → Is s → Wrote room o o' 0 s r

-- the text of a tree at p, followed by the suffix
pub record Suffixed (nm : Names) (ws : List ℕ) (p : ℕ) (suffix : T.Text) (s : Name) : Type 0 where
  pub text : Name
  pub prints : Prints nm ws p text
  pub is : s ≡ text ++ suffix_text suffix

-- the text of the tree at p, followed by the suffix
pub record Rendered (nm : Names) (ws : List ℕ) (p : ℕ) (suffix : T.Text) (o o' : List ℕ) (r : ℕ) : Type 0 where
  pub each : (s : Name) → Prints nm ws p s → Shown (s ++ suffix_text suffix) o o' r
