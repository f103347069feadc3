-- Where a line ends. Assumes nothing.
use Rattle.std.specs.Prelude.{◌≡◌, ℕ, ◌≤◌, ◌<◌, length, get_or}
use Rattle.definition.specs.Text.{Text}

abbrev pub newline : ℕ
newline = 10

-- the line that begins at `from` ends before r: at a newline, or with the text
pub record Ends (t : Text) (from r : ℕ) : Type 0 where
  pub order : from ≤ r
  pub inside : r ≤ length t
  pub clear : (i : ℕ) → from ≤ i → i < r → (get_or t i 0 ≡ newline → ⊥)
  pub stop : r < length t → get_or t r 0 ≡ newline
