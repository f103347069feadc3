-- How an answer line is appended to a slice. Assumes nothing.
use Rattle.std.specs.Prelude.{List, ℕ, ◌+◌, ◌≤◌, ◌<◌, ◌^◌, length}
use Rattle.text_output.specs.Sink.{Wrote}

-- an answer line has at most `=`, a tab, 16,384 bytes of text and a newline
abbrev pub longest : ℕ
longest = 16387

-- there is room for an answer line from `at` on
pub record Space (o : List ℕ) (at : ℕ) : Type 0 where
  pub room : at + longest ≤ length o
  pub small : length o < 2 ^ 63

-- the slice has the bytes s from `at` to r, and the rest of it is unchanged
pub record Appends (o o' : List ℕ) (at : ℕ) (s : List ℕ) (r : ℕ) : Type 0 where
  pub wrote : Wrote (length o) o o' at s r
  pub inside : r ≤ length o
