-- What a call for C reports. Assumes nothing.
use Rattle.std.specs.Prelude.{◌≡◌, List, ◌++◌, ℕ, length, drop}
use Rattle.definition.specs.Calls.{Answer}
use Rattle.call_values.specs.Six.{six}

-- the definition's answer, reported in six numbers; what it writes is at the front of the output
-- slice, and the rest of the slice is unchanged
pub record Told (a : Answer) (out out' answer : List ℕ) : Type 0 where
  pub values : answer ≡ six a.values
  pub written : out' ≡ a.written ++ drop (length a.written) out
