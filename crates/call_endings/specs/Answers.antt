-- What the answer of a call says about the definition's answer. Assumes nothing.
use Rattle.std.specs.Prelude.{◌≡◌, List, ◌++◌, ℕ, ◌≤◌, ◌<◌, length, drop}
use Rattle.definition.specs.Budget as B
use Rattle.definition.specs.Calls as Calls
use Rattle.definition.specs.Calls.{refusal}
use Rattle.definition.specs.Enums.{values}
use Rattle.definition.specs.Enums.{Answer}
use Rattle.std.specs.Prelude.{Option, Some, None}

-- Number, place, counts and length are the definition's. What the definition writes is at the front
-- of the output slice, and the rest of the slice is unchanged. A refusal writes nothing
pub record Answers (a : Calls.Answer) (out out' : List ℕ) (r : Answer) : Type 0 where
  pub values : values r ≡ a.values
  pub written : out' ≡ a.written ++ drop (length a.written) out

-- THE END OF A RUN
-- a text of n bytes, or n is one more than the room
pub record Measured (b : B.Budget) (n room : ℕ) (r : Answer) : Type 0 where
  pub fits : n ≤ room → values r ≡ record { number = 0; place = 0; steps = b.steps; total = b.total; wraps = b.wraps; length = n }
  pub past : room < n → values r ≡ (refusal 12 0).values

abbrev pub Stacked : B.Budget → Option ℕ → Answer → Type 0
Stacked b (Some n) r = values r ≡ record { number = 0; place = 0; steps = b.steps; total = b.total; wraps = b.wraps; length = n }
Stacked b None r = values r ≡ (refusal 12 0).values
