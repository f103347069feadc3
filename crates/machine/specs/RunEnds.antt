-- What is accepted at the end of a run, and the output slice of a stopped run.
use Rattle.std.specs.Prelude.{◌≡◌, Bool, List, ◌++◌, ℕ, ◌≤◌, ◌<◌, length, drop, Option, Some, None}
use Rattle.definition.specs.Kind as K
use Rattle.definition.specs.Calls.{symbol_kind}
use Rattle.machine.specs.declared.runs.Final.{Final}

-- the kinds that a call accepts
abbrev pub kinds_of : Final → ℕ → Bool
kinds_of Final.Symbol = symbol_kind
kinds_of Final.Type = K.is_type

-- the numbers xs are at the front of the slice, and the rest is unchanged
pub record Front (xs out out₁ : List ℕ) (n : ℕ) : Type 0 where
  pub many : n ≡ length xs
  pub within : n ≤ length out
  pub is : out₁ ≡ xs ++ drop n out

-- there are more of them than the slice holds, and it is unchanged
pub record TooMany (xs out out₁ : List ℕ) : Type 0 where
  pub past : length out < length xs
  pub same : out₁ ≡ out

-- how many numbers were written, or none where there are more than the slice holds
abbrev pub Writing : List ℕ → (out out₁ : List ℕ) → Option ℕ → Type 0
Writing xs out out₁ (Some n) = Front xs out out₁ n
Writing xs out out₁ None = TooMany xs out out₁
