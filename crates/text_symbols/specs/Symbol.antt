-- What a result about the prefix and parts of a symbol says about the definition. Assumes nothing.
use Rattle.std.specs.Prelude.{◌≡◌, Bool, not, ℕ, ◌+◌, ◌-◌, ◌≤◌, ◌<◌, length, take, drop}
use Rattle.std.specs.Prelude as Std
use Rattle.std.specs.Prelude.{Some, None}
use Rattle.std.proofs.Math.Option.{Option, some, none}
use Rattle.definition.specs.Base.{is}
use Rattle.definition.specs.Text as Text
use Rattle.definition.specs.Text.{Text, before_dot}
use Rattle.text_symbols.specs.declared.Parts.{Parts as Split}

-- the length of the prefix
abbrev pub PrefixIs : Option ℕ → Std.Option ℕ → Type 0
PrefixIs out (Some n) = out ≡ some n
PrefixIs out None = out ≡ none

abbrev pub dot : ℕ
dot = 46

abbrev pub no_dot : ℕ → Bool
no_dot b = not (is "." b)

-- n bytes are before the first dot, or in all
pub record BeforeDot (text : Text) (n : ℕ) : Type 0 where
  pub is : length (before_dot text) ≡ n
  pub inside : n ≤ length text

abbrev pub symbol : Text → ℕ → ℕ → Text.Symbol
symbol text start end = record { start = start; body = take (end - start) (drop start text); suffix = drop end text }

-- the body is text[start..end], and the suffix text[end..]
pub record Parts (out : Option Text.Symbol) (text : Text) (start end : ℕ) : Type 0 where
  pub is : out ≡ some (symbol text start end)
  pub begun : start < length text
  pub order : start ≤ end
  pub inside : end ≤ length text

abbrev pub SplitIs : Option Text.Symbol → Text → Std.Option Split → Type 0
SplitIs out text (Some p) = Parts out text p.start p.end
SplitIs out text None = out ≡ none
