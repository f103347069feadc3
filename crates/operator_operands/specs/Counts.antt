-- The counts after `r`, one at a time. Assumes nothing.
use Rattle.std.specs.Prelude as Prelude
use Rattle.std.specs.Prelude.{ℕ, Bool, Result, Some, None, if◌then◌else◌}
use Rattle.std.proofs.Math.Option.{Option, some, none}
use Rattle.definition.specs.Base.{is, ret, ◌>>=◌}
use Rattle.definition.specs.Text.{Lex, next_if, index_plus_one}
use Rattle.definition.specs.declared.Refusal.{Refusal}
use Rattle.text_cursor.specs.Reads.{Reads}
use Rattle.text_cursor.specs.declared.Reader.{Reader}
use Rattle.definition.specs.Budget.{most_wraps}
use Rattle.definition.specs.Operators.{Operator, generic_signature, counts}

-- a count, or none after the last
abbrev pub count_if_any : Prelude.Option ℕ → Option ℕ
count_if_any (Some n) = some n
count_if_any None = none

abbrev pub ReadsCount : Lex (Option ℕ) → Reader → Reader → Result (Prelude.Option ℕ) Refusal → Type 0
ReadsCount = Reads count_if_any 1

abbrev pub signature_letters : Lex Operator
signature_letters = counts most_wraps 0 >>= λ n. ret (generic_signature n)

-- `r`: one turn of `counts`: closed, or the next count
abbrev pub next_count : Bool → Lex (Option ℕ)
next_count z = (if z then ret 0 else index_plus_one) >>= λ n. ret (some n)

abbrev pub count_unless : Bool → Lex (Option ℕ)
count_unless closed = if closed then ret none else (next_if (is "z") >>= λ z. next_count z)

abbrev pub count : Lex (Option ℕ)
count = next_if (is "l") >>= λ closed. count_unless closed
