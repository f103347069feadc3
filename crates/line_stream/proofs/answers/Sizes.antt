-- The length of the text of a call. Assumes nothing.
use Rattle.std.specs.Prelude.{if◌then◌else◌}
use mathlib.Core.Path.{◌≡◌, refl}
use mathlib.Core.Bool.{Bool, true, false}
use Prim.Native.Nat.{ℕ, ◌≤◌}
use native.Mathlib.Omega.{arith}
use borrow.Author.Tests.{leb-true}
use lib.Dec.{leb}
use lib.ListN.{length}
use Rattle.definition.specs.Text.{Text}
use Rattle.definition.specs.Calls.{Answer, refusal, within}
use Rattle.definition.specs.Reading.{read, demangle}
use Rattle.call_endings.proofs.Users.{symbol_read_plain}

-- the length in an answer is that of what is written
abbrev pub Told : Answer → Type 0
Told a = a.values.length ≡ length a.written

-- and what is written fits the output slice
pub record Fits (out : ℕ) (a : Answer) : Type 0 where
  pub told : Told a
  pub short : length a.written ≤ out

within_fits : (out : ℕ) (a : Answer) → Told a → Fits out (within out a)
unfolding within refusal
within_fits out a h = go (leb (length a.written) out) refl
  where
    go : (b : Bool) → leb (length a.written) out ≡ b → Fits out (if b then a else refusal 12 0)
    go true e = record { told = h; short = leb-true (length a.written) out e }
    go false e = record { told = refl; short = omega arith }

pub demangle_fits : (t : Text) (N w out : ℕ) → Fits out (demangle t N w out)
unfolding demangle
demangle_fits t N w out = within_fits out (read t N w) (symbol_read_plain t N w).long
