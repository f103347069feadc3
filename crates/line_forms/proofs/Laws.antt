-- Answer lines, piece by piece. Assumes nothing.
use mathlib.Core.Path.{◌≡◌}
use mathlib.Core.List.{List, [], ◌∷◌}
use Prim.Native.Nat.{ℕ, ◌≤◌, ◌<◌, ◌^◌}
use native.Mathlib.Omega.{arith}
use lib.ListN.{length}
use Rattle.definition.specs.Base.{decimal}
use Rattle.definition.specs.declared.Counts.{Counts}
use Rattle.text_output.specs.Sink.{Wrote, wrote_is, wrote_then}
use Rattle.line_forms.specs.Appends.{longest, Space, Appends}
use Rattle.line_forms.specs.Lines.{field, refused_line, accepted_line, counts_told}
use Rattle.line_forms.proofs.Sizes.{refused_short, counts_short}

-- LINES AND ROOM
pub appended : {o o' s : List ℕ} {at r : ℕ} → Space o at → length s ≤ longest → Wrote (length o) o o' at s r → Appends o o' at s r
appended h k w = record { wrote = w; inside = omega (arith, w.count, h.room, k) }

pub appends_is : {o o' s t : List ℕ} {at r : ℕ} → s ≡ t → Appends o o' at s r → Appends o o' at t r
appends_is e a = record { wrote = wrote_is e a.wrote; inside = a.inside }
