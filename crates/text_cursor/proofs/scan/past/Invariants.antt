use Rattle.std.proofs.Common.{true, ℕ, ◌-◌, ◌≤◌, ◌<◌, length, get_or}
use Rattle.text_cursor.proofs.scan.past.Given as goal

abbrev pub invariant-loop-eight : goal.invariant-loop-eight
invariant-loop-eight g l = (l.at ≤ length l.text) × ((i : ℕ) → i < l.at → goal.F-post g l.holds (get_or l.text i 0) true)

abbrev pub decreases-loop-eight : goal.decreases-loop-eight
decreases-loop-eight g l = length l.text - l.at
