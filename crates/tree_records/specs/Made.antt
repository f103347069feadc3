-- The effect of writing one record on the workspace.
use Rattle.std.specs.Prelude.{◌≡◌, List, ℕ, ◌+◌, ◌*◌, ◌≤◌, ◌<◌, length, get_or}
use Rattle.tree_records.specs.Lies.{at}

-- the record at place p has these numbers, and all others are unchanged
pub record Wrote (w w' : List ℕ) (p : ℕ) (vs : List ℕ) : Type 0 where
  pub fields : (k : ℕ) → k < 8 → at w' p k ≡ get_or vs k 0
  pub below : (i : ℕ) → i < 8 * p → get_or w' i 0 ≡ get_or w i 0
  pub above : (i : ℕ) → 8 * p + 8 ≤ i → get_or w' i 0 ≡ get_or w i 0
  pub long : length w' ≡ length w
