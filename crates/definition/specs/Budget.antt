-- 01, "Budgets": steps, charged total and wraps, with their limits.
use Rattle.std.specs.Prelude.{ℕ, suc, ◌+◌, ltb, leb, if◌then◌else◌}
use Rattle.definition.specs.Base.{ok, refused, Step, Done}

-- lines 597 to 601
abbrev pub most_steps : ℕ
most_steps = 4096

abbrev pub most_nodes : ℕ
most_nodes = 65536

abbrev pub most_wraps : ℕ
most_wraps = 256

-- turns of `run`, the sum of all charges (the Rust's `nodes`), and wraps
pub record Budget : Type 0 where
  pub steps : ℕ
  pub total : ℕ
  pub wraps : ℕ

abbrev pub budget : ℕ → ℕ → ℕ → Budget
budget s t w = record { steps = s; total = t; wraps = w }

unfoldable pub fresh : Budget
fresh = budget 0 0 0

-- lines 691 to 694
unfoldable pub step : Step Budget Done
step b = if ltb b.steps most_steps then ok tt (budget (suc b.steps) b.total b.wraps) else refused 6

-- lines 666 to 669, with the ceiling N in place of MOST_NODES. A sum past 2^64 is past N
unfoldable pub charge : (N n : ℕ) → Step Budget Done
charge N n b = if leb (b.total + n) N then ok tt (budget b.steps (b.total + n) b.wraps) else refused 7

-- lines 660 to 663
unfoldable pub wrap : Step Budget Done
wrap b = if ltb b.wraps most_wraps then ok tt (budget b.steps b.total (suc b.wraps)) else refused 8

-- FOR PROOFS ONLY: this name on an `unfolding` line opens every definition up to here
unfoldable pub opened : ℕ
unfolding fresh step charge wrap
opened = 0
