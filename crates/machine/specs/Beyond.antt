-- What code that writes to a workspace leaves unchanged. Assumes nothing.
use Rattle.std.specs.Prelude.{◌≡◌, refl, List, ℕ, ◌*◌, ◌≤◌, length, get_or}
use Rattle.std.proofs.Common.{◌∙◌}

-- A workspace before and after, of which `numbers` numbers for each unit of the ceiling N may be
-- written: it has the same length, and past those numbers it is unchanged
pub record Beyond (numbers N : ℕ) (w w' : List ℕ) : Type 0 where
  pub past : (i : ℕ) → numbers * N ≤ i → get_or w' i 0 ≡ get_or w i 0
  pub long : length w' ≡ length w

-- nothing was written
pub beyond_itself : {numbers : ℕ} (w : List ℕ) (N : ℕ) → Beyond numbers N w w
beyond_itself w N = record { past = λ i l. refl; long = refl }

-- one write after another
pub beyond_both : {numbers N : ℕ} {w w₁ w₂ : List ℕ} → Beyond numbers N w w₁ → Beyond numbers N w₁ w₂ → Beyond numbers N w w₂
beyond_both a b = record { past = λ i h. b.past i h ∙ a.past i h; long = b.long ∙ a.long }
