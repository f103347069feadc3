-- A test that holds for each byte up to a place. Assumes nothing.
use Rattle.std.specs.Prelude.{◌≡◌, Bool, true, ℕ, ◌<◌, get_or}
use Rattle.definition.specs.Text.{Text}

pub record Each (p : ℕ → Bool) (text : Text) (to : ℕ) : Type 0 where
  pub at : (i : ℕ) → i < to → p (get_or text i 0) ≡ true
