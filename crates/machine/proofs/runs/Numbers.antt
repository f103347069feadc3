-- Entries as numbers, one after another. Assumes nothing.
use mathlib.Core.Path.{◌≡◌, refl, ap}
use mathlib.Core.List.{List, [], ◌∷◌, ◌++◌}
use Prim.Native.Nat.{ℕ}
use Rattle.definition.specs.Kind as K
use Rattle.definition.specs.Calls.{entry_numbers}

-- one more entry at the end
pub numbers_snoc : (es : List K.Entry) (e : K.Entry) → entry_numbers (es ++ (e ∷ [])) ≡ entry_numbers es ++ (e.kind ∷ e.size ∷ e.count ∷ [])
unfolding entry_numbers
numbers_snoc [] e = refl
numbers_snoc (x ∷ es) e = ap (λ (l : List ℕ). x.kind ∷ x.size ∷ x.count ∷ l) (numbers_snoc es e)
