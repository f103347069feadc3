-- The six values of an answer as a list. Assumes nothing.
use Rattle.std.specs.Prelude.{List, [], ◌∷◌, ℕ}
use Rattle.definition.specs.Calls as Calls

-- the number of the refusal (0: accepted), its place, steps, total, wraps, length
abbrev pub six : Calls.Values → List ℕ
six v = v.number ∷ v.place ∷ v.steps ∷ v.total ∷ v.wraps ∷ v.length ∷ []
