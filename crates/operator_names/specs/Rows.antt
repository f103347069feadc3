-- A row of names of the code. Assumes nothing.
use Rattle.std.specs.Prelude.{◌≡◌, ℕ, List, [], ◌∷◌, slice_index_or}
use denote.Bor.{Bor}

-- the bytes of each name
abbrev pub told : List (Bor (List ℕ)) → List (List ℕ)
told [] = []
told (r ∷ rs) = r.now ∷ told rs

pub record NameAt (rows : List (Bor (List ℕ))) (i : ℕ) (name : List ℕ) : Type 0 where
  pub is : name ≡ slice_index_or (told rows) i []
