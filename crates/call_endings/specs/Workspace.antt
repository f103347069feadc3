-- What holds for the workspace of a call. Assumes nothing.
use Rattle.std.specs.Prelude.{◌≡◌, Bool, ◌&&◌, List, ℕ, T, ltb}
use Rattle.machine.specs.Beyond.{Beyond}

-- refused by 1 to 5
abbrev pub early : ℕ → Bool
early n = ltb 0 n && ltb n 6

-- For a call that answers with the number n: its workspace is scratch up to need × N numbers. Past
-- them it is unchanged, and all of it is unchanged where 1 to 5 refuse
pub record Scratch (need N n : ℕ) (w w' : List ℕ) : Type 0 where
  pub beyond : Beyond need N w w'
  pub untouched : T (early n) → w' ≡ w
