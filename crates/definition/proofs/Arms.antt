-- What the arms of a match on a number say about a list, for the tables of the code: each arm has
-- the number of the list at its key. Assumes nothing.
use mathlib.Core.Path.{◌≡◌, sym, ap}
use mathlib.Core.List.{List, [], ◌∷◌}
use Prim.Native.Nat.{ℕ, zero, suc, ◌+◌, ◌≤◌}
use native.Mathlib.Omega.{arith}
use lib.ListN.{get_or, length, get_or-eq_default}

-- in the arm of k: the number of the list there
pub here : (xs : List ℕ) {row k : ℕ} → row ≡ k → get_or xs k 0 ≡ get_or xs row 0
here xs e = sym (ap (λ (i : ℕ). get_or xs i 0) e)

-- if no arm was taken: the number is none of the keys, the last key first
abbrev pub Passed : ℕ → List ℕ → Type 0
Passed k [] = Unit {0}
Passed k (x ∷ xs) = Passed k xs × (k ≡ x → ⊥)

-- the n keys from s on
abbrev pub keys : ℕ → ℕ → List ℕ
keys s zero = []
keys s (suc n) = (s + n) ∷ keys s n

pub past : (k s n : ℕ) → s ≤ k → Passed k (keys s n) → s + n ≤ k
past k s zero l h = omega arith
past k s (suc n) l h = let p = past k s n l h.0 in let m = h.1 in omega arith

pub the_last : (k s n : ℕ) → s ≤ k → k ≤ s + n → Passed k (keys s n) → k ≡ s + n
the_last k s n l u h = let p = past k s n l h in omega arith

-- past the list there is 0
pub nothing : (xs : List ℕ) (k : ℕ) → length xs ≤ k → 0 ≡ get_or xs k 0
nothing xs k h = sym (get_or-eq_default xs 0 h)
