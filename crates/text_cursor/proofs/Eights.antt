-- A test of the bytes of a part, and of a second part that it meets or overlaps. Assumes nothing.
use mathlib.Core.Path.{◌≡◌, refl}
use mathlib.Core.Bool.{Bool, true, false}
use Prim.Native.Nat.{ℕ, ◌≤◌, ◌<◌}
use native.Mathlib.Omega.{arith}
use borrow.Author.Tests.{ltb-true, ltb-false}
use lib.Dec.{ltb}
use lib.ListN.{get_or}
use Rattle.definition.specs.Text.{Text}

-- the test holds for each byte from one place to another
pub record EachIn (p : ℕ → Bool) (text : Text) (from to : ℕ) : Type 0 where
  pub at : (i : ℕ) → from ≤ i → i < to → p (get_or text i 0) ≡ true

module _ (p : ℕ → Bool) (text : Text) where
  -- one part after another that it meets or overlaps
  pub each_over : {from at a b to : ℕ} → EachIn p text from at → EachIn p text a b → a ≤ at → to ≤ b → EachIn p text from to
  each_over {from} {at} {a} {b} {to} g h l r = record { at = λ i k m. go i k m (ltb i at) refl }
    where
      go : (i : ℕ) → from ≤ i → i < to → (t : Bool) → ltb i at ≡ t → p (get_or text i 0) ≡ true
      go i k m true q = g.at i k (ltb-true i at q)
      go i k m false q = let s : at ≤ i = ltb-false i at q in h.at i (omega arith) (omega arith)
