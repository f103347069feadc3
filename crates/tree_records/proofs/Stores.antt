-- Several stores in a row, as code makes them, and what they leave unchanged.
use mathlib.Core.Path.{◌≡◌, refl, ap, ◌∙◌}
use mathlib.Core.Logic.{◌≢◌}
use mathlib.Core.List.{List, [], ◌∷◌}
use Prim.Native.Nat.{ℕ, zero, suc, ◌+◌, ◌*◌, ◌≤◌, ◌<◌}
use native.Mathlib.Nat.{add-zero}
use native.Mathlib.Omega.{arith}
use lib.ListN.{length, get_or, set, length-set}
use lib.Seq.{sets, length-sets, get_or-set_same, get_or-set_other}
use Rattle.definition.specs.Base.{Name}
use Rattle.definition.specs.Node.{Node}
use Rattle.tree_records.specs.Lies.{Would, Lies}
use Rattle.tree_records.specs.Made.{Wrote}
use Rattle.tree_records.proofs.Frame.{would_stay}

less : {i j : ℕ} → i < j → i ≢ j
less h e = omega arith

greater : {i j : ℕ} → j < i → i ≢ j
greater h e = omega arith

stores_below : (w : List ℕ) (i : ℕ) (vs : List ℕ) (j : ℕ) → j < i → get_or (sets w i vs) j 0 ≡ get_or w j 0
stores_below w i [] j h = refl
stores_below w i (v ∷ vs) j h = stores_below (set w i v) (suc i) vs j (omega arith) ∙ get_or-set_other w i j v 0 (less h)

stores_above : (w : List ℕ) (i : ℕ) (vs : List ℕ) (j : ℕ) → i + length vs ≤ j → get_or (sets w i vs) j 0 ≡ get_or w j 0
stores_above w i [] j h = refl
stores_above w i (v ∷ vs) j h = stores_above (set w i v) (suc i) vs j (omega arith) ∙ get_or-set_other w i j v 0 (greater (omega arith))

stores_at : (w : List ℕ) (i : ℕ) (vs : List ℕ) (k : ℕ) → i + length vs ≤ length w → k < length vs → get_or (sets w i vs) (i + k) 0 ≡ get_or vs k 0
stores_at w i [] k h l = absurd (omega arith)
stores_at w i (v ∷ vs) zero h l = rw add-zero (stores_below (set w i v) (suc i) vs i (omega arith) ∙ get_or-set_same w i v 0 (omega arith))
stores_at w i (v ∷ vs) (suc k) h l =
    let next : i + suc k ≡ suc i + k = omega arith in
    ap (λ (x : ℕ). get_or (sets (set w i v) (suc i) vs) x 0) next ∙ stores_at (set w i v) (suc i) vs k (simp length-set (omega arith)) (omega arith)

-- eight stores, with their indices as code has them
pub eight : (w : List ℕ) (i a₀ a₁ a₂ a₃ a₄ a₅ a₆ a₇ : ℕ) →
    set (set (set (set (set (set (set (set w i a₀) (i + 1) a₁) (i + 2) a₂) (i + 3) a₃) (i + 4) a₄) (i + 5) a₅) (i + 6) a₆) (i + 7) a₇ ≡
    sets w i (a₀ ∷ a₁ ∷ a₂ ∷ a₃ ∷ a₄ ∷ a₅ ∷ a₆ ∷ a₇ ∷ [])
eight w i a₀ a₁ a₂ a₃ a₄ a₅ a₆ a₇ =
    let e₁ : i + 1 ≡ suc i = omega arith in
    let e₂ : i + 2 ≡ suc (suc i) = omega arith in
    let e₃ : i + 3 ≡ suc (suc (suc i)) = omega arith in
    let e₄ : i + 4 ≡ suc (suc (suc (suc i))) = omega arith in
    let e₅ : i + 5 ≡ suc (suc (suc (suc (suc i)))) = omega arith in
    let e₆ : i + 6 ≡ suc (suc (suc (suc (suc (suc i))))) = omega arith in
    let e₇ : i + 7 ≡ suc (suc (suc (suc (suc (suc (suc i)))))) = omega arith in
    rw (e₁, e₂, e₃, e₄, e₅, e₆, e₇)

pub wrote : (w w' : List ℕ) (p : ℕ) (vs : List ℕ) → length vs ≡ 8 → 8 * p + 8 ≤ length w → w' ≡ sets w (8 * p) vs → Wrote w w' p vs
wrote w w' p vs e h s = record {
  fields = λ k l. ap (λ (z : List ℕ). get_or z (8 * p + k) 0) s ∙ stores_at w (8 * p) vs k (omega arith) (omega arith);
  below = λ i l. ap (λ (z : List ℕ). get_or z i 0) s ∙ stores_below w (8 * p) vs i l;
  above = λ i l. ap (λ (z : List ℕ). get_or z i 0) s ∙ stores_above w (8 * p) vs i (omega arith);
  long = ap length s ∙ length-sets w (8 * p) vs;
}

-- what the record would be, it is
pub made : (Named : ℕ → Name → Type 0) (x : Node) {w w' : List ℕ} (p : ℕ) (vs : List ℕ) → Wrote w w' p vs → Would Named x (λ k. get_or vs k 0) w p → Lies Named x w' p
made Named x p vs r h = would_stay Named x p (record { on = λ k l. r.fields k l }) (record { on = λ i l. r.below i l }) h
