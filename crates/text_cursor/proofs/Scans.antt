-- Bytes that are tested eight at a time. Assumes nothing.
use Rattle.std.proofs.Common.{◌≡◌, Bool, true, false, ◌&&◌, ℕ, zero, suc, ◌+◌, ◌-◌, ◌≤◌, ◌<◌, ltb, List, length, get_or, take, drop, refl, subst, arith, length-drop}
use Rattle.std.proofs.lemmas.List.{get_or-take, get_or-drop, take_all}
use mathlib.Core.Bool.{and-eq-true_iff}
use borrow.Author.Tests.{ltb-true, ltb-false}

-- what eight tests found, where all of them hold
module _ (P : ℕ → Bool → Type 0) (bytes : List ℕ) where
  abbrev Found : ℕ → Bool → Type 0
  Found i t = P (get_or bytes i 0) t

  holds : (i : ℕ) {t : Bool} → t ≡ true → Found i t → Found i true
  holds i e h = subst (Found i) e h

  pub eight_found : {a b c d e f g h : Bool} → Found 0 a → Found 1 b → Found 2 c → Found 3 d → Found 4 e → Found 5 f → Found 6 g → Found 7 h → (a && b && c && d && e && f && g && h) ≡ true → (i : ℕ) → i < 8 → Found i true
  eight_found at₀ at₁ at₂ at₃ at₄ at₅ at₆ at₇ all =
      let q₇ = (and-eq-true_iff _ _).0 all in
      let q₆ = (and-eq-true_iff _ _).0 q₇.0 in
      let q₅ = (and-eq-true_iff _ _).0 q₆.0 in
      let q₄ = (and-eq-true_iff _ _).0 q₅.0 in
      let q₃ = (and-eq-true_iff _ _).0 q₄.0 in
      let q₂ = (and-eq-true_iff _ _).0 q₃.0 in
      let q₁ = (and-eq-true_iff _ _).0 q₂.0 in
      go (holds 0 q₁.0 at₀) (holds 1 q₁.1 at₁) (holds 2 q₂.1 at₂) (holds 3 q₃.1 at₃) (holds 4 q₄.1 at₄) (holds 5 q₅.1 at₅) (holds 6 q₆.1 at₆) (holds 7 q₇.1 at₇)
    where
      go : Found 0 true → Found 1 true → Found 2 true → Found 3 true → Found 4 true → Found 5 true → Found 6 true → Found 7 true → (i : ℕ) → i < 8 → Found i true
      go a b c d e f g h zero l = a
      go a b c d e f g h (suc zero) l = b
      go a b c d e f g h (suc (suc zero)) l = c
      go a b c d e f g h (suc (suc (suc zero))) l = d
      go a b c d e f g h (suc (suc (suc (suc zero)))) l = e
      go a b c d e f g h (suc (suc (suc (suc (suc zero))))) l = f
      go a b c d e f g h (suc (suc (suc (suc (suc (suc zero)))))) l = g
      go a b c d e f g h (suc (suc (suc (suc (suc (suc (suc zero))))))) l = h
      go a b c d e f g h (suc (suc (suc (suc (suc (suc (suc (suc i)))))))) l = absurd (omega arith)

-- where eight bytes are the first of what follows a place
pub eight_inside : (text : List ℕ) (at rest : ℕ) → rest + 8 ≡ length (take (length text - at) (drop at text)) → at + 8 ≤ length text
eight_inside text at rest e = let t : length (drop at text) ≤ length text - at = omega (arith, length-drop at text) in omega (arith, rw (take_all _ _ t, length-drop) at e)

-- where fewer than eight bytes follow it
pub few_left : (text : List ℕ) (at : ℕ) → length (take (length text - at) (drop at text)) < 8 → length text < at + 8
few_left text at e = let t : length (drop at text) ≤ length text - at = omega (arith, length-drop at text) in omega (arith, rw (take_all _ _ t, length-drop) at e)

-- P holds for each byte up to `at`, and for the eight from a place no later than that
pub eight_more : (P : ℕ → Type 0) (text eight : List ℕ) (at start : ℕ) → ((i : ℕ) → i < at → P (get_or text i 0)) → eight ≡ take 8 (take (length text - start) (drop start text)) → start ≤ at → start + 8 ≤ length text → ((i : ℕ) → i < 8 → P (get_or eight i 0)) → (i : ℕ) → i < start + 8 → P (get_or text i 0)
eight_more P text eight at start before is order inside found i r = by (ltb i at) refl
  where
    by : (t : Bool) → ltb i at ≡ t → P (get_or text i 0)
    by true e = before i (ltb-true i at e)
    by false e =
        let at≤ : at ≤ i = ltb-false i at e in
        let k : i - start < 8 = omega arith in
        let n : i - start < length text - start = omega arith in
        let j : start + (i - start) ≡ i = omega arith in
        let here : P (get_or eight (i - start) 0) = found (i - start) k in
        rw (is, get_or-take 8 (take (length text - start) (drop start text)) (i - start) 0 k, get_or-take (length text - start) (drop start text) (i - start) 0 n, get_or-drop start text (i - start) 0, j) at here

-- P holds for each byte up to `at`, and for the last eight, with fewer than eight after `at`
pub eight_last : (P : ℕ → Type 0) (text eight : List ℕ) (at : ℕ) → ((i : ℕ) → i < at → P (get_or text i 0)) → eight ≡ drop (length text - 8) text → 8 ≤ length text → length text < at + 8 → ((i : ℕ) → i < 8 → P (get_or eight i 0)) → (i : ℕ) → i < length text → P (get_or text i 0)
eight_last P text eight at before is enough few found i r =
    let start : ℕ = length text - 8 in
    let n : length (drop start text) ≤ length text - start = omega (arith, length-drop start text) in
    let m : length (drop start text) ≤ 8 = omega (arith, length-drop start text) in
    let k : start ≤ at = omega arith in
    eight_more P text eight at start before (rw (take_all _ _ n, take_all _ _ m) is) k (omega arith) found i (omega arith)
