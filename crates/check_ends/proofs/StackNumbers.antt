-- The entries of the stack as numbers, and one entry that is left. Assumes nothing.
use mathlib.Core.Path.{◌≡◌, refl, sym, ap, ◌∙◌}
use mathlib.Core.Bool.{Bool, true, false}
use mathlib.Core.List.{List, [], ◌∷◌, ◌++◌, reverse, reverse-cons, append_assoc}
use Prim.Native.Nat.{ℕ, zero, suc, ◌+◌, ◌*◌, ◌≤◌, ◌<◌}
use native.Mathlib.Omega.{arith}
use native.Mathlib.Numerals.{add-one}
use lib.ListN.{length, get_or, set, take, drop, length-set}
use lib.Seq.{take-suc, paste, paste-zero, paste-suc, length-take-le}
use Rattle.definition.specs.Base.{is_some}
use Rattle.definition.specs.Shape as C
use Rattle.definition.specs.Calls.{single, entry_numbers}
use Rattle.check_entries.specs.Lies.{entry_at, stack_of}
use Rattle.machine.specs.RunEnds.{kinds_of, Front, TooMany}
use Rattle.machine.specs.declared.runs.Final.{Final}
use Rattle.machine.proofs.runs.Numbers.{numbers_snoc}

-- ONE ENTRY that is left
module _ (takes : ℕ → Bool) (w : List ℕ) where
  pub single_one : {d : ℕ} → d ≡ 1 → is_some (single C.kind_of takes (stack_of w d)) ≡ takes (get_or w 0 0)
  unfolding single stack_of is_some
  single_one {d} q = ap (λ (n : ℕ). is_some (single C.kind_of takes (stack_of w n))) q ∙ go (takes (get_or w 0 0)) refl
    where
      go : (b : Bool) → takes (get_or w 0 0) ≡ b → is_some (single C.kind_of takes (entry_at w 0 ∷ [])) ≡ takes (get_or w 0 0)
      go true e = rw (e, single)
      go false e = rw (e, single)

  pub single_not : (d : ℕ) → (d ≡ 1 → ⊥) → is_some (single C.kind_of takes (stack_of w d)) ≡ false
  unfolding single stack_of is_some
  single_not zero h = refl
  single_not (suc zero) h = absurd (h refl)
  single_not (suc (suc d)) h = refl

pub single_taken : (w : List ℕ) {d : ℕ} {b : Bool} (what : Final) → d ≡ 1 → b ≡ kinds_of what (get_or w 0 0) → b ≡ is_some (single C.kind_of (kinds_of what) (stack_of w d))
single_taken w what q h = h ∙ sym (single_one (kinds_of what) w q)

-- NUMBERS
-- three more numbers of a list
take_three : (w : List ℕ) (n : ℕ) → n + 3 ≤ length w → take (n + 3) w ≡ take n w ++ (get_or w n 0 ∷ get_or w (n + 1) 0 ∷ get_or w (n + 2) 0 ∷ [])
take_three w n h =
    let a : take (suc (suc (suc n))) w ≡ take (suc (suc n)) w ++ (get_or w (suc (suc n)) 0 ∷ []) = take-suc w (suc (suc n)) 0 (omega arith) in
    let b : take (suc (suc n)) w ≡ take (suc n) w ++ (get_or w (suc n) 0 ∷ []) = take-suc w (suc n) 0 (omega arith) in
    let d : take (suc n) w ≡ take n w ++ (get_or w n 0 ∷ []) = take-suc w n 0 (omega arith) in
    let z : n + 3 ≡ suc (suc (suc n)) = omega arith in
    let y : n + 2 ≡ suc (suc n) = omega arith in
    rw (z, y, add-one n, a, b, d) (simp append_assoc)

-- the contents of the workspace are the stack, in the order in which it was pushed
pub stack_numbers : (w : List ℕ) (d : ℕ) → 3 * d ≤ length w → entry_numbers (reverse (stack_of w d)) ≡ take (3 * d) w
unfolding stack_of entry_numbers
stack_numbers w zero h = refl
stack_numbers w (suc d) h =
    let z : 3 * d + 3 ≡ 3 * suc d = omega arith in
    ap entry_numbers (reverse-cons (entry_at w d) (stack_of w d)) ∙ (numbers_snoc (reverse (stack_of w d)) (entry_at w d)
    ∙ (ap (λ (l : List ℕ). l ++ (get_or w (3 * d) 0 ∷ get_or w (3 * d + 1) 0 ∷ get_or w (3 * d + 2) 0 ∷ [])) (stack_numbers w d (omega arith))
    ∙ (sym (take_three w (3 * d) (omega arith)) ∙ ap (λ (n : ℕ). take n w) z)))

module _ (w : List ℕ) (d : ℕ) (h : 3 * d ≤ length w) where
  numbers_length : length (entry_numbers (reverse (stack_of w d))) ≡ 3 * d
  numbers_length = ap length (stack_numbers w d h) ∙ length-take-le (3 * d) w h

  pub too_many : {out : List ℕ} → length out < 3 * d → TooMany (entry_numbers (reverse (stack_of w d))) out out
  too_many p = record { past = omega (arith, numbers_length); same = refl }

  -- that many numbers were copied to the front
  pub all_numbers : {out out₁ : List ℕ} {n : ℕ} (i : ℕ) → n ≡ 3 * d → i ≡ n → n ≤ length out → out₁ ≡ paste out 0 w i → Front (entry_numbers (reverse (stack_of w d))) out out₁ n
  all_numbers {out} {out₁} {n} i e k l q =
      let z : i ≡ 3 * d = omega arith in
      let y : 0 + i ≡ n = omega arith in
      record {
        many = omega (arith, numbers_length);
        within = l;
        is = q ∙ (ap (λ (x : ℕ). take i w ++ drop x out) y ∙ (ap (λ (x : ℕ). take x w ++ drop n out) z ∙ ap (λ (x : List ℕ). x ++ drop n out) (sym (stack_numbers w d h))));
      }

-- COPYING: i numbers of w are at the front of out
pub record Copying (w out out₁ : List ℕ) (i : ℕ) : Type 0 where
  pub is : out₁ ≡ paste out 0 w i
  pub long : length out₁ ≡ length out

pub no_numbers : (w out : List ℕ) → Copying w out out 0
no_numbers w out = record { is = paste-zero out 0 w; long = refl }

pub one_number : {w out out₁ : List ℕ} {i : ℕ} → Copying w out out₁ i → i < length w → i < length out → Copying w out (set out₁ i (get_or w i 0)) (i + 1)
one_number {w} {out} {out₁} {i} c h l =
    let z : i ≡ 0 + i = omega arith in
    let k : 0 + i < length out = omega arith in
    record {
      is = ap (λ (o : List ℕ). set o i (get_or w i 0)) c.is ∙ (ap (λ (n : ℕ). set (paste out 0 w i) n (get_or w i 0)) z ∙ (paste-suc out 0 w i 0 k h ∙ ap (paste out 0 w) (sym (add-one i))));
      long = length-set out₁ i (get_or w i 0) ∙ c.long;
    }
