-- The length of a number and of an answer line. Assumes nothing.
use mathlib.Core.Path.{◌≡◌, refl, ap}
use mathlib.Core.Bool.{Bool, true, false}
use mathlib.Core.List.{[], ◌∷◌, ◌++◌}
use Prim.Native.Nat.{ℕ, zero, suc, ◌+◌, ◌*◌, ◌/◌, ◌%◌, ◌≤◌, ◌<◌, ◌^◌}
use native.Mathlib.Omega.{arith}
use borrow.Author.Tests.{ltb-true, ltb-false}
use lib.Dec.{ltb}
use lib.ListN.{length, length-append}
use Rattle.definition.specs.Base.{decimal}
use Rattle.print_numerals.proofs.Digits.{one_digit, more_digits}
use Rattle.line_forms.specs.Lines.{field, refused_line, accepted_line, counts_told}

-- 10 to the power of k
abbrev tens : ℕ → ℕ
tens zero = 1
tens (suc k) = 10 * tens k

decimal_short : (k n : ℕ) → n < tens (suc k) → length (decimal n) ≤ suc k
decimal_short zero n h = let e : length ((48 + n) ∷ []) ≡ length (decimal n) = ap length (one_digit n (omega arith)) in omega arith
decimal_short (suc k) n h = go (decimal_short k (n / 10)) (ltb n 10) refl
  where
    go : (n / 10 < tens (suc k) → length (decimal (n / 10)) ≤ suc k) → (x : Bool) → ltb n 10 ≡ x → length (decimal n) ≤ suc (suc k)
    go ih true q = let e : length ((48 + n) ∷ []) ≡ length (decimal n) = ap length (one_digit n (ltb-true n 10 q)) in omega arith
    go ih false q =
        let e : length (decimal (n / 10) ++ ((48 + n % 10) ∷ [])) ≡ length (decimal n) = ap length (more_digits n (ltb-false n 10 q)) in
        let l : length (decimal (n / 10)) ≤ suc k = ih (omega (arith, h)) in
        omega (arith, length-append (decimal (n / 10)) ((48 + n % 10) ∷ []))

pub field_short : (n : ℕ) → n < 2 ^ 64 → length (field n) ≤ 21
unfolding field
field_short n h = let l : length (decimal n) ≤ 20 = decimal_short 19 n (omega arith) in omega arith

pub refused_short : (n p : ℕ) → n < 2 ^ 64 → p < 2 ^ 64 → length (refused_line n p) ≤ 44
unfolding refused_line
refused_short n p h k =
    omega (arith, field_short n h, field_short p k, length-append (field n ++ field p) (10 ∷ []), length-append (field n) (field p))

pub refused_long : (n p : ℕ) → 2 ≤ length (refused_line n p)
unfolding refused_line field
refused_long n p = omega arith

pub counts_short : (s t w : ℕ) → s < 2 ^ 64 → t < 2 ^ 64 → w < 2 ^ 64 → length (accepted_line (counts_told s t w)) ≤ 65
unfolding accepted_line counts_told
counts_short s t w h i j =
    omega (arith, field_short s h, field_short t i, field_short w j, length-append (field s ++ field t ++ field w) (10 ∷ []), length-append (field s ++ field t) (field w), length-append (field s) (field t))
