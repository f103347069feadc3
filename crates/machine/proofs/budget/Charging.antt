-- What a successful charge says.
use Rattle.std.specs.Prelude.{if◌then◌else◌}
use mathlib.Core.Path.{◌≡◌, refl, sym}
use mathlib.Core.Bool.{Bool, true, false}
use Prim.Native.Nat.{ℕ, ◌+◌, ◌*◌, ◌≤◌}
use native.Mathlib.Omega.{arith}
use native.Mathlib.Nat.{le_trans, le_of_eq, one-mul, mul-le-mul_right}
use lib.Dec.{leb}
use borrow.Author.Tests.{leb-true}
use Rattle.definition.specs.Base.{Out, ok, refused, Done}
use Rattle.definition.specs.Budget as B

module _ (N n : ℕ) (b c : B.Budget) (q : B.charge N n b ≡ ok tt c) where
  -- it is within the ceiling
  pub charge_room : b.total + n ≤ N
  unfolding B.charge
  charge_room = go (leb (b.total + n) N) refl q
    where
      go : (x : Bool) → leb (b.total + n) N ≡ x → ◌≡◌ {A = Out B.Budget Done} (if x then ok tt (B.budget b.steps (b.total + n) b.wraps) else refused 7) (ok tt c) → b.total + n ≤ N
      go true e q₁ = leb-true (b.total + n) N e
      go false e q₁ = absurd (let z : ◌≡◌ {A = ℕ} 0 1 = cc in omega arith)

  -- and only the total changes
  pub charged_to : B.budget b.steps (b.total + n) b.wraps ≡ c
  unfolding B.charge
  charged_to = go (leb (b.total + n) N) q
    where
      go : (x : Bool) → ◌≡◌ {A = Out B.Budget Done} (if x then ok tt (B.budget b.steps (b.total + n) b.wraps) else refused 7) (ok tt c) → B.budget b.steps (b.total + n) b.wraps ≡ c
      go true q₁ = cc
      go false q₁ = absurd (let z : ◌≡◌ {A = ℕ} 0 1 = cc in omega arith)

-- the number of copies of a node is at most their charge
pub copies_le : (size copies : ℕ) → 1 ≤ size → copies ≤ size * copies
copies_le size copies h = le_trans (le_of_eq (sym (one-mul copies))) (mul-le-mul_right copies h)
