-- Operators that put one node over the top.
use Rattle.std.specs.Prelude.{Result, Ok}
use mathlib.Core.Path.{◌≡◌, subst}
use mathlib.Core.List.{List}
use Prim.Native.Nat.{ℕ, ◌+◌, ◌*◌, ◌^◌, ◌≤◌, ◌<◌}
use native.Mathlib.Omega.{arith}
use lib.ListN.{length}
use Rattle.definition.specs.Node.{Node}
use Rattle.definition.specs.Perform.{Run}
use Rattle.definition.specs.declared.Refusal.{Refusal}
use Rattle.tree_records.specs.Lies.{at}
use Rattle.tree_records.specs.Holds.{Inside, Ready}
use Rattle.tree_records.specs.declared.State.{State}
use Rattle.tree_records.specs.declared.Trees.{Trees}
use Rattle.tree_nodes.specs.Gives.{full_spare, Given, Gives}
use Rattle.tree_nodes.specs.Trees.{Takes}

-- a tree that was taken is below top, and small
module _ {f : Run Node} {gain : ℕ} {w w₁ : List ℕ} {N : ℕ} {st u : State} {p : ℕ} (g : Gives f gain w w₁ N st p u) (r : Ready w N st full_spare) where
  given : Given f gain r.names w₁ N p u full_spare r.machine
  given = g.gives r.names full_spare r.machine r.holds

  pub given_inside : 8 * p + 8 ≤ length w₁
  given_inside = let h = given.holds in omega (arith, h.long, h.charged, h.room, g.below)

  pub given_place : p < 2 ^ 32
  given_place = let h = given.holds in omega (arith, h.small, h.charged, h.room, g.below)

  pub given_size : at w₁ p 1 + 8 < 2 ^ 32
  given_size = let h = given.holds in omega (arith, h.small, h.charged, h.light, given.lies.size_is)

  -- room to leave one record
  pub given_room : Inside w₁ N u 5 1 0
  given_room = let h = given.holds in record { small = h.small; long = h.long; charged = h.charged; room = omega (arith, h.room); deep = omega (arith, h.deep); kept = omega (arith, h.kept) }

-- the result of an arm that takes a tree
pub taken_place : (f : Run Node) (gain : ℕ) (t t' : Trees) {r : Result ℕ Refusal} (p : ℕ) → r ≡ Ok p → Takes f gain t t' r → Gives f gain t.ws.now t'.ws.now t.n t.state p t'.state
taken_place f gain t t' p e h = subst (λ (x : Result ℕ Refusal). Takes f gain t t' x) e h
