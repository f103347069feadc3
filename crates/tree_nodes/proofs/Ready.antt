-- What there is to spare during an operator: the contract of each call carries a machine that the
-- workspace holds over to the state after the call.
use mathlib.Core.Path.{◌≡◌, refl}
use mathlib.Core.List.{List}
use Prim.Native.Nat.{ℕ, ◌+◌, ◌-◌, ◌*◌, ◌^◌, ◌≤◌, ◌<◌}
use native.Mathlib.Omega.{arith}
use lib.ListN.{length}
use mathlib.Core.Bool.{Bool}
use mathlib.Core.Option.{Option}
use Rattle.definition.specs.Base.{Name}
use Rattle.definition.specs.Node.{Node, size}
use Rattle.definition.specs.Machine.{restack}
use Rattle.definition.specs.Perform.{Run}
use Rattle.tree_records.specs.Lies.{at}
use Rattle.tree_records.specs.Holds.{Spare, Inside, Ready, Took, Grew, for_record}
use Rattle.tree_records.specs.declared.State.{State}
use Rattle.tree_nodes.specs.Gives.{spare, nothing_spare, taken, Gives, GivesIf, GivesName, Marks, WrapsTo}
use Rattle.tree_nodes.specs.Results.{Marked}
use Rattle.tree_nodes.proofs.Taking.{less_spare}

module _ {w : List ℕ} {N : ℕ} {st : State} where
  -- less to spare is enough
  pub ready_less : {sp : Spare} (sp' : Spare) → sp'.makes ≤ sp.makes → sp'.pushes ≤ sp.pushes → sp'.nodes ≤ sp.nodes → sp'.keeps ≤ sp.keeps → Ready w N st sp → Ready w N st sp'
  ready_less {sp} sp' a b c d r = record { names = r.names; machine = r.machine; holds = less_spare sp sp' a b c d r.holds }

  pub ready_none : {sp : Spare} → Ready w N st sp → Ready w N st nothing_spare
  ready_none r = ready_less nothing_spare (omega arith) (omega arith) (omega arith) (omega arith) r

  pub room : {sp : Spare} {makes pushes keeps : ℕ} → makes ≤ sp.makes → pushes ≤ sp.pushes → keeps ≤ sp.keeps → Ready w N st sp → Inside w N st makes pushes keeps
  room a b c r = let h = r.holds in record { small = h.small; long = h.long; charged = h.charged; room = omega (arith, h.room); deep = omega (arith, h.deep); kept = omega (arith, h.kept) }

  -- a record below top is in the workspace
  pub inside_record : {sp : Spare} (p : ℕ) → p < st.top → Ready w N st sp → 8 * p + 8 ≤ length w
  inside_record p l r = let h = r.holds in omega (arith, h.long, h.charged, h.room)

  -- and its place fits
  pub small_place : {sp : Spare} (p : ℕ) → p < st.top → Ready w N st sp → p < 2 ^ 32
  small_place p l r = let h = r.holds in omega (arith, h.small, h.charged, h.room)

module _ {w w' : List ℕ} {N : ℕ} {st u : State} {sp : Spare} where
  pub after_given : {f : Run Node} {gain p : ℕ} → Gives f gain w w' N st p u → Ready w N st sp → Ready w' N u (taken gain 0 sp)
  after_given {f} {gain} g r =
      let t = g.gives r.names sp r.machine r.holds in
      record { names = r.names; machine = t.machine; holds = less_spare (taken gain (size t.tree) sp) (taken gain 0 sp) (omega arith) (omega arith) (omega arith) (omega arith) t.holds }

  pub after_grew : {vs : List ℕ} → Grew w w' N st u vs → 2 ≤ sp.makes → Ready w N st sp → Ready w' N u (spare (sp.makes - 2) sp.pushes sp.nodes sp.keeps)
  after_grew g l r =
      let less : Spare = spare (sp.makes - 2) sp.pushes sp.nodes sp.keeps in
      record { names = r.names; machine = r.machine; holds = g.holds r.names less r.machine (less_spare sp (for_record less) (omega arith) (omega arith) (omega arith) (omega arith) r.holds) }

module _ {w : List ℕ} {N : ℕ} {st : State} {sp : Spare} where
  pub after_tried : {f : Run (Option Node)} {p : ℕ} {u : State} → GivesIf f w N st p u → Ready w N st sp → Ready w N u (taken 3 0 sp)
  after_tried g r =
      let t = g.gives r.names sp r.machine r.holds in
      record { names = r.names; machine = t.machine; holds = less_spare (taken 3 (size t.tree) sp) (taken 3 0 sp) (omega arith) (omega arith) (omega arith) (omega arith) t.holds }

  pub after_name : {f : Run Name} {k : ℕ} {u : State} → GivesName f w N st k u → Ready w N st sp → Ready w N u (taken 3 1 sp)
  after_name g r =
      let t = g.gives r.names sp r.machine r.holds in
      record { names = r.names; machine = t.machine; holds = t.holds }

  pub after_mark : {f : Run Bool} {r : Marked} → Marks f w N st r → Ready w N st sp → Ready w N r.next sp
  after_mark g r =
      let t = g.gives r.names sp r.machine r.holds in
      record { names = r.names; machine = t.0; holds = t.2 }

  pub after_wrap : {u : State} → WrapsTo w N st u → Ready w N st sp → Ready w N u sp
  after_wrap t r = let g = t.gives r.names _ r.machine r.holds in record { names = r.names; machine = g.0; holds = g.2 }

  pub after_popped : {p : ℕ} {u : State} → Took w N st p u → Ready w N st sp → Ready w N u (taken 3 0 sp)
  after_popped t r =
      let g = t.gives r.names sp r.machine r.holds in
      record { names = r.names; machine = restack g.rest r.machine; holds = less_spare (taken 3 (size g.tree) sp) (taken 3 0 sp) (omega arith) (omega arith) (omega arith) (omega arith) g.holds }

-- a tree that was taken, after the next take
module _ {f g : Run Node} {a b : ℕ} {w w₁ w₂ : List ℕ} {N : ℕ} {st u v : State} {p q : ℕ} (x : Gives f a w w₁ N st p u) (y : Gives g b w₁ w₂ N u q v) where
  pub less_below : p < v.top
  less_below = omega (arith, x.below, y.rising)

  pub first_small : at w₂ p 1 ≤ 262144
  first_small = omega (arith, x.small, y.keeps.fields p 1 x.below (omega arith))

pub add_both : {a b c d : ℕ} → a ≡ c → b ≡ d → a + b ≡ c + d
add_both e f = rw (e, f) refl
