-- The subject of a record.
use mathlib.Core.Path.{◌≡◌, refl, sym, ap, ◌∙◌, subst}
use mathlib.Core.Bool.{true}
use Prim.Native.Nat.{ℕ, ◌≤◌}
use native.Mathlib.Omega.{arith}
use Rattle.definition.specs.Enums as Enums
use Rattle.definition.specs.Kind as K
use Rattle.definition.specs.Node.{Node, size}
use Rattle.definition.specs.Machine as M
use Rattle.definition.specs.Perform as R
use Rattle.definition.specs.Perform.{Demangler, Run}
use Rattle.definition.specs.declared.About.{About}
use Rattle.definition.specs.declared.Refusal.{Refusal}
use Rattle.tree_nodes.specs.Gives.{taken, for_nodes}
use Rattle.tree_nodes.specs.Trees.{Takes, Builds}
use Rattle.tree_records.specs.declared.Trees.{Trees}
use Rattle.std.specs.Prelude.{Result, Ok, Err}
use Rattle.tree_nodes.proofs.Taking.{less_spare}

-- THE SUBJECT OF A RECORD
-- a tree that gives back less
pub builds_less : (t t' : Trees) (f : Run Node) (gain : ℕ) (r : Result ℕ Refusal) → 1 ≤ gain → Builds f 1 gain t t' r → Builds f 1 1 t t' r
builds_less t t' f gain (Ok p) l g = record {
  below = g.below;
  deep = g.deep;
  rising = g.rising;
  small = g.small;
  keeps = g.keeps;
  gives = λ nm sp m h.
      let o = g.gives nm sp m h in
      record { tree = o.tree; machine = o.machine; is = o.is; lies = o.lies; holds = less_spare (taken gain (size o.tree) sp) (taken 1 (size o.tree) sp) (omega arith) (omega arith) (omega arith) (omega arith) o.holds };
}
builds_less t t' f gain (Err e) l g = g

-- a tree that was taken
pub built : (t t' : Trees) (f : Run Node) (gain : ℕ) (r : Result ℕ Refusal) → 1 ≤ gain → Takes f gain t t' r → Builds f 1 1 t t' r
built t t' f gain (Ok p) l g = record {
  below = g.below;
  deep = g.deep;
  rising = g.rising;
  small = g.small;
  keeps = g.keeps;
  gives = λ nm sp m h.
      let o = g.gives nm (for_nodes 1 sp) m h in
      record { tree = o.tree; machine = o.machine; is = o.is; lies = o.lies; holds = less_spare (taken gain (size o.tree) (for_nodes 1 sp)) (taken 1 (size o.tree) sp) (omega arith) (omega arith) (omega arith) (omega arith) o.holds };
}
built t t' f gain (Err e) l g = g

-- each case of it
pub about_as : (f : Run Node) {what : About} (k : About) (t t' : Trees) (r : Result ℕ Refusal) → f ≡ R.about (Enums.about k) → what ≡ k → Builds f 1 1 t t' r → Builds (R.about (Enums.about what)) 1 1 t t' r
about_as f k t t' r e i b = subst (λ (g : Run Node). Builds g 1 1 t t' r) (e ∙ ap (λ (a : About). R.about (Enums.about a)) (sym i)) b

pub a_type : R.pop_if K.is_type ≡ R.about (Enums.about About.Type)
unfolding R.about Enums.about
a_type = refl

pub an_entity : R.pop_if K.is_entity ≡ R.about (Enums.about About.Entity)
unfolding R.about Enums.about
an_entity = refl

pub a_context : R.context ≡ R.about (Enums.about About.Context)
unfolding R.about Enums.about
a_context = refl

pub a_protocol : R.protocol ≡ R.about (Enums.about About.Protocol)
unfolding R.about Enums.about
a_protocol = refl

pub a_conformance : R.conformance ≡ R.about (Enums.about About.Conformance)
unfolding R.about Enums.about
a_conformance = refl

pub anything : R.pop_if (λ k. true) ≡ R.about (Enums.about About.Anything)
unfolding R.about Enums.about M.pop
anything = refl
