-- Operators that put one node with one more number over the tree that they take.
use mathlib.Core.Path.{◌≡◌, refl, sym, ap, ◌∙◌, subst}
use mathlib.Core.Bool.{Bool}
use mathlib.Core.List.{List, [], ◌∷◌}
use Prim.Native.Nat.{ℕ, ◌+◌}
use Prim.Native.String.{String}
use native.Mathlib.Omega.{arith}
use Rattle.definition.specs.Base.{bytes, and_then}
use Rattle.definition.specs.Kind as K
use Rattle.definition.specs.Node.{Node, Deinitializer, ValueWitness, kind, size, count, view}
use Rattle.definition.specs.Machine.{restack, push}
use Rattle.definition.specs.Perform.{Run}
use Rattle.tree_records.specs.Lies.{at, flag}
use Rattle.tree_records.specs.Holds.{Fixed, Names, Named, Ready, for_record, for_push}
use Rattle.tree_records.specs.declared.State.{State}
use Rattle.tree_nodes.specs.Results as Step
use Rattle.tree_nodes.specs.Gives.{nothing_spare, full_spare, taken, Given, Gives, Under, Operates, Left}
use Rattle.tree_nodes.proofs.Taking.{less_spare}
use Rattle.tree_nodes.proofs.OneChilds.{given_size, given_room}
use Rattle.tree_entities.specs.Entities.{OneOver, one_over}

-- a tree that was taken may be a child of a record that is pushed
pub under : {f : Run Node} {gain : ℕ} {w w₁ : List ℕ} {N : ℕ} {st u : State} {p : ℕ} → Gives f gain w w₁ N st p u → Ready w N st full_spare → Under w₁ N u p
under g r = record { inside = given_room g r; below = g.below; fits = omega (arith, given_size g r) }

pub over : {k a : ℕ} {c : (ℕ → String) → Node → Node} {f : Run Node} {gain : ℕ} {w w₁ w₂ : List ℕ} {N : ℕ} {st u v : State} {p : ℕ} →
    OneOver k a c → Gives f gain w w₁ N st p u → Left w₁ w₂ N u v (k ∷ (at w₁ p 1 + 1) ∷ 0 ∷ a ∷ p ∷ 0 ∷ 0 ∷ 0 ∷ []) → Operates (one_over f c) w w₂ N st (Step.Done v)
unfolding push
over {k} {a} {c} {f} {gain} {w} {w₁} {w₂} {N} {st} {u} {v} {p} o g l = record {
  runs = λ nm m i h.
      let t : Given f gain nm w₁ N p u full_spare m = g.gives nm full_spare m h in
      let x : Node = t.tree in
      let y : Node = c nm.fixed x in
      let grown : size y ≡ 1 + size x = o.size_is nm.fixed x in
      record {
        machine = restack (y ∷ t.machine.stack) t.machine;
        is = ap (λ z. and_then z (λ x₁. push (c nm.fixed x₁))) t.is;
        holds = l.holds nm nothing_spare t.machine y
            (less_spare (taken gain (size x) full_spare) (for_record (for_push (size y) nothing_spare)) (omega arith) (omega arith) (omega (arith, grown)) (omega arith) t.holds)
            (record {
              kind_is = sym (o.kind_is nm.fixed x);
              size_is = omega (arith, t.lies.size_is, grown);
              count_is = sym (o.count_is nm.fixed x);
              body = o.body nm x _ w₁ u.top i refl (record { place = p; is = refl; below = g.below; holds = t.lies });
            });
      };
  past = λ i h. l.keeps.past i h ∙ g.keeps.past i h;
  long = l.keeps.long ∙ g.keeps.long;
}

-- THE NODES
pub deinitializer_node : (b : Bool) (a : ℕ) → a ≡ flag b → OneOver K.deinitializer a (λ _. Deinitializer b)
unfolding kind size count view
deinitializer_node b a e = record { kind_is = λ s x. refl; size_is = λ s x. refl; count_is = λ s x. refl; body = λ nm x f w p i h k. (h ∙ e, k) }

pub value_witness_node : (n a : ℕ) → ((nm : Names) → Fixed nm.fixed → Named nm a (bytes (nm.fixed n))) → OneOver K.value_witness a (λ s. ValueWitness (bytes (s n)))
unfolding kind size count view
value_witness_node n a e = record { kind_is = λ s x. refl; size_is = λ s x. refl; count_is = λ s x. refl; body = λ nm x f w p i h k. (subst (λ (j : ℕ). Named nm j (bytes (nm.fixed n))) (sym h) (e nm i), k) }
