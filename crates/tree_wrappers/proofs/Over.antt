-- Operators that put one node over the top.
use mathlib.Core.Path.{◌≡◌, refl, sym, ap, ◌∙◌}
use mathlib.Core.Bool.{Bool}
use mathlib.Core.List.{List, [], ◌∷◌}
use Prim.Native.Nat.{ℕ, ◌+◌}
use native.Mathlib.Omega.{arith}
use Rattle.definition.specs.Base.{Done, and_then, ◌>>◌}
use Rattle.definition.specs.Kind as K
use Rattle.definition.specs.Node.{Node, Metatype, InOut, Static, VariableInitializer, kind, size, count, view}
use Rattle.definition.specs.Machine as M
use Rattle.definition.specs.Machine.{restack, push}
use Rattle.definition.specs.Perform as R
use Rattle.definition.specs.Perform.{Demangler}
use Rattle.tree_records.specs.Lies.{at}
use Rattle.tree_records.specs.Holds.{for_record, for_push}
use Rattle.tree_records.specs.declared.State.{State}
use Rattle.tree_nodes.specs.Results.{Step}
use Rattle.tree_nodes.specs.Gives.{nothing_spare, full_spare, taken, Given, Gives, Performed, Operates, Left, WrapsTo, OneChild, over}
use Rattle.std.specs.Prelude.{Result}
use Rattle.definition.specs.declared.Refusal.{Refusal}
use Rattle.tree_records.specs.Trees.{Reads}
use Rattle.tree_records.specs.declared.Trees.{Trees}
use Rattle.tree_nodes.specs.Trees.{step_of, Operates as Operates-in}
use Rattle.tree_nodes.proofs.Taking.{less_spare}

module _ (want : ℕ → Bool) {w w₁ w₂ : List ℕ} {N : ℕ} {st u v : State} {p : ℕ} where
  pub one_child : (c : Node → Node) (k z a : ℕ) → OneChild k c → z ≡ at w₁ p 1 + 1 → a ≡ p → Gives (R.pop_if want) 3 w w₁ N st p u → Left w₁ w₂ N u v (k ∷ z ∷ 0 ∷ a ∷ 0 ∷ 0 ∷ 0 ∷ 0 ∷ []) →
      Operates (over want c) w w₂ N st (Step.Done v)
  unfolding push
  one_child c k z a o ez ea g l = record {
    runs = λ nm m i h.
        let t : Given (R.pop_if want) 3 nm w₁ N p u full_spare m = g.gives nm full_spare m h in
        let x : Node = t.tree in
        let grown : size (c x) ≡ 1 + size x = o.size_is x in
        record {
          machine = restack (c x ∷ t.machine.stack) t.machine;
          is = ap (λ y. and_then y (λ x₁. push (c x₁))) t.is;
          holds = l.holds nm nothing_spare t.machine (c x)
              (less_spare (taken 3 (size x) full_spare) (for_record (for_push (size (c x)) nothing_spare)) (omega arith) (omega arith) (omega (arith, grown)) (omega arith) t.holds)
              (record {
                kind_is = sym (o.kind_is x);
                size_is = ez ∙ omega (arith, t.lies.size_is, grown);
                count_is = sym (o.count_is x);
                body = o.body nm x _ w₁ u.top (record { place = p; is = ea; below = g.below; holds = t.lies });
              });
        };
    past = λ i h. l.keeps.past i h ∙ g.keeps.past i h;
    long = l.keeps.long ∙ g.keeps.long;
  }

-- WRAPPED: a wrap, and then the effect of an operator
pub wrapped_then : (f : Performed) {w w' : List ℕ} {N : ℕ} {st u : State} (r : Step) → WrapsTo w N st u → Operates f w w' N u r → Operates (λ s. M.wrap >> f s) w w' N st r
wrapped_then f (Step.Done v) t o = record {
  runs = λ nm m i h.
      let g = t.gives nm full_spare m h in
      let n = o.runs nm g.0 i g.2 in
      record { machine = n.machine; is = ap (λ y. and_then y (λ _. f nm.fixed)) g.1 ∙ n.is; holds = n.holds };
  past = o.past;
  long = o.long;
}
wrapped_then f (Step.Refused e) t o = record {
  runs = λ nm m i h.
      let g = t.gives nm full_spare m h in
      ap (λ y. and_then y (λ _. f nm.fixed)) g.1 ∙ o.runs nm g.0 i g.2;
  past = o.past;
  long = o.long;
}

-- THE NODES WITH ONE CHILD
pub metatype_node : OneChild K.metatype Metatype
unfolding kind size count view
metatype_node = record { kind_is = λ x. refl; size_is = λ x. refl; count_is = λ x. refl; body = λ nm x f w p h. h }

pub in_out_node : OneChild K.in_out InOut
unfolding kind size count view
in_out_node = record { kind_is = λ x. refl; size_is = λ x. refl; count_is = λ x. refl; body = λ nm x f w p h. h }

pub static_node : OneChild K.static Static
unfolding kind size count view
static_node = record { kind_is = λ x. refl; size_is = λ x. refl; count_is = λ x. refl; body = λ nm x f w p h. h }

pub variable_initializer_node : OneChild K.variable_initializer VariableInitializer
unfolding kind size count view
variable_initializer_node = record { kind_is = λ x. refl; size_is = λ x. refl; count_is = λ x. refl; body = λ nm x f w p h. h }

-- the same on `Trees`
pub wrapped_in : (f : Performed) {t t₁ : Trees} (t₂ : Trees) (r : Result Done Refusal) → Reads t t₁ → WrapsTo t.ws.now t.n t.state t₁.state → Operates-in f t₁ t₂ r → Operates-in (λ s. M.wrap >> f s) t t₂ r
wrapped_in f t₂ r s k o = wrapped_then f (step_of r t₂.state) k (rw (s.slice, s.ceiling) at o)
