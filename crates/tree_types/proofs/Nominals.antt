-- A type declared in a context.
use mathlib.Core.Path.{◌≡◌, refl, ◌∙◌}
use mathlib.Core.List.{List, [], ◌∷◌, ◌++◌}
use Prim.Native.Nat.{ℕ, ◌+◌}
use native.Mathlib.Omega.{arith}
use Rattle.definition.specs.Node.{NominalKind, Node, Nominal, kind, size, count, view, nominal_kind}
use Rattle.definition.specs.Machine as M
use Rattle.definition.specs.Machine.{machine}
use Rattle.definition.specs.Perform as R
use Rattle.definition.specs.Perform.{Demangler, Run}
use Rattle.tree_records.specs.Lies.{at}
use Rattle.tree_records.specs.Holds.{for_record, for_push, for_keeping}
use Rattle.tree_records.specs.declared.State.{State}
use Rattle.tree_nodes.specs.Results as Step
use Rattle.tree_nodes.specs.Gives.{nothing_spare, full_spare, taken, Given, Gives, GivenName, GivesName, Operates, Kept}
use Rattle.tree_nodes.proofs.Contexts.{context_kind}
use Rattle.tree_nodes.proofs.Taking.{less_spare}

pub nominal_done : {w w₁ w₂ : List ℕ} {N : ℕ} {st u v s : State} (k : NominalKind) (name p kn z q : ℕ) → kn ≡ nominal_kind k → z ≡ at w₁ p 1 + 1 → q ≡ p →
    GivesName R.pop_name w N st name u → Gives R.context 1 w w₁ N u p v → Kept w₁ w₂ N v s (kn ∷ z ∷ 0 ∷ name ∷ q ∷ 0 ∷ 0 ∷ 0 ∷ []) → Operates (λ _. R.nominal k) w w₂ N st (Step.Done s)
unfolding R.nominal M.remember M.push kind size count view
nominal_done {w} {w₁} {w₂} {N} {st} {u} {v} {s} k name p kn z q ek ez eq a b l = record {
  runs = λ nm m i h.
      let t : GivenName R.pop_name nm w N name u full_spare m = a.gives nm full_spare m h in
      let c : Given R.context 1 nm w₁ N p v (taken 3 1 full_spare) t.machine = b.gives nm (taken 3 1 full_spare) t.machine t.holds in
      let m₂ : Demangler = c.machine in
      let x : Node = Nominal k c.tree t.name in
      record {
        machine = machine m₂.budget (x ∷ m₂.stack) (m₂.substitutions ++ (x ∷ [])) m₂.words;
        is = rw (t.is, c.is) refl;
        holds = l.holds nm nothing_spare m₂ x
            (less_spare (taken 1 (size c.tree) (taken 3 1 full_spare)) (for_record (for_keeping (for_push (size x) nothing_spare))) (omega arith) (omega arith) (omega arith) (omega arith) c.holds)
            (record {
              kind_is = ek;
              size_is = ez ∙ omega (arith, c.lies.size_is);
              count_is = refl;
              body = (t.named, record { place = p; is = eq; below = b.below; holds = c.lies }, context_kind t.machine c.machine c.tree c.is);
            });
      };
  past = λ i h. l.keeps.past i h ∙ b.keeps.past i h;
  long = l.keeps.long ∙ b.keeps.long;
}
