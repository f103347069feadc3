-- A member type of a generic parameter.
use mathlib.Core.Path.{◌≡◌, refl, ◌∙◌}
use mathlib.Core.List.{List, [], ◌∷◌, ◌++◌}
use Prim.Native.Nat.{ℕ, ◌+◌, ◌-◌, ◌≤◌}
use Prim.Native.String.{String}
use native.Mathlib.Omega.{arith}
use Rattle.definition.specs.Text.{Param}
use Rattle.definition.specs.Node.{Node, DependentMember, kind, size, count, view}
use Rattle.definition.specs.Machine as M
use Rattle.definition.specs.Machine.{machine}
use Rattle.definition.specs.Perform as R
use Rattle.definition.specs.Perform.{Demangler}
use Rattle.tree_records.specs.Holds.{Spare, Ready, for_record, for_push, for_keeping}
use Rattle.tree_records.specs.declared.State.{State}
use Rattle.tree_nodes.specs.Results.{Placed}
use Rattle.tree_nodes.specs.Results as Step
use Rattle.tree_nodes.specs.Gives.{spare, nothing_spare, full_spare, taken, GivenName, GivesName, Operates, Kept, Makes}
use Rattle.tree_nodes.proofs.Taking.{less_spare}

-- what there is to spare after a node was made
pub after_made : {x : (ℕ → String) → Node} {cost : ℕ} {w w' : List ℕ} {N : ℕ} {st : State} {r : Placed} {sp : Spare} → Makes x cost w w' N st r → cost ≤ sp.makes → Ready w N st sp → Ready w' N r.next (spare (sp.makes - cost) sp.pushes sp.nodes sp.keeps)
after_made {x} {cost} {w} {w'} {N} {st} {r} {sp} g l q =
    let less : Spare = spare (sp.makes - cost) sp.pushes sp.nodes sp.keeps in
    record {
      names = q.names;
      machine = q.machine;
      holds = g.holds q.names less q.machine (less_spare sp (spare (less.makes + cost) less.pushes less.nodes less.keeps) (omega arith) (omega arith) (omega arith) (omega arith) q.holds);
    }

pub archetype_done : {w w₁ w₂ : List ℕ} {N : ℕ} {st u s : State} {r : Placed} (q : Param) (name a : ℕ) → a ≡ r.place → GivesName R.assoc_type_name w N st name u → Makes (λ _. R.generic_param q) 2 w w₁ N u r → Kept w₁ w₂ N r.next s (8 ∷ 2 ∷ 0 ∷ name ∷ a ∷ 0 ∷ 0 ∷ 0 ∷ []) →
    Operates (λ _. R.archetype q) w w₂ N st (Step.Done s)
unfolding R.archetype R.generic_param M.remember M.push kind size count view
archetype_done {w} {w₁} {w₂} {N} {st} {u} {s} {r} q name a ea g b l = record {
  runs = λ nm m i h.
      let t : GivenName R.assoc_type_name nm w N name u full_spare m = g.gives nm full_spare m h in
      let m₂ : Demangler = t.machine in
      let x : Node = DependentMember (R.generic_param q) t.name in
      record {
        machine = machine m₂.budget (x ∷ m₂.stack) (m₂.substitutions ++ (x ∷ [])) m₂.words;
        is = rw t.is refl;
        holds = l.holds nm nothing_spare m₂ x
            (b.holds nm (for_record (for_keeping (for_push (size x) nothing_spare))) m₂
            (less_spare (taken 3 1 full_spare) (spare 7 1 2 1) (omega arith) (omega arith) (omega arith) (omega arith) t.holds))
            (record { kind_is = refl; size_is = refl; count_is = refl; body = (t.named, record { place = r.place; is = ea; below = b.below; holds = b.lies nm i }) });
      };
  past = λ i h. l.keeps.past i h ∙ b.keeps.past i h;
  long = l.keeps.long ∙ b.keeps.long;
}
