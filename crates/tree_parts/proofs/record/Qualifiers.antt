-- The qualifier of an associated conformance.
use mathlib.Core.Path.{◌≡◌, refl, ap, subst}
use mathlib.Core.List.{List, [], ◌∷◌}
use mathlib.Core.Option.{some, none}
use Prim.Native.Nat.{ℕ, ◌+◌, ◌^◌, ◌<◌}
use native.Mathlib.Omega.{arith}
use Rattle.definition.specs.Base.{ok}
use Rattle.definition.specs.Kind as K
use Rattle.definition.specs.Node.{many, size}
use Rattle.definition.specs.Perform as R
use Rattle.definition.specs.Perform.{Demangler}
use Rattle.tree_records.specs.Holds.{Names, Spare, Holds, Ready, Keeps, Grew, for_record}
use Rattle.tree_records.specs.declared.State.{State}
use Rattle.tree_nodes.specs.Gives.{taken, GivenIf, GivesIf}
use Rattle.tree_nodes.proofs.Taking.{less_spare, keeps_itself}
use Rattle.tree_parts.specs.Parts.{Qualifies}

-- THE QUALIFIER OF AN ASSOCIATED CONFORMANCE
module _ {w w₁ : List ℕ} {N : ℕ} {st u v : State} {p : ℕ} where
  pub qualifier_there : GivesIf (R.try K.is_protocol) w N st p u → Grew w w₁ N u v (0 ∷ 0 ∷ 0 ∷ 4294967295 ∷ p ∷ 0 ∷ 0 ∷ 0 ∷ []) → Qualifies w w₁ N st v (record { form = 4; cell = u.top })
  unfolding R.one_or_none many
  qualifier_there a g =
      let up : v.top ≡ u.top + 1 = ap (λ (s : State). s.top) g.state in
      record {
        rising = omega (arith, a.top, up);
        keeps = subst (λ (n : ℕ). Keeps w w₁ N n) a.top g.keeps;
        gives = λ nm sp m h.
            let o : GivenIf (R.try K.is_protocol) nm w N p u sp m = a.gives nm sp m h in
            record {
              protocol = some o.tree;
              machine = o.machine;
              is = o.is;
              form = refl;
              lies = λ f q e k. record {
                place = u.top;
                is = e;
                below = omega (arith, up);
                holds = (g.fields 3 (omega arith), record { place = p; is = g.fields 4 (omega arith); below = a.below; holds = g.keeps.trees nm o.tree p a.below o.lies }, tt);
              };
              holds = g.holds nm sp o.machine (less_spare (taken 3 (size o.tree) sp) (for_record sp) (omega arith) (omega arith) (omega arith) (omega arith) o.holds);
            };
      }

pub qualifier_missing : {w : List ℕ} {N : ℕ} {st : State} → ((nm : Names) (sp : Spare) (m : Demangler) → Holds nm w N st sp m → R.try K.is_protocol m ≡ ok none m) → Qualifies w w N st st (record { form = 2; cell = 0 })
unfolding R.one_or_none many
qualifier_missing {w} {N} {st} a = record {
  rising = omega arith;
  keeps = keeps_itself w N st.top;
  gives = λ nm sp m h. record { protocol = none; machine = m; is = a nm sp m h; form = refl; lies = λ f q e k. tt; holds = h };
}

-- the place of the next record fits
pub top_small : {w : List ℕ} {N : ℕ} {st : State} {sp : Spare} → Ready w N st sp → st.top < 2 ^ 32
top_small r = let h = r.holds in omega (arith, h.small, h.charged, h.room)
