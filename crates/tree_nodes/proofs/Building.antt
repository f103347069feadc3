-- Function types and conformances: trees that are made of what is taken.
use Rattle.std.specs.Prelude.{if◌then◌else◌}
use mathlib.Core.Path.{◌≡◌, refl, sym, ap, ◌∙◌, subst}
use mathlib.Core.Bool.{Bool}
use mathlib.Core.List.{List, [], ◌∷◌}
use Prim.Native.Nat.{ℕ, ◌+◌, ◌≤◌}
use native.Mathlib.Omega.{arith}
use lib.Dec.{eqb}
use Rattle.definition.specs.Kind as K
use Rattle.definition.specs.Node.{Node, FunctionType, Conformance, kind, size, count, view, param_count}
use Rattle.definition.specs.Perform as R
use Rattle.definition.specs.Perform.{Demangler, Run}
use Rattle.tree_records.specs.Lies.{at, flag, Lies}
use Rattle.tree_records.specs.Holds.{Names, Named, Spare, Holds, Ready, Keeps, Grew, for_record}
use Rattle.tree_records.specs.declared.State.{State}
use Rattle.tree_nodes.specs.Results.{Marked}
use Rattle.tree_nodes.specs.Gives.{spare, taken, for_nodes, Given, Gives, Building, Marks, WrapsTo, between}
use Rattle.tree_nodes.proofs.ByKind.{params_of}
use Rattle.tree_nodes.proofs.Taking.{less_spare}
use Rattle.tree_nodes.proofs.Leaving.{keeps_then}

-- the size of a new record, if some machine has a node to spare for it
new_size : {f : Run Node} {gain : ℕ} {nm : Names} {w : List ℕ} {N p : ℕ} {u : State} {sp : Spare} {m : Demangler} → Given f gain nm w N p u sp m → at w p 1 ≤ 262144
new_size o = let h = o.holds in omega (arith, h.small, h.charged, h.light, o.lies.size_is)

module _ {w w₁ w₂ w₃ : List ℕ} {N : ℕ} {st u v x : State} {p q : ℕ} (t y : Bool) where
  pub between_built : (z k cp cq ft fy : ℕ) → Ready w N st (spare 0 0 1 0) → Gives R.function_params 1 w w₁ N st p u → Gives R.function_params 1 w₁ w₂ N u q v →
      z ≡ at w₂ p 1 + at w₂ q 1 + 1 → k ≡ (if eqb (at w₂ p 0) 9 then at w₂ p 2 else 1) → cp ≡ p → cq ≡ q → ft ≡ flag t → fy ≡ flag y →
      Grew w₂ w₃ N v x (10 ∷ z ∷ k ∷ cp ∷ cq ∷ ft ∷ fy ∷ 0 ∷ []) → Building (between t y) 1 0 w w₃ N st v.top x
  unfolding kind size count view
  between_built z k cp cq ft fy r a b ez ek ep eq et ey g = record {
    below = omega (arith, ap (λ (s : State). s.top) g.state);
    deep = omega (arith, a.deep, b.deep, ap (λ (s : State). s.depth) g.state);
    rising = omega (arith, a.rising, b.rising, ap (λ (s : State). s.top) g.state);
    small = new_size (given r.names (spare 0 0 0 0) r.machine r.holds);
    keeps = keeps_then st.top u.top a.rising a.keeps (keeps_then u.top v.top b.rising b.keeps g.keeps);
    gives = given;
  }
    where
      given : (nm : Names) (sp : Spare) (m : Demangler) → Holds nm w N st (for_nodes 1 sp) m → Given (between t y) 0 nm w₃ N v.top x sp m
      given nm sp m h =
          let c : Given R.function_params 1 nm w₁ N p u (for_nodes 1 sp) m = a.gives nm (for_nodes 1 sp) m h in
          let sp₁ : Spare = taken 1 (size c.tree) (for_nodes 1 sp) in
          let d : Given R.function_params 1 nm w₂ N q v sp₁ c.machine = b.gives nm sp₁ c.machine c.holds in
          let l : Lies (Named nm) c.tree w₂ p = b.keeps.trees nm c.tree p a.below c.lies in
          let n : Node = FunctionType c.tree d.tree t y in
          let pc : (if eqb (at w₂ p 0) 9 then at w₂ p 2 else 1) ≡ param_count c.tree = rw (l.kind_is, l.count_is) (sym (params_of c.tree)) in
          record {
            tree = n;
            machine = d.machine;
            is = rw (c.is, d.is) refl;
            lies = g.made nm n (record {
              kind_is = refl;
              size_is = ez ∙ omega (arith, l.size_is, d.lies.size_is);
              count_is = ek ∙ pc;
              body = (record { place = p; is = ep; below = omega (arith, a.below, b.rising); holds = l }, record { place = q; is = eq; below = b.below; holds = d.lies }, et, ey);
            });
            holds = g.holds nm (taken 0 (size n) sp) d.machine (less_spare (taken 1 (size d.tree) sp₁) (for_record (taken 0 (size n) sp)) (omega arith) (omega arith) (omega arith) (omega arith) d.holds);
          }

-- after a wrap and the effects
module _ {w : List ℕ} (w₁ : List ℕ) {N : ℕ} {st u v : State} {t y : Marked} {p : ℕ} where
  pub function_built : WrapsTo w N st u → Marks (R.took 33) w N u t → Marks (R.took 34) w N t.next y → Building (between t.taken y.taken) 1 0 w w₁ N y.next p v → Building R.function_type 1 0 w w₁ N st p v
  unfolding R.function_type
  function_built a b c d = record {
    below = d.below;
    deep = omega (arith, a.depth, b.deep, c.deep, d.deep);
    rising = omega (arith, a.top, b.top, c.top, d.rising);
    small = d.small;
    keeps = subst (λ (n : ℕ). Keeps w w₁ N n) (c.top ∙ b.top ∙ a.top) d.keeps;
    gives = λ nm sp m h.
        let i = a.gives nm (for_nodes 1 sp) m h in
        let j = b.gives nm (for_nodes 1 sp) i.0 i.2 in
        let k = c.gives nm (for_nodes 1 sp) j.0 j.2 in
        let o : Given (between t.taken y.taken) 0 nm w₁ N p v sp k.0 = d.gives nm sp k.0 k.2 in
        record { tree = o.tree; machine = o.machine; is = rw (i.1, j.1, k.1) o.is; lies = o.lies; holds = o.holds };
  }

-- CONFORMANCES
module _ {w w₁ w₂ w₃ : List ℕ} {N : ℕ} {st u v x y : State} {home p ty : ℕ} where
  pub conformance_built : (z ch cp ct : ℕ) → Ready w N st (spare 0 0 1 0) → Gives R.context 1 w w₁ N st home u → Gives R.protocol 2 w₁ w₂ N u p v → Gives (R.pop_if K.is_type) 3 w₂ w₂ N v ty x →
      z ≡ at w₂ ty 1 + at w₂ p 1 + at w₂ home 1 + 1 → ct ≡ ty → cp ≡ p → ch ≡ home →
      Grew w₂ w₃ N x y (27 ∷ z ∷ 0 ∷ ct ∷ cp ∷ ch ∷ 0 ∷ 0 ∷ []) → Building R.conformance 1 4 w w₃ N st x.top y
  unfolding R.conformance kind size count view
  conformance_built z ch cp ct r a b c ez et ep eh g = record {
    below = omega (arith, ap (λ (s : State). s.top) g.state);
    deep = omega (arith, a.deep, b.deep, c.deep, ap (λ (s : State). s.depth) g.state);
    rising = omega (arith, a.rising, b.rising, c.rising, ap (λ (s : State). s.top) g.state);
    small = new_size (given r.names (spare 0 0 0 0) r.machine r.holds);
    keeps = keeps_then st.top u.top a.rising a.keeps (keeps_then u.top v.top b.rising b.keeps (keeps_then v.top x.top c.rising c.keeps g.keeps));
    gives = given;
  }
    where
      given : (nm : Names) (sp : Spare) (m : Demangler) → Holds nm w N st (for_nodes 1 sp) m → Given R.conformance 4 nm w₃ N x.top y sp m
      given nm sp m h =
          let d : Given R.context 1 nm w₁ N home u (for_nodes 1 sp) m = a.gives nm (for_nodes 1 sp) m h in
          let sp₁ : Spare = taken 1 (size d.tree) (for_nodes 1 sp) in
          let e : Given R.protocol 2 nm w₂ N p v sp₁ d.machine = b.gives nm sp₁ d.machine d.holds in
          let sp₂ : Spare = taken 2 (size e.tree) sp₁ in
          let f : Given (R.pop_if K.is_type) 3 nm w₂ N ty x sp₂ e.machine = c.gives nm sp₂ e.machine e.holds in
          let l : Lies (Named nm) d.tree w₂ home = b.keeps.trees nm d.tree home a.below d.lies in
          let n : Node = Conformance f.tree e.tree d.tree in
          record {
            tree = n;
            machine = f.machine;
            is = rw (d.is, e.is, f.is) refl;
            lies = g.made nm n (record {
              kind_is = refl;
              size_is = ez ∙ omega (arith, l.size_is, e.lies.size_is, f.lies.size_is);
              count_is = refl;
              body = (record { place = ty; is = et; below = c.below; holds = f.lies }, record { place = p; is = ep; below = omega (arith, b.below, c.rising); holds = e.lies }, record { place = home; is = eh; below = omega (arith, a.below, b.rising, c.rising); holds = l });
            });
            holds = g.holds nm (taken 4 (size n) sp) f.machine (less_spare (taken 3 (size f.tree) sp₂) (for_record (taken 4 (size n) sp)) (omega arith) (omega arith) (omega arith) (omega arith) f.holds);
          }
