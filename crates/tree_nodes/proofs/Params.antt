-- Names of member types; the parameters of a function type.
use mathlib.Core.Path.{◌≡◌, refl, ap, ◌∙◌, subst}
use mathlib.Core.List.{List, [], ◌∷◌}
use mathlib.Core.Option.{none}
use Prim.Native.Nat.{ℕ}
use native.Mathlib.Omega.{arith}
use lib.Dec.{eqb}
use Rattle.definition.specs.Base.{ok, is_some}
use Rattle.definition.specs.Kind as K
use Rattle.definition.specs.Node.{nil, Tuple, kind, size, sizes, many, count, view}
use Rattle.definition.specs.Machine as M
use Rattle.definition.specs.Perform as R
use Rattle.definition.specs.Perform.{Demangler}
use Rattle.tree_records.specs.Holds.{Names, Spare, Holds, Keeps, Grew, for_record}
use Rattle.tree_records.specs.declared.State.{State}
use Rattle.tree_nodes.specs.Gives.{taken, Given, Gives, GivenIf, GivesIf, GivenName, GivesName}
use Rattle.tree_nodes.proofs.ByKind.{positive}
use Rattle.tree_nodes.proofs.Taking.{less_spare}

-- NAMES OF MEMBER TYPES
module _ {w : List ℕ} {N : ℕ} {st : State} where
  -- the protocol was there
  pub assoc_behind : {p k : ℕ} {u v : State} → GivesIf (R.try K.is_protocol) w N st p u → GivesName R.pop_name w N u k v → GivesName R.assoc_type_name w N st k v
  unfolding R.assoc_type_name
  assoc_behind {p} {k} {u} {v} g t = record {
    deep = omega (arith, g.deep, t.deep);
    top = t.top ∙ g.top;
    gives = λ nm sp m h.
        let a : GivenIf (R.try K.is_protocol) nm w N _ _ sp m = g.gives nm sp m h in
        let b : GivenName R.pop_name nm w N k v (taken 3 (size a.tree) sp) a.machine = t.gives nm (taken 3 (size a.tree) sp) a.machine a.holds in
        record {
          name = b.name;
          machine = b.machine;
          is = rw (a.is, b.is) refl;
          named = b.named;
          holds = less_spare (taken 3 1 (taken 3 (size a.tree) sp)) (taken 3 1 sp) (omega arith) (omega arith) (omega arith) (omega arith) b.holds;
        };
  }

  -- it was not
  pub assoc_alone : {k : ℕ} {v : State} → ((nm : Names) (sp : Spare) (m : Demangler) → Holds nm w N st sp m → R.try K.is_protocol m ≡ ok none m) → GivesName R.pop_name w N st k v → GivesName R.assoc_type_name w N st k v
  unfolding R.assoc_type_name
  assoc_alone {k} {v} g t = record {
    deep = t.deep;
    top = t.top;
    gives = λ nm sp m h.
        let b : GivenName R.pop_name nm w N k v sp m = t.gives nm sp m h in
        record { name = b.name; machine = b.machine; is = rw (g nm sp m h, b.is) refl; named = b.named; holds = b.holds };
  }

-- THE PARAMETERS OF A FUNCTION TYPE
module _ {w : List ℕ} {N : ℕ} {st : State} where
  -- none: one more record
  pub params_empty : {w₁ : List ℕ} {p : ℕ} {u v : State} → GivesIf (R.try (eqb 30)) w N st p u → Grew w w₁ N u v (9 ∷ 1 ∷ 0 ∷ 0 ∷ 0 ∷ 0 ∷ 0 ∷ 0 ∷ []) → Gives R.function_params 1 w w₁ N st u.top v
  unfolding R.function_params M.took is_some kind size sizes many count view
  params_empty {w₁} {p} {u} {v} a g = record {
    below = omega (arith, ap (λ (s : State). s.top) g.state);
    deep = omega (arith, a.deep, ap (λ (s : State). s.depth) g.state);
    rising = omega (arith, a.top, ap (λ (s : State). s.top) g.state);
    small = omega (arith, g.fields 1 (omega arith));
    keeps = subst (λ (n : ℕ). Keeps w w₁ N n) a.top g.keeps;
    gives = λ nm sp m h.
        let o : GivenIf (R.try (eqb 30)) nm w N p u sp m = a.gives nm sp m h in
        record {
          tree = Tuple nil;
          machine = o.machine;
          is = rw o.is refl;
          lies = g.made nm (Tuple nil) (record { kind_is = refl; size_is = refl; count_is = refl; body = tt });
          holds = g.holds nm (taken 1 1 sp) o.machine (less_spare (taken 3 (size o.tree) sp) (for_record (taken 1 1 sp)) (omega arith) (omega arith) (omega (arith, positive o.tree)) (omega arith) o.holds);
        };
  }

  -- a type
  pub params_type : {p : ℕ} {u : State} → ((nm : Names) (sp : Spare) (m : Demangler) → Holds nm w N st sp m → R.try (eqb 30) m ≡ ok none m) → Gives (R.pop_if K.is_type) 3 w w N st p u → Gives R.function_params 1 w w N st p u
  unfolding R.function_params M.took is_some
  params_type {p} {u} a g = record {
    below = g.below;
    deep = g.deep;
    rising = g.rising;
    small = g.small;
    keeps = g.keeps;
    gives = λ nm sp m h.
        let o : Given (R.pop_if K.is_type) 3 nm w N p u sp m = g.gives nm sp m h in
        record {
          tree = o.tree;
          machine = o.machine;
          is = rw (a nm sp m h) o.is;
          lies = o.lies;
          holds = less_spare (taken 3 (size o.tree) sp) (taken 1 (size o.tree) sp) (omega arith) (omega arith) (omega arith) (omega arith) o.holds;
        };
  }
