-- What the function of an operator says is what the definition's operator does.
use mathlib.Core.Path.{◌≡◌, sym, ap, subst, ◌∙◌}
use mathlib.Core.List.{List, ◌∷◌}
use Prim.Native.Nat.{ℕ, ◌<◌}
use native.Mathlib.Omega.{arith}
use Rattle.definition.specs.Base.{and_then}
use Rattle.definition.specs.Enums as Enums
use Rattle.definition.specs.Enums.{number}
use Rattle.definition.specs.Node.{size}
use Rattle.definition.specs.Machine as M
use Rattle.definition.specs.Machine.{restack}
use Rattle.definition.specs.Perform as R
use Rattle.definition.specs.Perform.{Demangler}
use Rattle.definition.specs.declared.Operator.{Operator}
use Rattle.definition.specs.declared.Accessor.{Accessor}
use Rattle.tree_records.specs.Holds.{Inside, Ready, Pushed, for_push}
use Rattle.tree_records.specs.declared.State.{State}
use Rattle.tree_nodes.specs.Gives.{spare, nothing_spare, full_spare, taken, Given, Building, Performed, Operates}
use Rattle.tree_nodes.specs.Results.{Step}
use Rattle.tree_nodes.proofs.Taking.{less_spare}
use Rattle.tree_parts.specs.Leaves.{letter}

-- the definition's operator, given the fixed names
abbrev pub performed : (N : ℕ) → Operator → Performed
performed N op names = R.perform N (Enums.operator names op)

-- a match arm
pub as_operator : {w w₁ : List ℕ} {N : ℕ} {st : State} {s : Step} {op : Operator} (k : Operator) → op ≡ k → Operates (performed N k) w w₁ N st s → Operates (performed N op) w w₁ N st s
as_operator {w} {w₁} {N} {st} {s} k e m = subst (λ (x : Operator). Operates (performed N x) w w₁ N st s) (sym e) m

-- the letter of a variable, case by case
pub variable_is : {w w₁ : List ℕ} {N : ℕ} {st : State} {s : Step} (a : Accessor) → Operates (λ names. R.variable (letter names a)) w w₁ N st s → Operates (performed N (Operator.Variable a)) w w₁ N st s
unfolding R.perform Enums.operator
variable_is Accessor.Itself m = m
variable_is (Accessor.Named n) m = m
variable_is Accessor.Broken m = m

-- FUNCTION TYPES: made, and then pushed
module _ {w w₁ : List ℕ} {N : ℕ} {st u : State} {p : ℕ} where
  pub function_room : Building R.function_type 1 0 w w₁ N st p u → Ready w N st full_spare → Inside w₁ N u 3 1 0 × (p < 4294967296)
  function_room g r =
      let h = (g.gives r.names (spare 15 1 3 1) r.machine r.holds).holds in
      (record { small = h.small; long = h.long; charged = h.charged; room = omega (arith, h.room); deep = omega (arith, h.deep); kept = omega (arith, h.kept) }, omega (arith, h.small, h.charged, h.room, g.below))

  pub function_pushed : {w₂ : List ℕ} {v : State} → Building R.function_type 1 0 w w₁ N st p u → Pushed w₁ w₂ N u v p → Operates (performed N Operator.FunctionType) w w₂ N st (Step.Done v)
  unfolding R.perform Enums.operator M.push
  function_pushed {w₂} {v} g a = record {
    runs = λ nm m i h.
        let o : Given R.function_type 0 nm w₁ N p u (spare 15 1 3 1) m = g.gives nm (spare 15 1 3 1) m h in
        record {
          machine = restack (o.tree ∷ o.machine.stack) o.machine;
          is = ap (λ y. and_then y (λ x. M.push x)) o.is;
          holds = a.holds nm nothing_spare o.machine o.tree (less_spare (taken 0 (size o.tree) (spare 15 1 3 1)) (for_push (size o.tree) nothing_spare) (omega arith) (omega arith) (omega arith) (omega arith) o.holds) g.below o.lies;
        };
    past = λ i l. a.keeps.past i l ∙ g.keeps.past i l;
    long = a.keeps.long ∙ g.keeps.long;
  }
