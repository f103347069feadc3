-- The top of the stack, for any machine that the workspace holds.
use mathlib.Core.Path.{◌≡◌, refl, sym, ap, subst}
use mathlib.Core.List.{List, [], ◌∷◌}
use Prim.Native.Nat.{ℕ, suc, ◌+◌, ◌-◌, ◌*◌, ◌^◌, ◌≤◌, ◌<◌}
use native.Mathlib.Omega.{arith}
use lib.ListN.{get_or}
use Rattle.definition.specs.Node.{Node, size}
use Rattle.definition.specs.Perform.{Demangler}
use Rattle.tree_records.specs.Lies.{Lies}
use Rattle.tree_records.specs.Holds.{Names, Named, weight, Stack, stack_base, Spare, Holds, TopIs, Took}
use Rattle.tree_records.specs.declared.State.{State}

pub empty_stack : {nm : Names} {w : List ℕ} {N : ℕ} {st : State} {sp : Spare} {m : Demangler} → Holds nm w N st sp m → st.depth ≡ 0 → m.stack ≡ []
empty_stack {nm} {w} {N} {st} {sp} {m} h e = go m.stack refl h.stack
  where
    go : (xs : List Node) → m.stack ≡ xs → Stack nm w (stack_base N) st.top xs st.depth → m.stack ≡ []
    go [] q s = q
    go (x ∷ xs) q s = absurd (omega (arith, s.1, e))

-- the state with another depth
abbrev pub at_depth : ℕ → State → State
at_depth d st = record { budget = st.budget; top = st.top; depth = d; seen = st.seen }

pub top_is : {nm : Names} {w : List ℕ} {N : ℕ} {st : State} {sp : Spare} {m : Demangler} (e : ℕ) → st.depth ≡ suc e → Holds nm w N st sp m → TopIs nm w N st.top (get_or w (60 * N + e) 0) (at_depth e st) sp m
unfolding weight
top_is {nm} {w} {N} {st} {sp} {m} e d h = go m.stack refl h.stack
  where
    go : (xs : List Node) → m.stack ≡ xs → Stack nm w (stack_base N) st.top xs st.depth → TopIs nm w N st.top (get_or w (60 * N + e) 0) (at_depth e st) sp m
    go [] q s = absurd (omega (arith, s, d))
    go (x ∷ xs) q s =
        let same : s.0 ≡ e = omega (arith, s.1, d) in
        let light : (size x + weight xs) + sp.nodes ≤ 4 * st.budget.total = subst (λ (l : List Node). weight l + sp.nodes ≤ 4 * st.budget.total) q h.light in
        record {
          tree = x;
          rest = xs;
          is = q;
          below = subst (λ (i : ℕ). get_or w (60 * N + i) 0 < st.top) same s.2;
          lies = subst (λ (i : ℕ). Lies (Named nm) x w (get_or w (60 * N + i) 0)) same s.3;
          holds = record {
            small = h.small;
            long = h.long;
            charged = h.charged;
            budget = h.budget;
            room = omega (arith, h.room, d);
            deep = omega (arith, h.deep, d);
            light = omega arith;
            kept = h.kept;
            stack = subst (λ (i : ℕ). Stack nm w (60 * N) st.top xs i) same s.4;
            substitutions = h.substitutions;
            words = h.words;
          };
        }

pub took : (w : List ℕ) (N : ℕ) (st : State) (p : ℕ) → 0 < st.depth → p ≡ get_or w (60 * N + (st.depth - 1)) 0 → p < 2 ^ 32 → Took w N st p (at_depth (st.depth - 1) st)
took w N st p h e l =
    let d : st.depth ≡ suc (st.depth - 1) = omega arith in
    record {
      deep = d;
      top = refl;
      seen = refl;
      budget = refl;
      below = l;
      gives = λ nm sp m q. subst (λ (x : ℕ). TopIs nm w N st.top x (at_depth (st.depth - 1) st) sp m) (sym e) (top_is (st.depth - 1) d q);
    }

-- the same, for the place that is read
pub top_taken : (w : List ℕ) (N : ℕ) (st : State) → 0 < st.depth → get_or w (60 * N + st.depth - 1) 0 < 2 ^ 32 → Took w N st (get_or w (60 * N + st.depth - 1) 0) (at_depth (st.depth - 1) st)
top_taken w N st h l =
    let same : 60 * N + st.depth - 1 ≡ 60 * N + (st.depth - 1) = omega arith in
    took w N st _ h (ap (λ (j : ℕ). get_or w j 0) same) l
