-- A new record on the stack, and one more wrap.
use Rattle.std.specs.Prelude.{if◌then◌else◌}
use mathlib.Core.Path.{◌≡◌, refl, sym, ap, ◌∙◌, subst}
use mathlib.Core.Bool.{Bool, true, false}
use mathlib.Core.List.{List}
use Prim.Native.Nat.{ℕ, suc, ◌+◌, ◌≤◌}
use native.Mathlib.Omega.{arith}
use lib.Dec.{ltb}
use Rattle.definition.specs.Base.{Done, Out, ok, refused}
use Rattle.definition.specs.Enums.{number}
use Rattle.definition.specs.Node.{size}
use Rattle.definition.specs.Budget as B
use Rattle.definition.specs.Machine as M
use Rattle.definition.specs.Machine.{machine}
use Rattle.definition.specs.Perform.{Demangler}
use Rattle.machine.specs.Spent.{budget_of, Spending}
use Rattle.machine.specs.declared.budget.Budget.{Budget}
use Rattle.std.specs.Prelude.{Result, Ok, Err}
use Rattle.machine.specs.declared.budget.Budget.{Budget}
use Rattle.definition.specs.declared.Refusal.{Refusal}
use Rattle.tree_records.specs.Lies.{Lies}
use Rattle.tree_records.specs.Holds.{Names, Named, Spare, Inside, Holds, Grew, Pushed, Remembered, Keeps, for_push, for_keeping}
use Rattle.tree_records.specs.declared.State.{State}
use Rattle.machine.specs.Beyond.{Beyond}
use Rattle.tree_nodes.specs.Gives.{Left, Kept, WrapsTo}
use Rattle.tree_nodes.specs.Trees.{Wrapped, NotWrapped}

pub keeps_then : {w w₁ w₂ : List ℕ} {N : ℕ} (top top₁ : ℕ) → top ≤ top₁ → Keeps w w₁ N top → Keeps w₁ w₂ N top₁ → Keeps w w₂ N top
keeps_then top top₁ l a b = record {
  trees = λ nm x p h r. b.trees nm x p (omega arith) (a.trees nm x p h r);
  fields = λ p k h j. b.fields p k (omega arith) j ∙ a.fields p k h j;
  past = λ i h. b.past i h ∙ a.past i h;
  long = b.long ∙ a.long;
}

pub beyond_then : {w w₁ w₂ : List ℕ} {N top : ℕ} → Keeps w w₁ N top → Beyond 64 N w₁ w₂ → Beyond 64 N w w₂
beyond_then a b = record { past = λ i h. b.past i h ∙ a.past i h; long = b.long ∙ a.long }

-- the state after a record was made has room for its push
pub grew_room : {w w₁ : List ℕ} {N : ℕ} {st u : State} {vs : List ℕ} → Inside w N st 5 1 0 → Grew w w₁ N st u vs → Inside w₁ N u 3 1 0
grew_room {w} {w₁} {N} {st} {u} q g = subst (λ (s : State). Inside w₁ N s 3 1 0) (sym g.state)
    (record { small = q.small; long = omega (arith, q.long, g.keeps.long); charged = q.charged; room = omega (arith, q.room); deep = q.deep; kept = q.kept })

pub left : {w w₁ w₂ : List ℕ} {N : ℕ} {st u₁ u₂ : State} {vs : List ℕ} → Grew w w₁ N st u₁ vs → Pushed w₁ w₂ N u₁ u₂ st.top → Left w w₂ N st u₂ vs
left {w} {w₁} {w₂} {N} {st} {u₁} {u₂} {vs} g h =
    let up : u₁.top ≡ st.top + 1 = ap (λ (s : State). s.top) g.state in
    record {
      holds = λ nm sp m x k r. h.holds nm sp m x (g.holds nm (for_push (size x) sp) m k) (omega (arith, up)) (g.made nm x r);
      made = λ nm x r. h.keeps.trees nm x st.top (omega (arith, up)) (g.made nm x r);
      state = h.state ∙ ap (λ (s : State). record { budget = s.budget; top = s.top; depth = s.depth + 1; seen = s.seen }) g.state;
      keeps = keeps_then st.top u₁.top (omega (arith, up)) g.keeps h.keeps;
    }

-- and for another record
pub grew_again : {w w₁ : List ℕ} {N : ℕ} {st u : State} {vs : List ℕ} → Inside w N st 4 0 0 → Grew w w₁ N st u vs → Inside w₁ N u 2 0 0
grew_again {w} {w₁} {N} {st} {u} q g = subst (λ (s : State). Inside w₁ N s 2 0 0) (sym g.state)
    (record { small = q.small; long = omega (arith, q.long, g.keeps.long); charged = q.charged; room = omega (arith, q.room); deep = q.deep; kept = q.kept })

-- remembered as well
pub grew_kept : {w w₁ : List ℕ} {N : ℕ} {st u : State} {vs : List ℕ} → Inside w N st 5 1 1 → Grew w w₁ N st u vs → Inside w₁ N u 0 0 1
grew_kept {w} {w₁} {N} {st} {u} q g = subst (λ (s : State). Inside w₁ N s 0 0 1) (sym g.state)
    (record { small = q.small; long = omega (arith, q.long, g.keeps.long); charged = q.charged; room = omega (arith, q.room); deep = omega (arith, q.deep); kept = q.kept })

pub kept_room : {w w₁ w₂ : List ℕ} {N : ℕ} {st u v : State} {vs : List ℕ} {p : ℕ} → Inside w N st 5 1 1 → Grew w w₁ N st u vs → Remembered w₁ w₂ N u v p → Inside w₂ N v 3 1 0
kept_room {w} {w₁} {w₂} {N} {st} {u} {v} q g h = subst (λ (s : State). Inside w₂ N s 3 1 0) (sym (h.state ∙ ap (λ (s : State). record { budget = s.budget; top = s.top; depth = s.depth; seen = s.seen + 1 }) g.state))
    (record { small = q.small; long = omega (arith, q.long, g.keeps.long, h.keeps.long); charged = q.charged; room = omega (arith, q.room); deep = q.deep; kept = omega (arith, q.kept) })

pub kept : {w w₁ w₂ w₃ : List ℕ} {N : ℕ} {st u₁ u₂ u₃ : State} {vs : List ℕ} → Grew w w₁ N st u₁ vs → Remembered w₁ w₂ N u₁ u₂ st.top → Pushed w₂ w₃ N u₂ u₃ st.top → Kept w w₃ N st u₃ vs
kept {w} {w₁} {w₂} {w₃} {N} {st} {u₁} {u₂} {u₃} {vs} g k h =
    let up : u₁.top ≡ st.top + 1 = ap (λ (s : State). s.top) g.state in
    let up₂ : u₂.top ≡ u₁.top = ap (λ (s : State). s.top) k.state in
    record {
      holds = λ nm sp m x q r.
          let made : Lies (Named nm) x w₁ st.top = g.made nm x r in
          h.holds nm sp _ x (k.holds nm (for_push (size x) sp) m x (g.holds nm (for_keeping (for_push (size x) sp)) m q) (omega (arith, up)) made) (omega (arith, up, up₂)) (k.keeps.trees nm x st.top (omega (arith, up)) made);
      keeps = keeps_then st.top u₁.top (omega (arith, up)) g.keeps (keeps_then u₁.top u₂.top (omega (arith, up₂)) k.keeps h.keeps);
    }

-- WRAPS
wrap_total : (b c : B.Budget) → B.wrap b ≡ ok tt c → c.total ≡ b.total
unfolding B.wrap
wrap_total b c = go (ltb b.wraps 256)
  where
    go : (t : Bool) → ◌≡◌ {A = Out B.Budget Done} (if t then ok tt (B.budget b.steps b.total (suc b.wraps)) else refused 8) (ok tt c) → c.total ≡ b.total
    go true e = let q : B.budget b.steps b.total (suc b.wraps) ≡ c = cc in sym (ap (λ (x : B.Budget). x.total) q)
    go false e = let z : ◌≡◌ {A = ℕ} 0 1 = cc in absurd (omega arith)

pub wraps_to : (st : State) (b : Budget) → B.wrap (budget_of st.budget) ≡ ok tt (budget_of b) → (w : List ℕ) (N : ℕ) → WrapsTo w N st (record { budget = b; top = st.top; depth = st.depth; seen = st.seen })
unfolding M.wrap M.spend
wraps_to st b e w N =
    let t : b.total ≡ st.budget.total = wrap_total (budget_of st.budget) (budget_of b) e in
    record {
      top = refl;
      depth = refl;
      seen = refl;
      total = t;
      gives = λ nm sp m h. (
        machine (budget_of b) m.stack m.substitutions m.words,
        rw (← h.budget, e) refl,
        record {
          small = h.small;
          long = h.long;
          charged = omega (arith, h.charged, t);
          budget = refl;
          room = omega (arith, h.room, t);
          deep = omega (arith, h.deep, t);
          light = omega (arith, h.light, t);
          kept = omega (arith, h.kept, t);
          stack = h.stack;
          substitutions = h.substitutions;
          words = h.words;
        },
      );
    }

pub wrap_refusal : (b : B.Budget) (n : ℕ) → B.wrap b ≡ refused n → B.wrap b ≡ refused 8
unfolding B.wrap
wrap_refusal b n = go (ltb b.wraps 256)
  where
    go : (t : Bool) → ◌≡◌ {A = Out B.Budget Done} (if t then ok tt (B.budget b.steps b.total (suc b.wraps)) else refused 8) (refused n) → ◌≡◌ {A = Out B.Budget Done} (if t then ok tt (B.budget b.steps b.total (suc b.wraps)) else refused 8) (refused 8)
    go true e = let z : ◌≡◌ {A = ℕ} 0 1 = cc in absurd (omega arith)
    go false e = refl

pub wraps_refused : (st : State) (n : ℕ) → B.wrap (budget_of st.budget) ≡ refused n → (nm : Names) (w : List ℕ) (N : ℕ) (sp : Spare) (m : Demangler) → Holds nm w N st sp m → M.wrap m ≡ refused 8
unfolding M.wrap M.spend
wraps_refused st n e nm w N sp m h = let r : B.wrap (budget_of st.budget) ≡ refused 8 = wrap_refusal (budget_of st.budget) n e in rw (← h.budget, r) refl

-- the only refusal with that number
nesting : (r : Refusal) → number r ≡ 8 → r ≡ Refusal.Nesting
unfolding number
nesting Refusal.Ceiling e = absurd (omega arith)
nesting Refusal.Workspace e = absurd (omega arith)
nesting Refusal.Length e = absurd (omega arith)
nesting Refusal.Encoding e = absurd (omega arith)
nesting Refusal.Prefix e = absurd (omega arith)
nesting Refusal.Steps e = absurd (omega arith)
nesting Refusal.Charge e = absurd (omega arith)
nesting Refusal.Nesting e = refl
nesting Refusal.Spelling e = absurd (omega arith)
nesting Refusal.Stack e = absurd (omega arith)
nesting Refusal.Leftover e = absurd (omega arith)
nesting Refusal.Output e = absurd (omega arith)

pub counts_not : (st : State) (r : Refusal) → B.wrap (budget_of st.budget) ≡ refused (number r) → NotWrapped st st r
counts_not st r e =
    let both : ◌≡◌ {A = Out B.Budget Done} (refused (number r)) (refused 8) = sym e ∙ wrap_refusal (budget_of st.budget) (number r) e in
    record { is = e; nesting = nesting r (let q : number r ≡ 8 = cc in q); same = refl }

-- what is counted, for the machine of any workspace
pub wraps_all : {s u : State} → Wrapped s u → (w : List ℕ) (N : ℕ) → WrapsTo w N s u
wraps_all {s} {u} h w N = subst (λ (x : State). WrapsTo w N s x) (sym h.rest) (wraps_to s u.budget h.is w N)

pub wraps_not : {s u : State} {r : Refusal} → NotWrapped s u r → (w : List ℕ) (N : ℕ) (nm : Names) (sp : Spare) (m : Demangler) → Holds nm w N s sp m → M.wrap m ≡ refused 8
wraps_not {s} {u} {r} h w N nm sp m k = wraps_refused s (number r) h.is nm w N sp m k

-- the result of an arm about a budget
pub spent_left : {out : Out B.Budget Done} {r : Result Budget Refusal} (b : Budget) → r ≡ Ok b → Spending out r → out ≡ ok tt (budget_of b)
spent_left {out} b e h = subst (λ (x : Result Budget Refusal). Spending out x) e h

pub spent_refused : {out : Out B.Budget Done} {r : Result Budget Refusal} (f : Refusal) → r ≡ Err f → Spending out r → out ≡ refused (number f)
spent_refused {out} f e h = subst (λ (x : Result Budget Refusal). Spending out x) e h
