-- Copies of a tree: that many pushes of its place, and the charge before them.
use mathlib.Core.Path.{◌≡◌, refl, sym, ap, ◌∙◌, subst}
use mathlib.Core.List.{List, [], ◌∷◌, ◌++◌}
use mathlib.Core.Option.{some, none}
use Prim.Native.Nat.{ℕ, zero, suc, ◌+◌, ◌*◌, ◌≤◌, ◌<◌}
use native.Mathlib.Omega.{arith}
use native.Mathlib.Nat.{mul-suc, add_comm}
use Rattle.machine.proofs.budget.Charging.{charge_room, charged_to, copies_le}
use lib.ListN.{get_or, replicate, get_elem?}
use Rattle.definition.specs.Base.{ok, refused}
use Rattle.definition.specs.Enums.{number}
use Rattle.definition.specs.Node.{Node, size}
use Rattle.definition.specs.Budget as B
use Rattle.definition.specs.Machine as M
use Rattle.definition.specs.Machine.{machine, restack}
use Rattle.definition.specs.Perform as R
use Rattle.definition.specs.Perform.{Demangler}
use Rattle.definition.specs.declared.Refusal.{Refusal}
use Rattle.machine.specs.Spent.{budget_of}
use Rattle.machine.specs.declared.budget.Budget.{Budget}
use Rattle.tree_records.specs.Lies.{at, Lies}
use Rattle.tree_records.specs.Holds.{Names, Named, Spare, Inside, Holds, Ready, Queue, Pushed, for_push}
use Rattle.tree_records.specs.declared.State.{State}
use Rattle.tree_nodes.specs.Gives.{nothing_spare}
use Rattle.tree_nodes.specs.Results.{Step}
use Rattle.tree_nodes.proofs.ByKind.{positive}
use Rattle.machine.specs.Beyond.{beyond_itself}
use Rattle.tree_nodes.proofs.Taking.{less_spare, keeps_itself}
use Rattle.tree_nodes.proofs.Leaving.{keeps_then}
use Rattle.tree_copies.specs.Copies.{for_pushes, Pushes, Went, Copied, Recalled, recall_copies}

-- PUSHES
pub no_pushes : (w : List ℕ) (N : ℕ) (st : State) (p : ℕ) → Pushes w w N st st p 0
no_pushes w N st p = record {
  state = ap (λ (d : ℕ). record { budget = st.budget; top = st.top; depth = d; seen = st.seen }) (omega arith);
  holds = λ nm sp m x h l r. less_spare (for_pushes 0 (size x) sp) sp (omega arith) (omega arith) (omega arith) (omega arith) h;
  keeps = keeps_itself w N st.top;
}

pub one_push : {w w₁ w₂ : List ℕ} {N : ℕ} {st u v : State} {p i : ℕ} → Pushes w w₁ N st u p i → Pushed w₁ w₂ N u v p → Pushes w w₂ N st v p (suc i)
one_push {w} {w₁} {w₂} {N} {st} {u} {v} {p} {i} a b =
    let up : u.top ≡ st.top = ap (λ (s : State). s.top) a.state in
    record {
      state = b.state ∙ ap (λ (s : State). record { budget = s.budget; top = s.top; depth = s.depth + 1; seen = s.seen }) a.state ∙ ap (λ (d : ℕ). record { budget = st.budget; top = st.top; depth = d; seen = st.seen }) (omega arith);
      holds = λ nm sp m x h l r.
          let split : size x * suc i ≡ size x + size x * i = product (size x) i in
          b.holds nm sp _ x (a.holds nm (for_push (size x) sp) m x (less_spare (for_pushes (suc i) (size x) sp) (for_pushes i (size x) (for_push (size x) sp)) (omega arith) (omega arith) (omega (arith, split)) (omega arith) h) l r)
          (subst (λ (n : ℕ). p < n) (sym up) l) (a.keeps.trees nm x p l r);
      keeps = keeps_then st.top u.top (omega (arith, up)) a.keeps b.keeps;
    }
  where
    product : (z k : ℕ) → z * suc k ≡ z + z * k
    product z k = mul-suc z k ∙ add_comm (z * k) z

pub pushes_to : {w w₁ : List ℕ} {N : ℕ} {st u : State} {p i j : ℕ} → i ≡ j → Pushes w w₁ N st u p i → Pushes w w₁ N st u p j
pushes_to {w} {w₁} {N} {st} {u} {p} e a = subst (λ (k : ℕ). Pushes w w₁ N st u p k) e a

-- room for another
pub push_room : {w w₁ : List ℕ} {N : ℕ} {st u : State} {p i times : ℕ} → Inside w N st (3 * times) times 0 → Pushes w w₁ N st u p i → i < times → Inside w₁ N u 3 1 0
push_room {w} {w₁} {N} {st} {u} {p} {i} q a l = subst (λ (s : State). Inside w₁ N s 3 1 0) (sym a.state)
    (record { small = q.small; long = omega (arith, q.long, a.keeps.long); charged = q.charged; room = omega (arith, q.room); deep = omega (arith, q.deep); kept = omega (arith, q.kept) })

-- THE CHARGE
abbrev charged : Budget → State → State
charged b st = record { budget = b; top = st.top; depth = st.depth; seen = st.seen }

module _ (w : List ℕ) (N : ℕ) (st : State) (z times : ℕ) (b : Budget) (one : 1 ≤ z) (q : B.charge N (z * times) (budget_of st.budget) ≡ ok tt (budget_of b)) where
  more : b.total ≡ st.budget.total + z * times
  more = sym (ap (λ (c : B.Budget). c.total) (charged_to N (z * times) (budget_of st.budget) (budget_of b) q))

  within : st.budget.total + z * times ≤ N
  within = charge_room N (z * times) (budget_of st.budget) (budget_of b) q

  few : times ≤ z * times
  few = copies_le z times one

  pub copies_room : Ready w N st nothing_spare → Inside w N (charged b st) (3 * times) times 0
  copies_room r =
      let h = r.holds in
      record { small = h.small; long = h.long; charged = omega (arith, more, within); room = omega (arith, h.room, more, few); deep = omega (arith, h.deep, more, few); kept = omega (arith, h.kept, more) }

  -- the machine with the charge
  pub charged_holds : (nm : Names) (sp : Spare) (m : Demangler) → Holds nm w N st sp m → Holds nm w N (charged b st) (for_pushes times z sp) (machine (budget_of b) m.stack m.substitutions m.words)
  charged_holds nm sp m h = record {
    small = h.small;
    long = h.long;
    charged = omega (arith, more, within);
    budget = refl;
    room = omega (arith, h.room, more, few);
    deep = omega (arith, h.deep, more, few);
    light = omega (arith, h.light, more);
    kept = omega (arith, h.kept, more);
    stack = h.stack;
    substitutions = h.substitutions;
    words = h.words;
  }

pub copied_done : {w w₁ : List ℕ} {N : ℕ} {st u : State} (z times p : ℕ) (b : Budget) → 1 ≤ z → z ≡ at w p 1 → p < st.top → B.charge N (z * times) (budget_of st.budget) ≡ ok tt (budget_of b) → Pushes w w₁ N (charged b st) u p times → Copied w w₁ N st times p (Step.Done u)
unfolding R.copied M.spend M.push_copies
copied_done {w} {w₁} {N} {st} {u} z times p b one ez l q a = record {
  runs = λ nm sp m x h r.
      let e : size x ≡ z = sym r.size_is ∙ sym ez in
      let m₁ : Demangler = machine (budget_of b) m.stack m.substitutions m.words in
      record {
        machine = restack (replicate times x ++ m.stack) m₁;
        is = rw (e, ← h.budget, q) refl;
        holds = a.holds nm sp m₁ x (subst (λ (k : ℕ). Holds nm w N (charged b st) (for_pushes times k sp) m₁) (sym e) (charged_holds w N st z times b one q nm sp m h)) l r;
      };
  beyond = record { past = a.keeps.past; long = a.keeps.long };
}

pub copied_refused : {w : List ℕ} {N : ℕ} {st : State} (z times p : ℕ) (f : Refusal) → z ≡ at w p 1 → B.charge N (z * times) (budget_of st.budget) ≡ refused (number f) → Copied w w N st times p (Step.Refused f)
unfolding R.copied M.spend
copied_refused {w} {N} {st} z times p f ez q = record {
  runs = λ nm sp m x h r. let e : size x ≡ z = sym r.size_is ∙ sym ez in rw (e, ← h.budget, q) refl;
  beyond = beyond_itself w N;
}

-- A REMEMBERED NODE
-- the node of an index, and its place
queue_at : (nm : Names) (w : List ℕ) (base top : ℕ) (xs : List Node) (i d j : ℕ) → Queue nm w base top xs i d → i + j < d → (x : Node) × (get_elem? xs j ≡ some x) × (get_or w (base + (i + j)) 0 < top) × Lies (Named nm) x w (get_or w (base + (i + j)) 0)
queue_at nm w base top [] i d j r l = absurd (omega (arith, r))
queue_at nm w base top (x ∷ xs) i d zero r l = let e : i + 0 ≡ i = omega arith in (x, refl, rw e r.1, rw e r.2)
queue_at nm w base top (x ∷ xs) i d (suc j) r l = let e : i + suc j ≡ suc i + j = omega arith in rw e (queue_at nm w base top xs (suc i) d j r.3 (omega arith))

queue_past : (nm : Names) (w : List ℕ) (base top : ℕ) (xs : List Node) (i d j : ℕ) → Queue nm w base top xs i d → d ≤ i + j → get_elem? xs j ≡ none
queue_past nm w base top [] i d j r l = refl
queue_past nm w base top (x ∷ xs) i d zero r l = absurd (omega (arith, r.0))
queue_past nm w base top (x ∷ xs) i d (suc j) r l = queue_past nm w base top xs (suc i) d j r.3 (omega arith)

remembered_at : {nm : Names} {w : List ℕ} {N : ℕ} {st : State} {sp : Spare} {m : Demangler} (j : ℕ) → Holds nm w N st sp m → j < st.seen → (x : Node) × (get_elem? m.substitutions j ≡ some x) × (get_or w (61 * N + j) 0 < st.top) × Lies (Named nm) x w (get_or w (61 * N + j) 0)
remembered_at {nm} {w} {N} {st} {sp} {m} j h l =
    let a = queue_at nm w (61 * N) st.top m.substitutions 0 st.seen j h.substitutions (omega arith) in
    let e : 0 + j ≡ j = omega arith in
    (a.0, a.1, subst (λ (i : ℕ). get_or w (61 * N + i) 0 < st.top) e a.2, subst (λ (i : ℕ). Lies (Named nm) a.0 w (get_or w (61 * N + i) 0)) e a.3)

pub not_recalled : {nm : Names} {w : List ℕ} {N : ℕ} {st : State} {sp : Spare} {m : Demangler} (times j : ℕ) → Holds nm w N st sp m → st.seen ≤ j → recall_copies N times j m ≡ refused 9
unfolding M.recall
not_recalled {nm} {w} {N} {st} {sp} {m} times j h l = rw (queue_past nm w (61 * N) st.top m.substitutions 0 st.seen j h.substitutions (omega arith)) refl

module _ {w : List ℕ} {N : ℕ} {st : State} (times j p : ℕ) where
  pub recall_ready : p ≡ get_or w (61 * N + j) 0 → Ready w N st nothing_spare → j < st.seen → (p < st.top) × (1 ≤ at w p 1)
  recall_ready e r l =
      let a = remembered_at j r.holds l in
      rw e (a.2, omega (arith, a.3.size_is, positive a.0))

  pub recall_past : st.seen ≤ j → Recalled w w N st times j (Step.Refused Refusal.Spelling)
  unfolding number
  recall_past l = record { runs = λ nm sp m h. not_recalled times j h l; beyond = beyond_itself w N }

  pub recalled : {w₁ : List ℕ} (r : Step) → p ≡ get_or w (61 * N + j) 0 → j < st.seen → Copied w w₁ N st times p r → Recalled w w₁ N st times j r
  unfolding M.recall
  recalled (Step.Done u) e l c = record {
    runs = λ nm sp m h.
        let a = remembered_at j h l in
        let o : Went (R.copied N times a.0) nm _ N u sp m = c.runs nm sp m a.0 h (subst (λ (i : ℕ). Lies (Named nm) a.0 w i) (sym e) a.3) in
        record { machine = o.machine; is = rw a.1 o.is; holds = o.holds };
    beyond = c.beyond;
  }
  recalled (Step.Refused f) e l c = record {
    runs = λ nm sp m h.
        let a = remembered_at j h l in
        rw a.1 (c.runs nm sp m a.0 h (subst (λ (i : ℕ). Lies (Named nm) a.0 w i) (sym e) a.3));
    beyond = c.beyond;
  }
