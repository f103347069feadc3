-- The stack and the remembered nodes are unchanged if their places and the records are unchanged;
-- one more place.
use mathlib.Core.Path.{◌≡◌, refl, sym, ap, subst}
use mathlib.Core.Logic.{◌≢◌}
use mathlib.Core.List.{List, [], ◌∷◌, ◌++◌}
use Prim.Native.Nat.{ℕ, suc, ◌+◌, ◌*◌, ◌≤◌, ◌<◌}
use native.Mathlib.Omega.{arith}
use native.Mathlib.Numerals.{add-one}
use lib.ListN.{length, get_or, set, length-set}
use lib.Seq.{get_or-set_same, get_or-set_other}
use Rattle.definition.specs.Node.{Node}
use Rattle.tree_records.specs.Lies.{Lies}
use Rattle.tree_records.specs.Made.{Wrote}
use Rattle.tree_records.specs.Holds.{Names, Named, weight, Stack, Queue, Inside, Keeps, Grew, Pushed, Remembered}
use Rattle.tree_records.specs.declared.State.{State}
use Rattle.tree_records.proofs.Frame.{Same, lies_still}
use Rattle.tree_records.proofs.Stores.{made}

-- the places from base on, below d, are unchanged
pub record SamePlaces (w w' : List ℕ) (base d : ℕ) : Type 0 where
  pub on : (i : ℕ) → i < d → get_or w' (base + i) 0 ≡ get_or w (base + i) 0

module _ (nm : Names) {w w' : List ℕ} (base top top' : ℕ) (up : top ≤ top') (s : Same w w' (8 * top)) where
  pub stack_still : (xs : List Node) (d : ℕ) → SamePlaces w w' base d → Stack nm w base top xs d → Stack nm w' base top' xs d
  stack_still [] d q r = r
  stack_still (x ∷ xs) d q r =
      let e : ℕ = r.0 in
      let same : get_or w' (base + e) 0 ≡ get_or w (base + e) 0 = q.on e (omega (arith, r.1)) in
      (e, r.1, rw same (omega (arith, r.2)), rw same (lies_still (Named nm) x (get_or w (base + e) 0) top r.2 s r.3), stack_still xs e (record { on = λ i l. q.on i (omega (arith, r.1)) }) r.4)

  pub queue_still : (xs : List Node) (i d : ℕ) → SamePlaces w w' base d → Queue nm w base top xs i d → Queue nm w' base top' xs i d
  queue_still [] i d q r = r
  queue_still (x ∷ xs) i d q r =
      let same : get_or w' (base + i) 0 ≡ get_or w (base + i) 0 = q.on i r.0 in
      (r.0, rw same (omega (arith, r.1)), rw same (lies_still (Named nm) x (get_or w (base + i) 0) top r.1 s r.2), queue_still xs (suc i) d q r.3)

-- one more at the end
queue_more : (nm : Names) (w : List ℕ) (base top : ℕ) (xs : List Node) (x : Node) (i d : ℕ) → get_or w (base + d) 0 < top → Lies (Named nm) x w (get_or w (base + d) 0) → Queue nm w base top xs i d → Queue nm w base top (xs ++ (x ∷ [])) i (suc d)
queue_more nm w base top [] x i d l h r =
    (omega (arith, r), subst (λ (k : ℕ). get_or w (base + k) 0 < top) (sym r) l, subst (λ (k : ℕ). Lies (Named nm) x w (get_or w (base + k) 0)) (sym r) h, ap suc r)
queue_more nm w base top (y ∷ ys) x i d l h r = (omega (arith, r.0), r.1, r.2, queue_more nm w base top ys x (suc i) d l h r.3)

other : {i j : ℕ} → i < j → i ≢ j
other h e = omega arith

other' : {i j : ℕ} → j < i → i ≢ j
other' h e = omega arith

-- A RECORD
abbrev grown : State → State
grown st = record { budget = st.budget; top = st.top + 1; depth = st.depth; seen = st.seen }

pub grew : (w w' : List ℕ) (N : ℕ) (st : State) (vs : List ℕ) → Inside w N st 2 0 0 → Wrote w w' st.top vs → Grew w w' N st (grown st) vs
grew w w' N st vs q r =
    let fits : 8 * st.top + 8 ≤ 60 * N = omega (arith, q.room, q.charged) in
    let s : Same w w' (8 * st.top) = record { on = λ i l. r.below i l } in
    record {
      state = refl;
      holds = λ nm sp m h. record {
        small = h.small;
        long = omega (arith, h.long, r.long);
        charged = h.charged;
        budget = h.budget;
        room = omega (arith, h.room);
        deep = h.deep;
        light = h.light;
        kept = h.kept;
        stack = stack_still nm (60 * N) st.top (st.top + 1) (omega arith) s m.stack st.depth (record { on = λ i l. r.above (60 * N + i) (omega arith) }) h.stack;
        substitutions = queue_still nm (61 * N) st.top (st.top + 1) (omega arith) s m.substitutions 0 st.seen (record { on = λ i l. r.above (61 * N + i) (omega arith) }) h.substitutions;
        words = h.words;
      };
      made = λ nm x h. made (Named nm) x st.top vs r h;
      fields = r.fields;
      keeps = record {
        trees = λ nm x p l h. lies_still (Named nm) x p st.top l s h;
        fields = λ p k l h. r.below (8 * p + k) (omega arith);
        past = λ i l. r.above i (omega arith);
        long = r.long;
      };
    }

-- ONE NUMBER past the records
module _ (w : List ℕ) (N : ℕ) (st : State) (makes pushes keeps : ℕ) (q : Inside w N st makes pushes keeps) (i v : ℕ) (low : 60 * N ≤ i) where
  set_same : Same w (set w i v) (8 * st.top)
  set_same = record { on = λ j l. get_or-set_other w i j v 0 (other (omega (arith, q.room, q.charged))) }

  set_keeps : i < 64 * N → Keeps w (set w i v) N st.top
  set_keeps l = record {
    trees = λ nm x p h r. lies_still (Named nm) x p st.top h set_same r;
    fields = λ p k h j. set_same.on (8 * p + k) (omega arith);
    past = λ j h. get_or-set_other w i j v 0 (other' (omega arith));
    long = length-set w i v;
  }

pub pushed : (w : List ℕ) (N : ℕ) (st : State) (p : ℕ) → Inside w N st 3 1 0 → Pushed w (set w (60 * N + st.depth) p) N st (record { budget = st.budget; top = st.top; depth = st.depth + 1; seen = st.seen }) p
unfolding weight
pushed w N st p q =
    let i : ℕ = 60 * N + st.depth in
    let inside : i < length w = omega (arith, q.long, q.deep, q.charged) in
    let low : 60 * N ≤ i = omega arith in
    let same : Same w (set w i p) (8 * st.top) = set_same w N st 3 1 0 q i p low in
    let here : get_or (set w i p) i 0 ≡ p = get_or-set_same w i p 0 inside in
    record {
      state = refl;
      holds = λ nm sp m x h l r. record {
        small = h.small;
        long = omega (arith, h.long, length-set w i p);
        charged = h.charged;
        budget = h.budget;
        room = omega (arith, h.room);
        deep = omega (arith, h.deep);
        light = omega (arith, h.light);
        kept = h.kept;
        stack = (
          st.depth,
          add-one st.depth,
          rw here l,
          rw here (lies_still (Named nm) x p st.top l same r),
          stack_still nm (60 * N) st.top st.top (omega arith) same m.stack st.depth (record { on = λ j k. get_or-set_other w i (60 * N + j) p 0 (other (omega arith)) }) h.stack,
        );
        substitutions = queue_still nm (61 * N) st.top st.top (omega arith) same m.substitutions 0 st.seen (record { on = λ j k. get_or-set_other w i (61 * N + j) p 0 (other' (omega (arith, q.deep, q.charged))) }) h.substitutions;
        words = h.words;
      };
      keeps = set_keeps w N st 3 1 0 q i p low (omega (arith, q.deep, q.charged));
    }

pub remembered : (w : List ℕ) (N : ℕ) (st : State) (p : ℕ) → Inside w N st 0 0 1 → Remembered w (set w (61 * N + st.seen) p) N st (record { budget = st.budget; top = st.top; depth = st.depth; seen = st.seen + 1 }) p
remembered w N st p q =
    let i : ℕ = 61 * N + st.seen in
    let inside : i < length w = omega (arith, q.long, q.kept, q.charged) in
    let low : 60 * N ≤ i = omega arith in
    let same : Same w (set w i p) (8 * st.top) = set_same w N st 0 0 1 q i p low in
    let here : get_or (set w i p) i 0 ≡ p = get_or-set_same w i p 0 inside in
    record {
      state = refl;
      holds = λ nm sp m x h l r. record {
        small = h.small;
        long = omega (arith, h.long, length-set w i p);
        charged = h.charged;
        budget = h.budget;
        room = h.room;
        deep = h.deep;
        light = h.light;
        kept = omega (arith, h.kept);
        stack = stack_still nm (60 * N) st.top st.top (omega arith) same m.stack st.depth (record { on = λ j k. get_or-set_other w i (60 * N + j) p 0 (other (omega (arith, q.deep, q.charged))) }) h.stack;
        substitutions = subst (λ (d : ℕ). Queue nm (set w i p) (61 * N) st.top (m.substitutions ++ (x ∷ [])) 0 d) (sym (add-one st.seen))
            (queue_more nm (set w i p) (61 * N) st.top m.substitutions x 0 st.seen (rw here l) (rw here (lies_still (Named nm) x p st.top l same r))
            (queue_still nm (61 * N) st.top st.top (omega arith) same m.substitutions 0 st.seen (record { on = λ j k. get_or-set_other w i (61 * N + j) p 0 (other (omega arith)) }) h.substitutions));
        words = h.words;
      };
      keeps = set_keeps w N st 0 0 1 q i p low (omega (arith, q.kept, q.charged));
    }
