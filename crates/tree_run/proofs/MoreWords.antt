-- What the workspace holds when more words are known. Assumes nothing.
use mathlib.Core.Path.{◌≡◌, refl}
use mathlib.Core.List.{List, [], ◌∷◌}
use Prim.Native.Nat.{ℕ, suc, ◌*◌}
use native.Mathlib.Omega.{arith}
use Rattle.definition.specs.Base.{Name}
use Rattle.definition.specs.Text.{Text}
use Rattle.definition.specs.Machine.{machine}
use Rattle.definition.specs.Node.{Node}
use Rattle.definition.specs.Perform.{Demangler}
use Rattle.definition.proofs.WordsAdded.{Begins, begins_trans}
use Rattle.tree_records.specs.Lies.{Lies}
use Rattle.tree_records.specs.Holds.{Named, spelled, fixed, Stack, Queue, Spare, Holds}
use Rattle.tree_records.specs.declared.State.{State}
use Rattle.tree_records.proofs.Frame.{lies_move}
use Rattle.tree_records.specs.NamesOf.{Noted, names_of}

module _ (text : Text) (ws vs : Noted) (b : Begins ws.words vs.words) where
  named_more : (k : ℕ) (n : Name) → Named (names_of text ws) k n → Named (names_of text vs) k n
  named_more k n (spelled words r u l i c e) = spelled words r u l i (λ z. begins_trans (c z) b) e
  named_more k n (fixed l h e) = fixed l h e

  pub lies_more : (x : Node) (w : List ℕ) (p : ℕ) → Lies (Named (names_of text ws)) x w p → Lies (Named (names_of text vs)) x w p
  lies_more x w p r = lies_move (Named (names_of text ws)) (Named (names_of text vs)) named_more x {w = w} {w' = w} p (suc p) (omega arith) (record { on = λ i l. refl }) r

  stack_more : (w : List ℕ) (base top : ℕ) (xs : List Node) (d : ℕ) → Stack (names_of text ws) w base top xs d → Stack (names_of text vs) w base top xs d
  stack_more w base top [] d r = r
  stack_more w base top (x ∷ xs) d r = (r.0, r.1, r.2, lies_more x w _ r.3, stack_more w base top xs r.0 r.4)

  queue_more : (w : List ℕ) (base top : ℕ) (xs : List Node) (i d : ℕ) → Queue (names_of text ws) w base top xs i d → Queue (names_of text vs) w base top xs i d
  queue_more w base top [] i d r = r
  queue_more w base top (x ∷ xs) i d r = (r.0, r.1, lies_more x w _ r.2, queue_more w base top xs (suc i) d r.3)

  -- with the words of the machine as they are noted then
  pub holds_more : {w : List ℕ} {N : ℕ} {st : State} {sp : Spare} {m : Demangler} {all : List Name} → vs.all ≡ all → Holds (names_of text ws) w N st sp m → Holds (names_of text vs) w N st sp (machine m.budget m.stack m.substitutions all)
  holds_more {w} {N} {st} {sp} {m} e h = record {
    small = h.small;
    long = h.long;
    charged = h.charged;
    budget = h.budget;
    room = h.room;
    deep = h.deep;
    light = h.light;
    kept = h.kept;
    stack = stack_more w (60 * N) st.top m.stack st.depth h.stack;
    substitutions = queue_more w (61 * N) st.top m.substitutions 0 st.seen h.substitutions;
    words = e;
  }
