-- Nodes over lists: tuples, lists of protocols, generic types with their arguments, generic
-- signatures.
use mathlib.Core.Path.{◌≡◌, refl, sym, ap, ◌∙◌}
use mathlib.Core.Bool.{true, false}
use mathlib.Core.List.{List, [], ◌∷◌, ◌++◌}
use Prim.Native.Nat.{ℕ, suc, ◌+◌, ◌<◌}
use native.Mathlib.Omega.{arith}
use lib.ListN.{length}
use Rattle.definition.specs.Base.{refused}
use Rattle.definition.specs.Enums.{number}
use Rattle.definition.specs.Kind as K
use Rattle.definition.specs.Node.{Node, Nodes, nil, Tuple, ProtocolList, BoundGeneric, GenericSignature, kind, size, count, sizes, many, view}
use Rattle.definition.specs.Machine as M
use Rattle.definition.specs.Machine.{machine, restack}
use Rattle.definition.specs.Perform as R
use Rattle.definition.specs.Perform.{Demangler}
use Rattle.definition.specs.declared.Refusal.{Refusal}
use Rattle.tree_records.specs.Lies.{at, Cells}
use Rattle.tree_records.specs.Holds.{Names, Named, Stack, stack_base, Spare, Holds, Ready, for_record, for_push, for_keeping}
use Rattle.tree_records.specs.declared.State.{State}
use Rattle.tree_nodes.specs.Results.{Marked}
use Rattle.tree_nodes.specs.Results as Step
use Rattle.machine.specs.Beyond.{Beyond}
use Rattle.tree_nodes.specs.Gives.{nothing_spare, full_spare, taken, low_half, high_half, Gives, Marks, Operates, Left, Kept}
use Rattle.tree_nodes.proofs.Making.{halves}
use Rattle.tree_nodes.proofs.Taking.{less_spare, keeps_itself}
use Rattle.tree_types.specs.Cells.{grown, Listed, Gathering}
use Rattle.tree_types.specs.TypeLists.{Loop, Collected, ListNode, delimited, applied}
use Rattle.tree_types.specs.declared.cells.Chain.{Chain}
use Rattle.tree_types.proofs.cells.Cells.{cells_move, listed_moves, listed_nil}

-- the number of places on the stack is the number of trees on it
pub stack_depth : {nm : Names} {w : List ℕ} {N : ℕ} {st : State} {sp : Spare} {m : Demangler} → Holds nm w N st sp m → length m.stack ≡ st.depth
stack_depth {nm} {w} {N} {st} {sp} {m} h = go m.stack st.depth h.stack
  where
    go : (xs : List Node) (d : ℕ) → Stack nm w (stack_base N) st.top xs d → length xs ≡ d
    go [] d s = sym s
    go (x ∷ xs) d s = ap suc (go xs s.0 s.4) ∙ sym s.1

-- the cells of a list, from the field that has its first place
pub listed_cells : {nm : Names} {ns : Nodes} {w : List ℕ} {top : ℕ} {l : Chain} (k : ℕ) (f : ℕ → ℕ) → f k ≡ l.first → Listed nm ns w top l → Cells (Named nm) ns k f w top
listed_cells {nm} {ns} {w} {top} {l} k f e c = cells_move nm (keeps_itself w 0 top) ns 0 k (λ _. l.first) f top top (omega arith) (omega arith) e c.cells

-- a machine and a list that the workspace holds after a whole list was taken
pub gathered : {loop : Loop} {w w' : List ℕ} {N : ℕ} {st u : State} {sp : Spare} {l : Chain} → Collected loop w w' N st l u → Ready w N st sp → Gathering w' N u sp l
gathered {loop} {w} {w'} {N} {st} {u} {sp} c r =
    let t = c.gives r.names sp r.machine (suc st.depth) (omega arith) r.holds in
    record { names = r.names; machine = t.machine; list = t.list; holds = t.holds; listed = t.listed }

-- TUPLES AND LISTS OF PROTOCOLS
module _ {k : ℕ} {c : Nodes → Node} (o : ListNode k c) where
  -- a node over a list, pushed
  list_left : {w w' : List ℕ} {N : ℕ} {st u : State} {l : Chain} → Left w w' N st u (k ∷ (l.sum + 1) ∷ l.count ∷ l.first ∷ 0 ∷ 0 ∷ 0 ∷ 0 ∷ []) → (nm : Names) (m : Demangler) (ns : Nodes) → Listed nm ns w st.top l → Holds nm w N st (grown ns full_spare) m →
      Holds nm w' N u nothing_spare (restack (c ns ∷ m.stack) m)
  list_left {w} {w'} {N} {st} {u} {l} a nm m ns ls h =
      let whole : size (c ns) ≡ 1 + sizes ns = o.size_is ns in
      a.holds nm nothing_spare m (c ns)
      (less_spare (grown ns full_spare) (for_record (for_push (size (c ns)) nothing_spare)) (omega arith) (omega arith) (omega (arith, whole)) (omega arith) h)
      (record {
        kind_is = sym (o.kind_is ns);
        size_is = omega (arith, ls.sizes_is, whole);
        count_is = ls.many_is ∙ sym (o.count_is ns);
        body = o.body nm ns _ w st.top (listed_cells 3 _ refl ls);
      })

  pub list_empty : {w w' : List ℕ} {N : ℕ} {st u : State} {r : Marked} (loop : Loop) → r.taken ≡ true → Marks (R.took K.empty_list) w N st r → Left w w' N r.next u (k ∷ 1 ∷ 0 ∷ 0 ∷ 0 ∷ 0 ∷ 0 ∷ 0 ∷ []) → Operates (delimited loop c) w w' N st (Step.Done u)
  unfolding M.rounds M.push many sizes
  list_empty {w} {w'} {N} {st} {u} {r} loop e a l = record {
    runs = λ nm m i h.
        let t = a.gives nm full_spare m h in
        record {
          machine = restack (c nil ∷ t.0.stack) t.0;
          is = rw (t.1, e) refl;
          holds = list_left {l = record { count = 0; sum = 0; first = 0 }} l nm t.0 nil (listed_nil nm w r.next.top 0)
              (less_spare full_spare (grown nil full_spare) (omega arith) (omega arith) (omega arith) (omega arith) t.2);
        };
    past = λ i h. l.keeps.past i h;
    long = l.keeps.long;
  }

  pub list_done : {w w₁ w' : List ℕ} {N : ℕ} {st u v : State} {r : Marked} {l : Chain} (loop : Loop) → r.taken ≡ false → Marks (R.took K.empty_list) w N st r → Collected loop w w₁ N r.next l u → Left w₁ w' N u v (k ∷ (l.sum + 1) ∷ l.count ∷ l.first ∷ 0 ∷ 0 ∷ 0 ∷ 0 ∷ []) → Operates (delimited loop c) w w' N st (Step.Done v)
  unfolding M.rounds M.push
  list_done {w} {w₁} {w'} {N} {st} {u} {v} {r} {l} loop e a b d = record {
    runs = λ nm m i h.
        let t = a.gives nm full_spare m h in
        let n = b.gives nm full_spare t.0 (suc (length t.0.stack)) (omega (arith, stack_depth t.2)) t.2 in
        record {
          machine = restack (c n.list ∷ n.machine.stack) n.machine;
          is = rw (t.1, e, n.is) refl;
          holds = list_left d nm n.machine n.list n.listed n.holds;
        };
    past = λ i h. d.keeps.past i h ∙ b.keeps.past i h;
    long = d.keeps.long ∙ b.keeps.long;
  }

  pub list_refused : {r : Refusal} {w w₁ : List ℕ} {N : ℕ} {st : State} {b₀ : Marked} (loop : Loop) → b₀.taken ≡ false → Marks (R.took K.empty_list) w N st b₀ → ((nm : Names) (sp : Spare) (m : Demangler) (f : ℕ) → b₀.next.depth < f → Holds nm w N b₀.next sp m → loop f nil m ≡ refused (number r)) × Beyond 64 N w w₁ →
      Operates (delimited loop c) w w₁ N st (Step.Refused r)
  unfolding M.rounds
  list_refused {r} {w} {w₁} {N} {st} {b₀} loop e a b = record {
    runs = λ nm m i h.
        let t = a.gives nm full_spare m h in
        rw (t.1, e, b.0 nm full_spare t.0 (suc (length t.0.stack)) (omega (arith, stack_depth t.2)) t.2) refl;
    past = b.1.past;
    long = b.1.long;
  }

pub tuple_node : ListNode K.tuple Tuple
unfolding kind size count view
tuple_node = record { kind_is = λ ns. refl; size_is = λ ns. refl; count_is = λ ns. refl; body = λ nm ns f w p h. h }

pub protocol_list_node : ListNode K.protocol_list ProtocolList
unfolding kind size count view
protocol_list_node = record { kind_is = λ ns. refl; size_is = λ ns. refl; count_is = λ ns. refl; body = λ nm ns f w p h. h }

-- GENERIC TYPES WITH THEIR ARGUMENTS
pub applied_done : {w w₁ w₂ : List ℕ} {N : ℕ} {st u v s : State} {l : Chain} {p : ℕ} (a z : ℕ) → a ≡ p → z ≡ l.sum + at w₁ p 1 + 1 → Collected R.arguments w w₁ N st l u → Gives (R.pop_if K.is_type) 3 w₁ w₁ N u p v → Kept w₁ w₂ N v s (18 ∷ z ∷ 0 ∷ a ∷ l.count ∷ l.first ∷ 0 ∷ 0 ∷ []) →
    Operates applied w w₂ N st (Step.Done s)
unfolding M.rounds M.remember M.push kind size count view
applied_done {w} {w₁} {w₂} {N} {st} {u} {v} {s} {l} {p} a z ea ez c g d = record {
  runs = λ nm m i h.
      let n = c.gives nm full_spare m (suc (length m.stack)) (omega (arith, stack_depth h)) h in
      let t = g.gives nm (grown n.list full_spare) n.machine n.holds in
      let m₂ : Demangler = t.machine in
      let x : Node = BoundGeneric t.tree n.list in
      record {
        machine = machine m₂.budget (x ∷ m₂.stack) (m₂.substitutions ++ (x ∷ [])) m₂.words;
        is = rw (n.is, t.is) refl;
        holds = d.holds nm nothing_spare m₂ x
            (less_spare (taken 3 (size t.tree) (grown n.list full_spare)) (for_record (for_keeping (for_push (size x) nothing_spare))) (omega arith) (omega arith) (omega arith) (omega arith) t.holds)
            (record {
              kind_is = refl;
              size_is = omega (arith, ez, n.listed.sizes_is, t.lies.size_is);
              count_is = refl;
              body = (
                record { place = p; is = ea; below = g.below; holds = t.lies },
                n.listed.many_is,
                listed_cells 5 _ refl (listed_moves v.top g.keeps g.rising n.listed),
              );
            });
      };
  past = λ i h. d.keeps.past i h ∙ c.keeps.past i h;
  long = d.keeps.long ∙ c.keeps.long;
}

pub applied_baseless : {r : Refusal} {w w₁ : List ℕ} {N : ℕ} {st u : State} {l : Chain} → Collected R.arguments w w₁ N st l u → ((nm : Names) (sp : Spare) (m : Demangler) → Holds nm w₁ N u sp m → R.pop_if K.is_type m ≡ refused (number r)) → Operates applied w w₁ N st (Step.Refused r)
unfolding M.rounds
applied_baseless c g = record {
  runs = λ nm m i h.
      let n = c.gives nm full_spare m (suc (length m.stack)) (omega (arith, stack_depth h)) h in
      rw (n.is, g nm (grown n.list full_spare) n.machine n.holds) refl;
  past = c.keeps.past;
  long = c.keeps.long;
}

pub applied_refused : {r : Refusal} {w w₁ : List ℕ} {N : ℕ} {st : State} → ((nm : Names) (sp : Spare) (m : Demangler) (f : ℕ) → st.depth < f → Holds nm w N st sp m → R.arguments f nil m ≡ refused (number r)) × Beyond 64 N w w₁ → Operates applied w w₁ N st (Step.Refused r)
unfolding M.rounds
applied_refused c = record {
  runs = λ nm m i h. rw (c.0 nm full_spare m (suc (length m.stack)) (omega (arith, stack_depth h)) h) refl;
  past = c.1.past;
  long = c.1.long;
}

-- GENERIC SIGNATURES
pub signature_done : {w w₁ w₂ : List ℕ} {N : ℕ} {st u v : State} {l : Chain} (params a b : ℕ) → a ≡ low_half params → b ≡ high_half params → Collected R.requirements w w₁ N st l u → Left w₁ w₂ N u v (12 ∷ (l.sum + 1) ∷ 0 ∷ a ∷ b ∷ l.count ∷ l.first ∷ 0 ∷ []) →
    Operates (λ _. R.generic_signature params) w w₂ N st (Step.Done v)
unfolding R.generic_signature M.rounds M.push kind size count view
signature_done {w} {w₁} {w₂} {N} {st} {u} {v} {l} params a b ea eb c d = record {
  runs = λ nm m i h.
      let n = c.gives nm full_spare m (suc (length m.stack)) (omega (arith, stack_depth h)) h in
      let x : Node = GenericSignature params n.list in
      record {
        machine = restack (x ∷ n.machine.stack) n.machine;
        is = rw n.is refl;
        holds = d.holds nm nothing_spare n.machine x
            (less_spare (grown n.list full_spare) (for_record (for_push (size x) nothing_spare)) (omega arith) (omega arith) (omega arith) (omega arith) n.holds)
            (record {
              kind_is = refl;
              size_is = omega (arith, n.listed.sizes_is);
              count_is = refl;
              body = (rw (ea, eb) (halves params), n.listed.many_is, listed_cells 6 _ refl n.listed);
            });
      };
  past = λ i h. d.keeps.past i h ∙ c.keeps.past i h;
  long = d.keeps.long ∙ c.keeps.long;
}

pub signature_refused : {r : Refusal} {w w₁ : List ℕ} {N : ℕ} {st : State} (params : ℕ) → ((nm : Names) (sp : Spare) (m : Demangler) (f : ℕ) → st.depth < f → Holds nm w N st sp m → R.requirements f nil m ≡ refused (number r)) × Beyond 64 N w w₁ →
    Operates (λ _. R.generic_signature params) w w₁ N st (Step.Refused r)
unfolding R.generic_signature M.rounds
signature_refused params c = record {
  runs = λ nm m i h. rw (c.0 nm full_spare m (suc (length m.stack)) (omega (arith, stack_depth h)) h) refl;
  past = c.1.past;
  long = c.1.long;
}
