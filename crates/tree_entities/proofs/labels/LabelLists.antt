-- The labels of a function: entries from the top on, each put in front.
use mathlib.Core.Path.{◌≡◌, refl, sym, ap, ◌∙◌, subst}
use mathlib.Core.Bool.{Bool, true, false}
use mathlib.Core.List.{List, [], ◌∷◌}
use mathlib.Core.Option.{Option, some, none}
use Prim.Native.Nat.{ℕ, suc, ◌+◌, ◌-◌, ◌^◌, ◌≤◌, ◌<◌}
use native.Mathlib.Omega.{arith}
use lib.Dec.{T, eqb}
use lib.ListN.{length}
use borrow.Author.Tests.{eq-eqb, ne_eqb}
use Rattle.definition.specs.Base.{Name, Out, Step, ok, refused, ret, and_then}
use Rattle.definition.specs.Kind as K
use Rattle.definition.proofs.Matches.{the_name, label_in_is}
use Rattle.definition.specs.Node.{Labels, Node, Identifier, kind, size}
use Rattle.definition.specs.Machine as M
use Rattle.definition.specs.Machine.{restack}
use Rattle.definition.specs.Perform as R
use Rattle.definition.specs.Perform.{Demangler}
use Rattle.tree_records.specs.Lies.{at, absent, Lies, LabelIs, LabelCells, LabelList}
use Rattle.tree_records.specs.Holds.{Names, Named, Spare, Holds, Ready, TopIs, Took, Keeps, Grew, for_record, for_push}
use Rattle.tree_records.specs.declared.State.{State}
use Rattle.machine.specs.Beyond.{Beyond}
use Rattle.tree_nodes.specs.Gives.{Marks}
use Rattle.tree_nodes.specs.Results.{Marked}
use Rattle.tree_nodes.proofs.ByKind.{identifier_of}
use Rattle.tree_nodes.proofs.Taking.{less_spare, keeps_itself}
use Rattle.tree_nodes.proofs.Leaving.{keeps_then}
use Rattle.tree_entities.specs.LabelsOf.{one_label, some_labels, GivesCell, GivesLabels, TakesLabels}
use Rattle.std.specs.Prelude.{Result, Ok, Err}
use Rattle.definition.specs.declared.Refusal.{Refusal}
use Rattle.tree_entities.specs.declared.labels.Labelled.{Labelled}

-- cells are unchanged where the records below top are unchanged, and are found again from another
-- record
cells_stay : (nm : Names) {w w' : List ℕ} {N top : ℕ} → Keeps w w' N top → (ls : List (Option Name)) (j k : ℕ) (f g : ℕ → ℕ) (p q : ℕ) → g k ≡ f j → p ≤ top → p ≤ q → LabelCells (Named nm) ls j f w p → LabelCells (Named nm) ls k g w' q
cells_stay nm s [] j k f g p q e l m h = tt
cells_stay nm {w} {w'} s (x ∷ ls) j k f g p q e l m h =
    let r : ℕ = h.place in
    let low : r < p = h.below in
    record {
      place = r;
      is = e ∙ h.is;
      below = omega arith;
      holds = (
        subst (λ (i : ℕ). LabelIs (Named nm) x i) (sym (s.fields r 3 (omega arith) (omega arith))) h.holds.0,
        cells_stay nm s ls 5 5 (at w r) (at w' r) r r (s.fields r 5 (omega arith) (omega arith)) (omega arith) (omega arith) h.holds.1,
      );
    }

pub labels_stay : (nm : Names) {w w' : List ℕ} {N top : ℕ} → Keeps w w' N top → (ls : Labels) (k : ℕ) (f : ℕ → ℕ) (p q : ℕ) → p ≤ top → p ≤ q → LabelList (Named nm) ls k f w p → LabelList (Named nm) ls k f w' q
labels_stay nm s none k f p q l m h = h
labels_stay nm s (some ls) k f p q l m h = (h.0, cells_stay nm s ls k k f f p q refl l m h.1)

-- ONE ENTRY
module _ {w : List ℕ} {N : ℕ} {st u : State} {p : ℕ} (t : Took w N st p u) where
  label_from : (m : Demangler) (x : Node) (xs : List Node) → m.stack ≡ x ∷ xs → one_label m ≡ R.label_in x (restack xs m)
  unfolding M.pop M.pop_if M.pop_from
  label_from m x xs e = rw e refl

  module _ {w' : List ℕ} {v : State} {a next : ℕ} (g : Grew w w' N u v (0 ∷ 0 ∷ 0 ∷ a ∷ 0 ∷ next ∷ 0 ∷ 0 ∷ [])) where
    -- a cell is made for the entry
    cell_made : ((nm : Names) (x : Node) (m : Demangler) → Lies (Named nm) x w p → (l : Option Name) × (R.label_in x m ≡ ok l m) × LabelIs (Named nm) l a) → GivesCell w w' N st next u.top v
    cell_made f = record {
      above = omega (arith, t.top);
      below = omega (arith, ap (λ (s : State). s.top) g.state);
      deep = omega (arith, t.deep, ap (λ (s : State). s.depth) g.state);
      next_is = g.fields 5 (omega arith);
      keeps = subst (λ (n : ℕ). Keeps w w' N n) t.top g.keeps;
      gives = λ nm sp m h.
          let o : TopIs nm w N st.top p u sp m = t.gives nm sp m h in
          let e = f nm o.tree (restack o.rest m) o.lies in
          record {
            label = e.0;
            machine = restack o.rest m;
            is = label_from m o.tree o.rest o.is ∙ e.1;
            labelled = subst (λ (i : ℕ). LabelIs (Named nm) e.0 i) (sym (g.fields 3 (omega arith))) e.2;
            holds = g.holds nm sp (restack o.rest m) (less_spare (for_push (size o.tree) sp) (for_record sp) (omega arith) (omega arith) (omega arith) (omega arith) o.holds);
          };
    }

    pub cell_named : a ≡ at w p 3 → at w p 0 ≡ 0 → GivesCell w w' N st next u.top v
    cell_named q z = cell_made (λ nm x m l.
        let k : K.is_identifier (kind x) ≡ true = eq-eqb (kind x) 0 (sym l.kind_is ∙ z) in
        let e : x ≡ Identifier (the_name x) = identifier_of x (subst (λ (b : Bool). T b) (sym k) tt) in
        (some (the_name x), rw (label_in_is x, k) refl, subst (λ (i : ℕ). Named nm i (the_name x)) (sym q) (subst (λ (y : Node). Lies (Named nm) y w p) e l).body))

    pub cell_bare : a ≡ absent → (at w p 0 ≡ 0 → ⊥) → at w p 0 ≡ 31 → GivesCell w w' N st next u.top v
    cell_bare q y z = cell_made (λ nm x m l.
        let k : K.is_identifier (kind x) ≡ false = ne_eqb (kind x) 0 (λ e. y (l.kind_is ∙ e)) in
        let j : eqb (kind x) K.first_element_marker ≡ true = eq-eqb (kind x) 31 (sym l.kind_is ∙ z) in
        (none, rw (label_in_is x, k, j) refl, q))

  pub no_label : (at w p 0 ≡ 0 → ⊥) → (at w p 0 ≡ 31 → ⊥) → (nm : Names) (sp : Spare) (m : Demangler) → Holds nm w N st sp m → one_label m ≡ refused 10
  no_label y z nm sp m h =
      let o : TopIs nm w N st.top p u sp m = t.gives nm sp m h in
      let k : K.is_identifier (kind o.tree) ≡ false = ne_eqb (kind o.tree) 0 (λ e. y (o.lies.kind_is ∙ e)) in
      let j : eqb (kind o.tree) K.first_element_marker ≡ false = ne_eqb (kind o.tree) 31 (λ e. z (o.lies.kind_is ∙ e)) in
      label_from m o.tree o.rest o.is ∙ rw (label_in_is o.tree, k, j) refl

pub label_empty : (m : Demangler) → m.stack ≡ [] → one_label m ≡ refused 10
unfolding M.pop M.pop_if M.pop_from
label_empty m e = rw e refl

-- THAT MANY ENTRIES
pub assoc : {S A B D : Type 0} (x : Out S A) (f : A → Step S B) (g : B → Step S D) → and_then (and_then x f) g ≡ and_then x (λ a s. and_then (f a s) g)
assoc (ok a s) f g = refl
assoc (refused r) f g = refl

-- the labels up to here; that many are left
pub record SoFar (nm : Names) (w : List ℕ) (N : ℕ) (u : State) (many left first : ℕ) (sp : Spare) (m : Demangler) : Type 0 where
  pub labels : List (Option Name)
  pub machine : Demangler
  pub long : length labels + left ≡ many
  pub cells : LabelCells (Named nm) labels 0 (λ _. first) w u.top
  pub holds : Holds nm w N u sp machine
  pub is : R.labels_from many [] m ≡ R.labels_from left labels machine

pub record LabelsTo (w₀ w : List ℕ) (N : ℕ) (st u : State) (many left first : ℕ) : Type 0 where
  pub rising : st.top ≤ u.top
  pub deep : u.depth + many ≤ st.depth + left
  pub keeps : Keeps w₀ w N st.top
  pub gives : (nm : Names) (sp : Spare) (m : Demangler) → Holds nm w₀ N st sp m → SoFar nm w N u many left first sp m

pub labels_start : (w : List ℕ) (N : ℕ) (st : State) (many first : ℕ) → LabelsTo w w N st st many many first
labels_start w N st many first = record {
  rising = omega arith;
  deep = omega arith;
  keeps = keeps_itself w N st.top;
  gives = λ nm sp m h. record { labels = []; machine = m; long = omega arith; cells = tt; holds = h; is = refl };
}

module _ {w₀ w : List ℕ} {N : ℕ} {st u : State} {many left first : ℕ} (t : LabelsTo w₀ w N st u many left first) where
  pub labels_ready : {sp : Spare} → Ready w₀ N st sp → Ready w N u sp
  labels_ready {sp} r = let g = t.gives r.names sp r.machine r.holds in record { names = r.names; machine = g.machine; holds = g.holds }

  one_more : (nm : Names) (sp : Spare) (m : Demangler) (h : Holds nm w₀ N st sp m) → 0 < left → (let g = t.gives nm sp m h in R.labels_from many [] m ≡ and_then (one_label g.machine) (λ l. R.labels_from (left - 1) (l ∷ g.labels)))
  unfolding R.labels_from
  one_more nm sp m h l =
      let g = t.gives nm sp m h in
      let q : left ≡ suc (left - 1) = omega arith in
      g.is ∙ (ap (λ (j : ℕ). R.labels_from j g.labels g.machine) q ∙ sym (assoc (R.pop g.machine) R.label_in (λ x. R.labels_from (left - 1) (x ∷ g.labels))))

  pub labels_more : {w' : List ℕ} {p : ℕ} {v : State} (e : ℕ) → e ≡ p → 0 < left → GivesCell w w' N u first p v → LabelsTo w₀ w' N st v many (left - 1) e
  labels_more {w'} {p} {v} e q l c = record {
    rising = omega (arith, t.rising, c.above, c.below);
    deep = omega (arith, t.deep, c.deep);
    keeps = keeps_then st.top u.top t.rising t.keeps c.keeps;
    gives = λ nm sp m h.
        let g = t.gives nm sp m h in
        let o = c.gives nm sp g.machine g.holds in
        record {
          labels = o.label ∷ g.labels;
          machine = o.machine;
          long = omega (arith, g.long);
          cells = record {
            place = p;
            is = q;
            below = c.below;
            holds = (o.labelled, cells_stay nm c.keeps g.labels 0 5 (λ _. first) (at w' p) u.top p c.next_is (omega arith) c.above g.cells);
          };
          holds = o.holds;
          is = one_more nm sp m h l ∙ ap (λ y. and_then y (λ x. R.labels_from (left - 1) (x ∷ g.labels))) o.is;
        };
  }

  pub labels_fail : {w' : List ℕ} {k : ℕ} → 0 < left → ((nm : Names) (sp : Spare) (m : Demangler) → Holds nm w N u sp m → one_label m ≡ refused k) × Beyond 64 N w w' → (nm : Names) → ((sp : Spare) (m : Demangler) → Holds nm w₀ N st sp m → some_labels many m ≡ refused k) × Beyond 64 N w₀ w'
  labels_fail l f nm = (
    λ sp m h.
        let g = t.gives nm sp m h in
        ap (λ y. and_then y (λ ls. ret (some ls))) (one_more nm sp m h l ∙ ap (λ y. and_then y (λ x. R.labels_from (left - 1) (x ∷ g.labels))) (f.0 nm sp g.machine g.holds)),
    record { past = λ i j. f.1.past i j ∙ t.keeps.past i j; long = f.1.long ∙ t.keeps.long },
  )

  pub labels_end : left ≡ 0 → (nm : Names) → GivesLabels nm (some_labels many) w₀ w N st first (many + 1) u
  unfolding R.labels_from
  labels_end z nm = record {
    rising = t.rising;
    deep = omega (arith, t.deep);
    keeps = t.keeps;
    gives = λ sp m h.
        let g = t.gives nm sp m h in
        record {
          labels = some g.labels;
          machine = g.machine;
          is = ap (λ y. and_then y (λ ls. ret (some ls))) (g.is ∙ ap (λ (j : ℕ). R.labels_from j g.labels g.machine) z);
          lies = λ f k p a b l. (b ∙ omega (arith, g.long), cells_stay nm (keeps_itself w N u.top) g.labels 0 k (λ _. first) f u.top p a (omega arith) l g.cells);
          holds = g.holds;
        };
  }

-- the place of a cell fits, and so does the number of labels
pub cell_place : {w w' : List ℕ} {N : ℕ} {st : State} {next p : ℕ} {u : State} {sp : Spare} → GivesCell w w' N st next p u → Ready w N st sp → p < 2 ^ 32
cell_place g r = let h = (g.gives r.names _ r.machine r.holds).holds in omega (arith, g.below, h.small, h.charged, h.room)

pub labels_fit : {w₀ w : List ℕ} {N : ℕ} {st u : State} {many left first : ℕ} {sp : Spare} → LabelsTo w₀ w N st u many left first → left ≡ 0 → Ready w₀ N st sp → many + 1 < 2 ^ 32
labels_fit t z r = let h = r.holds in omega (arith, t.deep, h.small, h.charged, h.deep)

-- THE LABELS: the empty list is tried first
module _ (nm : Names) {w : List ℕ} {N : ℕ} {st : State} {b : Marked} (t : Marks (R.took K.empty_list) w N st b) (x : Node) where
  pub labels_empty : b.taken ≡ true → GivesLabels nm (R.labels x) w w N st 0 1 b.next
  unfolding R.labels
  labels_empty e = record {
    rising = omega (arith, t.top);
    deep = t.deep;
    keeps = keeps_itself w N st.top;
    gives = λ sp m h.
        let g = t.gives nm sp m h in
        record { labels = some []; machine = g.0; is = rw (g.1, e) refl; lies = λ f k p a c l. (c, tt); holds = g.2 };
  }

  pub labels_none : b.taken ≡ false → R.arity x ≡ 0 → GivesLabels nm (R.labels x) w w N st 0 0 b.next
  unfolding R.labels
  labels_none e z = record {
    rising = omega (arith, t.top);
    deep = t.deep;
    keeps = keeps_itself w N st.top;
    gives = λ sp m h.
        let g = t.gives nm sp m h in
        record { labels = none; machine = g.0; is = rw (g.1, e, eq-eqb (R.arity x) 0 z) refl; lies = λ f k p a c l. c; holds = g.2 };
  }

  labels_some : (w' : List ℕ) (u : State) (r : Result Labelled Refusal) → b.taken ≡ false → (R.arity x ≡ 0 → ⊥) → TakesLabels nm (some_labels (R.arity x)) w w' N b.next u r → TakesLabels nm (R.labels x) w w' N st u r
  unfolding R.labels
  labels_some w' u (Ok l) e z s = record {
    rising = omega (arith, t.top, s.rising);
    deep = omega (arith, t.deep, s.deep);
    keeps = subst (λ (n : ℕ). Keeps w w' N n) t.top s.keeps;
    gives = λ sp m h.
        let g = t.gives nm sp m h in
        let o = s.gives sp g.0 g.2 in
        record { labels = o.labels; machine = o.machine; is = rw (g.1, e, ne_eqb (R.arity x) 0 z) o.is; lies = o.lies; holds = o.holds };
  }
  labels_some w' u (Err f) e z s = (λ sp m h. let g = t.gives nm sp m h in rw (g.1, e, ne_eqb (R.arity x) 0 z) (s.0 sp g.0 g.2), s.1)

  pub labels_many : (w' : List ℕ) (u : State) (many : ℕ) (r : Result Labelled Refusal) → b.taken ≡ false → many ≡ R.arity x → (many ≡ 0 → ⊥) → TakesLabels nm (some_labels many) w w' N b.next u r → TakesLabels nm (R.labels x) w w' N st u r
  labels_many w' u many r e q z s = labels_some w' u r e (λ y. z (q ∙ y)) (subst (λ (n : ℕ). TakesLabels nm (some_labels n) w w' N b.next u r) q s)
