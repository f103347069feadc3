-- A list in cells: one more cell, and what is unchanged when records are added.
use Rattle.std.specs.Prelude.{if◌then◌else◌}
use mathlib.Core.Path.{◌≡◌, refl, sym, ap, ◌∙◌, subst}
use mathlib.Core.Bool.{Bool, true, false}
use mathlib.Core.List.{List, [], ◌∷◌}
use mathlib.Core.Option.{Option, some, none}
use Prim.Native.Nat.{ℕ, ◌+◌, ◌≤◌, ◌<◌}
use native.Mathlib.Omega.{arith}
use lib.Dec.{T}
use Rattle.definition.specs.Base.{Out, ok}
use Rattle.definition.specs.Kind as K
use Rattle.definition.proofs.Matches.{the_name}
use Rattle.definition.specs.Node.{Node, Nodes, Identifier, nil, cons, kind, size, sizes, many, view, name_of}
use Rattle.definition.specs.Machine as M
use Rattle.definition.specs.Machine.{restack}
use Rattle.definition.specs.Perform as R
use Rattle.definition.specs.Perform.{Demangler}
use Rattle.tree_records.specs.Lies.{at, absent, LabelIs, Cells, Lies}
use Rattle.tree_records.specs.Holds.{Names, Named, Spare, Holds, Keeps, Grew, for_record}
use Rattle.tree_records.specs.declared.State.{State}
use Rattle.tree_nodes.specs.Gives.{taken, GivenIf, GivesIf}
use Rattle.tree_nodes.proofs.ByKind.{identifier_of}
use Rattle.tree_nodes.proofs.Taking.{less_spare}
use Rattle.tree_types.specs.Cells.{grown, Listed, CellFits, Adds, Labels}
use Rattle.tree_types.specs.declared.cells.Chain.{Chain}

-- cells are unchanged where records are added above them, and may be found from another field
pub cells_move : {w w' : List ℕ} {N top : ℕ} (nm : Names) → Keeps w w' N top → (ns : Nodes) (k k' : ℕ) (f f' : ℕ → ℕ) (p p' : ℕ) → p ≤ top → p ≤ p' → f' k' ≡ f k → Cells (Named nm) ns k f w p → Cells (Named nm) ns k' f' w' p'
cells_move nm q nil k k' f f' p p' a b e c = tt
cells_move {w} {w'} {N} {top} nm q (cons l n ns) k k' f f' p p' a b e c =
    let below : c.place < p = c.below in
    let kid = c.holds.1 in
    let inner : kid.place < c.place = kid.below in
    record {
      place = c.place;
      is = e ∙ c.is;
      below = omega (arith, below);
      holds = (
        subst (λ (i : ℕ). LabelIs (Named nm) l i) (sym (q.fields c.place 3 (omega (arith, below)) (omega arith))) c.holds.0,
        record {
          place = kid.place;
          is = q.fields c.place 4 (omega (arith, below)) (omega arith) ∙ kid.is;
          below = inner;
          holds = q.trees nm n kid.place (omega (arith, below, inner)) kid.holds;
        },
        cells_move nm q ns 5 5 (λ i. at w c.place i) (λ i. at w' c.place i) c.place c.place (omega (arith, below)) (omega arith) (q.fields c.place 5 (omega (arith, below)) (omega arith)) c.holds.2,
      );
    }

module _ {w w' : List ℕ} {N : ℕ} {nm : Names} {ns : Nodes} {l : Chain} where
  -- a list is unchanged where records are added above it
  pub listed_moves : {top : ℕ} (top' : ℕ) → Keeps w w' N top → top ≤ top' → Listed nm ns w top l → Listed nm ns w' top' l
  listed_moves {top} top' q a c = record { many_is = c.many_is; sizes_is = c.sizes_is; cells = cells_move nm q ns 0 0 (λ _. l.first) (λ _. l.first) top top' (omega arith) a refl c.cells }

-- no list
pub listed_nil : (nm : Names) (w : List ℕ) (top : ℕ) (first : ℕ) → Listed nm nil w top (record { count = 0; sum = 0; first = first })
unfolding many sizes
listed_nil nm w top first = record { many_is = refl; sizes_is = refl; cells = tt }

-- a cell in front
pub adds : {w w' : List ℕ} {N : ℕ} {st u : State} {l : Chain} {label p : ℕ} (a b c d z : ℕ) → Grew w w' N st u (0 ∷ 0 ∷ 0 ∷ label ∷ a ∷ d ∷ 0 ∷ 0 ∷ []) → a ≡ p → b ≡ st.top → c ≡ l.count + 1 → d ≡ l.first → z ≡ l.sum + at w p 1 → CellFits w N st l p →
    Adds w w' N st l label p (record { list = record { count = c; sum = z; first = b }; next = u })
unfolding many sizes
adds {w} {w'} {N} {st} {u} {l} {label} {p} a b c d z g ea eb ec ed ez fits =
    let up : u.top ≡ st.top + 1 = ap (λ (s : State). s.top) g.state in
    record {
      top = up;
      depth = ap (λ (s : State). s.depth) g.state;
      keeps = g.keeps;
      listed = λ nm o x ns ls lab lies. record {
        many_is = omega (arith, ec, ls.many_is);
        sizes_is = omega (arith, ez, ls.sizes_is, lies.size_is);
        cells = record {
          place = st.top;
          is = eb;
          below = omega (arith, up);
          holds = (
            subst (λ (i : ℕ). LabelIs (Named nm) o i) (sym (g.fields 3 (omega arith))) lab,
            record { place = p; is = g.fields 4 (omega arith) ∙ ea; below = fits.below; holds = g.keeps.trees nm x p fits.below lies },
            cells_move nm g.keeps ns 0 5 (λ _. l.first) (λ i. at w' st.top i) st.top st.top (omega arith) (omega arith) (g.fields 5 (omega arith) ∙ ed) ls.cells,
          );
        };
      };
      holds = λ nm sp m o x ns h. g.holds nm (grown (cons o x ns) sp) m
          (less_spare (taken 2 (size x) (grown ns sp)) (for_record (grown (cons o x ns) sp)) (omega arith) (omega arith) (omega arith) (omega arith) h);
    }

-- LABELS
-- a tree that was tried for has the wanted kind
pub tried_kind : (want : ℕ → Bool) (m m₁ : Demangler) (x : Node) → R.try want m ≡ ok (some x) m₁ → T (want (kind x))
unfolding M.try M.try_from
tried_kind want m m₁ x = of m.stack
  where
    go : (n : Node) (s : List Node) (b : Bool) → want (kind n) ≡ b → ◌≡◌ {A = Out Demangler (Option Node)} (if b then ok (some n) (restack s m) else ok none m) (ok (some x) m₁) → T (want (kind x))
    go n s true q e = let i : n ≡ x = cc in subst (λ (y : Node). T (want (kind y))) i (subst (λ (b : Bool). T b) (sym q) tt)
    go n s false q e = let z : ◌≡◌ {A = ℕ} 0 1 = cc in absurd (omega arith)

    of : (s : List Node) → M.try_from kind want s m ≡ ok (some x) m₁ → T (want (kind x))
    of [] e = let z : ◌≡◌ {A = ℕ} 0 1 = cc in absurd (omega arith)
    of (n ∷ s) e = go n s (want (kind n)) refl e

pub label_there : {w : List ℕ} {N : ℕ} {st u : State} {p : ℕ} (k : ℕ) → k ≡ at w p 3 → GivesIf (R.try K.is_identifier) w N st p u → Labels w N st (record { label = k; next = u })
unfolding R.label_of name_of view
label_there {w} {N} {st} {u} {p} k e g = record {
  deep = omega (arith, g.deep);
  top = g.top;
  gives = λ nm sp m h.
      let t : GivenIf (R.try K.is_identifier) nm w N p u sp m = g.gives nm sp m h in
      let i : t.tree ≡ Identifier (the_name t.tree) = identifier_of t.tree (tried_kind K.is_identifier m t.machine t.tree t.is) in
      record {
        label = some t.tree;
        machine = t.machine;
        is = t.is;
        labelled = subst (λ (x : Node). LabelIs (Named nm) (name_of x) k) (sym i) (subst (λ (j : ℕ). Named nm j (the_name t.tree)) (sym e) (subst (λ (x : Node). Lies (Named nm) x w p) i t.lies).body);
        holds = less_spare (taken 3 (size t.tree) sp) sp (omega arith) (omega arith) (omega arith) (omega arith) t.holds;
      };
}

pub label_missing : {w : List ℕ} {N : ℕ} {st : State} → ((nm : Names) (sp : Spare) (m : Demangler) → Holds nm w N st sp m → R.try K.is_identifier m ≡ ok none m) → Labels w N st (record { label = absent; next = st })
unfolding R.label_of
label_missing h = record { deep = omega arith; top = refl; gives = λ nm sp m k. record { label = none; machine = m; is = h nm sp m k; labelled = refl; holds = k } }
