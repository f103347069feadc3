-- The functions of the printer that call each other: from what the calls append to what the caller
-- appends. Assumes nothing.
use mathlib.Core.Path.{◌≡◌, refl, sym, ap, subst, ◌∙◌}
use mathlib.Core.Bool.{Bool, true, false, ◌||◌, not}
use mathlib.Core.List.{List, [], ◌∷◌, ◌++◌, append_assoc, append-nil}
use mathlib.Core.Option.{Option, some, none}
use Prim.Native.Nat.{ℕ, zero, suc, ◌+◌, ◌*◌, ◌-◌, ◌/◌, ◌%◌, ◌^◌, ◌≤◌, ◌<◌}
use native.Mathlib.Omega.{arith}
use borrow.Author.Tests.{ne_eqb, ltb-true, ltb-false}
use lib.Dec.{T, eqb, ltb}
use lib.ListN.{length, get_or}
use Rattle.definition.specs.Base.{Name, bytes}
use Rattle.definition.specs.Kind as K
use Rattle.definition.specs.Node as D
use Rattle.definition.specs.Node.{Node, Nodes, nil, cons, Tuple, FunctionType, GenericType, kind, many, count, view}
use Rattle.definition.specs.Print.{join, labelled, label_at, params_from, in_parens, effects, print_tuple, print_function_type, print_generic_type, printing, printed_elements, print, print_params}
use Rattle.definition.proofs.PrintEquations.{params_of_other, behind_of_other, signed_of_other}
use Rattle.text_output.specs.Appends.{Appended, appended_is, appended_then, Rest, rest_start, rest_then, rest_is, rest_end, rest_past}
use Rattle.text_output.specs.declared.Sink.{Sink}
use Rattle.tree_records.specs.Lies.{at, Child, flag, LabelIs, Cells, Lies, absent}
use Rattle.tree_records.specs.Holds.{Names, Named}
use Rattle.print_names.specs.Texts.{text_of, sep_before, number_of}
use Rattle.print_names.specs.Texts as X
use Rattle.print_names.specs.Naming.{Puts, Some}
use Rattle.print_names.proofs.Lists.{left, left_more, left_none}
use Rattle.print_labels.specs.declared.Labels.{Labels}
use Rattle.print_tree.specs.Prints.{Placed}
use Rattle.print_tree.specs.declared.ListForm.{ListForm}
use Rattle.print_labels.specs.RowTexts.{Reach, none_at, listed, LabelsIn, SomeLabels, behind_first, NextLabels, label_now, prefix, Labelling, own_label, own, Prints, Way, params_way, behind_way, signed_way, Printing, with_labels, Listed, Celled, leaf_text, list_field, list_sep, list_shown, list_count, Plain, Piece, Pieces, nothing, one, more, rows}
use Rattle.print_forms.specs.Forms.{Rowed}
use Rattle.print_forms.proofs.ByKind.{tuple_of, function_type_of, generic_type_of, empty_list_of}
use Rattle.print_labels.proofs.LabelLaws.{prefixed, shown_labels}
use Rattle.print_tree.proofs.LeafLaws.{list_of, sep_is}
use Rattle.print_tree.specs.Prints.{sep_text}
use Rattle.print_forms.proofs.FormLaws.{child_below, child_holds, form_low}
use Rattle.print_forms.proofs.RowLaws.{rowed}

module _ {o o' : Sink} where
  pub puts_by : {A B : Name → Type 0} → ((s : Name) → B s → A s) → Puts A o o' → Puts B o o'
  puts_by f h = record { same = h.same; room = h.room; len = h.len; each = λ s b. h.each s (f s b) }

  pub puts_text : {B : Name → Type 0} {t : Name} → ((s : Name) → B s → s ≡ t) → Appended o o' t → Puts B o o'
  puts_text f h = record { same = h.same; room = h.room; len = h.wrote.len; each = λ s b. appended_is (sym (f s b)) h }

pub prints_at : {nm : Names} {ws : List ℕ} {p q : ℕ} {s : Name} → q ≡ p → Prints nm ws p s → Prints nm ws q s
prints_at {nm} {ws} {p} {q} {s} e h = subst (λ (j : ℕ). Prints nm ws j s) (sym e) h

-- ROWS
record Next (nm : Names) (ws : List ℕ) (p row : ℕ) (s : Name) : Type 0 where
  first : Name
  rest : Name
  is : s ≡ first ++ rest
  piece : Piece nm ws p (row % 256) first
  behind : Pieces nm ws p (row / 256) rest

next_of : {nm : Names} {ws : List ℕ} {p row : ℕ} {s : Name} → Pieces nm ws p row s → (row ≡ 0 → ⊥) → Next nm ws p row s
next_of nothing e = absurd (e refl)
next_of {nm} {ws} {p} {row} {s} (one l m h) e =
    let a : row ≡ row % 256 = omega arith in
    let b : 0 ≡ row / 256 = omega arith in
    record { first = s; rest = []; is = sym (append-nil s); piece = subst (λ (j : ℕ). Piece nm ws p j s) a h; behind = subst (λ (j : ℕ). Pieces nm ws p j []) b nothing }
next_of (more l h k) e = record { first = _; rest = _; is = refl; piece = h; behind = k }

no_more : {nm : Names} {ws : List ℕ} {p row : ℕ} {s : Name} → Pieces nm ws p row s → row ≡ 0 → s ≡ []
no_more nothing e = refl
no_more (one l m h) e = absurd (omega arith)
no_more (more l h k) e = absurd (omega arith)

-- the loop over a row: row is what is left of it
pub record Rowing (nm : Names) (ws : List ℕ) (p row₀ : ℕ) (o₀ o : Sink) (row : ℕ) : Type 0 where
  pub same : o.out.ghost_name ≡ o₀.out.ghost_name
  pub room : o.room ≡ o₀.room
  pub len : length o.out.now ≡ length o₀.out.now
  pub some : Some (Pieces nm ws p row)
  pub each : (s : Name) → Pieces nm ws p row₀ s → (t : Name) × Pieces nm ws p row t × Rest o₀ s o t

module _ {nm : Names} {ws : List ℕ} {p row₀ : ℕ} where
  pub rowing_first : (o₀ : Sink) → Rowed nm ws p row₀ → Some (Prints nm ws p) → Rowing nm ws p row₀ o₀ o₀ row₀
  rowing_first o₀ f s = record { same = refl; room = refl; len = refl; some = record { text = s.text; is = f.each s.text s.is }; each = λ s h₁. (s, h₁, rest_start) }

  module _ {o₀ o : Sink} {row : ℕ} (v : Rowing nm ws p row₀ o₀ o row) where
    pub rowing_piece : (row ≡ 0 → ⊥) → Some (Piece nm ws p (row % 256))
    rowing_piece e = let n = next_of v.some.is e in record { text = n.first; is = n.piece }

    pub rowing_next : {o' : Sink} → (row ≡ 0 → ⊥) → Puts (Piece nm ws p (row % 256)) o o' → Rowing nm ws p row₀ o₀ o' (row / 256)
    rowing_next e h = record {
      same = h.same ∙ v.same;
      room = h.room ∙ v.room;
      len = h.len ∙ v.len;
      some = let n = next_of v.some.is e in record { text = n.rest; is = n.behind };
      each = λ s k.
          let (t, u, w) = v.each s k in
          let n = next_of u e in
          (n.rest, n.behind, rest_then (h.each n.first n.piece) (rest_is n.is w));
    }

    pub rowing_past : Rowed nm ws p row₀ → o.room < o.at → Puts (Prints nm ws p) o₀ o
    rowing_past f l = record { same = v.same; room = v.room; len = v.len; each = λ s k. rest_past l (v.each s (f.each s k)).2 }

    pub rowing_end : Rowed nm ws p row₀ → row ≡ 0 → Puts (Prints nm ws p) o₀ o
    rowing_end f e = record { same = v.same; room = v.room; len = v.len; each = λ s k. let (t, u, w) = v.each s (f.each s k) in rest_end (rest_is (no_more u e) w) }

-- a piece is a plain piece of the record that it belongs to
module _ {nm : Names} {ws : List ℕ} {p code q : ℕ} (d : Placed ws p code q) (l : code < 256) {s : Name} (h : Piece nm ws p code s) where
  placed_by : (b : Bool) → ltb code 128 ≡ b → (q ≤ p) × Plain nm ws q (code % 128) s
  placed_by true e =
      let k : code < 128 = ltb-true code 128 e in
      let z : q ≡ p = d.own k in
      let c : code ≡ code % 128 = omega arith in
      (omega arith, subst (λ (j : ℕ). Plain nm ws j (code % 128) s) (sym z) (subst (λ (i : ℕ). Plain nm ws p i s) c (h.own k)))
  placed_by false e =
      let k : 128 ≤ code = ltb-false code 128 e in
      let z : q ≡ at ws p 4 = d.via k in
      let c : code - 128 ≡ code % 128 = omega arith in
      let v = h.via k in
      (omega (arith, v.0), subst (λ (j : ℕ). Plain nm ws j (code % 128) s) (sym z) (subst (λ (i : ℕ). Plain nm ws (at ws p 4) i s) c v.1))

  pub placed : (q ≤ p) × Plain nm ws q (code % 128) s
  placed = placed_by (ltb code 128) refl

-- an identifier or a module is only its name
only_piece : {nm : Names} {ws : List ℕ} {p row : ℕ} {s : Name} → 0 < row → row < 256 → Pieces nm ws p row s → Piece nm ws p row s
only_piece l m nothing = absurd (omega arith)
only_piece l m (one _ _ h) = h
only_piece l m (more g _ _) = absurd (omega arith)

name_row : (k : ℕ) → k < 2 → 11 ≡ get_or rows k 0
unfolding rows
name_row zero l = refl
name_row (suc zero) l = refl
name_row (suc (suc k)) l = absurd (omega arith)

pub name_alone : {nm : Names} {ws : List ℕ} {p k n : ℕ} {s : Name} → k ≡ at ws p 0 → k < 2 → n ≡ at ws p 3 → Prints nm ws p s → Named nm n s
name_alone {nm} {ws} {p} {k} {n} {s} e l f h =
    let v : Pieces nm ws p 11 s = (rowed (form_low nm ws p e (omega arith)) (name_row k l)).each s h in
    subst (λ (j : ℕ). Named nm j s) (sym f) (((only_piece (omega arith) (omega arith) v).own (omega arith)).name (omega arith)).1

-- CELLS
record Open (nm : Names) (ws : List ℕ) (host k n i sep : ℕ) (shown : Bool) (l : Labels) (s : Name) : Type 0 where
  below : at ws host k < host
  first : Name
  rest : Name
  is : s ≡ first ++ rest
  celled : Celled nm ws (at ws host k) i sep shown l first
  behind : (r : Labels) → NextLabels ws l r → Listed nm ws (at ws host k) 5 n (i + 1) sep shown r rest

open_cells : (nm : Names) (ws : List ℕ) (host k n i sep : ℕ) (shown : Bool) (l : Labels) (s : Name) (ns : Nodes) → Cells (Named nm) ns k (at ws host) ws host → n ≡ i + many ns → (ls : List (Option Name)) → LabelsIn nm ws ls l → s ≡ left sep i (with_labels shown ls (printed_elements ns)) → i < n → Open nm ws host k n i sep shown l s
unfolding printed_elements with_labels print many
open_cells nm ws host k n i sep shown l s nil c e ls a q h = absurd (omega arith)
open_cells nm ws host k n i sep shown l s (cons x y ns) c e ls a q h =
    let z : c.place ≡ at ws host k = sym c.is in
    let t : Name = labelled (label_now ls (own shown x)) (print y) in
    record {
      below = subst (λ (j : ℕ). j < host) z c.below;
      first = sep_before i sep ++ t;
      rest = left sep (i + 1) (with_labels shown (behind_first ls) (printed_elements ns));
      is = q ∙ left_more sep i t (with_labels shown (behind_first ls) (printed_elements ns)) ∙ sym (append_assoc (sep_before i sep) t (left sep (i + 1) (with_labels shown (behind_first ls) (printed_elements ns))));
      celled = record {
        label = x;
        label_is = subst (λ (j : ℕ). LabelIs (Named nm) x (at ws j 3)) z c.holds.0;
        node = y;
        kid = subst (λ (j : ℕ). Child (at ws j) j 4 (λ d. Lies (Named nm) y ws d)) z c.holds.1;
        labels = ls;
        are = a;
        is = refl;
      };
      behind = λ r g. record {
        nodes = ns;
        cells = subst (λ (j : ℕ). Cells (Named nm) ns 5 (at ws j) ws j) z c.holds.2;
        count = omega (arith, e);
        labels = behind_first ls;
        are = g.each nm ls a;
        is = refl;
      };
    }

opened : {nm : Names} {ws : List ℕ} {host k n i sep : ℕ} {shown : Bool} {l : Labels} {s : Name} → Listed nm ws host k n i sep shown l s → i < n → Open nm ws host k n i sep shown l s
opened {nm} {ws} {host} {k} {n} {i} {sep} {shown} {l} {s} h e = open_cells nm ws host k n i sep shown l s h.nodes h.cells h.count h.labels h.are h.is e

no_cells : (ns : Nodes) (sep i : ℕ) (shown : Bool) (ls : List (Option Name)) → many ns ≡ 0 → left sep i (with_labels shown ls (printed_elements ns)) ≡ []
unfolding many printed_elements with_labels
no_cells nil sep i shown ls e = left_none sep i
no_cells (cons x y ns) sep i shown ls e = absurd (omega arith)

-- the loop over the cells of a list
pub record Celling (nm : Names) (ws : List ℕ) (p k₀ count sep : ℕ) (shown : Bool) (l : Labels) (o₀ o : Sink) (host k : ℕ) (labels : Labels) (i : ℕ) : Type 0 where
  pub same : o.out.ghost_name ≡ o₀.out.ghost_name
  pub room : o.room ≡ o₀.room
  pub len : length o.out.now ≡ length o₀.out.now
  pub inside : host ≤ p
  pub field : k < 8
  pub reach : Reach ws labels
  pub some : Some (Listed nm ws host k count i sep shown labels)
  pub each : (s : Name) → Listed nm ws p k₀ count 0 sep shown l s → (t : Name) × Listed nm ws host k count i sep shown labels t × Rest o₀ s o t

module _ {nm : Names} {ws : List ℕ} {p k₀ count sep : ℕ} {shown : Bool} {l : Labels} where
  pub celling_first : (o₀ : Sink) → k₀ < 8 → Reach ws l → Some (Listed nm ws p k₀ count 0 sep shown l) → Celling nm ws p k₀ count sep shown l o₀ o₀ p k₀ l 0
  celling_first o₀ a g s = record { same = refl; room = refl; len = refl; inside = omega arith; field = a; reach = g; some = s; each = λ t k. (t, k, rest_start) }

  module _ {o₀ o : Sink} {host k i : ℕ} {labels : Labels} (v : Celling nm ws p k₀ count sep shown l o₀ o host k labels i) where
    pub cell_below : i < count → at ws host k < host
    cell_below h = (opened v.some.is h).below

    pub cell_some : {cell : ℕ} → i < count → cell ≡ at ws host k → Some (Celled nm ws cell i sep shown labels)
    cell_some h e = let u = opened v.some.is h in record { text = u.first; is = subst (λ (j : ℕ). Celled nm ws j i sep shown labels u.first) (sym e) u.celled }

    pub labels_some : SomeLabels ws labels
    labels_some = record { reach = v.reach; names = nm; labels = v.some.is.labels; are = v.some.is.are }

    pub celling_next : {cell : ℕ} {o' : Sink} {next : Labels} → i < count → cell ≡ at ws host k → Puts (Celled nm ws cell i sep shown labels) o o' → NextLabels ws labels next → Celling nm ws p k₀ count sep shown l o₀ o' cell 5 next (i + 1)
    celling_next {cell} {next = next} h e w g =
        let b = cell_below h in
        record {
          same = w.same ∙ v.same;
          room = w.room ∙ v.room;
          len = w.len ∙ v.len;
          inside = omega (arith, b, e, v.inside);
          field = omega arith;
          reach = g.reach;
          some = let u = opened v.some.is h in record { text = u.rest; is = subst (λ (j : ℕ). Listed nm ws j 5 count (i + 1) sep shown next u.rest) (sym e) (u.behind next g) };
          each = λ s z.
              let (t, y, x) = v.each s z in
              let u = opened y h in (
                u.rest,
                subst (λ (j : ℕ). Listed nm ws j 5 count (i + 1) sep shown next u.rest) (sym e) (u.behind next g),
                rest_then (w.each u.first (subst (λ (j : ℕ). Celled nm ws j i sep shown labels u.first) (sym e) u.celled)) (rest_is u.is x),
              );
        }

    pub celling_past : o.room < o.at → Puts (Listed nm ws p k₀ count 0 sep shown l) o₀ o
    celling_past h = record { same = v.same; room = v.room; len = v.len; each = λ s z. rest_past h (v.each s z).2 }

    pub celling_end : count ≤ i → Puts (Listed nm ws p k₀ count 0 sep shown l) o₀ o
    celling_end h = record {
      same = v.same;
      room = v.room;
      len = v.len;
      each = λ s z.
          let (t, y, x) = v.each s z in
          let c = y.count in
          rest_end (rest_is (y.is ∙ no_cells y.nodes sep i shown y.labels (omega arith)) x);
    }

-- ONE CELL
shown_own : (nm : Names) (ws : List ℕ) (p : ℕ) (shown : Bool) (x : Option Name) → LabelIs (Named nm) x (at ws p 3) → LabelIs (Named nm) (own shown x) (own_label ws p shown)
shown_own nm ws p true x h = h
shown_own nm ws p false x h = refl

module _ {nm : Names} {ws : List ℕ} {p i sep : ℕ} {shown : Bool} {l : Labels} where
  pub celled_label : {s : Name} {k : ℕ} → k ≡ own_label ws p shown → (h : Celled nm ws p i sep shown l s) → Labelling nm ws k l (prefix (label_now h.labels (own shown h.label)))
  celled_label {k = k} e h = record { label = own shown h.label; own_is = subst (λ (j : ℕ). LabelIs (Named nm) (own shown h.label) j) (sym e) (shown_own nm ws p shown h.label h.label_is); labels = h.labels; are = h.are; is = refl }

  pub celled_below : {s : Name} → Celled nm ws p i sep shown l s → at ws p 4 < p
  celled_below h = child_below ws p 4 h.kid

  pub celled_prints : {s : Name} {q : ℕ} → q ≡ at ws p 4 → (h : Celled nm ws p i sep shown l s) → Prints nm ws q (print h.node)
  celled_prints e h = prints_at e (record { tree = h.node; lies = child_holds ws p 4 (λ q. Lies (Named nm) h.node ws q) h.kid; is = refl })

  pub celled_puts : {k q : ℕ} {o o₁ o₂ o₃ : Sink} → k ≡ own_label ws p shown → q ≡ at ws p 4 → Appended o o₁ (sep_before i sep) → Puts (Labelling nm ws k l) o₁ o₂ → Puts (Prints nm ws q) o₂ o₃ → Puts (Celled nm ws p i sep shown l) o o₃
  celled_puts e f x y z = record {
    same = z.same ∙ y.same ∙ x.same;
    room = z.room ∙ y.room ∙ x.room;
    len = z.len ∙ y.len ∙ x.wrote.len;
    each = λ s h.
        let c = label_now h.labels (own shown h.label) in
        appended_is (append_assoc (sep_before i sep) (prefix c) (print h.node) ∙ ap (λ (t : Name). sep_before i sep ++ t) (prefixed c (print h.node)) ∙ sym h.is)
        (appended_then (appended_then x (y.each _ (celled_label e h))) (z.each _ (celled_prints f h)));
  }

-- PARAMETERS
module _ (nm : Names) (ws : List ℕ) (p : ℕ) (l : Labels) {k : ℕ} (ek : k ≡ at ws p 0) where
  kind_is : {way : Way} {s : Name} (j : ℕ) → k ≡ j → (h : Printing way nm ws p l s) → kind h.tree ≡ j
  kind_is j e h = sym h.lies.kind_is ∙ sym ek ∙ e

  pub params_empty : {s : Name} → k ≡ 30 → Printing params_way nm ws p l s → s ≡ text_of 24
  unfolding printing print_tuple in_parens params_from join text_of X.texts bytes
  params_empty e h = h.is ∙ ap (λ (x : Node). (printing x).params h.labels) (empty_list_of h.tree (kind_is 30 e h))

  record TupleAt (s : Name) : Type 0 where
    inner : Name
    is : s ≡ text_of 6 ++ (inner ++ text_of 7)
    elements_lie : Listed nm ws p 3 (at ws p 2) 0 4 true l inner

  tuple_at : {s : Name} → k ≡ 9 → Printing params_way nm ws p l s → TupleAt s
  unfolding printing print_tuple in_parens text_of X.texts bytes left count view kind many
  tuple_at e h =
      let (es, q) = tuple_of h.tree (kind_is 9 e h) in
      let m : Lies (Named nm) (Tuple es) ws p = subst (λ (x : Node). Lies (Named nm) x ws p) q h.lies in
      let c : at ws p 2 ≡ many es = m.count_is in
      record {
        inner = join ", " (params_from 0 h.labels (printed_elements es));
        is = h.is ∙ ap (λ (x : Node). (printing x).params h.labels) q;
        elements_lie = record { nodes = es; cells = m.body; count = omega arith; labels = listed h.labels; are = h.are; is = ap (join ", ") (shown_labels h.labels (printed_elements es)) };
      }

  module _ {f : ListForm} (ef : f ≡ list_of ws p 32) where
    as_form : {s : Name} → Listed nm ws p 3 (at ws p 2) 0 4 true l s → Listed nm ws p f.field f.count 0 (number_of f.sep) f.shown l s
    unfolding list_field list_count list_sep list_shown
    as_form {s} h = subst (λ (g : ListForm). Listed nm ws p g.field g.count 0 (number_of g.sep) g.shown l s) (sym ef) h

    pub tuple_some : k ≡ 9 → Some (Printing params_way nm ws p l) → Some (Listed nm ws p f.field f.count 0 (number_of f.sep) f.shown l)
    tuple_some e s = let t = tuple_at e s.is in record { text = t.inner; is = as_form t.elements_lie }

    pub tuple_puts : {o o₁ o₂ o₃ : Sink} → k ≡ 9 → Appended o o₁ (text_of 6) → Puts (Listed nm ws p f.field f.count 0 (number_of f.sep) f.shown l) o₁ o₂ → Appended o₂ o₃ (text_of 7) → Puts (Printing params_way nm ws p l) o o₃
    tuple_puts e x y z = record {
      same = z.same ∙ y.same ∙ x.same;
      room = z.room ∙ y.room ∙ x.room;
      len = z.wrote.len ∙ y.len ∙ x.wrote.len;
      each = λ s h.
          let t = tuple_at e h in
          appended_is (append_assoc (text_of 6) t.inner (text_of 7) ∙ sym t.is) (appended_then (appended_then x (y.each t.inner (as_form t.elements_lie))) z);
    }

  not_listed : (n : ℕ) → (n ≡ 9 → ⊥) → (n ≡ 30 → ⊥) → T (not (eqb n K.tuple || eqb n K.empty_list))
  not_listed n a b = rw (ne_eqb n 9 a, ne_eqb n 30 b) tt

  pub other_label : {s : Name} (h : Printing params_way nm ws p l s) → Labelling nm ws absent l (prefix (label_now (listed h.labels) none))
  other_label h = record { label = none; own_is = refl; labels = listed h.labels; are = h.are; is = refl }

  pub other_prints : {way : Way} {s : Name} (h : Printing way nm ws p l s) → Prints nm ws p (print h.tree)
  other_prints h = record { tree = h.tree; lies = h.lies; is = refl }

  label_none : (ls : D.Labels) → label_at ls 0 none ≡ label_now (listed ls) none
  unfolding label_at
  label_none none = refl
  label_none (some []) = refl
  label_none (some (none ∷ ls)) = refl
  label_none (some (some n ∷ ls)) = refl

  pub other_puts : {o o₁ o₂ o₃ o₄ : Sink} → (k ≡ 30 → ⊥) → (k ≡ 9 → ⊥) → Appended o o₁ (text_of 6) → Puts (Labelling nm ws absent l) o₁ o₂ → Puts (Prints nm ws p) o₂ o₃ → Appended o₃ o₄ (text_of 7) → Puts (Printing params_way nm ws p l) o o₄
  unfolding in_parens params_from join text_of X.texts bytes print_params
  other_puts e f w x y z = record {
    same = z.same ∙ y.same ∙ x.same ∙ w.same;
    room = z.room ∙ y.room ∙ x.room ∙ w.room;
    len = z.wrote.len ∙ y.len ∙ x.len ∙ w.wrote.len;
    each = λ s h.
        let g : T (not (eqb (kind h.tree) K.tuple || eqb (kind h.tree) K.empty_list)) = not_listed (kind h.tree) (λ (j : kind h.tree ≡ 9). f (ek ∙ h.lies.kind_is ∙ j)) (λ (j : kind h.tree ≡ 30). e (ek ∙ h.lies.kind_is ∙ j)) in
        let d : label_now (listed h.labels) none ≡ label_at h.labels 0 none = sym (label_none h.labels) in
        appended_is
        (ap (λ (t : Name). (text_of 6 ++ t) ++ text_of 7) (prefixed (label_now (listed h.labels) none) (print h.tree))
        ∙ append_assoc (text_of 6) (labelled (label_now (listed h.labels) none) (print h.tree)) (text_of 7)
        ∙ ap (λ (c : Option Name). text_of 6 ++ (labelled c (print h.tree) ++ text_of 7)) d
        ∙ sym (h.is ∙ params_of_other h.tree g h.labels))
        (appended_then (appended_is (append_assoc (text_of 6) (prefix (label_now (listed h.labels) none)) (print h.tree)) (appended_then (appended_then w (x.each _ (other_label h))) (y.each _ (other_prints h)))) z);
  }

  -- AFTER A NAME
  record FunctionAt (s : Name) : Type 0 where
    params : Name
    result : Name
    is : s ≡ params ++ (leaf_text ws p 24 ++ (text_of 26 ++ result))
    params_below : at ws p 3 < p
    result_below : at ws p 4 < p
    params_lie : Printing params_way nm ws (at ws p 3) l params
    result_lies : Prints nm ws (at ws p 4) result

  flag_is : (b : Bool) → eqb (flag b) 1 ≡ b
  flag_is false = refl
  flag_is true = refl

  function_at : {s : Name} → k ≡ 10 → Printing behind_way nm ws p l s → FunctionAt s
  unfolding printing print_function_type text_of X.texts bytes leaf_text print
  function_at e h =
      let (a, b, t, y, q) = function_type_of h.tree (kind_is 10 e h) in
      let m : Lies (Named nm) (FunctionType a b t y) ws p = subst (λ (x : Node). Lies (Named nm) x ws p) q h.lies in
      let e₁ : eqb (at ws p 5) 1 ≡ t = ap (λ (x : ℕ). eqb x 1) m.body.2 ∙ flag_is t in
      let e₂ : eqb (at ws p 6) 1 ≡ y = ap (λ (x : ℕ). eqb x 1) m.body.3 ∙ flag_is y in
      record {
        params = (printing a).params h.labels;
        result = print b;
        is = h.is ∙ ap (λ (x : Node). (printing x).behind h.labels) q ∙ ap (λ (z : Name). (printing a).params h.labels ++ (z ++ (bytes " -> " ++ print b))) (sym (ap (λ (x : Bool). effects x (eqb (at ws p 6) 1)) e₁ ∙ ap (effects t) e₂));
        params_below = child_below ws p 3 m.body.0;
        result_below = child_below ws p 4 m.body.1;
        params_lie = record { tree = a; lies = child_holds ws p 3 (λ j. Lies (Named nm) a ws j) m.body.0; labels = h.labels; are = h.are; is = refl };
        result_lies = record { tree = b; lies = child_holds ws p 4 (λ j. Lies (Named nm) b ws j) m.body.1; is = refl };
      }

  module _ {q u : ℕ} (eq : q ≡ at ws p 3) (eu : u ≡ at ws p 4) where
    printing_at : {way : Way} {s : Name} → Printing way nm ws (at ws p 3) l s → Printing way nm ws q l s
    printing_at {way} {s} h = subst (λ (j : ℕ). Printing way nm ws j l s) (sym eq) h

    pub function_params : k ≡ 10 → Some (Printing behind_way nm ws p l) → (q < p) × Some (Printing params_way nm ws q l)
    function_params e s = let t = function_at e s.is in (subst (λ (j : ℕ). j < p) (sym eq) t.params_below, record { text = t.params; is = printing_at t.params_lie })

    pub function_result : k ≡ 10 → Some (Printing behind_way nm ws p l) → (u < p) × Some (Prints nm ws u)
    function_result e s = let t = function_at e s.is in (subst (λ (j : ℕ). j < p) (sym eu) t.result_below, record { text = t.result; is = prints_at eu t.result_lies })

    pub function_puts : {o o₁ o₂ o₃ o₄ : Sink} → k ≡ 10 → Puts (Printing params_way nm ws q l) o o₁ → Appended o₁ o₂ (leaf_text ws p 24) → Appended o₂ o₃ (text_of 26) → Puts (Prints nm ws u) o₃ o₄ → Puts (Printing behind_way nm ws p l) o o₄
    function_puts e w x y z = record {
      same = z.same ∙ y.same ∙ x.same ∙ w.same;
      room = z.room ∙ y.room ∙ x.room ∙ w.room;
      len = z.len ∙ y.wrote.len ∙ x.wrote.len ∙ w.len;
      each = λ s h.
          let t = function_at e h in
          appended_is (sym t.is) (appended_then (w.each _ (printing_at t.params_lie)) (appended_then x (appended_then y (z.each _ (prints_at eu t.result_lies)))));
    }

    -- a signature first
    record GenericAt (s : Name) : Type 0 where
      signature : Name
      inner : Name
      is : s ≡ signature ++ inner
      signature_below : at ws p 3 < p
      inner_below : at ws p 4 < p
      signature_lies : Prints nm ws (at ws p 3) signature
      inner_lies : Printing behind_way nm ws (at ws p 4) l inner

    generic_at : {s : Name} → k ≡ 11 → Printing signed_way nm ws p l s → GenericAt s
    unfolding printing print_generic_type print
    generic_at e h =
        let (a, b, x) = generic_type_of h.tree (kind_is 11 e h) in
        let m : Lies (Named nm) (GenericType a b) ws p = subst (λ (y : Node). Lies (Named nm) y ws p) x h.lies in
        record {
          signature = print a;
          inner = (printing b).behind h.labels;
          is = h.is ∙ ap (λ (y : Node). (printing y).signed h.labels) x;
          signature_below = child_below ws p 3 m.body.0;
          inner_below = child_below ws p 4 m.body.1;
          signature_lies = record { tree = a; lies = child_holds ws p 3 (λ j. Lies (Named nm) a ws j) m.body.0; is = refl };
          inner_lies = record { tree = b; lies = child_holds ws p 4 (λ j. Lies (Named nm) b ws j) m.body.1; labels = h.labels; are = h.are; is = refl };
        }

    inner_at : {s : Name} → Printing behind_way nm ws (at ws p 4) l s → Printing behind_way nm ws u l s
    inner_at {s} h = subst (λ (j : ℕ). Printing behind_way nm ws j l s) (sym eu) h

    pub generic_signature : k ≡ 11 → Some (Printing signed_way nm ws p l) → (q < p) × Some (Prints nm ws q)
    generic_signature e s = let t = generic_at e s.is in (subst (λ (j : ℕ). j < p) (sym eq) t.signature_below, record { text = t.signature; is = prints_at eq t.signature_lies })

    pub generic_inner : k ≡ 11 → Some (Printing signed_way nm ws p l) → (u < p) × Some (Printing behind_way nm ws u l)
    generic_inner e s = let t = generic_at e s.is in (subst (λ (j : ℕ). j < p) (sym eu) t.inner_below, record { text = t.inner; is = inner_at t.inner_lies })

    pub generic_puts : {o o₁ o₂ : Sink} → k ≡ 11 → Puts (Prints nm ws q) o o₁ → Puts (Printing behind_way nm ws u l) o₁ o₂ → Puts (Printing signed_way nm ws p l) o o₂
    generic_puts e w x = record {
      same = x.same ∙ w.same;
      room = x.room ∙ w.room;
      len = x.len ∙ w.len;
      each = λ s h.
          let t = generic_at e h in
          appended_is (sym t.is) (appended_then (w.each _ (prints_at eq t.signature_lies)) (x.each _ (inner_at t.inner_lies)));
    }

  not_kind : (j n : ℕ) → (n ≡ j → ⊥) → T (not (eqb n j))
  not_kind j n e = rw (ne_eqb n j e) tt

  pub unsigned : {s : Name} → (k ≡ 11 → ⊥) → Printing signed_way nm ws p l s → Printing behind_way nm ws p l s
  unsigned e h = record { tree = h.tree; lies = h.lies; labels = h.labels; are = h.are; is = h.is ∙ signed_of_other h.tree (not_kind 11 (kind h.tree) (λ (j : kind h.tree ≡ 11). e (ek ∙ h.lies.kind_is ∙ j))) h.labels }

  pub typed_puts : {o o₁ o₂ : Sink} → (k ≡ 10 → ⊥) → Appended o o₁ (text_of 2) → Puts (Prints nm ws p) o₁ o₂ → Puts (Printing behind_way nm ws p l) o o₂
  unfolding text_of X.texts bytes
  typed_puts e w x = record {
    same = x.same ∙ w.same;
    room = x.room ∙ w.room;
    len = x.len ∙ w.wrote.len;
    each = λ s h.
        appended_is (sym (h.is ∙ behind_of_other h.tree (not_kind 10 (kind h.tree) (λ (j : kind h.tree ≡ 10). e (ek ∙ h.lies.kind_is ∙ j))) h.labels))
        (appended_then w (x.each _ (other_prints h)));
  }

-- PIECES
pub inside_below : {n p q : ℕ} → 8 * p + 8 ≤ n → q < p → 8 * q + 8 ≤ n
inside_below h l = omega arith

-- the child that a piece with a code of 16 to 23 is
pub child_at : {nm : Names} {ws : List ℕ} {p code q : ℕ} → 16 ≤ code → code < 24 → q ≡ at ws p (code - 16) → Some (Plain nm ws p code) → (q < p) × Some (Prints nm ws q)
child_at l m e s = let v = s.is.child l m in (omega (arith, v.0), record { text = s.text; is = prints_at e v.1 })

pub labels_reach : {ws : List ℕ} {p n : ℕ} {l : Labels} → 8 * p + 8 ≤ length ws → l ≡ record { host = p; field = 6; left = n } → Reach ws l
labels_reach {ws} h e = subst (Reach ws) (sym e) (record { field = omega arith; long = h })

pub printing_to : {way : Way} {nm : Names} {ws : List ℕ} {p q : ℕ} {l m : Labels} {s : Name} → q ≡ p → m ≡ l → Printing way nm ws p l s → Printing way nm ws q m s
printing_to {way} {nm} {ws} {p} {q} {l} {m} {s} e f h = subst (λ (j : ℕ). Printing way nm ws j m s) (sym e) (subst (λ (x : Labels). Printing way nm ws p x s) (sym f) h)

pub listed_to : {nm : Names} (ws : List ℕ) (p code : ℕ) {f : ListForm} {l : Labels} {s : Name} → 32 ≤ code → code < 38 → f ≡ list_of ws p code → l ≡ none_at p → Listed nm ws p (list_field code) (list_count ws p code) 0 (list_sep code) (list_shown code) (none_at p) s → Listed nm ws p f.field f.count 0 (number_of f.sep) f.shown l s
listed_to {nm} ws p code {f} {l} {s} lo hi e g h₀ =
    let h : Listed nm ws p (list_field code) (list_count ws p code) 0 (number_of (sep_text code)) (list_shown code) (none_at p) s = subst (λ (j : ℕ). Listed nm ws p (list_field code) (list_count ws p code) 0 j (list_shown code) (none_at p) s) (sep_is code lo hi) h₀ in
    subst (λ (x : Labels). Listed nm ws p f.field f.count 0 (number_of f.sep) f.shown x s) (sym g) (subst (λ (x : ListForm). Listed nm ws p x.field x.count 0 (number_of x.sep) x.shown (none_at p) s) (sym e) h)

field_fits : (n : ℕ) → get_or (3 ∷ 3 ∷ 6 ∷ 6 ∷ 5 ∷ 5 ∷ []) n 0 < 8
field_fits zero = omega arith
field_fits (suc zero) = omega arith
field_fits (suc (suc zero)) = omega arith
field_fits (suc (suc (suc zero))) = omega arith
field_fits (suc (suc (suc (suc zero)))) = omega arith
field_fits (suc (suc (suc (suc (suc zero))))) = omega arith
field_fits (suc (suc (suc (suc (suc (suc n)))))) = omega arith

pub list_fits : (ws : List ℕ) (p code : ℕ) {f : ListForm} → (f ≡ list_of ws p code) × (f.count < 2 ^ 32) → (f.field < 8) × (f.count < 2 ^ 32)
unfolding list_field
list_fits ws p code h = (subst (λ (g : ListForm). g.field < 8) (sym h.0) (field_fits (code - 32)), h.1)
