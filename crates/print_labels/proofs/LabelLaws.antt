-- Labels: what the workspace holds, and what is shown. Assumes nothing.
use mathlib.Core.Path.{◌≡◌, refl, sym, ap, subst, ◌∙◌}
use mathlib.Core.Bool.{true, false}
use mathlib.Core.List.{List, [], ◌∷◌, ◌++◌, append_assoc}
use mathlib.Core.Option.{Option, some, none}
use Prim.Native.Nat.{ℕ, zero, suc, ◌-◌, ◌<◌}
use native.Mathlib.Omega.{arith}
use lib.ListN.{length, drop}
use lib.Seq.{drop-nil}
use Rattle.definition.specs.Base.{Name, bytes, given}
use Rattle.definition.specs.Node as D
use Rattle.definition.specs.Print.{Element, labelled, label_at, params_from, texts}
use Rattle.text_output.specs.Appends.{Appended, appended_is, appended_nothing, appended_then}
use Rattle.text_output.specs.declared.Sink.{Sink}
use Rattle.tree_records.specs.Lies.{at, LabelIs, LabelCells, absent}
use Rattle.tree_records.specs.Holds.{Names, Named, spelled, fixed as is-fixed}
use Rattle.print_names.specs.Texts.{text_of}
use Rattle.print_names.specs.Texts as X
use Rattle.print_names.specs.Naming.{Puts}
use Rattle.print_labels.specs.declared.Labels.{Labels}
use Rattle.print_labels.specs.RowTexts.{none_at, listed, LabelsIn, SomeLabels, behind_first, NextLabels, labels_at, label_now, prefix, NamedLabel, Labelling, with_labels}

-- no name has the number that says that there is none
pub not_absent : {nm : Names} {k : ℕ} {n : Name} → Named nm k n → k ≡ absent → ⊥
not_absent (spelled words r u l e b q) z = omega arith
not_absent (is-fixed l m e) z = omega arith

-- CELLS
no_labels : (ls : List (Option Name)) → 0 ≡ length ls → ls ≡ []
no_labels [] e = refl
no_labels (l ∷ ls) e = absurd (omega arith)

pub shut : {nm : Names} {ws : List ℕ} {ls : List (Option Name)} {l : Labels} → LabelsIn nm ws ls l → l.left ≡ 0 → ls ≡ []
shut {ls = ls} h e = no_labels ls (sym e ∙ h.count)

-- the first of them
pub record Opened (nm : Names) (ws : List ℕ) (ls : List (Option Name)) (l : Labels) : Type 0 where
  pub first : Option Name
  pub rest : List (Option Name)
  pub is : ls ≡ first ∷ rest
  pub below : at ws l.host l.field < l.host
  pub first_is : LabelIs (Named nm) first (at ws (at ws l.host l.field) 3)
  pub cells : LabelCells (Named nm) rest 5 (at ws (at ws l.host l.field)) ws (at ws l.host l.field)

opened : (nm : Names) (ws : List ℕ) (ls : List (Option Name)) (l : Labels) → LabelsIn nm ws ls l → (l.left ≡ 0 → ⊥) → Opened nm ws ls l
opened nm ws [] l h e = absurd (e h.count)
opened nm ws (x ∷ ls) l h e =
    let c = h.cells in
    let q : c.place ≡ at ws l.host l.field = sym c.is in
    record {
      first = x;
      rest = ls;
      is = refl;
      below = subst (λ (j : ℕ). j < l.host) q c.below;
      first_is = subst (λ (j : ℕ). LabelIs (Named nm) x (at ws j 3)) q c.holds.0;
      cells = subst (λ (j : ℕ). LabelCells (Named nm) ls 5 (at ws j) ws j) q c.holds.1;
    }

pub open_labels : {nm : Names} {ws : List ℕ} {ls : List (Option Name)} {l : Labels} → LabelsIn nm ws ls l → (l.left ≡ 0 → ⊥) → Opened nm ws ls l
open_labels {nm} {ws} {ls} {l} h e = opened nm ws ls l h e

module _ {ws : List ℕ} {l : Labels} where
  pub next_none : SomeLabels ws l → l.left ≡ 0 → NextLabels ws l l
  next_none s e = record { reach = s.reach; each = λ nm ls h. subst (λ (x : List (Option Name)). LabelsIn nm ws (behind_first x) l) (sym (shut h e)) (subst (λ (x : List (Option Name)). LabelsIn nm ws x l) (shut h e) h) }

  pub next_some : {r : Labels} {cell : ℕ} → SomeLabels ws l → (l.left ≡ 0 → ⊥) → cell ≡ at ws l.host l.field → r ≡ record { host = cell; field = 5; left = l.left - 1 } → NextLabels ws l r
  next_some {r} {cell} s e c q =
      let o = open_labels s.are e in
      subst (NextLabels ws l) (sym (q ∙ ap (λ (j : ℕ). record { host = j; field = 5; left = l.left - 1 }) c)) (record {
        reach = record { field = omega arith; long = omega (arith, o.below, s.reach.long) };
        each = λ nm ls h. let u = open_labels h e in subst (λ (x : List (Option Name)). LabelsIn nm ws (behind_first x) (record { host = at ws l.host l.field; field = 5; left = l.left - 1 })) (sym u.is) (record { count = omega (arith, h.count, ap length u.is); cells = u.cells });
      })

-- WHAT IS SHOWN
pub named_label : {nm : Names} {k : ℕ} {o o₁ o₂ : Sink} → Puts (Named nm k) o o₁ → Appended o₁ o₂ (text_of 1) → Puts (NamedLabel nm k) o o₂
unfolding prefix text_of X.texts bytes
named_label a b = record { same = b.same ∙ a.same; room = b.room ∙ a.room; len = b.wrote.len ∙ a.len; each = λ s h. appended_is (sym h.is) (appended_then (a.each h.name h.named) b) }

module _ (nm : Names) (ws : List ℕ) (own : ℕ) (l : Labels) where
  own_only : (x : Option Name) → LabelIs (Named nm) x own → own ≡ absent → x ≡ none
  own_only none h e = refl
  own_only (some n) h e = absurd (not_absent h e)

  own_named : {s : Name} (x : Option Name) → LabelIs (Named nm) x own → (own ≡ absent → ⊥) → s ≡ prefix x → NamedLabel nm own s
  own_named none h e q = absurd (e h)
  own_named (some n) h e q = record { name = n; named = h; is = q }

  pub own_label_of : {s : Name} → l.left ≡ 0 → (own ≡ absent → ⊥) → Labelling nm ws own l s → NamedLabel nm own s
  own_label_of z e h = own_named h.label h.own_is e (h.is ∙ ap (λ (ls : List (Option Name)). prefix (label_now ls h.label)) (shut h.are z))

  module _ {o o' : Sink} where
    pub label_own : l.left ≡ 0 → (own ≡ absent → ⊥) → Puts (NamedLabel nm own) o o' → Puts (Labelling nm ws own l) o o'
    label_own z e a = record { same = a.same; room = a.room; len = a.len; each = λ s h. a.each s (own_label_of z e h) }

  pub label_missing : (o : Sink) → l.left ≡ 0 → own ≡ absent → Puts (Labelling nm ws own l) o o
  unfolding prefix
  label_missing o z e = record { same = refl; room = refl; len = refl; each = λ s k. appended_is (sym (k.is ∙ ap (λ (ls : List (Option Name)). prefix (label_now ls k.label)) (shut k.are z) ∙ ap prefix (own_only k.label k.own_is e))) (appended_nothing o) }

  -- the number of the first of the labels
  abbrev pub first_number : ℕ
  first_number = at ws (at ws l.host l.field) 3

  first_marker : (x : Option Name) → LabelIs (Named nm) x first_number → first_number ≡ absent → x ≡ none
  first_marker none h e = refl
  first_marker (some n) h e = absurd (not_absent h e)

  first_name : {s : Name} (x : Option Name) → LabelIs (Named nm) x first_number → (first_number ≡ absent → ⊥) → s ≡ prefix (some (given x (bytes "_") (λ n. n))) → NamedLabel nm first_number s
  first_name none h e q = absurd (e h)
  first_name (some n) h e q = record { name = n; named = h; is = q }

  first_text : {s : Name} (h : Labelling nm ws own l s) (o : Opened nm ws h.labels l) → s ≡ prefix (some (given o.first (bytes "_") (λ n. n)))
  first_text h o = h.is ∙ ap (λ (ls : List (Option Name)). prefix (label_now ls h.label)) o.is

  pub first_label_of : {s : Name} → (l.left ≡ 0 → ⊥) → (first_number ≡ absent → ⊥) → Labelling nm ws own l s → NamedLabel nm first_number s
  first_label_of z e h = let o = open_labels h.are z in first_name o.first o.first_is e (first_text h o)

  module _ {o o' : Sink} where
    pub label_marker : {o₁ : Sink} → (l.left ≡ 0 → ⊥) → first_number ≡ absent → Appended o o₁ (text_of 33) → Appended o₁ o' (text_of 1) → Puts (Labelling nm ws own l) o o'
    unfolding prefix text_of X.texts bytes
    label_marker z e a b = record {
      same = b.same ∙ a.same;
      room = b.room ∙ a.room;
      len = b.wrote.len ∙ a.wrote.len;
      each = λ s h.
          let u = open_labels h.are z in
          appended_is (sym (first_text h u ∙ ap (λ (x : Option Name). prefix (some (given x (bytes "_") (λ n. n)))) (first_marker u.first u.first_is e))) (appended_then a b);
    }

-- THE DEFINITION'S LABELS
label_drop : (all : List (Option Name)) (i : ℕ) (x : Option Name) → label_at (some all) i x ≡ label_now (drop i all) x
unfolding label_at
label_drop [] i x = ap (λ (ls : List (Option Name)). label_now ls x) (sym (drop-nil i))
label_drop (none ∷ all) zero x = refl
label_drop (some n ∷ all) zero x = refl
label_drop (y ∷ all) (suc i) x = label_drop all i x

behind_drop : (all : List (Option Name)) (i : ℕ) → behind_first (drop i all) ≡ drop (suc i) all
behind_drop [] i = ap behind_first (drop-nil i)
behind_drop (y ∷ all) zero = refl
behind_drop (y ∷ all) (suc i) = behind_drop all i

some_labels : (all : List (Option Name)) (es : List Element) (i : ℕ) → params_from i (some all) es ≡ with_labels true (drop i all) es
unfolding params_from with_labels
some_labels all [] i = refl
some_labels all (e ∷ es) i =
    ap (λ (x : Option Name). labelled x e.1 ∷ params_from (suc i) (some all) es) (label_drop all i e.0)
    ∙ ap (λ (x : List Name). labelled (label_now (drop i all) e.0) e.1 ∷ x) (some_labels all es (suc i) ∙ ap (λ (ls : List (Option Name)). with_labels true ls es) (sym (behind_drop all i)))

own_labels : (es : List Element) (i : ℕ) → params_from i none es ≡ with_labels true [] es
unfolding params_from with_labels label_at
own_labels [] i = refl
own_labels (e ∷ es) i = ap (λ (x : List Name). labelled e.0 e.1 ∷ x) (own_labels es (suc i))

pub shown_labels : (ls : D.Labels) (es : List Element) → params_from 0 ls es ≡ with_labels true (listed ls) es
shown_labels none es = own_labels es 0
shown_labels (some all) es = some_labels all es 0

pub no_shown_labels : (es : List Element) → texts es ≡ with_labels false [] es
unfolding texts with_labels labelled
no_shown_labels [] = refl
no_shown_labels (e ∷ es) = ap (λ (x : List Name). e.1 ∷ x) (no_shown_labels es)

-- a label before a text
pub prefixed : (l : Option Name) (t : Name) → prefix l ++ t ≡ labelled l t
unfolding prefix labelled
prefixed none t = refl
prefixed (some n) t = append_assoc n (bytes ": ") t

-- none of their own
pub none_in : {nm : Names} {ws : List ℕ} (p : ℕ) → LabelsIn nm ws [] (none_at p)
none_in p = record { count = refl; cells = tt }

-- THE LABELS OF A RECORD
pub labels_none : (ws : List ℕ) (p : ℕ) {n : ℕ} → n ≡ at ws p 7 → n ≡ 0 → record { host = p; field = 6; left = 0 } ≡ labels_at ws p
labels_none ws p {n} e z =
    let q : 0 ≡ at ws p 7 - 1 = omega (arith, e, z) in
    ap (λ (j : ℕ). record { host = p; field = 6; left = j }) q

pub labels_some : (ws : List ℕ) (p : ℕ) {n : ℕ} → n ≡ at ws p 7 → record { host = p; field = 6; left = n - 1 } ≡ labels_at ws p
labels_some ws p e = ap (λ (j : ℕ). record { host = p; field = 6; left = j - 1 }) e

-- with the numbers that the code has read
module _ (nm : Names) (ws : List ℕ) (own : ℕ) (l : Labels) {cell k : ℕ} (c : cell ≡ at ws l.host l.field) (e : k ≡ at ws cell 3) where
  number : k ≡ first_number nm ws own l
  number = e ∙ ap (λ (j : ℕ). at ws j 3) c

  pub first_is_named : {s : Name} → (l.left ≡ 0 → ⊥) → (k ≡ absent → ⊥) → Labelling nm ws own l s → NamedLabel nm k s
  first_is_named {s} z f h = subst (λ (j : ℕ). NamedLabel nm j s) (sym number) (first_label_of nm ws own l z (λ (x : first_number nm ws own l ≡ absent). f (number ∙ x)) h)

  module _ {o o' : Sink} where
    pub puts_first : (l.left ≡ 0 → ⊥) → (k ≡ absent → ⊥) → Puts (NamedLabel nm k) o o' → Puts (Labelling nm ws own l) o o'
    puts_first z f a = record { same = a.same; room = a.room; len = a.len; each = λ s h. a.each s (first_is_named z f h) }

    pub puts_marker : {o₁ : Sink} → (l.left ≡ 0 → ⊥) → k ≡ absent → Appended o o₁ (text_of 33) → Appended o₁ o' (text_of 1) → Puts (Labelling nm ws own l) o o'
    puts_marker z f a b = label_marker nm ws own l z (sym number ∙ f) a b
