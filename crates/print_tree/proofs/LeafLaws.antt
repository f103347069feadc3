-- What depends only on the numbers of a record, and the list of a code. Assumes nothing.
use Rattle.std.specs.Prelude.{if◌then◌else◌}
use mathlib.Core.Path.{◌≡◌, refl, sym, ap, subst, ◌∙◌}
use mathlib.Core.Bool.{Bool, true, false, ◌&&◌}
use mathlib.Core.List.{List}
use Prim.Native.Nat.{ℕ, zero, suc, ◌+◌, ◌-◌, ◌≤◌, ◌<◌}
use native.Mathlib.Omega.{arith}
use borrow.Author.Tests.{eq-eqb, ne_eqb}
use lib.Dec.{eqb}
use Rattle.definition.specs.Kind as K
use Rattle.definition.specs.Operators.{suspend_resume_text}
use Rattle.definition.specs.Print.{effects, join, generic_param_name, param_names}
use Rattle.tree_records.specs.Lies.{at}
use Rattle.print_names.specs.Texts.{text_of}
use Rattle.print_tree.specs.declared.ListForm.{ListForm}
use Rattle.print_labels.specs.RowTexts.{wide_at, init_name, leaf_text, list_field, list_sep, list_shown, list_count}
use Rattle.print_names.specs.Texts.{number_of}
use Rattle.operator_names.specs.declared.Text.TheVariants.{Ampersand, SpacedColon, Comma}
use Rattle.print_tree.specs.Prints.{sep_text}

module _ (ws : List ℕ) (p : ℕ) where
  pub effects_are : {a b : ℕ} → a ≡ at ws p 5 → b ≡ at ws p 6 → effects (eqb a 1) (eqb b 1) ≡ leaf_text ws p 24
  unfolding leaf_text
  effects_are {a} {b} e f = ap (λ (x : ℕ). effects (eqb x 1) (eqb b 1)) e ∙ ap (λ (x : ℕ). effects (eqb (at ws p 5) 1) (eqb x 1)) f

  module _ {code : ℕ} where
    pub leaf_at : {k : ℕ} → code ≡ k → leaf_text ws p k ≡ leaf_text ws p code
    leaf_at e = sym (ap (leaf_text ws p) e)

    pub leaf_params : {n : ℕ} → code ≡ 25 → n ≡ wide_at ws p 3 → join ", " (param_names n 0) ≡ leaf_text ws p code
    unfolding leaf_text
    leaf_params e f = ap (λ (x : ℕ). join ", " (param_names x 0)) f ∙ sym (ap (leaf_text ws p) e)

    pub leaf_param : {d i : ℕ} → code ≡ 26 → d ≡ wide_at ws p 3 → i ≡ wide_at ws p 5 → generic_param_name d i ≡ leaf_text ws p code
    unfolding leaf_text
    leaf_param {d} {i} e f g = ap (λ (x : ℕ). generic_param_name x i) f ∙ ap (generic_param_name (wide_at ws p 3)) g ∙ sym (ap (leaf_text ws p) e)

    pub leaf_init : code ≡ 27 → init_name ws p ≡ leaf_text ws p code
    unfolding leaf_text
    leaf_init e = sym (ap (leaf_text ws p) e)

    pub leaf_suspend : {i : ℕ} → (code ≡ 24 → ⊥) → (code ≡ 25 → ⊥) → (code ≡ 26 → ⊥) → (code ≡ 27 → ⊥) → i ≡ wide_at ws p 5 → suspend_resume_text i ≡ leaf_text ws p code
    unfolding leaf_text
    leaf_suspend a b c d e = ap suspend_resume_text e ∙ sym (simp (ne_eqb code 24 a, ne_eqb code 25 b, ne_eqb code 26 c, ne_eqb code 27 d))

  -- the name of an initializer
  pub init_plain : {a : ℕ} → a ≡ at ws p 3 → (a ≡ 1 → ⊥) → text_of 30 ≡ init_name ws p
  init_plain {a} e f = sym (ap (λ (x : Bool). if x && eqb (at ws (at ws p 4) 0) K.class then text_of 29 else text_of 30) (ne_eqb (at ws p 3) 1 (λ (z : at ws p 3 ≡ 1). f (e ∙ z))))

  init_by : {a : ℕ} → a ≡ at ws p 3 → a ≡ 1 → init_name ws p ≡ if eqb (at ws (at ws p 4) 0) K.class then text_of 29 else text_of 30
  init_by {a} e f = ap (λ (x : Bool). if x && eqb (at ws (at ws p 4) 0) K.class then text_of 29 else text_of 30) (eq-eqb (at ws p 3) 1 (sym e ∙ f))

  module _ {a c k : ℕ} (ea : a ≡ at ws p 3) (one : a ≡ 1) (ec : c ≡ at ws p 4) (ek : k ≡ at ws c 0) where
    kind_there : k ≡ at ws (at ws p 4) 0
    kind_there = ek ∙ ap (λ (j : ℕ). at ws j 0) ec

    pub init_other : (k ≡ 2 → ⊥) → text_of 30 ≡ init_name ws p
    init_other f = sym (init_by ea one ∙ ap (λ (x : Bool). if x then text_of 29 else text_of 30) (ne_eqb (at ws (at ws p 4) 0) 2 (λ (z : at ws (at ws p 4) 0 ≡ 2). f (kind_there ∙ z))))

    pub init_class : k ≡ 2 → text_of 29 ≡ init_name ws p
    init_class f = sym (init_by ea one ∙ ap (λ (x : Bool). if x then text_of 29 else text_of 30) (eq-eqb (at ws (at ws p 4) 0) 2 (sym kind_there ∙ f)))

-- THE LIST OF A CODE
abbrev pub list_of : List ℕ → ℕ → ℕ → ListForm
list_of ws p code = record { field = list_field code; count = list_count ws p code; sep = sep_text code; shown = list_shown code }

module _ (ws : List ℕ) (p : ℕ) {code : ℕ} where
  pub list_32 : {n : ℕ} → code ≡ 32 → n ≡ at ws p 2 → record { field = 3; count = n; sep = Comma; shown = true } ≡ list_of ws p code
  unfolding list_field list_count list_shown
  list_32 e f = ap (λ (j : ℕ). record { field = 3; count = j; sep = Comma; shown = true }) f ∙ sym (ap (list_of ws p) e)

  pub list_33 : {n : ℕ} → code ≡ 33 → n ≡ at ws p 2 → record { field = 3; count = n; sep = Ampersand; shown = false } ≡ list_of ws p code
  unfolding list_field list_count list_shown
  list_33 e f = ap (λ (j : ℕ). record { field = 3; count = j; sep = Ampersand; shown = false }) f ∙ sym (ap (list_of ws p) e)

  pub list_34 : {n : ℕ} → code ≡ 34 → n ≡ at ws p 5 → record { field = 6; count = n; sep = Comma; shown = false } ≡ list_of ws p code
  unfolding list_field list_count list_shown
  list_34 e f = ap (λ (j : ℕ). record { field = 6; count = j; sep = Comma; shown = false }) f ∙ sym (ap (list_of ws p) e)

  pub list_35 : code ≡ 35 → record { field = 6; count = 1; sep = Comma; shown = false } ≡ list_of ws p code
  unfolding list_field list_count list_shown
  list_35 e = sym (ap (list_of ws p) e)

  pub list_36 : {n : ℕ} → code ≡ 36 → n ≡ at ws p 4 → record { field = 5; count = n; sep = Comma; shown = false } ≡ list_of ws p code
  unfolding list_field list_count list_shown
  list_36 e f = ap (λ (j : ℕ). record { field = 5; count = j; sep = Comma; shown = false }) f ∙ sym (ap (list_of ws p) e)

  pub list_37 : {n : ℕ} → code ≡ 37 → n ≡ at ws p 4 → record { field = 5; count = n; sep = SpacedColon; shown = false } ≡ list_of ws p code
  unfolding list_field list_count list_shown
  list_37 e f = ap (λ (j : ℕ). record { field = 5; count = j; sep = SpacedColon; shown = false }) f ∙ sym (ap (list_of ws p) e)

sep_at : (j : ℕ) → j < 6 → list_sep (32 + j) ≡ number_of (sep_text (32 + j))
unfolding list_sep
sep_at zero l = refl
sep_at (suc zero) l = refl
sep_at (suc (suc zero)) l = refl
sep_at (suc (suc (suc zero))) l = refl
sep_at (suc (suc (suc (suc zero)))) l = refl
sep_at (suc (suc (suc (suc (suc zero))))) l = refl
sep_at (suc (suc (suc (suc (suc (suc j)))))) l = absurd (omega arith)

-- the number of the text between the elements
pub sep_is : (code : ℕ) → 32 ≤ code → code < 38 → list_sep code ≡ number_of (sep_text code)
sep_is code l h =
    let e : 32 + (code - 32) ≡ code = omega arith in
    subst (λ (j : ℕ). list_sep j ≡ number_of (sep_text j)) e (sep_at (code - 32) (omega arith))
