-- The row of a record has the text of the tree that is stored there. Assumes nothing.
use Rattle.std.specs.Prelude.{if◌then◌else◌}
use mathlib.Core.Path.{◌≡◌, refl, sym, ap, subst, ◌∙◌}
use mathlib.Core.Bool.{Bool, true, false, ◌&&◌, not}
use mathlib.Core.List.{List, [], ◌++◌, append_assoc}
use mathlib.Core.Option.{Option, some, none}
use Prim.Native.Nat.{ℕ, zero, suc, ◌+◌, ◌-◌, ◌≤◌, ◌<◌}
use native.Mathlib.Omega.{arith}
use borrow.Author.Tests.{eqb-true, ne_eqb, le-ltb}
use lib.Dec.{T, eqb}
use lib.ListN.{get_or}
use Rattle.definition.specs.Base.{Name, bytes}
use Rattle.definition.specs.Kind as K
use Rattle.definition.specs.Node as D
use Rattle.definition.specs.Node.{Class, Struct, Enum, Protocol, TypeAlias, Node, Nodes, nil, cons, Identifier, Module, Nominal, GenericParam, DependentMember, Tuple, FunctionType, GenericType, GenericSignature, ConformanceRequirement, SameTypeRequirement, ProtocolList, Metatype, InOut, BoundGeneric, Function, Variable, Accessor, Initializer, Deinitializer, VariableInitializer, Static, Record, Conformance, ProtocolWitness, ValueWitness, EmptyList, FirstElementMarker, VariadicMarker, Throws, Async, LazyWitness, AssociatedConformance, nominal_kind, kind, many, count, view}
use Rattle.definition.specs.Operators.{suspend_resume_text}
use Rattle.definition.specs.Print.{join, dotted, generic_param_name, param_names, signature_text, params_from, in_parens, texts, effects, initializer_name, deinitializer_name, composition, qualified, printed, print_tuple, print_function_type, print_generic_type, print_nominal, print_variable, printing, printed_elements, print}
use Rattle.definition.proofs.PrintEquations.{print_optional, print_array, print_dictionary, print_bound_generic, print_accessor, print_accessor_other}
use Rattle.tree_records.specs.Lies.{at, Child, flag, LabelList, WordsOf, fixed, numbered, Cells, Lies}
use Rattle.tree_records.specs.Holds.{Names, Named}
use Rattle.print_names.specs.Texts.{text_of}
use Rattle.print_names.specs.Texts as X
use Rattle.print_names.proofs.Lists.{left}
use Rattle.print_labels.specs.declared.Labels.{Labels}
use Rattle.print_labels.specs.RowTexts.{none_at, LabelsIn, labels_at, listed, Prints, Listed, wide_at, init_name, leaf_text, list_field, list_sep, list_shown, list_count, Plain, Piece, Pieces, nothing, one, more, rows, zero_or, record_form, form_of}
use Rattle.print_forms.specs.Forms.{SugarIs, FormIs, Rowed}
use Rattle.print_forms.proofs.ByKind.{variable_of}
use Rattle.print_forms.proofs.FormLaws.{child_below, child_holds}
use Rattle.print_labels.proofs.LabelLaws.{shown_labels, no_shown_labels, none_in}

-- PIECES BY THEIR CODES
module _ {nm : Names} {ws : List ℕ} {p : ℕ} where
  pub plain_text : (n : ℕ) → n < 37 → Plain nm ws p (64 + n) (text_of n)
  plain_text n l = record {
    text = λ h. (omega arith, ap text_of (omega arith));
    name = λ h. absurd (omega arith);
    child = λ h g. absurd (omega arith);
    leaf = λ h g. absurd (omega arith);
    list = λ h g. absurd (omega arith);
    signed = λ h. absurd (omega arith);
    params = λ h g. absurd (omega arith);
  }

  pub plain_name : {s : Name} (k : ℕ) → k < 8 → Named nm (at ws p k) s → Plain nm ws p (8 + k) s
  plain_name {s} k l n =
      let e : k ≡ 8 + k - 8 = omega arith in
      record {
        text = λ h. absurd (omega arith);
        name = λ h. (omega arith, subst (λ (j : ℕ). Named nm (at ws p j) s) e n);
        child = λ h g. absurd (omega arith);
        leaf = λ h g. absurd (omega arith);
        list = λ h g. absurd (omega arith);
        signed = λ h. absurd (omega arith);
        params = λ h g. absurd (omega arith);
      }

  pub plain_child : (x : Node) (k : ℕ) → k < 8 → Child (at ws p) p k (λ q. Lies (Named nm) x ws q) → Plain nm ws p (16 + k) (print x)
  plain_child x k l c =
      let e : k ≡ 16 + k - 16 = omega arith in
      let a : at ws p k < p = subst (λ (j : ℕ). j < p) (sym c.is) c.below in
      let b : Prints nm ws (at ws p k) (print x) = record { tree = x; lies = subst (λ (j : ℕ). Lies (Named nm) x ws j) (sym c.is) c.holds; is = refl } in
      record {
        text = λ h. absurd (omega arith);
        name = λ h. absurd (omega arith);
        child = λ h g. subst (λ (j : ℕ). (at ws p j < p) × Prints nm ws (at ws p j) (print x)) e (a, b);
        leaf = λ h g. absurd (omega arith);
        list = λ h g. absurd (omega arith);
        signed = λ h. absurd (omega arith);
        params = λ h g. absurd (omega arith);
      }

  pub plain_leaf : {s : Name} (code : ℕ) → 24 ≤ code → code < 32 → (code ≡ 27 → at ws p 4 < p) → s ≡ leaf_text ws p code → Plain nm ws p code s
  plain_leaf code l m b e = record {
    text = λ h. absurd (omega arith);
    name = λ h. absurd (omega arith);
    child = λ h g. absurd (omega arith);
    leaf = λ h g. (b, e);
    list = λ h g. absurd (omega arith);
    signed = λ h. absurd (omega arith);
    params = λ h g. absurd (omega arith);
  }

  pub plain_list : {s : Name} (code : ℕ) → 32 ≤ code → code < 38 → Listed nm ws p (list_field code) (list_count ws p code) 0 (list_sep code) (list_shown code) (none_at p) s → Plain nm ws p code s
  plain_list code l m e = record {
    text = λ h. absurd (omega arith);
    name = λ h. absurd (omega arith);
    child = λ h g. absurd (omega arith);
    leaf = λ h g. absurd (omega arith);
    list = λ h g. (m, e);
    signed = λ h. absurd (omega arith);
    params = λ h g. absurd (omega arith);
  }

  pub plain_signed : (x : Node) (ls : D.Labels) → Child (at ws p) p 5 (λ q. Lies (Named nm) x ws q) → LabelsIn nm ws (listed ls) (labels_at ws p) → Plain nm ws p 40 ((printing x).signed ls)
  plain_signed x ls c i = record {
    text = λ h. absurd (omega arith);
    name = λ h. absurd (omega arith);
    child = λ h g. absurd (omega arith);
    leaf = λ h g. absurd (omega arith);
    list = λ h g. absurd (omega arith);
    signed = λ h. (subst (λ (j : ℕ). j < p) (sym c.is) c.below, record { tree = x; lies = subst (λ (j : ℕ). Lies (Named nm) x ws j) (sym c.is) c.holds; labels = ls; are = i; is = refl });
    params = λ h g. absurd (omega arith);
  }

  pub plain_params : (x : Node) → Child (at ws p) p 3 (λ q. Lies (Named nm) x ws q) → Plain nm ws p 41 ((printing x).params none)
  plain_params x c = record {
    text = λ h. absurd (omega arith);
    name = λ h. absurd (omega arith);
    child = λ h g. absurd (omega arith);
    leaf = λ h g. absurd (omega arith);
    list = λ h g. absurd (omega arith);
    signed = λ h. absurd (omega arith);
    params = λ h g. (subst (λ (j : ℕ). j < p) (sym c.is) c.below, record { tree = x; lies = subst (λ (j : ℕ). Lies (Named nm) x ws j) (sym c.is) c.holds; labels = none; are = none_in p; is = refl });
  }

  pub here : {s : Name} {code : ℕ} → code < 128 → Plain nm ws p code s → Piece nm ws p code s
  here l h = record { own = λ _. h; via = λ g. absurd (omega arith) }

  pub by_way : {s : Name} (code : ℕ) → at ws p 4 < p → Plain nm ws (at ws p 4) code s → Piece nm ws p (128 + code) s
  by_way {s} code l h =
      let e : code ≡ 128 + code - 128 = omega arith in
      record { own = λ g. absurd (omega arith); via = λ g. (l, subst (λ (j : ℕ). Plain nm ws (at ws p 4) j s) e h) }

  pub pieces_is : {row : ℕ} {s t : Name} → s ≡ t → Pieces nm ws p row s → Pieces nm ws p row t
  pieces_is {row} e h = subst (Pieces nm ws p row) e h

  pub row_at : {r k : ℕ} {s : Name} → r ≡ k → Pieces nm ws p (get_or rows k 0) s → Pieces nm ws p (get_or rows r 0) s
  row_at {s = s} e h = subst (λ (j : ℕ). Pieces nm ws p (get_or rows j 0) s) (sym e) h

  T_piece : (n : ℕ) → n < 37 → Piece nm ws p (64 + n) (text_of n)
  T_piece n l = here (omega arith) (plain_text n l)

  N_piece : {s : Name} (k : ℕ) → k < 8 → Named nm (at ws p k) s → Piece nm ws p (8 + k) s
  N_piece k l h = here (omega arith) (plain_name k l h)

  C_piece : (x : Node) (k : ℕ) → k < 8 → Child (at ws p) p k (λ q. Lies (Named nm) x ws q) → Piece nm ws p (16 + k) (print x)
  C_piece x k l h = here (omega arith) (plain_child x k l h)

-- THE LAST STEPS OF EQUATIONS
flag_is : (b : Bool) → b ≡ eqb (flag b) 1
flag_is false = refl
flag_is true = refl

-- The text of a list of nodes
module _ {nm : Names} {ws : List ℕ} {p : ℕ} where
  L_tuple : (es : Nodes) → Cells (Named nm) es 3 (at ws p) ws p → at ws p 2 ≡ many es → Plain nm ws p 32 (join ", " (params_from 0 none (printed_elements es)))
  unfolding list_field list_count list_sep list_shown left X.texts
  L_tuple es c e = plain_list 32 (omega arith) (omega arith) (record { nodes = es; cells = c; count = omega (arith, e); labels = []; are = none_in p; is = ap (join ", ") (shown_labels none (printed_elements es)) })

  L_members : (es : Nodes) → Cells (Named nm) es 3 (at ws p) ws p → at ws p 2 ≡ many es → Plain nm ws p 33 (join " & " (texts (printed_elements es)))
  unfolding list_field list_count list_sep list_shown left X.texts
  L_members es c e = plain_list 33 (omega arith) (omega arith) (record { nodes = es; cells = c; count = omega (arith, e); labels = []; are = none_in p; is = ap (join " & ") (no_shown_labels (printed_elements es)) })

  L_requirements : (es : Nodes) → Cells (Named nm) es 6 (at ws p) ws p → at ws p 5 ≡ many es → Plain nm ws p 34 (join ", " (texts (printed_elements es)))
  unfolding list_field list_count list_sep list_shown left X.texts
  L_requirements es c e = plain_list 34 (omega arith) (omega arith) (record { nodes = es; cells = c; count = omega (arith, e); labels = []; are = none_in p; is = ap (join ", ") (no_shown_labels (printed_elements es)) })

  L_arguments : (es : Nodes) → Cells (Named nm) es 5 (at ws p) ws p → at ws p 4 ≡ many es → Plain nm ws p 36 (join ", " (texts (printed_elements es)))
  unfolding list_field list_count list_sep list_shown left X.texts
  L_arguments es c e = plain_list 36 (omega arith) (omega arith) (record { nodes = es; cells = c; count = omega (arith, e); labels = []; are = none_in p; is = ap (join ", ") (no_shown_labels (printed_elements es)) })

  L_key_value : (es : Nodes) → Cells (Named nm) es 5 (at ws p) ws p → at ws p 4 ≡ many es → Plain nm ws p 37 (join " : " (texts (printed_elements es)))
  unfolding list_field list_count list_sep list_shown left X.texts
  L_key_value es c e = plain_list 37 (omega arith) (omega arith) (record { nodes = es; cells = c; count = omega (arith, e); labels = []; are = none_in p; is = ap (join " : ") (no_shown_labels (printed_elements es)) })

  L_qualifier : (l : Option Name) (x : Node) (qs : Nodes) → Cells (Named nm) (cons l x qs) 6 (at ws p) ws p → Plain nm ws p 35 (print x)
  unfolding list_field list_count list_sep list_shown left X.texts join texts printed_elements print many
  L_qualifier l x qs c = plain_list 35 (omega arith) (omega arith) (record {
    nodes = cons l x nil;
    cells = record { place = c.place; is = c.is; below = c.below; holds = (c.holds.0, c.holds.1, tt) };
    count = omega arith;
    labels = [];
    are = none_in p;
    is = ap (join ", ") (no_shown_labels (printed_elements (cons l x nil)));
  })

  labels_in : (ls : D.Labels) → LabelList (Named nm) ls 6 (at ws p) ws p → LabelsIn nm ws (listed ls) (labels_at ws p)
  labels_in none e = record { count = omega (arith, e); cells = tt }
  labels_in (some ls) h = record { count = omega (arith, h.0); cells = h.1 }

many_one : (args : Nodes) → many args ≡ 1 → (l : Option Name) × (a : Node) × (args ≡ cons l a nil)
unfolding many
many_one nil e = absurd (omega arith)
many_one (cons l a nil) e = (l, a, refl)
many_one (cons l a (cons m b ns)) e = absurd (omega arith)

many_two : (args : Nodes) → many args ≡ 2 → (l : Option Name) × (a : Node) × (m : Option Name) × (b : Node) × (args ≡ cons l a (cons m b nil))
unfolding many
many_two nil e = absurd (omega arith)
many_two (cons l a nil) e = absurd (omega arith)
many_two (cons l a (cons m b nil)) e = (l, a, m, b, refl)
many_two (cons l a (cons m b (cons n c ns))) e = absurd (omega arith)

zero_or_more : (n a b : ℕ) → zero_or (suc n) a b ≡ b
zero_or_more n a b = ap (λ (x : Bool). if x then a else b) (ne_eqb (suc n) 0 (λ (e : suc n ≡ 0). omega arith))

record_form_last : (n : ℕ) → 4 ≤ n → record_form n ≡ 39
record_form_last n h = rw (ne_eqb n 0 (λ (e : n ≡ 0). omega arith), le-ltb n 4 h)

not_passed : (b : Bool) → b ≡ false → T (not b)
not_passed true e = absurd (let z : ◌≡◌ {A = ℕ} 0 1 = cc in omega arith)
not_passed false e = tt

accessor_regroup : (c n k t : Name) → c ++ (bytes "." ++ (n ++ (bytes "." ++ (k ++ (bytes " : " ++ t))))) ≡ dotted (dotted c n) k ++ (bytes " : " ++ t)
unfolding dotted
accessor_regroup c n k t = simp append_assoc

qualified_regroup : (d a x n q : Name) → d ++ (a ++ (bytes "." ++ (x ++ (bytes "." ++ (n ++ (bytes ": " ++ q)))))) ≡ d ++ (dotted a (dotted x n) ++ (bytes ": " ++ q))
unfolding dotted
qualified_regroup d a x n q = simp append_assoc

init_is : (ws : List ℕ) (p : ℕ) (a : Bool) (c : Node) → at ws p 3 ≡ flag a → at ws (at ws p 4) 0 ≡ kind c → initializer_name a c ≡ init_name ws p
unfolding initializer_name text_of X.texts bytes
init_is ws p a c e k =
    let f : eqb (at ws p 3) 1 ≡ a = ap (λ (x : ℕ). eqb x 1) e ∙ sym (flag_is a) in
    sym (ap (λ (x : Bool). if x && eqb (at ws (at ws p 4) 0) K.class then bytes "__allocating_init" else bytes "init") f ∙ ap (λ (j : ℕ). if a && eqb j K.class then bytes "__allocating_init" else bytes "init") k)

module _ {nm : Names} {ws : List ℕ} {p r : ℕ} (F : FormIs nm ws p r) where
  form_at : (k : ℕ) → at ws p 0 ≡ k → r ≡ form_of k (at ws p) (at ws (at ws p 4) 0) F.sugar
  form_at k e = F.is ∙ ap (λ (j : ℕ). form_of j (at ws p) (at ws (at ws p 4) 0) F.sugar) e

  pub pieces_of : (x : Node) → Lies (Named nm) x ws p → Pieces nm ws p (get_or rows r 0) (print x)
  unfolding params_from join rows form_of kind nominal_kind text_of X.texts bytes print printing printed dotted print_nominal print_tuple in_parens print_function_type print_generic_type print_variable many leaf_text signature_text composition printed_elements texts effects deinitializer_name qualified count view
  pieces_of (Identifier n) h = row_at (form_at 0 h.kind_is) (one (omega arith) (omega arith) (N_piece 3 (omega arith) h.body))
  pieces_of (Module n) h = row_at (form_at 1 h.kind_is) (one (omega arith) (omega arith) (N_piece 3 (omega arith) h.body))
  pieces_of (Nominal Class c n) h = row_at (form_at 2 h.kind_is) (more (omega arith) (C_piece c 4 (omega arith) h.body.1) (more (omega arith) (T_piece 0 (omega arith)) (one (omega arith) (omega arith) (N_piece 3 (omega arith) h.body.0))))
  pieces_of (Nominal Struct c n) h = row_at (form_at 3 h.kind_is) (more (omega arith) (C_piece c 4 (omega arith) h.body.1) (more (omega arith) (T_piece 0 (omega arith)) (one (omega arith) (omega arith) (N_piece 3 (omega arith) h.body.0))))
  pieces_of (Nominal Enum c n) h = row_at (form_at 4 h.kind_is) (more (omega arith) (C_piece c 4 (omega arith) h.body.1) (more (omega arith) (T_piece 0 (omega arith)) (one (omega arith) (omega arith) (N_piece 3 (omega arith) h.body.0))))
  pieces_of (Nominal Protocol c n) h = row_at (form_at 5 h.kind_is) (more (omega arith) (C_piece c 4 (omega arith) h.body.1) (more (omega arith) (T_piece 0 (omega arith)) (one (omega arith) (omega arith) (N_piece 3 (omega arith) h.body.0))))
  pieces_of (Nominal TypeAlias c n) h = row_at (form_at 6 h.kind_is) (more (omega arith) (C_piece c 4 (omega arith) h.body.1) (more (omega arith) (T_piece 0 (omega arith)) (one (omega arith) (omega arith) (N_piece 3 (omega arith) h.body.0))))
  pieces_of (GenericParam d i) h =
      row_at (form_at 7 h.kind_is)
      (one (omega arith) (omega arith) (here (omega arith) (plain_leaf 26 (omega arith) (omega arith) (λ e. absurd (omega arith)) (ap (λ (x : ℕ). generic_param_name x i) h.body.0 ∙ ap (generic_param_name (wide_at ws p 3)) h.body.1))))
  pieces_of (DependentMember b n) h = row_at (form_at 8 h.kind_is) (more (omega arith) (C_piece b 4 (omega arith) h.body.1) (more (omega arith) (T_piece 0 (omega arith)) (one (omega arith) (omega arith) (N_piece 3 (omega arith) h.body.0))))
  pieces_of (Tuple es) h =
      row_at (form_at 9 h.kind_is)
      (more (omega arith) (T_piece 6 (omega arith)) (more (omega arith) (here (omega arith) (L_tuple es h.body h.count_is)) (one (omega arith) (omega arith) (T_piece 7 (omega arith)))))
  pieces_of (FunctionType a b t y) h =
      let e₁ : eqb (at ws p 5) 1 ≡ t = ap (λ (x : ℕ). eqb x 1) h.body.2 ∙ sym (flag_is t) in
      let e₂ : eqb (at ws p 6) 1 ≡ y = ap (λ (x : ℕ). eqb x 1) h.body.3 ∙ sym (flag_is y) in
      row_at (form_at 10 h.kind_is)
      (more (omega arith) (here (omega arith) (plain_params a h.body.0))
      (more (omega arith) (here (omega arith) (plain_leaf 24 (omega arith) (omega arith) (λ e. absurd (omega arith)) (sym (ap (λ (x : Bool). effects x (eqb (at ws p 6) 1)) e₁ ∙ ap (effects t) e₂))))
      (more (omega arith) (T_piece 26 (omega arith)) (one (omega arith) (omega arith) (C_piece b 4 (omega arith) h.body.1)))))
  pieces_of (GenericType s i) h = row_at (form_at 11 h.kind_is) (more (omega arith) (C_piece s 3 (omega arith) h.body.0) (one (omega arith) (omega arith) (C_piece i 4 (omega arith) h.body.1)))
  pieces_of (GenericSignature n nil) h =
      row_at (form_at 12 h.kind_is ∙ ap (λ (j : ℕ). zero_or j 12 40) h.body.1)
      (more (omega arith) (T_piece 8 (omega arith)) (more (omega arith) (here (omega arith) (plain_leaf 25 (omega arith) (omega arith) (λ e. absurd (omega arith)) (ap (λ (x : ℕ). join ", " (param_names x 0)) h.body.0))) (one (omega arith) (omega arith) (T_piece 9 (omega arith)))))
  pieces_of (GenericSignature n (cons l q rs)) h =
      row_at (form_at 12 h.kind_is ∙ ap (λ (j : ℕ). zero_or j 12 40) h.body.1 ∙ zero_or_more (many rs) 12 40)
      (more (omega arith) (T_piece 8 (omega arith))
      (more (omega arith) (here (omega arith) (plain_leaf 25 (omega arith) (omega arith) (λ e. absurd (omega arith)) (ap (λ (x : ℕ). join ", " (param_names x 0)) h.body.0)))
      (more (omega arith) (T_piece 13 (omega arith)) (more (omega arith) (here (omega arith) (L_requirements (cons l q rs) h.body.2 h.body.1)) (one (omega arith) (omega arith) (T_piece 9 (omega arith)))))))
  pieces_of (ConformanceRequirement a q) h = row_at (form_at 13 h.kind_is) (more (omega arith) (C_piece a 3 (omega arith) h.body.0) (more (omega arith) (T_piece 1 (omega arith)) (one (omega arith) (omega arith) (C_piece q 4 (omega arith) h.body.1))))
  pieces_of (SameTypeRequirement a o) h = row_at (form_at 14 h.kind_is) (more (omega arith) (C_piece a 3 (omega arith) h.body.0) (more (omega arith) (T_piece 3 (omega arith)) (one (omega arith) (omega arith) (C_piece o 4 (omega arith) h.body.1))))
  pieces_of (ProtocolList nil) h = row_at (form_at 15 h.kind_is ∙ ap (λ (j : ℕ). zero_or j 15 41) h.count_is) (one (omega arith) (omega arith) (T_piece 25 (omega arith)))
  pieces_of (ProtocolList (cons l q ps)) h =
      row_at (form_at 15 h.kind_is ∙ ap (λ (j : ℕ). zero_or j 15 41) h.count_is ∙ zero_or_more (many ps) 15 41)
      (one (omega arith) (omega arith) (here (omega arith) (L_members (cons l q ps) h.body h.count_is)))
  pieces_of (Metatype n) h = row_at (form_at 16 h.kind_is) (more (omega arith) (C_piece n 3 (omega arith) h.body) (one (omega arith) (omega arith) (T_piece 14 (omega arith))))
  pieces_of (InOut n) h = row_at (form_at 17 h.kind_is) (more (omega arith) (T_piece 15 (omega arith)) (one (omega arith) (omega arith) (C_piece n 3 (omega arith) h.body)))
  pieces_of (BoundGeneric b args) h = by_sugar F.sugar (F.sugars.each b args h) (form_at 18 h.kind_is)
    where
      by_sugar : (g : ℕ) → SugarIs b args g → r ≡ zero_or g 18 (41 + g) → Pieces nm ws p (get_or rows r 0) (print (BoundGeneric b args))
      by_sugar zero s e =
          row_at e (pieces_is (sym (print_bound_generic b args (s.no_sugar refl)))
          (more (omega arith) (C_piece b 3 (omega arith) h.body.0) (more (omega arith) (T_piece 8 (omega arith)) (more (omega arith) (here (omega arith) (L_arguments args h.body.2 h.body.1)) (one (omega arith) (omega arith) (T_piece 9 (omega arith)))))))
      by_sugar (suc zero) s e =
          let (l, a, q) = many_one args (s.optional refl).0 in
          row_at e (pieces_is (ap (λ (x : Nodes). join ", " (texts (printed_elements x)) ++ bytes "?") q ∙ sym (print_optional b l a (s.optional refl).1) ∙ ap (λ (x : Nodes). print (BoundGeneric b x)) (sym q))
          (more (omega arith) (here (omega arith) (L_arguments args h.body.2 h.body.1)) (one (omega arith) (omega arith) (T_piece 12 (omega arith)))))
      by_sugar (suc (suc zero)) s e =
          let (l, a, q) = many_one args (s.array refl).0 in
          row_at e (pieces_is (ap (λ (x : Nodes). bytes "[" ++ (join ", " (texts (printed_elements x)) ++ bytes "]")) q ∙ sym (print_array b l a (s.array refl).1) ∙ ap (λ (x : Nodes). print (BoundGeneric b x)) (sym q))
          (more (omega arith) (T_piece 10 (omega arith)) (more (omega arith) (here (omega arith) (L_arguments args h.body.2 h.body.1)) (one (omega arith) (omega arith) (T_piece 11 (omega arith))))))
      by_sugar (suc (suc (suc zero))) s e =
          let (l, a, m, c, q) = many_two args (s.dictionary refl).0 in
          row_at e (pieces_is (ap (λ (x : Nodes). bytes "[" ++ (join " : " (texts (printed_elements x)) ++ bytes "]")) q ∙ ap (λ (x : Name). bytes "[" ++ x) (append_assoc (print a) (bytes " : " ++ print c) (bytes "]")) ∙ sym (print_dictionary b l m a c (s.dictionary refl).1) ∙ ap (λ (x : Nodes). print (BoundGeneric b x)) (sym q))
          (more (omega arith) (T_piece 10 (omega arith)) (more (omega arith) (here (omega arith) (L_key_value args h.body.2 h.body.1)) (one (omega arith) (omega arith) (T_piece 11 (omega arith))))))
      by_sugar (suc (suc (suc (suc g)))) s e = absurd (omega (arith, s.few))
  pieces_of (Function c n ls t) h =
      row_at (form_at 19 h.kind_is) (pieces_is (sym (append_assoc (print c) (bytes "." ++ n) ((printing t).signed ls)))
      (more (omega arith) (C_piece c 4 (omega arith) h.body.1) (more (omega arith) (T_piece 0 (omega arith)) (more (omega arith) (N_piece 3 (omega arith) h.body.0) (one (omega arith) (omega arith) (here (omega arith) (plain_signed t ls h.body.2 (labels_in ls h.body.3))))))))
  pieces_of (Variable c n t) h =
      row_at (form_at 20 h.kind_is) (pieces_is (sym (append_assoc (print c) (bytes "." ++ n) (bytes " : " ++ print t)))
      (more (omega arith) (C_piece c 4 (omega arith) h.body.1) (more (omega arith) (T_piece 0 (omega arith)) (more (omega arith) (N_piece 3 (omega arith) h.body.0) (more (omega arith) (T_piece 2 (omega arith)) (one (omega arith) (omega arith) (C_piece t 5 (omega arith) h.body.2)))))))
  pieces_of (Accessor k v) h = by_kind (eqb (kind v) K.variable) refl
    where
      v_lies : Lies (Named nm) v ws (at ws p 4)
      v_lies = child_holds ws p 4 (λ q. Lies (Named nm) v ws q) h.body.1

      by_kind : (b : Bool) → eqb (kind v) K.variable ≡ b → Pieces nm ws p (get_or rows r 0) (print (Accessor k v))
      by_kind true e =
          let (c, n, t, q) = variable_of v (eqb-true (kind v) 20 e) in
          let w : Lies (Named nm) (Variable c n t) ws (at ws p 4) = subst (λ (x : Node). Lies (Named nm) x ws (at ws p 4)) q v_lies in
          row_at (form_at 21 h.kind_is ∙ ap (λ (j : ℕ). if eqb j K.variable then 45 else 21) w.kind_is)
          (pieces_is (accessor_regroup (print c) n k (print t) ∙ sym (print_accessor k c n t) ∙ ap (λ (x : Node). print (Accessor k x)) (sym q))
          (more (omega arith) (by_way 20 (child_below ws p 4 h.body.1) (plain_child c 4 (omega arith) w.body.1))
          (more (omega arith) (T_piece 0 (omega arith))
          (more (omega arith) (by_way 11 (child_below ws p 4 h.body.1) (plain_name 3 (omega arith) w.body.0))
          (more (omega arith) (T_piece 0 (omega arith))
          (more (omega arith) (N_piece 3 (omega arith) h.body.0)
          (more (omega arith) (T_piece 2 (omega arith)) (one (omega arith) (omega arith) (by_way 21 (child_below ws p 4 h.body.1) (plain_child t 5 (omega arith) w.body.2))))))))))
      by_kind false e =
          row_at (form_at 21 h.kind_is ∙ ap (λ (j : ℕ). if eqb j K.variable then 45 else 21) v_lies.kind_is ∙ ap (λ (b : Bool). if b then 45 else 21) e)
          (pieces_is (sym (print_accessor_other k v (not_passed (eqb (kind v) 20) e)))
          (more (omega arith) (C_piece v 4 (omega arith) h.body.1) (more (omega arith) (T_piece 0 (omega arith)) (one (omega arith) (omega arith) (N_piece 3 (omega arith) h.body.0)))))
  pieces_of (Initializer a c ls t) h =
      row_at (form_at 22 h.kind_is) (pieces_is (sym (append_assoc (print c) (bytes "." ++ initializer_name a c) ((printing t).signed ls)))
      (more (omega arith) (C_piece c 4 (omega arith) h.body.1)
      (more (omega arith) (T_piece 0 (omega arith))
      (more (omega arith) (here (omega arith) (plain_leaf 27 (omega arith) (omega arith) (λ e. child_below ws p 4 h.body.1) (init_is ws p a c h.body.0 (child_holds ws p 4 (λ q. Lies (Named nm) c ws q) h.body.1).kind_is)))
      (one (omega arith) (omega arith) (here (omega arith) (plain_signed t ls h.body.2 (labels_in ls h.body.3))))))))
  pieces_of (Deinitializer false c) h = row_at (form_at 23 h.kind_is ∙ ap (λ (j : ℕ). zero_or j 23 35) h.body.0) (more (omega arith) (C_piece c 4 (omega arith) h.body.1) (more (omega arith) (T_piece 0 (omega arith)) (one (omega arith) (omega arith) (T_piece 32 (omega arith)))))
  pieces_of (Deinitializer true c) h = row_at (form_at 23 h.kind_is ∙ ap (λ (j : ℕ). zero_or j 23 35) h.body.0) (more (omega arith) (C_piece c 4 (omega arith) h.body.1) (more (omega arith) (T_piece 0 (omega arith)) (one (omega arith) (omega arith) (T_piece 31 (omega arith)))))
  pieces_of (VariableInitializer v) h = row_at (form_at 24 h.kind_is) (more (omega arith) (T_piece 16 (omega arith)) (one (omega arith) (omega arith) (C_piece v 3 (omega arith) h.body)))
  pieces_of (Static e) h = row_at (form_at 25 h.kind_is) (more (omega arith) (T_piece 17 (omega arith)) (one (omega arith) (omega arith) (C_piece e 3 (omega arith) h.body)))
  pieces_of (Record what n) h = by_words h.body.0
    where
      by_words : WordsOf (Named nm) what (at ws p) → Pieces nm ws p (get_or rows r 0) (print (Record what n))
      by_words (fixed e m) = row_at (form_at 26 h.kind_is ∙ ap record_form e) (more (omega arith) (N_piece 5 (omega arith) m) (one (omega arith) (omega arith) (C_piece n 4 (omega arith) h.body.1)))
      by_words (numbered i e q u) =
          row_at (form_at 26 h.kind_is ∙ ap record_form e)
          (more (omega arith) (here (omega arith) (plain_leaf 28 (omega arith) (omega arith) (λ z. absurd (omega arith)) (q ∙ ap suspend_resume_text u))) (one (omega arith) (omega arith) (C_piece n 4 (omega arith) h.body.1)))
  pieces_of (Conformance t q m) h =
      row_at (form_at 27 h.kind_is)
      (more (omega arith) (C_piece t 3 (omega arith) h.body.0) (more (omega arith) (T_piece 2 (omega arith)) (more (omega arith) (C_piece q 4 (omega arith) h.body.1) (more (omega arith) (T_piece 18 (omega arith)) (one (omega arith) (omega arith) (C_piece m 5 (omega arith) h.body.2))))))
  pieces_of (ProtocolWitness e c) h =
      row_at (form_at 28 h.kind_is) (more (omega arith) (T_piece 19 (omega arith)) (more (omega arith) (C_piece e 3 (omega arith) h.body.0) (more (omega arith) (T_piece 20 (omega arith)) (one (omega arith) (omega arith) (C_piece c 4 (omega arith) h.body.1)))))
  pieces_of (ValueWitness k t) h = row_at (form_at 29 h.kind_is) (more (omega arith) (N_piece 3 (omega arith) h.body.0) (more (omega arith) (T_piece 21 (omega arith)) (one (omega arith) (omega arith) (C_piece t 4 (omega arith) h.body.1))))
  pieces_of EmptyList h = row_at (form_at 30 h.kind_is) (one (omega arith) (omega arith) (T_piece 24 (omega arith)))
  pieces_of FirstElementMarker h = row_at (form_at 31 h.kind_is) nothing
  pieces_of VariadicMarker h = row_at (form_at 32 h.kind_is) nothing
  pieces_of Throws h = row_at (form_at 33 h.kind_is) nothing
  pieces_of Async h = row_at (form_at 34 h.kind_is) nothing
  pieces_of (LazyWitness what t c) h =
      row_at (form_at 26 h.kind_is ∙ ap record_form h.body.0)
      (more (omega arith) (N_piece 4 (omega arith) h.body.1) (more (omega arith) (C_piece t 5 (omega arith) h.body.2) (more (omega arith) (T_piece 22 (omega arith)) (one (omega arith) (omega arith) (C_piece c 6 (omega arith) h.body.3)))))
  pieces_of (AssociatedConformance a nil n q) h =
      row_at (form_at 26 h.kind_is ∙ ap record_form h.body.0)
      (pieces_is (ap (λ (x : Name). bytes "associated conformance descriptor for " ++ x) (sym (append_assoc (print a) (bytes "." ++ n) (bytes ": " ++ print q))))
      (more (omega arith) (T_piece 23 (omega arith)) (more (omega arith) (C_piece a 5 (omega arith) h.body.2) (more (omega arith) (T_piece 0 (omega arith)) (more (omega arith) (N_piece 4 (omega arith) h.body.1) (more (omega arith) (T_piece 1 (omega arith)) (one (omega arith) (omega arith) (C_piece q 7 (omega arith) h.body.4))))))))
  pieces_of (AssociatedConformance a (cons l x qs) n q) h =
      row_at (form_at 26 h.kind_is ∙ record_form_last (at ws p 3) (omega (arith, h.body.0)))
      (pieces_is (qualified_regroup (bytes "associated conformance descriptor for ") (print a) (print x) n (print q))
      (more (omega arith) (T_piece 23 (omega arith))
      (more (omega arith) (C_piece a 5 (omega arith) h.body.2)
      (more (omega arith) (T_piece 0 (omega arith))
      (more (omega arith) (here (omega arith) (L_qualifier l x qs h.body.3))
      (more (omega arith) (T_piece 0 (omega arith)) (more (omega arith) (N_piece 4 (omega arith) h.body.1) (more (omega arith) (T_piece 1 (omega arith)) (one (omega arith) (omega arith) (C_piece q 7 (omega arith) h.body.4))))))))))

  pub rowed : {row : ℕ} → row ≡ get_or rows r 0 → Rowed nm ws p row
  rowed e = record { each = λ s h. subst (λ (j : ℕ). Pieces nm ws p j s) (sym e) (pieces_is (sym h.is) (pieces_of h.tree h.lies)) }
