-- The form of a record: the tests for sugar, and the number. Assumes nothing.
use Rattle.std.specs.Prelude.{if◌then◌else◌}
use mathlib.Core.Path.{◌≡◌, refl, sym, ap, subst, ◌∙◌}
use mathlib.Core.Bool.{Bool, true, false, ◌&&◌, ◌||◌, not}
use mathlib.Core.List.{List}
use Prim.Native.Nat.{ℕ, zero, suc, ◌+◌, ◌≤◌, ◌<◌}
use Prim.Native.String.{String}
use native.Mathlib.Omega.{arith}
use borrow.Author.Tests.{eq-eqb, ne_eqb, lt-ltb, le-ltb}
use Rattle.std.proofs.lemmas.Bool.{leb-true}
use mathlib.Core.Bool.{and-eq-true_iff}
use lib.Dec.{T, eqb, ltb, leb, T_not, eqb_refl}
use Rattle.definition.specs.Base.{Name, bytes, same}
use Rattle.definition.specs.Kind as K
use Rattle.definition.specs.Node.{NominalKind, Node, Nodes, Module, Nominal, BoundGeneric, Accessor, kind, many}
use Rattle.definition.specs.Print.{print, printing, printed}
use Rattle.definition.proofs.PrintEquations.{is_nominal, standard, sugared, standard_of_other}
use Rattle.definition.proofs.OnlySwift.{standard_by_kind}
use Rattle.tree_records.specs.Lies.{at, Child, Lies}
use Rattle.tree_records.specs.Holds.{Names, Named}
use Rattle.print_names.specs.Naming.{Some}
use Rattle.print_labels.specs.RowTexts.{Prints, zero_or, record_form, form_of}
use Rattle.print_forms.specs.Forms.{Standard, Sugars, FormIs}
use Rattle.print_forms.proofs.ByKind.{module_of, nominal_of, bound_generic_of, accessor_of, kind_small}

-- NUMBERS
pub zero_is : {n : ℕ} (a b : ℕ) → n ≡ 0 → a ≡ zero_or n a b
zero_is {n} a b e = sym (ap (λ (x : Bool). if x then a else b) (eq-eqb n 0 e))

pub other_is : {n : ℕ} (a b : ℕ) → (n ≡ 0 → ⊥) → b ≡ zero_or n a b
other_is {n} a b e = sym (ap (λ (x : Bool). if x then a else b) (ne_eqb n 0 e))

pub record_first : {n : ℕ} → n ≡ 0 → 26 ≡ record_form n
record_first {n} e = sym (ap record_form e)

record_later : {n : ℕ} → (n ≡ 0 → ⊥) → record_form n ≡ if ltb n 4 then 35 + n else 39
record_later {n} e = ap (λ (x : Bool). if x then 26 else if ltb n 4 then 35 + n else 39) (ne_eqb n 0 e)

pub record_middle : {n : ℕ} → (n ≡ 0 → ⊥) → n < 4 → 35 + n ≡ record_form n
record_middle {n} e h = sym (record_later e ∙ ap (λ (x : Bool). if x then 35 + n else 39) (lt-ltb n 4 h))

pub record_last : {n : ℕ} → (n ≡ 0 → ⊥) → 4 ≤ n → 39 ≡ record_form n
record_last {n} e h = sym (record_later e ∙ ap (λ (x : Bool). if x then 35 + n else 39) (le-ltb n 4 h))

-- CHILDREN
pub child_below : (ws : List ℕ) (p k : ℕ) {R : ℕ → Type 0} → Child (at ws p) p k R → at ws p k < p
child_below ws p k c = subst (λ (j : ℕ). j < p) (sym c.is) c.below

pub child_holds : (ws : List ℕ) (p k : ℕ) (R : ℕ → Type 0) → Child (at ws p) p k R → R (at ws p k)
child_holds ws p k R c = subst R (sym c.is) c.holds

-- STANDARD TYPES
pub nominal_range : (k : ℕ) → is_nominal k ≡ true → (2 ≤ k) × (k ≤ 6)
nominal_range k h =
    let b = (and-eq-true_iff (leb 2 k) (leb k 6)).0 h in
    (leb-true 2 k b.0, leb-true k 6 b.1)

-- the nominal type at p
record NominalAt (nm : Names) (ws : List ℕ) (p : ℕ) (b : Node) : Type 0 where
  nominal : NominalKind
  context : Node
  own : Name
  is : b ≡ Nominal nominal context own
  named : Named nm (at ws p 3) own
  below : at ws p 4 < p
  lies : Lies (Named nm) context ws (at ws p 4)
  may : T (K.is_context (kind context))

record BoundAt (nm : Names) (ws : List ℕ) (p : ℕ) (b : Node) (args : Nodes) : Type 0 where
  below : at ws p 3 < p
  base : Lies (Named nm) b ws (at ws p 3)
  few : at ws p 4 ≡ many args

differ : {A : Type 0} (a b : ℕ) → T (not (eqb a b)) → a ≡ b → A
differ a b t e = absurd (T_not (eqb a b) t (subst (λ (j : ℕ). T (eqb a j)) e (eqb_refl a)))

passed_T : {b : Bool} → true ≡ b → T b
passed_T e = subst T e tt

small_or : (n a b : ℕ) → a < 46 → b < 46 → zero_or n a b < 46
small_or n a b l m = by_test (eqb n 0)
  where
    by_test : (x : Bool) → (if x then a else b) < 46
    by_test true = l
    by_test false = m

record_small : (m : ℕ) → record_form m < 46
record_small zero = omega arith
record_small (suc zero) = omega arith
record_small (suc (suc zero)) = omega arith
record_small (suc (suc (suc zero))) = omega arith
record_small (suc (suc (suc (suc m)))) = subst (λ (j : ℕ). j < 46) (record_last (λ (e : suc (suc (suc (suc m))) ≡ 0). omega arith) (omega arith)) (omega arith)

module _ (nm : Names) (ws : List ℕ) (p : ℕ) where
  module _ {name : Name} where
    pub standard_other : {k : ℕ} → k ≡ at ws p 0 → is_nominal k ≡ false → Standard nm ws p name false
    standard_other {k} e h = record { each = λ b s l q. sym (standard_of_other b (subst (λ (j : ℕ). T (not (is_nominal j))) (e ∙ l.kind_is) (subst (λ (x : Bool). T (not x)) (sym h) tt)) s) }

  nominal_at : (b : Node) → Lies (Named nm) b ws p → 2 ≤ at ws p 0 → at ws p 0 ≤ 6 → NominalAt nm ws p b
  nominal_at b l lo hi =
      let (k, c, n, e) = nominal_of b (omega (arith, l.kind_is)) (omega (arith, l.kind_is)) in
      let m : Lies (Named nm) (Nominal k c n) ws p = subst (λ (x : Node). Lies (Named nm) x ws p) e l in
      record {
        nominal = k;
        context = c;
        own = n;
        is = e;
        named = m.body.0;
        below = child_below ws p 4 m.body.1;
        lies = child_holds ws p 4 (λ q. Lies (Named nm) c ws q) m.body.1;
        may = m.body.2;
      }

  standard_nominal : {b : Node} (m : NominalAt nm ws p b) (s : String) → standard b s ≡ (same m.own (bytes s) && (eqb (kind m.context) K.module_kind && same (print m.context) (bytes "Swift")))
  standard_nominal m s = ap (λ (x : Node). standard x s) m.is ∙ standard_by_kind m.nominal m.context m.own s m.may

  module _ {k : ℕ} (ek : k ≡ at ws p 0) (of : is_nominal k ≡ true) where
    found : (b : Node) → Lies (Named nm) b ws p → NominalAt nm ws p b
    found b l = let r = nominal_range k of in nominal_at b l (omega (arith, ek, r.0)) (omega (arith, ek, r.1))

    pub own_some : {n : ℕ} → Some (Prints nm ws p) → n ≡ at ws p 3 → Some (Named nm n)
    own_some s e = let m = found s.is.tree s.is.lies in record { text = m.own; is = subst (λ (j : ℕ). Named nm j m.own) (sym e) m.named }

    pub context_below : Some (Prints nm ws p) → at ws p 4 < p
    context_below s = (found s.is.tree s.is.lies).below

    module _ {name : Name} {f : Bool} {n : ℕ} (en : n ≡ at ws p 3) (tells : (x : Name) → Named nm n x → f ≡ same x name) where
      own_told : (b : Node) (l : Lies (Named nm) b ws p) (s : String) → bytes s ≡ name → standard b s ≡ (f && (eqb (kind (found b l).context) K.module_kind && same (print (found b l).context) (bytes "Swift")))
      own_told b l s q =
          let m = found b l in
          let e : same m.own (bytes s) ≡ f = ap (same m.own) q ∙ sym (tells m.own (subst (λ (j : ℕ). Named nm j m.own) (sym en) m.named)) in
          standard_nominal m s ∙ ap (λ (x : Bool). x && (eqb (kind m.context) K.module_kind && same (print m.context) (bytes "Swift"))) e

      pub standard_unnamed : f ≡ false → Standard nm ws p name false
      standard_unnamed z = record { each = λ b s l q. sym (own_told b l s q ∙ ap (λ (x : Bool). x && (eqb (kind (found b l).context) K.module_kind && same (print (found b l).context) (bytes "Swift"))) z) }

      module _ {c o : ℕ} (t : f ≡ true) (ec : c ≡ at ws p 4) (eo : o ≡ at ws c 0) where
        outer_is : (b : Node) (l : Lies (Named nm) b ws p) → o ≡ kind (found b l).context
        outer_is b l = eo ∙ ap (λ (j : ℕ). at ws j 0) ec ∙ (found b l).lies.kind_is

        named_told : (b : Node) (l : Lies (Named nm) b ws p) (s : String) → bytes s ≡ name → standard b s ≡ (eqb (kind (found b l).context) K.module_kind && same (print (found b l).context) (bytes "Swift"))
        named_told b l s q = own_told b l s q ∙ ap (λ (x : Bool). x && (eqb (kind (found b l).context) K.module_kind && same (print (found b l).context) (bytes "Swift"))) t

        pub standard_elsewhere : (o ≡ 1 → ⊥) → Standard nm ws p name false
        standard_elsewhere z = record { each = λ b s l q. sym (named_told b l s q ∙ ap (λ (x : Bool). x && same (print (found b l).context) (bytes "Swift")) (ne_eqb (kind (found b l).context) 1 (λ (w : kind (found b l).context ≡ 1). z (outer_is b l ∙ w)))) }

        module _ (z : o ≡ 1) where
          outer : (b : Node) (l : Lies (Named nm) b ws p) → (n : Name) × ((found b l).context ≡ Module n)
          outer b l = module_of (found b l).context (sym (outer_is b l) ∙ z)

          outer_named : {m : ℕ} → m ≡ at ws c 3 → (b : Node) (l : Lies (Named nm) b ws p) → Named nm m (outer b l).0
          outer_named {m} em b l =
              let h : Lies (Named nm) (Module (outer b l).0) ws (at ws p 4) = subst (λ (x : Node). Lies (Named nm) x ws (at ws p 4)) (outer b l).1 (found b l).lies in
              subst (λ (j : ℕ). Named nm j (outer b l).0) (sym (em ∙ ap (λ (j : ℕ). at ws j 3) ec)) h.body

          pub module_some : {m : ℕ} → Some (Prints nm ws p) → m ≡ at ws c 3 → Some (Named nm m)
          module_some s em = record { text = (outer s.is.tree s.is.lies).0; is = outer_named em s.is.tree s.is.lies }

          pub standard_swift : {m : ℕ} {r : Bool} → m ≡ at ws c 3 → ((x : Name) → Named nm m x → r ≡ same x (bytes "Swift")) → Standard nm ws p name r
          unfolding print printing printed kind
          standard_swift {m} {r} em says = record {
            each = λ b s l q.
                let (n, e) = outer b l in
                says n (outer_named em b l) ∙ sym (named_told b l s q ∙ ap (λ (x : Node). eqb (kind x) K.module_kind && same (print x) (bytes "Swift")) e);
          }

  -- SUGAR
  bound_at : (b : Node) (args : Nodes) → Lies (Named nm) (BoundGeneric b args) ws p → BoundAt nm ws p b args
  bound_at b args l = record { below = child_below ws p 3 l.body.0; base = child_holds ws p 3 (λ q. Lies (Named nm) b ws q) l.body.0; few = l.body.1 }

  pub base_some : {q : ℕ} → at ws p 0 ≡ 18 → q ≡ at ws p 3 → Some (Prints nm ws p) → (at ws p 3 < p) × Some (Prints nm ws q)
  base_some {q} k e s =
      let (b, args, x) = bound_generic_of s.is.tree (sym s.is.lies.kind_is ∙ k) in
      let d = bound_at b args (subst (λ (y : Node). Lies (Named nm) y ws p) x s.is.lies) in
      (d.below, record { text = print b; is = record { tree = b; lies = subst (λ (j : ℕ). Lies (Named nm) b ws j) (sym e) d.base; is = refl } })

  module _ {base n : ℕ} (eb : base ≡ at ws p 3) (en : n ≡ at ws p 4) where
    told : {name : Name} {f : Bool} (s : String) → bytes s ≡ name → Standard nm ws base name f → (b : Node) (args : Nodes) → Lies (Named nm) (BoundGeneric b args) ws p → f ≡ standard b s
    told s q h b args l = h.each b s (subst (λ (j : ℕ). Lies (Named nm) b ws j) (sym eb) (bound_at b args l).base) q

    few_is : (b : Node) (args : Nodes) → Lies (Named nm) (BoundGeneric b args) ws p → many args ≡ n
    few_is b args l = sym (en ∙ (bound_at b args l).few)

    pub sugar_optional : n ≡ 1 → Standard nm ws base (bytes "Optional") true → Sugars nm ws p 1
    sugar_optional e h = record {
      each = λ b args l. record {
        few = omega arith;
        no_sugar = differ 1 0 tt;
        optional = λ z. (few_is b args l ∙ e, passed_T (told "Optional" refl h b args l));
        array = differ 1 2 tt;
        dictionary = differ 1 3 tt;
      };
    }

    pub sugar_array : n ≡ 1 → Standard nm ws base (bytes "Array") true → Sugars nm ws p 2
    sugar_array e h = record {
      each = λ b args l. record {
        few = omega arith;
        no_sugar = differ 2 0 tt;
        optional = differ 2 1 tt;
        array = λ z. (few_is b args l ∙ e, passed_T (told "Array" refl h b args l));
        dictionary = differ 2 3 tt;
      };
    }

    pub sugar_dictionary : n ≡ 2 → Standard nm ws base (bytes "Dictionary") true → Sugars nm ws p 3
    sugar_dictionary e h = record {
      each = λ b args l. record {
        few = omega arith;
        no_sugar = differ 3 0 tt;
        optional = differ 3 1 tt;
        array = differ 3 2 tt;
        dictionary = λ z. (few_is b args l ∙ e, passed_T (told "Dictionary" refl h b args l));
      };
    }

    none_of : (r : ℕ) → r ≡ 0 → ((b : Node) (args : Nodes) → Lies (Named nm) (BoundGeneric b args) ws p → T (not (sugared b args))) → Sugars nm ws p r
    none_of r e h = record {
      each = λ b args l. record {
        few = omega arith;
        no_sugar = λ z. h b args l;
        optional = λ (z : r ≡ 1). absurd (omega arith);
        array = λ (z : r ≡ 2). absurd (omega arith);
        dictionary = λ (z : r ≡ 3). absurd (omega arith);
      };
    }

    -- the guards as tests of what was read
    guards : (b : Node) (args : Nodes) → Lies (Named nm) (BoundGeneric b args) ws p → T (not (eqb n 1 && (standard b "Optional" || standard b "Array") || eqb n 2 && standard b "Dictionary")) → T (not (sugared b args))
    guards b args l h = subst (λ (j : ℕ). T (not (eqb j 1 && (standard b "Optional" || standard b "Array") || eqb j 2 && standard b "Dictionary"))) (sym (few_is b args l)) h

    pub sugar_no_single : n ≡ 1 → Standard nm ws base (bytes "Optional") false → Standard nm ws base (bytes "Array") false → Sugars nm ws p 0
    sugar_no_single e h g = none_of 0 refl λ b args l. guards b args l
        (subst (λ (j : ℕ). T (not (eqb j 1 && (standard b "Optional" || standard b "Array") || eqb j 2 && standard b "Dictionary"))) (sym e)
        (subst (λ (x : Bool). T (not ((x || standard b "Array") || false))) (told "Optional" refl h b args l) (subst (λ (x : Bool). T (not (x || false))) (told "Array" refl g b args l) tt)))

    pub sugar_no_pair : n ≡ 2 → Standard nm ws base (bytes "Dictionary") false → Sugars nm ws p 0
    sugar_no_pair e h = none_of 0 refl λ b args l. guards b args l
        (subst (λ (j : ℕ). T (not (eqb j 1 && (standard b "Optional" || standard b "Array") || eqb j 2 && standard b "Dictionary"))) (sym e)
        (subst (λ (x : Bool). T (not x)) (told "Dictionary" refl h b args l) tt))

    pub sugar_no_count : (n ≡ 1 → ⊥) → (n ≡ 2 → ⊥) → Sugars nm ws p 0
    sugar_no_count e f = none_of 0 refl λ b args l. guards b args l
        (subst (λ (x : Bool). T (not (x && (standard b "Optional" || standard b "Array") || eqb n 2 && standard b "Dictionary"))) (sym (ne_eqb n 1 e))
        (subst (λ (x : Bool). T (not (x && standard b "Dictionary"))) (sym (ne_eqb n 2 f)) tt))

  -- THE FORM
  pub no_sugars : (at ws p 0 ≡ 18 → ⊥) → Sugars nm ws p 0
  unfolding kind
  no_sugars k = record { each = λ b args l. absurd (k l.kind_is) }

  pub variable_below : {k : ℕ} → k ≡ at ws p 0 → k ≡ 21 → Some (Prints nm ws p) → at ws p 4 < p
  variable_below {k} e z s =
      let (a, v, x) = accessor_of s.is.tree (sym s.is.lies.kind_is ∙ sym e ∙ z) in
      let l : Lies (Named nm) (Accessor a v) ws p = subst (λ (y : Node). Lies (Named nm) y ws p) x s.is.lies in
      child_below ws p 4 l.body.1

  module _ {k : ℕ} (ek : k ≡ at ws p 0) where
    form_at : (j g : ℕ) → k ≡ j → form_of j (at ws p) (at ws (at ws p 4) 0) g ≡ form_of (at ws p 0) (at ws p) (at ws (at ws p 4) 0) g
    form_at j g e = ap (λ (x : ℕ). form_of x (at ws p) (at ws (at ws p 4) 0) g) (sym e ∙ ek)

    plain : {r : ℕ} (j : ℕ) → k ≡ j → (j ≡ 18 → ⊥) → r ≡ form_of j (at ws p) (at ws (at ws p 4) 0) 0 → r < 46 → FormIs nm ws p r
    plain j e n q l = record { sugar = 0; sugars = no_sugars (λ (z : at ws p 0 ≡ 18). n (sym e ∙ ek ∙ z)); is = q ∙ form_at j 0 e; small = l }

    module _ {r n : ℕ} where
      pub form_signature : k ≡ 12 → n ≡ at ws p 5 → r ≡ zero_or n 12 40 → FormIs nm ws p r
      unfolding form_of
      form_signature e f q = plain 12 e (differ 12 18 tt) (q ∙ ap (λ (j : ℕ). zero_or j 12 40) f) (subst (λ (j : ℕ). j < 46) (sym q) (small_or n 12 40 (omega arith) (omega arith)))

      pub form_protocols : k ≡ 15 → n ≡ at ws p 2 → r ≡ zero_or n 15 41 → FormIs nm ws p r
      unfolding form_of
      form_protocols e f q = plain 15 e (differ 15 18 tt) (q ∙ ap (λ (j : ℕ). zero_or j 15 41) f) (subst (λ (j : ℕ). j < 46) (sym q) (small_or n 15 41 (omega arith) (omega arith)))

      pub form_deinitializer : k ≡ 23 → n ≡ at ws p 3 → r ≡ zero_or n 23 35 → FormIs nm ws p r
      unfolding form_of
      form_deinitializer e f q = plain 23 e (differ 23 18 tt) (q ∙ ap (λ (j : ℕ). zero_or j 23 35) f) (subst (λ (j : ℕ). j < 46) (sym q) (small_or n 23 35 (omega arith) (omega arith)))

      pub form_record : k ≡ 26 → n ≡ at ws p 3 → r ≡ record_form n → FormIs nm ws p r
      unfolding form_of
      form_record e f q = plain 26 e (differ 26 18 tt) (q ∙ ap record_form f) (subst (λ (j : ℕ). j < 46) (sym q) (record_small n))

      pub form_bound : k ≡ 18 → r ≡ zero_or n 18 (41 + n) → Sugars nm ws p n → n < 4 → FormIs nm ws p r
      unfolding form_of
      form_bound e q s l = record { sugar = n; sugars = s; is = q ∙ form_at 18 n e; small = subst (λ (j : ℕ). j < 46) (sym q) (small_or n 18 (41 + n) (omega arith) (omega arith)) }

    module _ {v b : ℕ} (ev : v ≡ at ws p 4) (eb : b ≡ at ws v 0) where
      below_is : b ≡ at ws (at ws p 4) 0
      below_is = eb ∙ ap (λ (j : ℕ). at ws j 0) ev

      pub form_accessor : k ≡ 21 → b ≡ 20 → FormIs nm ws p 45
      unfolding form_of
      form_accessor e f = plain 21 e (differ 21 18 tt) (sym (ap (λ (x : Bool). if x then 45 else 21) (eq-eqb (at ws (at ws p 4) 0) 20 (sym below_is ∙ f)))) (omega arith)

      pub form_other_accessor : k ≡ 21 → (b ≡ 20 → ⊥) → FormIs nm ws p 21
      unfolding form_of
      form_other_accessor e f = plain 21 e (differ 21 18 tt) (sym (ap (λ (x : Bool). if x then 45 else 21) (ne_eqb (at ws (at ws p 4) 0) 20 (λ (z : at ws (at ws p 4) 0 ≡ 20). f (below_is ∙ z))))) (omega arith)

    -- a kind that has no additional form
    other : k < 46 → (k ≡ 12 → ⊥) → (k ≡ 15 → ⊥) → (k ≡ 18 → ⊥) → (k ≡ 21 → ⊥) → (k ≡ 23 → ⊥) → (k ≡ 26 → ⊥) → FormIs nm ws p k
    unfolding form_of
    other l a b c d e f =
        plain k refl c
        (sym (simp (ne_eqb k 12 a, ne_eqb k 15 b, ne_eqb k 18 c, ne_eqb k 21 d, ne_eqb k 23 e, ne_eqb k 26 f))) l

    pub form_low : k < 12 → FormIs nm ws p k
    form_low l = other (omega arith) (λ (z : k ≡ 12). omega arith) (λ (z : k ≡ 15). omega arith) (λ (z : k ≡ 18). omega arith) (λ (z : k ≡ 21). omega arith) (λ (z : k ≡ 23). omega arith) (λ (z : k ≡ 26). omega arith)

    pub form_kind : Some (Prints nm ws p) → (k ≡ 12 → ⊥) → (k ≡ 15 → ⊥) → (k ≡ 18 → ⊥) → (k ≡ 21 → ⊥) → (k ≡ 23 → ⊥) → (k ≡ 26 → ⊥) → FormIs nm ws p k
    form_kind s = other (let h = kind_small s.is.tree in omega (arith, ek, s.is.lies.kind_is))

  pub sugar_small : {n : ℕ} → at ws p 0 ≡ 18 → Some (Prints nm ws p) → Sugars nm ws p n → n < 4
  sugar_small k s g =
      let (b, args, x) = bound_generic_of s.is.tree (sym s.is.lies.kind_is ∙ k) in
      (g.each b args (subst (λ (y : Node). Lies (Named nm) y ws p) x s.is.lies)).few

pub standard_so : {nm : Names} {ws : List ℕ} {p : ℕ} {name : Name} {f g : Bool} → f ≡ g → Standard nm ws p name f → Standard nm ws p name g
standard_so {nm} {ws} {p} {name} e h = subst (Standard nm ws p name) e h
