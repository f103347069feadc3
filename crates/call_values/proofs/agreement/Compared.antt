-- Two answers, value by value. Assumes nothing.
use mathlib.Core.Path.{◌≡◌, refl, sym, ap, subst, ◌∙◌}
use mathlib.Core.Bool.{Bool, true, false, not, ◌&&◌}
use mathlib.Core.List.{List}
use Prim.Native.Nat.{ℕ, ◌≤◌, ◌<◌}
use native.Mathlib.Omega.{arith}
use borrow.Author.Tests.{eq-eqb}
use lib.Dec.{T, eqb, leb, eqb→eq, leb→le, le→leb, nleb→lt, not_T}
use lib.ListN.{length}
use Rattle.definition.specs.Base.{same}
use Rattle.definition.specs.Calls as Calls
use Rattle.definition.specs.Calls.{refusal}
use Rattle.definition.specs.Alike.{with_text, WholeAlike}
use Rattle.definition.proofs.SameText.{passed, failed, both, same→≡, same_refl}
use Rattle.call_values.specs.Agreement.{same_values, same_answer, due, whole_agree, with_length, values_due}

-- TWO ANSWERS, VALUE BY VALUE
-- `same_values` is equality
all_six : (a b c d e f : Bool) → T (a && b && c && d && e && f) → T a × T b × T c × T d × T e × T f
all_six a b c d e f h =
    let h₅ = both (a && b && c && d && e) f h in
    let h₄ = both (a && b && c && d) e h₅.0 in
    let h₃ = both (a && b && c) d h₄.0 in
    let h₂ = both (a && b) c h₃.0 in
    let h₁ = both a b h₂.0 in
    (h₁.0, h₁.1, h₂.1, h₃.1, h₄.1, h₅.1)

module _ (a b : Calls.Values) where
  pub values_equal : T (same_values a b) → a ≡ b
  values_equal h =
      let q = all_six (eqb a.number b.number) (eqb a.place b.place) (eqb a.steps b.steps) (eqb a.total b.total) (eqb a.wraps b.wraps) (eqb a.length b.length) h in
      λ i. record {
        number = eqb→eq a.number b.number q.0 i;
        place = eqb→eq a.place b.place q.1 i;
        steps = eqb→eq a.steps b.steps q.2 i;
        total = eqb→eq a.total b.total q.3 i;
        wraps = eqb→eq a.wraps b.wraps q.4 i;
        length = eqb→eq a.length b.length q.5 i;
      }

  -- equal values have equal lengths
  pub one_length : same_values a b ≡ true → a.length ≡ b.length
  one_length e = ap (λ (v : Calls.Values). v.length) (values_equal (subst T (sym e) tt))

same_itself : (v : Calls.Values) → same_values v v ≡ true
same_itself v = let e : (n : ℕ) → eqb n n ≡ true = λ n. eq-eqb n n refl in simp e

-- and so is `same_answer`
pub answers_equal : (a b : Calls.Answer) → T (same_answer a b) → a ≡ b
answers_equal a b h =
    let p = both (same_values a.values b.values) (same a.written b.written) h in
    let e = values_equal a.values b.values p.0 in
    let f = same→≡ a.written b.written p.1 in
    λ i. record { values = e i; written = f i }

pub equal_answers : (a b : Calls.Answer) → a ≡ b → same_answer a b ≡ true
equal_answers a b e = subst (λ (x : Calls.Answer). same_answer a x ≡ true) e (rw (same_itself a.values, passed (same a.written a.written) (same_refl a.written)) refl)

-- WHOLE CALLS: `whole_agree` decides `WholeAlike`
module _ (out : ℕ) (text : List ℕ) (c : Calls.Answer) where
  pub due_refused : T (not (eqb c.values.number 0)) → due out text c ≡ c
  due_refused h = rw (failed (eqb c.values.number 0) h) refl

  pub due_accepted : T (eqb c.values.number 0) → length text ≤ out → due out text c ≡ with_text text c
  due_accepted h l = rw (passed (eqb c.values.number 0) h, passed (leb (length text) out) (le→leb (length text) out l)) refl

  pub due_too_long : T (eqb c.values.number 0) → out < length text → due out text c ≡ refusal 12 0
  due_too_long h l =
      rw (passed (eqb c.values.number 0) h, failed (leb (length text) out) (not_T (leb (length text) out) (λ q. omega (arith, leb→le (length text) out q, l)))) refl

  pub agree_alike : (r : Calls.Answer) → whole_agree out text r c ≡ true → WholeAlike out text r c
  agree_alike r h =
      let e : r ≡ due out text c = answers_equal r (due out text c) (subst T (sym h) tt) in
      record { refused = λ q. e ∙ due_refused q; accepted = λ q l. e ∙ due_accepted q l; too_long = λ q l. e ∙ due_too_long q l }

  pub alike_agree : (r : Calls.Answer) → WholeAlike out text r c → whole_agree out text r c ≡ true
  alike_agree r h = equal_answers r (due out text c) (go (eqb c.values.number 0) refl (leb (length text) out) refl)
    where
      go : (b : Bool) → eqb c.values.number 0 ≡ b → (l : Bool) → leb (length text) out ≡ l → r ≡ due out text c
      go false e l q = let x : T (not (eqb c.values.number 0)) = subst (λ (z : Bool). T (not z)) (sym e) tt in h.refused x ∙ sym (due_refused x)
      go true e true q =
          let x : T (eqb c.values.number 0) = subst T (sym e) tt in
          let y = leb→le (length text) out (subst T (sym q) tt) in
          h.accepted x y ∙ sym (due_accepted x y)
      go true e false q =
          let x : T (eqb c.values.number 0) = subst T (sym e) tt in
          let y = nleb→lt (length text) out (subst (λ (z : Bool). T (not z)) (sym q) tt) in
          h.too_long x y ∙ sym (due_too_long x y)

-- the required answer of a whole reading, by the values alone
module _ (reading check : Calls.Values) where
  pub values_due_accepted : check.number ≡ 0 → reading.number ≡ 0 → with_length reading.length check ≡ values_due reading check
  values_due_accepted h k = rw (eq-eqb check.number 0 h, eq-eqb reading.number 0 k) refl
