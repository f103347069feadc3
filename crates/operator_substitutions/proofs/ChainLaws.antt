-- The letters after `A`, item by item. Assumes nothing.
use mathlib.Core.Path.{◌≡◌, refl, sym, ap, subst, ◌∙◌}
use mathlib.Core.Bool.{Bool, true, false}
use mathlib.Core.Logic.{inl, inr}
use mathlib.Core.List.{List, [], ◌∷◌, ◌++◌, append_assoc, append-nil}
use mathlib.Core.Option.{Option, some, none}
use Prim.Native.Nat.{ℕ, zero, suc, ◌+◌, ◌-◌, ◌*◌, ◌^◌, ◌≤◌, ◌<◌, min}
use native.Mathlib.Omega.{arith}
use native.Mathlib.Nat.{le_of_suc-le-suc, not-suc-le-zero, le_refl}
use borrow.Author.Tests.{ltb-true, ltb-false, lt-leb, ne_eqb}
use lib.Dec.{ltb, eqb}
use lib.ListN.{length}
use Rattle.definition.specs.Base.{is, digit, lower, upper, Out, ok, refused, good, bad, pick}
use Rattle.definition.specs.Text.{Text, peek, digits, natural}
use Rattle.definition.specs.Operators.{operator, operators, Operator, Substitution, substitution, substitutions, substitutions_from, substitutions_letters}
use Rattle.text_cursor.proofs.Steps.{digit_high, natural_reads, natural_other}
use Rattle.operator_substitutions.specs.Chain.{Chain, more, times_of, past_of, item, chain_from, chain_after, chain, outcome, Same, Item, Copied}
use Rattle.std.specs.Prelude.{Result, Ok, Err}
use Rattle.definition.specs.declared.Refusal.{Refusal}
use Rattle.text_cursor.specs.Reads.{rest}
use Rattle.text_cursor.specs.declared.Reader.{Reader}
use Rattle.operator_substitutions.specs.declared.Copies.{Copies}

-- THE REST AFTER A NUMBER
-- the rest is no longer than k, and does not begin with a digit
abbrev pub Rest : ℕ → Out Text ℕ → Type 0
Rest k (ok n u) = (length u ≤ k) × (peek digit u ≡ false)
Rest k (refused r) = Unit {0}

digits_rest : (k value : ℕ) (t : Text) → length t ≤ k → Rest k (digits value t)
unfolding digits peek
digits_rest k value [] h = (h, refl)
digits_rest k value (c ∷ t) h =
    let l : length t ≤ k = omega arith in
    (elim (digit c) as (λ d. digit c ≡ d → Rest k (elim d as (λ b. Out Text ℕ) [
      | true ↦ elim (ltb (value * 10 + (c - 48)) (2 ^ 64)) as (λ b. Out Text ℕ) [ true ↦ digits (value * 10 + (c - 48)) t | false ↦ refused 9 ]
      | false ↦ ok value (c ∷ t)
    ])) [
      | true ↦ λ e. elim (ltb (value * 10 + (c - 48)) (2 ^ 64)) as (λ s. Rest k (elim s as (λ b. Out Text ℕ) [ true ↦ digits (value * 10 + (c - 48)) t | false ↦ refused 9 ])) [ true ↦ digits_rest k (value * 10 + (c - 48)) t l | false ↦ tt ]
      | false ↦ λ e. (h, e)
    ]) refl

natural_rest_by : (c : ℕ) (t : Text) (d : Bool) → digit c ≡ d → Rest (length t) (natural (c ∷ t))
natural_rest_by c t true e = subst (Rest (length t)) (sym (natural_reads (c ∷ t) 0 (omega arith) e)) (digits_rest (length t) (c - 48) t (le_refl _))
natural_rest_by c t false e = subst (Rest (length t)) (sym (natural_other (c ∷ t) 0 (omega arith) e)) tt

natural_rest : (c : ℕ) (t : Text) → Rest (length t) (natural (c ∷ t))
natural_rest c t = natural_rest_by c t (digit c) refl

-- FUEL DOES NOT MATTER
item_same : (go go' : Option ℕ → Text → Chain) (repeat : Option ℕ) (c : ℕ) (t : Text) → ((r : Option ℕ) (v : Text) → length v ≤ length t → go r v ≡ go' r v) → (l u d : Bool) (o : Out Text ℕ) → Rest (length t) o → item go repeat c t l u d o ≡ item go' repeat c t l u d o
unfolding item
item_same go go' repeat c t h true u d o k = ap (more (substitution (times_of repeat) (c - 97))) (h none t (le_refl _))
item_same go go' repeat c t h false true d o k = refl
item_same go go' repeat c t h false false true o k = refl
item_same go go' repeat c t h false false false (ok n v) k = h (some n) v k.0
item_same go go' repeat c t h false false false (refused r) k = refl

pub chain_fuel : (f g : ℕ) (repeat : Option ℕ) (t : Text) → length t ≤ f → length t ≤ g → chain_from f repeat t ≡ chain_from g repeat t
unfolding chain_from
chain_fuel zero zero repeat t h k = refl
chain_fuel zero (suc g) repeat [] h k = refl
chain_fuel zero (suc g) repeat (c ∷ t) h k = absurd (not-suc-le-zero h)
chain_fuel (suc f) zero repeat [] h k = refl
chain_fuel (suc f) zero repeat (c ∷ t) h k = absurd (not-suc-le-zero k)
chain_fuel (suc f) (suc g) repeat [] h k = refl
chain_fuel (suc f) (suc g) repeat (c ∷ t) h k =
    item_same (chain_from f) (chain_from g) repeat c t
    (λ r v l. chain_fuel f g r v (omega (arith, le_of_suc-le-suc h)) (omega (arith, le_of_suc-le-suc k)))
    (lower c) (upper c) (is "_" c) (natural (c ∷ t)) (natural_rest c t)

-- THE DEFINITION'S LETTERS
-- with what was done before
abbrev pub outcome_after : List Substitution → Chain → Out Text Operator
outcome_after done ch = ok (substitutions (done ++ ch.items) ch.late) ch.rest

module _ (f : ℕ) (repeat : Option ℕ) (done : List Substitution) (c : ℕ) (t : Text) (h : (r : Option ℕ) (d : List Substitution) (v : Text) → substitutions_from f r d v ≡ outcome_after d (chain_from f r v)) where
  by_item : (l u d : Bool) (o : Out Text ℕ) → ◌≡◌ {A = Out Text Operator} (elim l as (λ b. Out Text Operator) [
    | true ↦ substitutions_from f none (done ++ (substitution (times_of repeat) (c - 97) ∷ [])) t
    | false ↦ elim u as (λ b. Out Text Operator) [
      | true ↦ ok (substitutions (done ++ (substitution (times_of repeat) (c - 65) ∷ [])) (good tt)) t
      | false ↦ elim d as (λ b. Out Text Operator) [
        | true ↦ ok (substitutions (done ++ (substitution 1 (past_of repeat) ∷ [])) (good tt)) t
        | false ↦ elim o as (λ b. Out Text Operator) [
          | ok n v ↦ substitutions_from f (some n) done v
          | refused r ↦ ok (substitutions done (bad r)) t
        ]
      ]
    ]
  ]) (outcome_after done (item (chain_from f) repeat c t l u d o))
  unfolding item
  by_item true u d o =
      h none (done ++ (substitution (times_of repeat) (c - 97) ∷ [])) t
      ∙ ap (λ x. ok (substitutions x (chain_from f none t).late) (chain_from f none t).rest) (append_assoc done (substitution (times_of repeat) (c - 97) ∷ []) (chain_from f none t).items)
  by_item false true d o = refl
  by_item false false true o = refl
  by_item false false false (ok n v) = h (some n) done v
  by_item false false false (refused r) = ap (λ x. ok (substitutions x (bad r)) t) (sym (append-nil done))

pub letters_from : (f : ℕ) (repeat : Option ℕ) (done : List Substitution) (t : Text) → substitutions_from f repeat done t ≡ outcome_after done (chain_from f repeat t)
unfolding substitutions_from chain_from
letters_from zero repeat done t = ap (λ x. ok (substitutions x (bad 9)) t) (sym (append-nil done))
letters_from (suc f) repeat done [] = ap (λ x. ok (substitutions x (bad 9)) []) (sym (append-nil done))
letters_from (suc f) repeat done (c ∷ t) = by_item f repeat done c t (letters_from f) (lower c) (upper c) (is "_" c) (natural (c ∷ t))

-- any sufficient fuel gives the same letters
pub letters_are : (f : ℕ) (done : List Substitution) (t : Text) → length t ≤ f → substitutions_from f none done t ≡ outcome_after done (chain t)
letters_are f done t h = letters_from f none done t ∙ ap (outcome_after done) (chain_fuel f (length t) none t h (le_refl _))

-- the chain is the definition's
pub letters_chain : (t : Text) → substitutions_letters t ≡ outcome (chain t)
unfolding substitutions_letters
letters_chain t = letters_from (length t) none [] t

pub operator_chain : (t : Text) → operator 65 t ≡ outcome (chain t)
unfolding operator operators pick
operator_chain t = letters_chain t

-- A NUMBER THERE
digit_not_lower : (b : ℕ) → digit b ≡ true → lower b ≡ false
digit_not_lower b e = let h = digit_high b e in let l : b < 97 = omega arith in simp (lt-leb 97 b l)

digit_not_upper : (b : ℕ) → digit b ≡ true → upper b ≡ false
digit_not_upper b e = let h = digit_high b e in let l : b < 65 = omega arith in simp (lt-leb 65 b l)

digit_not_past : (b : ℕ) → digit b ≡ true → eqb b 95 ≡ false
digit_not_past b e = let h = digit_high b e in let n : b ≡ 95 → ⊥ = λ k. omega arith in ne_eqb b 95 n

of_number : (b : ℕ) (u : Text) → digit b ≡ true → chain (b ∷ u) ≡ item (chain_from (length u)) none b u false false false (natural (b ∷ u))
unfolding chain_from item
of_number b u d = rw (digit_not_lower b d, digit_not_upper b d, digit_not_past b d)

pub chain_number : (t : Text) {n : ℕ} {v : Text} → peek digit t ≡ true → length v < length t → natural t ≡ ok n v → chain t ≡ chain_after (some n) v
unfolding peek item
chain_number [] d l e = cc
chain_number (b ∷ u) {n} {v} d l e =
    of_number b u d ∙ ap (item (chain_from (length u)) none b u false false false) e ∙ chain_fuel (length u) (length v) (some n) v (omega (arith, l)) (le_refl _)

-- what follows a number begins with no digit
pub number_rest : (t : Text) {n : ℕ} {v : Text} → natural t ≡ ok n v → peek digit v ≡ false
unfolding natural peek
number_rest [] e = cc
number_rest (c ∷ t) e = (subst (Rest (length t)) e (natural_rest c t)).1

-- the index of `_` after a count, or one that is past every node as well
pub saturated : {m : ℕ} (n : ℕ) → m ≡ min (n + 27) 18446744073709551615 → Same m (n + 27)
saturated {m} n e =
    (elim (ltb (n + 27) 18446744073709551615) as (λ b. ltb (n + 27) 18446744073709551615 ≡ b → Same m (n + 27)) [
      | true ↦ λ k. let h = ltb-true _ _ k in inl (omega (arith, e, h))
      | false ↦ λ k. let h = ltb-false _ _ k in inr (omega (arith, e, h), omega (arith, h))
    ]) refl

-- AFTER A CALL
item_on : {ch ch' : Chain} {old mid : Reader} (new : Reader) (t i : ℕ) (last : Bool) → ch ≡ ch' → mid.text ≡ old.text → old.at ≤ mid.at → Item ch' mid new t i last → Item ch old new t i last
item_on new t i false e k l h = record { is = e ∙ h.is; some = h.some; text = h.text ∙ k; inside = h.inside; onward = omega arith }
item_on new t i true e k l h = record { index = h.index; same = h.same; is = e ∙ h.is; some = h.some; text = h.text ∙ k; inside = h.inside; onward = omega arith }

-- an item of a chain that goes on as another, from an earlier place
pub copied_on : {go go' : Text → Chain} {old mid new : Reader} {r : Result Copies Refusal} → go (rest old) ≡ go' (rest mid) → mid.text ≡ old.text → old.at ≤ mid.at → Copied go' mid new r → Copied go old new r
copied_on {new = new} {r = Ok x} e t l h = record { says = item_on new x.times x.index x.last e t l h.says; text = h.text ∙ t }
copied_on {r = Err f} e t l h = let b = h.says in record { says = record { rest = b.rest; is = e ∙ b.is }; text = h.text ∙ t }
