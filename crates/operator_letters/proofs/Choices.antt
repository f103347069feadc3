-- The steps that choose by a letter. Assumes nothing.
use mathlib.Core.Path.{◌≡◌, refl, ap, ◌∙◌}
use mathlib.Core.Bool.{false}
use mathlib.Core.List.{List, [], ◌∷◌}
use mathlib.Core.Option.{some, none}
use Prim.Native.Nat.{ℕ, ◌+◌, ◌<◌}
use Prim.Native.Char.{Char, code}
use borrow.Author.Tests.{ne_eqb}
use lib.Dec.{eqb}
use native.Mathlib.Omega.{arith}
use lib.ListN.{length, get_or, drop}
use Rattle.std.specs.Prelude.{Result}
use Rattle.definition.specs.Base.{ok, refused, pick, ret}
use Rattle.definition.specs.Text.{Text, Lex, next}
use Rattle.definition.specs.Operators as Op
use Rattle.definition.specs.Operators.{choose, choose_then, requirements, requirement_letters, requiring, on_param, conforms}
use Rattle.definition.specs.declared.Operator.{Operator}
use Rattle.definition.specs.declared.Refusal.{Refusal}
use Rattle.text_cursor.specs.Reads.{rest, Stands}
use Rattle.text_cursor.specs.declared.Reader.{Reader}
use Rattle.text_cursor.proofs.ReaderSteps.{next_cons, reads_on}
use Rattle.text_cursor.proofs.Steps.{front}
use Rattle.operator_operands.specs.OperatorReads.{ReadsOperator}
use Rattle.operator_letters.specs.OperatorsRead.{first_operator}

-- NO LETTER OF A TABLE
-- what is known if no arm of a match on b was taken, with an arm for each letter of the table, in
-- its order: P, followed by one refutation for each letter
abbrev pub Past : {A : Type 0} → Type 0 → ℕ → List (Char × A) → Type 0
Past P b [] = P
Past P b (e ∷ es) = Past (P × (b ≡ code e.0 → ⊥)) b es

pick_later : {A : Type 0} (b : ℕ) (x : Char) (a : A) (es : List (Char × A)) → eqb b (code x) ≡ false → pick b ((x, a) ∷ es) ≡ pick b es
unfolding pick
pick_later b x a es e = rw (pick, e)

past_with : {A : Type 0} (P : Type 0) (b : ℕ) (table : List (Char × A)) → Past P b table → P × (pick b table ≡ none)
unfolding pick
past_with P b [] h = (h, refl)
past_with P b (e ∷ es) h = let r = past_with (P × (b ≡ code e.0 → ⊥)) b es h in (r.0.0, pick_later b e.0 e.1 es (ne_eqb b (code e.0) r.0.1) ∙ r.1)

pub past : {A : Type 0} (b : ℕ) (table : List (Char × A)) → Past (Unit {0}) b table → pick b table ≡ none
past b table h = (past_with (Unit {0}) b table h).1

-- CHOICES
-- a letter that the table has, and one that it has not
module _ (t : Text) {b : ℕ} {u : Text} (h : next t ≡ ok b u) (table : List (Char × Lex Op.Operator)) where
  pub choose_then_some : {m : Lex Op.Operator} → pick b table ≡ some m → choose_then table t ≡ m u
  unfolding choose_then choose
  choose_then_some e = rw (h, e)

  pub choose_then_none : pick b table ≡ none → choose_then table t ≡ refused 9
  unfolding choose_then choose
  choose_then_none e = rw (h, e)

-- in the arm of the letter k, whose entry is a whole operator; and in the arm of no letter
module _ (table : List (Char × Lex Op.Operator)) {old new : Reader} {b : ℕ} (s : Stands (next (rest old)) b 1 old new) where
  pub chosen_then : {k : ℕ} {q : Op.Operator} → b ≡ k → pick k table ≡ some (ret q) → Stands (choose_then table (rest old)) q 0 old new
  chosen_then e p = record { is = choose_then_some _ s.is table (ap (λ (x : ℕ). pick x table) e ∙ p); text = s.text; inside = s.inside; onward = omega (arith, s.onward) }

  pub no_choice_then : Past (Unit {0}) b table → choose_then table (rest old) ≡ refused 9
  no_choice_then m = choose_then_none _ s.is table (past b table m)

-- what the step of a requirement's letter reads
pub required : {old mid new : Reader} {b : ℕ} {m : Lex Op.Operator} {r : Result Operator Refusal} → Stands (next (rest old)) b 1 old mid → pick b requirements ≡ some m → ReadsOperator m mid new r → ReadsOperator requirement_letters old new r
unfolding requirement_letters
required {old = old} s e h = reads_on (rw (next_cons _ s.is, requirement_letters, e) refl) s.text (omega (arith, s.onward)) h

pub required_index : {old mid new : Reader} {b : ℕ} {r : Result Operator Refusal} → Stands (next (rest old)) b 1 old mid → pick b requirements ≡ none → ReadsOperator (requiring on_param conforms) old new r → ReadsOperator requirement_letters old new r
unfolding requirement_letters
required_index {old = old} s e h = reads_on (rw (next_cons _ s.is, requirement_letters, e) refl) refl (omega arith) h

-- the operator at a place of a text
pub first_is : (text : Text) (at : ℕ) → at < length text → first_operator (drop at text) ≡ Op.operator (get_or text at 0) (drop (at + 1) text)
unfolding next
first_is text at h = rw (front text at h) refl
