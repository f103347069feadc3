-- What the number of a name represents. Assumes nothing.
use mathlib.Core.Path.{◌≡◌, refl, sym, ap, ◌∙◌}
use mathlib.Core.Bool.{Bool, true, false, not, ◌&&◌}
use mathlib.Core.List.{List, [], ◌∷◌}
use Prim.Native.Nat.{ℕ, zero, suc, ◌+◌, ◌-◌, ◌≤◌, ◌<◌}
use native.Mathlib.Omega.{arith}
use Prim.Native.String.{String}
use borrow.Author.Tests.{ltb-true, ltb-false, ne_eqb}
use lib.Dec.{T, eqb, ltb}
use lib.Seq.{drop-nil}
use lib.ListN.{length, drop, get_or, get_or-eq_default}
use Rattle.definition.specs.Base.{Name, bytes, same, ok, refused}
use Rattle.definition.specs.Text.{Text}
use Rattle.definition.specs.Words as W
use Rattle.definition.specs.Words.{opened as opened₁}
use Rattle.text_words.specs.Table.{Words}
use Rattle.definition.proofs.SameText.{both}
use Rattle.operator_names.specs.Fixed.{fixed_names, fixed}
use Rattle.text_output.specs.Appends.{Appended, appended_is}
use Rattle.text_output.specs.declared.Sink.{Sink}
use Rattle.print_names.specs.declared.source.Source.{Source}
use Rattle.text_spelling.specs.Spelled.{Spells, Spelled}
use Rattle.tree_records.specs.Holds.{Named, spelled, fixed as is-fixed}
use Rattle.tree_records.specs.NamesOf.{naming}
use Rattle.print_names.specs.Naming.{Puts, Alone, naming_of}

no_ok : {A S : Type 0} {a : A} {s : S} {r : ℕ} → refused r ≡ ok a s → ⊥
no_ok e = let z : ◌≡◌ {A = ℕ} 0 1 = cc in omega arith

nothing_there : (words : List Name) (r : W.Identified) (u : Text) → W.identifier words [] ≡ ok r u → ⊥
unfolding opened₁
nothing_there words r u e = no_ok e

drop_past : (k : ℕ) (t : Text) → length t ≤ k → drop k t ≡ []
drop_past k [] h = drop-nil k
drop_past zero (x ∷ t) h = absurd (omega arith)
drop_past (suc k) (x ∷ t) h = drop_past k t (omega arith)

module _ (text : Text) (w : Words) {k : ℕ} {n : Name} where
  -- below 65,536 it is the offset of an identifier
  pub named_spells : k < 65536 → Named (naming text w) k n → Spells text w k n
  named_spells h (spelled words r u l e b q) = record { words = words; read = r; rest = u; is = e; later = b; named = q }
  named_spells h (is-fixed l m e) = absurd (omega arith)

  -- from there on it is the number of a fixed name
  pub named_fixed : 65536 ≤ k → Named (naming text w) k n → bytes (fixed (k - 65536)) ≡ n
  named_fixed h (spelled words r u l e b q) = absurd (omega arith)
  named_fixed h (is-fixed l m e) = e

  -- no identifier begins at the end of the text
  pub offset_in : k < 65536 → Named (naming text w) k n → k ≤ length text
  offset_in h a = by_test (ltb (length text) k) refl
    where
      by_test : (b : Bool) → ltb (length text) k ≡ b → k ≤ length text
      by_test false e = ltb-false (length text) k e
      by_test true e =
          let s = named_spells h a in
          let l : length text < k = ltb-true (length text) k e in
          let d : drop k text ≡ [] = drop_past k text (omega arith) in
          absurd (nothing_there s.words s.read s.rest (ap (W.identifier s.words) (sym d) ∙ s.is))

module _ (s : Source) {k : ℕ} {o o' : Sink} where
  pub puts_spelled : k < 65536 → Spelled s.text.now s.words.now k o o' → Puts (Named (naming_of s) k) o o'
  puts_spelled l a = record { same = a.same; room = a.room; len = a.len; each = λ n h. a.is n (named_spells s.text.now s.words.now l h) }

  pub puts_fixed : 65536 ≤ k → Appended o o' (bytes (fixed (k - 65536))) → Puts (Named (naming_of s) k) o o'
  puts_fixed l a = record { same = a.same; room = a.room; len = a.wrote.len; each = λ n h. appended_is (named_fixed s.text.now s.words.now l h) a }

pub same_fixed : (text : Text) (w : Words) {k n : ℕ} {name known : Name} → 65536 ≤ k → Alone n known → Named (naming text w) k name → eqb (k - 65536) n ≡ same name known
same_fixed text w {k} {n} {name} {known} l a h =
    sym (a.only (k - 65536)) ∙ ap (λ (x : Name). same x known) (named_fixed text w l h)

-- NAMES THAT OCCUR ONCE IN THE TABLE
abbrev alike : Bool → Bool → Bool
alike true b = b
alike false b = not b

alike_is : (a b : Bool) → T (alike a b) → a ≡ b
alike_is true true h = refl
alike_is true false h = absurd h
alike_is false true h = absurd h
alike_is false false h = refl

-- of the names from the number i on, only the one with number n is this one
unfoldable once : ℕ → Name → ℕ → List String → Bool
once n name i [] = true
once n name i (s ∷ ss) = alike (same (bytes s) name) (eqb i n) && once n name (suc i) ss

once_at : (n : ℕ) (name : Name) (ss : List String) (i m : ℕ) → T (once n name i ss) → m < length ss → same (bytes (get_or ss m "")) name ≡ eqb (i + m) n
unfolding once
once_at n name [] i m h l = absurd (omega arith)
once_at n name (s ∷ ss) i zero h l = alike_is (same (bytes s) name) (eqb i n) (both (alike (same (bytes s) name) (eqb i n)) (once n name (suc i) ss) h).0 ∙ ap (λ (j : ℕ). eqb j n) (omega arith)
once_at n name (s ∷ ss) i (suc m) h l =
    let e : suc i + m ≡ i + suc m = omega arith in
    once_at n name ss (suc i) m (both (alike (same (bytes s) name) (eqb i n)) (once n name (suc i) ss) h).1 (omega arith) ∙ ap (λ (j : ℕ). eqb j n) e

nothing_same : (name : Name) → 0 < length name → same (bytes "") name ≡ false
unfolding bytes
nothing_same [] h = absurd (omega arith)
nothing_same (x ∷ name) h = refl

alone : (n : ℕ) (name : Name) → n < length fixed_names → T (once n name 0 fixed_names) → 0 < length name → bytes (fixed n) ≡ name → Alone n name
unfolding fixed
alone n name small o l e = record {
  is = e;
  only = λ m. by_test m (ltb m (length fixed_names)) refl;
}
  where
    by_test : (m : ℕ) (b : Bool) → ltb m (length fixed_names) ≡ b → same (bytes (fixed m)) name ≡ eqb m n
    by_test m true q = once_at n name fixed_names 0 m o (ltb-true m (length fixed_names) q) ∙ ap (λ (j : ℕ). eqb j n) (omega arith)
    by_test m false q =
        let g : length fixed_names ≤ m = ltb-false m (length fixed_names) q in
        let d : get_or fixed_names m "" ≡ "" = get_or-eq_default fixed_names "" g in
        ap (λ (s : String). same (bytes s) name) d ∙ nothing_same name l ∙ sym (ne_eqb m n (λ (x : m ≡ n). omega arith))

pub swift_alone : Alone 0 (bytes "Swift")
unfolding once fixed_names fixed bytes
swift_alone = alone 0 (bytes "Swift") (omega arith) tt (omega arith) refl

pub array_alone : Alone 4 (bytes "Array")
unfolding once fixed_names fixed bytes
array_alone = alone 4 (bytes "Array") (omega arith) tt (omega arith) refl

pub dictionary_alone : Alone 7 (bytes "Dictionary")
unfolding once fixed_names fixed bytes
dictionary_alone = alone 7 (bytes "Dictionary") (omega arith) tt (omega arith) refl

pub optional_alone : Alone 28 (bytes "Optional")
unfolding once fixed_names fixed bytes
optional_alone = alone 28 (bytes "Optional") (omega arith) tt (omega arith) refl
