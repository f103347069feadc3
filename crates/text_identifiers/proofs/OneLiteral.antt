-- An identifier that does not begin with `0` is one literal. Assumes nothing.
use mathlib.Core.Path.{◌≡◌, refl, sym, ap, subst, ◌∙◌}
use mathlib.Core.Bool.{true, false}
use mathlib.Core.List.{List, [], ◌∷◌}
use Prim.Native.Nat.{ℕ, ◌+◌, ◌-◌, ◌<◌}
use native.Mathlib.Omega.{arith}
use lib.ListN.{length, get_or, drop}
use Rattle.definition.specs.Base.{Name, is, ok, refused, and_then}
use Rattle.definition.specs.Text.{Text, next_if}
use Rattle.definition.specs.Words as W
use Rattle.definition.specs.Words.{literal, is_empty}
use Rattle.definition.specs.Check as C
use Rattle.definition.specs.declared.Refusal.{Refusal}
use Rattle.definition.proofs.WordsAdded.{begins_refl}
use Rattle.text_cursor.proofs.Steps.{next_if_leaves}
use Rattle.text_words.specs.Table.{part}
use Rattle.text_words.proofs.Parts.{part_length}
use Rattle.text_identifiers.specs.Rounds.{takes, round, got, named}
use Rattle.text_cursor.specs.declared.Reader.{Reader}
use Rattle.text_cursor.specs.Reads.{rest, Left, Refuses}
use Rattle.text_identifiers.specs.declared.Extent.{Extent}
use Rattle.text_identifiers.specs.Identifiers.{NoZero, Lies, Taken, Found, Missed}
use Rattle.text_identifiers.proofs.Steps.{closing_takes}
use Rattle.text_identifiers.proofs.Rounds.{Reaches, standing, running_first, running_last, running_refused}

-- a byte that is not taken remains
pub no_zero : {old new : Reader} → Left (next_if (is "0")) old new → NoZero new.text.now new.at
no_zero {old} {new} h =
    let q : rest new ≡ rest old = rw (h.text, h.here) in
    record { is = ap (next_if (is "0")) q ∙ h.is }

module _ {S : Type 0} (count : S → ℕ) (note : Text → S → S) (text : Text) (words : S) (at : ℕ) (z : NoZero text at) (f : ℕ) (h : length text - at < f) where
  first : (known : ℕ) → round known false false true (drop at text) ≡ and_then (literal false (drop at text)) (λ s v. ok (takes true false s) v)
  first known = closing_takes (drop at text) false true false z.is

  pub plain_read : {a b : ℕ} {words' : S} → Lies (literal false (drop at text)) (λ s. s) text at a b → words' ≡ note (part text a b) words →
      Reaches (named count note f false false words true (drop at text)) (got false words') text (at + 1) b
  plain_read {a} {b} l w =
      running_last count note false text (running_first count note false text words false at) refl f h refl
      (record { is = first (count words) ∙ ap (λ o. and_then o (λ s v. ok (takes true false s) v)) l.is; onward = l.onward; some = l.some; inside = l.inside }) w

  pub plain_refused : {n : ℕ} → literal false (drop at text) ≡ refused n → named count note f false false words true (drop at text) ≡ refused n
  plain_refused e =
      running_refused count note false text (running_first count note false text words false at) refl f h
      (first (count words) ∙ ap (λ o. and_then o (λ s v. ok (takes true false s) v)) e)

-- over a reader, and what is known of the words
module _ {S : Type 0} (stands : S → List Name → Type 0) (old new : Reader) (z : NoZero old.text.now old.at) (f : ℕ) (h : length old.text.now - old.at < f) (words : List Name) {known : S} (met : stands known words) where
  pub plain_found : {known' : S} {e : Extent} → Taken (literal false (rest old)) (λ s. s) old new e →
      ((ws : List Name) → stands known ws → stands known' (W.note_words (part old.text.now e.from e.to) ws)) → Found (stands known') (named length W.note_words f false false words true (rest old)) old new
  plain_found {known'} {e} t a = record {
    words = W.note_words (part old.text.now e.from e.to) words;
    met = a words met;
    is = standing t.text (subst (λ (k : ℕ). Reaches (named length W.note_words f false false words true (rest old)) (got false (W.note_words (part old.text.now e.from e.to) words)) old.text.now (old.at + 1) k) (sym t.here)
        (plain_read length W.note_words old.text.now words old.at z f h t.lies refl));
  }

  pub plain_missed : {x : Refusal} → Refuses (literal false (rest old)) x old new → Missed (stands known) words (named length W.note_words f false false words true (rest old)) old new x
  plain_missed e = record { words = words; met = met; begins = begins_refl words; is = record { is = plain_refused length W.note_words old.text.now words old.at z f h e.is; text = e.text } }

-- THE NAME
some_name : (name : Name) → 0 < length name → is_empty name ≡ false
unfolding is_empty
some_name [] h = absurd (omega arith)
some_name (b ∷ name) h = refl

-- the identifier does not begin with `0`: it is the literal, and its words are noted
module _ (text : Text) (at : ℕ) (l : at < length text) (z : is "0" (get_or text at 0) ≡ false) (words : List Name) where
  pub one_literal : {a b : ℕ} → Lies (literal false (drop at text)) (λ s. s) text at a b → W.identifier words (drop at text) ≡ ok (W.identified (part text a b) (W.note_words (part text a b) words)) (drop b text)
  unfolding W.identifier W.identifier_from
  one_literal {a} {b} h =
      let k : 0 < length (part text a b) = rw (part_length text a b h.inside) (omega (arith, h.some)) in
      rw (W.identifier, next_if_leaves text at (is "0") l z, W.identifier_from, next_if_leaves text at (is "0") l z, h.is, some_name (part text a b) k)

  pub one_refused : {n : ℕ} → literal false (drop at text) ≡ refused n → W.identifier words (drop at text) ≡ refused n
  unfolding W.identifier W.identifier_from
  one_refused e = rw (W.identifier, next_if_leaves text at (is "0") l z, W.identifier_from, next_if_leaves text at (is "0") l z, e)

-- the same, where words are a count
module _ (text : Text) (at : ℕ) (l : at < length text) (z : is "0" (get_or text at 0) ≡ false) (known : ℕ) where
  pub one_counted : {a b : ℕ} → Lies (literal false (drop at text)) (λ s. s) text at a b → C.identifier known (drop at text) ≡ ok (C.identified false (C.count_words_from 0 0 (part text a b) known)) (drop b text)
  unfolding C.identifier C.identifier_from
  one_counted {a} {b} h =
      let k : 0 < length (part text a b) = rw (part_length text a b h.inside) (omega (arith, h.some)) in
      rw (C.identifier, next_if_leaves text at (is "0") l z, C.identifier_from, next_if_leaves text at (is "0") l z, h.is, some_name (part text a b) k)

  pub one_not_counted : {n : ℕ} → literal false (drop at text) ≡ refused n → C.identifier known (drop at text) ≡ refused n
  unfolding C.identifier C.identifier_from
  one_not_counted e = rw (C.identifier, next_if_leaves text at (is "0") l z, C.identifier_from, next_if_leaves text at (is "0") l z, e)
