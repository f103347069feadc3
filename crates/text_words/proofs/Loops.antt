-- The loop of `note`, over what is known of the words. Assumes nothing.
use mathlib.Core.Path.{◌≡◌, refl, sym, ap, ◌∙◌, subst}
use mathlib.Core.List.{List, [], ◌∷◌}
use Prim.Native.Nat.{ℕ, ◌+◌, ◌≤◌, ◌<◌}
use native.Mathlib.Omega.{arith}
use lib.ListN.{length, get_or}
use Rattle.definition.specs.Base.{Name}
use Rattle.definition.specs.Text.{Text}
use Rattle.definition.specs.Words.{keep, note_words_from, note_words}
use Rattle.text_words.specs.Table.{part, Ends, Grows}
use Rattle.text_words.proofs.Parts.{part_none, part_cons}
use Rattle.text_words.proofs.Noting.{note_end}

module _ {S : Type 0} (stands : S → List Name → Type 0) (text : Text) (from to : ℕ) where
  -- what is known of words such that those of the rest make them all
  pub record Meets (words : List Name) (known : S) (start previous at : ℕ) : Type 0 where
    pub found : List Name
    pub met : stands known found
    pub same : note_words (part text from to) words ≡ note_words_from (part text start at) previous (part text at to) found

  -- the words of the bytes before `at` are known, except for the one that is open from `start`
  pub record Noting (first known : S) (start previous at : ℕ) : Type 0 where
    pub opened : start ≤ at
    pub words : (words : List Name) → stands first words → Meets words known start previous at

  pub noting_first : (first : S) → Noting first first from 0 from
  unfolding note_words
  noting_first first = record {
    opened = omega arith;
    words = λ words h. record { found = words; met = h; same = let z : part text from from ≡ [] = part_none text from in rw z };
  }

  module _ {first known : S} {start previous at : ℕ} (g : Noting first known start previous at) (inside : at < to) (fits : to ≤ length text) where
    step : (found : List Name) → note_words_from (part text start at) previous (part text at to) found ≡ note_words_from (part text start at) previous (get_or text at 0 ∷ part text (at + 1) to) found
    step found = ap (λ (u : Text). note_words_from (part text start at) previous u found) (part_cons text at to inside fits)

    pub noting_kept : {next : ℕ} → Ends start at previous (get_or text at 0) next → {after : S} → ((words : List Name) → stands known words → stands after (keep (part text start at) words)) → Noting first after next (get_or text at 0) (at + 1)
    noting_kept t h = record {
      opened = t.most;
      words = λ words k.
          let m = g.words words k in
          let i : at < length text = omega arith in
          record { found = keep (part text start at) m.found; met = h m.found m.met; same = m.same ∙ step m.found ∙ t.noted text (part text (at + 1) to) m.found i refl };
    }

    pub noting_open : Grows start at previous (get_or text at 0) → Noting first known start (get_or text at 0) (at + 1)
    noting_open t = record {
      opened = omega (arith, g.opened);
      words = λ words k.
          let m = g.words words k in
          let i : at < length text = omega arith in
          record { found = m.found; met = m.met; same = m.same ∙ step m.found ∙ t.noted text (part text (at + 1) to) m.found i refl };
    }

  pub noting_last : {first known after : S} {start previous at : ℕ} → Noting first known start previous at → at ≡ to →
      ((words : List Name) → stands known words → stands after (keep (part text start to) words)) → (words : List Name) → stands first words → stands after (note_words (part text from to) words)
  noting_last {after = after} {start} {previous} {at} g z h words k =
      let m = g.words words k in
      subst (stands after) (sym (m.same
      ∙ ap (λ (n : ℕ). note_words_from (part text start n) previous (part text n to) m.found) z
      ∙ ap (λ (u : Text). note_words_from (part text start to) previous u m.found) (part_none text to)
      ∙ note_end (part text start to) previous m.found)) (h m.found m.met)
