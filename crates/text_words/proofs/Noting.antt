-- One byte of `note_words_from`. Assumes nothing.
use mathlib.Core.Path.{◌≡◌, refl, sym}
use mathlib.Core.Bool.{Bool, true, false, ◌&&◌, not, and-false}
use mathlib.Core.List.{List, [], ◌∷◌, ◌++◌}
use Prim.Native.Nat.{ℕ, ◌+◌, ◌≤◌, ◌<◌}
use native.Mathlib.Omega.{arith}
use borrow.Author.Tests.{lt-leb}
use lib.Dec.{leb}
use lib.ListN.{length}
use Rattle.definition.specs.Base.{Name, is, upper}
use Rattle.definition.specs.Text.{Text}
use Rattle.definition.specs.Words.{keep, starts, note_words_from}
use Rattle.text_cursor.proofs.Steps.{differ}
use Rattle.text_words.specs.Table.{part, Ends, Grows}
use Rattle.text_words.proofs.Parts.{part_none, part_snoc, part_one, part_length}

module _ (p c : ℕ) (t : Text) where
  note_starts : (ws : List Name) → starts c ≡ true → note_words_from [] p (c ∷ t) ws ≡ note_words_from (c ∷ []) c t ws
  unfolding note_words_from
  note_starts ws e = rw (note_words_from, e)

  note_skips : (ws : List Name) → starts c ≡ false → note_words_from [] p (c ∷ t) ws ≡ note_words_from [] c t ws
  unfolding note_words_from
  note_skips ws e = rw (note_words_from, e)

  note_ends : (word : Name) (ws : List Name) → 0 < length word → is "_" c ≡ true → note_words_from word p (c ∷ t) ws ≡ note_words_from [] c t (keep word ws)
  unfolding note_words_from
  note_ends [] ws h e = absurd (omega arith)
  note_ends (x ∷ word) ws h e = rw (note_words_from, e)

  note_splits : (word : Name) (ws : List Name) → 0 < length word → is "_" c ≡ false → (not (upper p) && upper c) ≡ true → note_words_from word p (c ∷ t) ws ≡ note_words_from (c ∷ []) c t (keep word ws)
  unfolding note_words_from
  note_splits [] ws h e k = absurd (omega arith)
  note_splits (x ∷ word) ws h e k = rw (note_words_from, e, k)

  note_grows : (word : Name) (ws : List Name) → 0 < length word → is "_" c ≡ false → (not (upper p) && upper c) ≡ false → note_words_from word p (c ∷ t) ws ≡ note_words_from (word ++ (c ∷ [])) c t ws
  unfolding note_words_from
  note_grows [] ws h e k = absurd (omega arith)
  note_grows (x ∷ word) ws h e k = rw (note_words_from, e, k)

-- at the end the open word ends; if none is open, none is kept
pub note_end : (word : Name) (p : ℕ) (ws : List Name) → note_words_from word p [] ws ≡ keep word ws
unfolding note_words_from keep
note_end [] p ws = refl
note_end (x ∷ word) p ws = refl

-- THE TURNS
-- what ends a word: a capital, not after a capital
pub after_capital : (a b : Bool) → a ≡ true → (not a && b) ≡ false
after_capital true b e = refl
after_capital false b e = absurd (differ (sym e))

pub both : (a b : Bool) → a ≡ false → b ≡ true → (not a && b) ≡ true
both true b e k = absurd (differ e)
both false b e k = k

pub no_capital : (a b : Bool) → b ≡ false → (not a && b) ≡ false
no_capital true b e = refl
no_capital false b e = e

-- what follows `_` is not a capital
pub past_capitals : (b : ℕ) → 95 < b → upper b ≡ false
past_capitals b h =
    let l : 90 < b = omega arith in
    rw (lt-leb b 90 l) (and-false (leb 65 b))

-- a word of no bytes is not kept
keep_none : (ws : List Name) → keep [] ws ≡ ws
unfolding keep
keep_none ws = refl

module _ (at p b : ℕ) where
  pub opens : starts b ≡ true → Grows at at p b
  opens e = record { noted = λ text t ws h k. rw (part_none text at, part_one text at h, k) (note_starts p b t ws e) }

  pub skips : starts b ≡ false → Ends at at p b (at + 1)
  skips e = record {
    most = omega arith;
    noted = λ text t ws h k. rw (part_none text at, part_none text (at + 1), keep_none ws) (note_skips p b t ws e);
  }

  module _ (start : ℕ) (l : start < at) where
    long : (text : Text) → at < length text → 0 < length (part text start at)
    long text h = let k : at ≤ length text = omega arith in rw (part_length text start at k) (omega arith)

    pub ends : is "_" b ≡ true → Ends start at p b (at + 1)
    ends e = record {
      most = omega arith;
      noted = λ text t ws h k. rw (part_none text (at + 1)) (note_ends p b t (part text start at) ws (long text h) e);
    }

    module _ (e : is "_" b ≡ false) where
      pub splits : (not (upper p) && upper b) ≡ true → Ends start at p b at
      splits k = record {
        most = omega arith;
        noted = λ text t ws h q. rw (part_one text at h, q) (note_splits p b t (part text start at) ws (long text h) e k);
      }

      pub grows : (not (upper p) && upper b) ≡ false → Grows start at p b
      grows k = record {
        noted = λ text t ws h q. let m : start ≤ at = omega arith in rw (part_snoc text start at m h, q) (note_grows p b t (part text start at) ws (long text h) e k);
      }
