-- The number of words that are noted is what the check counts. Assumes nothing.
use Rattle.std.specs.Prelude.{if◌then◌else◌}
use mathlib.Core.Path.{◌≡◌, refl, sym, ap, ◌∙◌}
use mathlib.Core.Bool.{Bool, true, false, ◌&&◌, not}
use mathlib.Core.List.{List, [], ◌∷◌, ◌++◌}
use Prim.Native.Nat.{ℕ, zero, suc}
use native.Mathlib.Omega.{arith}
use lib.Dec.{leb, ltb}
use lib.ListN.{length, length-append}
use Rattle.definition.specs.Base.{Name, is, upper}
use Rattle.definition.specs.Text.{Text}
use Rattle.definition.specs.Words.{keep, starts, note_words_from, note_words}
use Rattle.definition.specs.Check.{keep_count, count_words_from}
use Rattle.text_words.specs.Table.{word_of}
use Rattle.text_words.specs.Waits.{Waiting, noted_from, noted_behind}

counted_keep : (x : ℕ) (w : Name) (ws : List Name) → keep_count (suc (length w)) (length ws) ≡ length (keep (x ∷ w) ws)
unfolding keep keep_count
counted_keep x w ws = go (leb 2 (suc (length w)) && ltb (length ws) 26)
  where
    go : (b : Bool) → (if b then suc (length ws) else length ws) ≡ length (if b then ws ++ ((x ∷ w) ∷ []) else ws)
    go true = rw length-append (omega arith)
    go false = refl

either : {n n' : ℕ} (v v' : List Name) (b : Bool) → n ≡ length v → n' ≡ length v' → ◌≡◌ {A = ℕ} (elim b [ true ↦ n | false ↦ n' ]) (length {A = Name} (elim b [ true ↦ v | false ↦ v' ]))
either v v' true h j = h
either v v' false h j = j

counted_from : (w : Name) (previous : ℕ) (t : Text) (ws : List Name) → count_words_from (length w) previous t (length ws) ≡ length (note_words_from w previous t ws)
unfolding note_words_from count_words_from
counted_from [] previous [] ws = refl
counted_from (x ∷ w) previous [] ws = counted_keep x w ws
counted_from [] previous (c ∷ t) ws = either _ _ (starts c) (counted_from (c ∷ []) c t ws) (counted_from [] c t ws)
counted_from (x ∷ w) previous (c ∷ t) ws =
    let grown : suc (length w) ≡ length (w ++ (c ∷ [])) = rw length-append (omega arith) in
    either _ _ (is "_" c)
    (ap (count_words_from 0 c t) (counted_keep x w ws) ∙ counted_from [] c t (keep (x ∷ w) ws))
    (either _ _ (not (upper previous) && upper c)
    (ap (count_words_from 1 c t) (counted_keep x w ws) ∙ counted_from (c ∷ []) c t (keep (x ∷ w) ws))
    (ap (λ (n : ℕ). count_words_from (suc n) c t (length ws)) grown ∙ counted_from (x ∷ (w ++ (c ∷ []))) c t ws))

pub counted : (t : Text) (ws : List Name) → count_words_from 0 0 t (length ws) ≡ length (note_words t ws)
unfolding note_words
counted t ws = counted_from [] 0 t ws

-- so it is for all literals that wait
pub counted_behind : (text : Text) (q : Waiting) (ws : List Name) → noted_behind (count_words_from 0 0) text q (length ws) ≡ length (noted_behind note_words text q ws)
unfolding noted_from
counted_behind text q ws = go q.count
  where
    go : (n : ℕ) → noted_from (count_words_from 0 0) text q.spans n (length ws) ≡ length (noted_from note_words text q.spans n ws)
    go zero = refl
    go (suc n) = ap (count_words_from 0 0 (word_of text q.spans n)) (go n) ∙ counted (word_of text q.spans n) (noted_from note_words text q.spans n ws)

-- a list of that many words
pub some_words : ℕ → List Name
some_words zero = []
some_words (suc n) = (97 ∷ []) ∷ some_words n

pub some_many : (n : ℕ) → n ≡ length (some_words n)
unfolding some_words
some_many zero = refl
some_many (suc n) = ap suc (some_many n)

-- what is known where only the number of words is: the number that the check counts
pub count_noted : (t : Text) {n m : ℕ} → ((ws : List Name) → n ≡ length ws → m ≡ length (note_words t ws)) → m ≡ count_words_from 0 0 t n
count_noted t {n} h = h (some_words n) (some_many n) ∙ sym (counted t (some_words n)) ∙ ap (count_words_from 0 0 t) (sym (some_many n))

pub count_behind : (text : Text) (q : Waiting) {n m : ℕ} → ((ws : List Name) → n ≡ length ws → m ≡ length (noted_behind note_words text q ws)) → m ≡ noted_behind (count_words_from 0 0) text q n
count_behind text q {n} h = h (some_words n) (some_many n) ∙ sym (counted_behind text q (some_words n)) ∙ ap (noted_behind (count_words_from 0 0) text q) (sym (some_many n))
