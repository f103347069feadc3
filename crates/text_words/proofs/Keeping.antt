-- The table, and one more word. Assumes nothing.
use mathlib.Core.Path.{◌≡◌, refl, sym, ap, ◌∙◌}
use mathlib.Core.Bool.{Bool, true, false, ◌&&◌, and-eq-true_iff}
use mathlib.Core.List.{List, [], ◌∷◌, ◌++◌}
use Prim.Native.Nat.{ℕ, zero, suc, ◌+◌, ◌-◌, ◌≤◌, ◌<◌}
use native.Mathlib.Omega.{arith}
use native.Mathlib.Numerals.{add-one}
use borrow.Author.Count.{below_more}
use borrow.Author.Tests.{leb-true, ltb-true}
use lib.Dec.{leb, ltb}
use lib.ListN.{length, get_or, set, take, drop, length-append}
use lib.Seq.{get_or-set_same, get_or-set_other}
use Rattle.definition.specs.Base.{Name}
use Rattle.definition.specs.Text.{Text}
use Rattle.definition.specs.Words.{keep}
use Rattle.text_words.specs.Table.{spanned, Words, span_at, paired, spans_of, words_of, table, Fitting, Lists}
use Rattle.text_words.specs.declared.spans.Span.{Span}
use Rattle.text_words.proofs.Parts.{part_length}

-- the arrays of a table
pub record Sized (w : Words) : Type 0 where
  pub starts : length w.starts ≡ 26
  pub lengths : length w.lengths ≡ 26

paired_length : (s l : List ℕ) → length s ≡ length l → length (paired s l) ≡ length s
unfolding paired
paired_length [] l h = refl
paired_length (x ∷ s) [] h = absurd (omega arith)
paired_length (x ∷ s) (y ∷ l) h = ap suc (paired_length s l (omega arith))

paired_at : (s l : List ℕ) (i : ℕ) → i < length s → i < length l → span_at (paired s l) i ≡ record { start = get_or s i 0; length = get_or l i 0 }
unfolding paired
paired_at [] l i h k = absurd (omega arith)
paired_at (x ∷ s) [] i h k = absurd (omega arith)
paired_at (x ∷ s) (y ∷ l) zero h k = refl
paired_at (x ∷ s) (y ∷ l) (suc i) h k = paired_at s l i (omega arith) (omega arith)

-- one more word stored
pub paired_set : (s l : List ℕ) (i : ℕ) (a : Span) → paired (set s i a.start) (set l i a.length) ≡ set (paired s l) i a
unfolding paired
paired_set [] l i a = refl
paired_set (x ∷ s) [] zero a = refl
paired_set (x ∷ s) [] (suc i) a = refl
paired_set (x ∷ s) (y ∷ l) zero a = refl
paired_set (x ∷ s) (y ∷ l) (suc i) a = ap (λ (t : List Span). record { start = x; length = y } ∷ t) (paired_set s l i a)

-- the words of a table by number
module _ (w : Words) (z : Sized w) where
  pub spans_length : length (spans_of w) ≡ 26
  spans_length = paired_length w.starts w.lengths (z.starts ∙ sym z.lengths) ∙ z.starts

  pub span_found : (i : ℕ) → i < 26 → record { start = get_or w.starts i 0; length = get_or w.lengths i 0 } ≡ span_at (spans_of w) i
  span_found i h = sym (paired_at w.starts w.lengths i (omega (arith, z.starts)) (omega (arith, z.lengths)))

pub length_words_of : (text : Text) (s : List Span) (n : ℕ) → length (words_of text s n) ≡ n
unfolding words_of
length_words_of text s zero = refl
length_words_of text s (suc n) =
    let z : length (words_of text s n) ≡ n = length_words_of text s n in
    rw length-append (omega arith)

pub table_length : (text : Text) (w : Words) → w.count ≡ length (table text w)
table_length text w = sym (length_words_of text (spans_of w) w.count)

-- what is stored after the words does not change them
words_of_set : (text : Text) (s : List Span) (i : ℕ) (a : Span) (n : ℕ) → n ≤ i → words_of text (set s i a) n ≡ words_of text s n
unfolding words_of
words_of_set text s i a zero h = refl
words_of_set text s i a (suc n) h =
    let k : n ≤ i = omega arith in
    let d : n ≡ i → ⊥ = λ e. omega arith in
    rw (words_of_set text s i a n k, get_or-set_other s i n a _ d)

-- one more word after them
words_of_stored : (text : Text) (s : List Span) (n : ℕ) (a : Span) → n < length s → words_of text (set s n a) (n + 1) ≡ words_of text s n ++ (take a.length (drop a.start text) ∷ [])
unfolding words_of
words_of_stored text s n a h =
    let k : n ≤ n = omega arith in
    rw (add-one, words_of, words_of_set text s n a n k, get_or-set_same s n a (record { start = 0; length = 0 }) h)

-- a table without words
module _ (text : Text) (w : Words) (none : w.count ≡ 0) where
  pub table_none : table text w ≡ []
  unfolding words_of
  table_none = ap (words_of text (spans_of w)) none

  pub fitting_none : Fitting text w
  fitting_none = record { few = omega arith; inside = λ i l. absurd (omega arith); long = λ i l. absurd (omega arith) }

  pub lists_none : Lists text w []
  lists_none = record { is = table_none; fitting = fitting_none }

-- whether a word is kept
module _ (word : Name) (ws : List Name) where
  pub keep_not : (leb 2 (length word) && ltb (length ws) 26) ≡ false → keep word ws ≡ ws
  unfolding keep
  keep_not e = rw (keep, e)

  pub keep_adds : (leb 2 (length word) && ltb (length ws) 26) ≡ true → keep word ws ≡ ws ++ (word ∷ [])
  unfolding keep
  keep_adds e = rw (keep, e)

module _ (text : Text) (s : Span) (e : s.start + s.length ≤ length text) {n : ℕ} (words : List Name) (many : n ≡ length words) {kept : Bool} (q : kept ≡ (leb 2 s.length && ltb n 26)) where
  tested : {b : Bool} → kept ≡ b → (leb 2 (length (spanned text s)) && ltb (length words) 26) ≡ b
  tested z = let k : (s.start + s.length) - s.start ≡ s.length = omega arith in rw (part_length text s.start (s.start + s.length) e, k) (ap (λ (m : ℕ). leb 2 s.length && ltb m 26) (sym many) ∙ sym q ∙ z)

  -- THE COUNT
  pub count_same : kept ≡ false → n ≡ length (keep (spanned text s) words)
  count_same z = many ∙ ap length (sym (keep_not (spanned text s) words (tested z)))

  pub count_added : kept ≡ true → n + 1 ≡ length (keep (spanned text s) words)
  count_added z = rw (keep_adds (spanned text s) words (tested z), length-append) (omega arith)

module _ (text : Text) (s : Span) (e : s.start + s.length ≤ length text) {w : Words} {words : List Name} (g : Lists text w words) {kept : Bool} (q : kept ≡ (leb 2 s.length && ltb w.count 26)) where
  -- THE TABLE
  pub known_many : w.count ≡ length words
  known_many = table_length text w ∙ ap length g.is

  pub lists_same : kept ≡ false → Lists text w (keep (spanned text s) words)
  lists_same z = record { is = g.is ∙ sym (keep_not (spanned text s) words (tested text s e words known_many q z)); fitting = g.fitting }

  module _ (r : Words) (is : (r.count ≡ w.count + 1) × (spans_of r ≡ set (spans_of w) w.count s)) where
    added : w.count < length (spans_of w) → table text r ≡ table text w ++ (spanned text s ∷ [])
    added room =
        ap (words_of text (spans_of r)) is.0 ∙ ap (λ (xs : List Span). words_of text xs (w.count + 1)) is.1
        ∙ words_of_stored text (spans_of w) w.count s room
        ∙ ap (λ (j : ℕ). table text w ++ (take j (drop s.start text) ∷ [])) whole
      where
        whole : s.length ≡ (s.start + s.length) - s.start
        whole = omega arith

    pub lists_stored : kept ≡ true → w.count < length (spans_of w) → Lists text r (keep (spanned text s) words)
    lists_stored z room =
        let n = w.count in
        let t = (and-eq-true_iff (leb 2 s.length) (ltb n 26)).0 (sym q ∙ z) in
        let h : 2 ≤ s.length = leb-true 2 s.length t.0 in
        let k : n < 26 = ltb-true n 26 t.1 in
        let other : (i : ℕ) → i < n → i ≡ n → ⊥ = λ i p z. omega arith in
        let here : span_at (spans_of r) n ≡ s = rw is.1 (get_or-set_same (spans_of w) n s (record { start = 0; length = 0 }) room) in
        let there : (i : ℕ) → i < n → span_at (spans_of r) i ≡ span_at (spans_of w) i = λ i p. rw is.1 (get_or-set_other (spans_of w) n i s (record { start = 0; length = 0 }) (other i p)) in
        record {
          is = added room ∙ ap (λ (ws : List Name). ws ++ (spanned text s ∷ [])) g.is ∙ sym (keep_adds (spanned text s) words (tested text s e words known_many q z));
          fitting = record {
            few = omega (arith, is.0);
            inside = λ i p. below_more (λ (i : ℕ). (span_at (spans_of r) i).start + (span_at (spans_of r) i).length ≤ length text) n (λ i p. rw (there i p) (g.fitting.inside i p)) (rw here e) i (omega (arith, is.0));
            long = λ i p. below_more (λ (i : ℕ). 2 ≤ (span_at (spans_of r) i).length) n (λ i p. rw (there i p) (g.fitting.long i p)) (rw here h) i (omega (arith, is.0));
          };
        }
