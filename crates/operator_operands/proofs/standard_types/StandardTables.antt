-- A table of letters as parallel lists: its letters, and its entries, which a list of kinds and one
-- of names represent. Assumes nothing.
use Rattle.std.proofs.Common.{◌≡◌, Bool, true, false, ℕ, zero, suc, ◌<◌, ◌≤◌, List, [], ◌∷◌, length, get_or, refl, sym, ap, ◌∙◌, arith}
use Rattle.std.specs.Prelude.{◌==◌, Some, None, position, cond, nat_lt}
use Rattle.std.specs.List.{position_or_len}
use Rattle.std.proofs.lemmas.List.Sums.{fails_before_first}
use Rattle.std.proofs.lemmas.List.Quantifiers.{position-Some}
use Rattle.std.proofs.lemmas.Bool.{eqb-true}
use borrow.Author.Tests.{eq-eqb, ne_eqb, eqb-false, ltb-false}
use mathlib.Core.Option.{some, none}
use Prim.Native.Char.{Char, code}
use Rattle.definition.specs.Base.{pick}

-- the letters of a table, and the entry of each
unfoldable pub letters : {A : Type 0} → List (Char × A) → List ℕ
letters [] = []
letters (e ∷ es) = code e.0 ∷ letters es

unfoldable pub entries : {A : Type 0} → List (Char × A) → List A
entries [] = []
entries (e ∷ es) = e.1 ∷ entries es

-- THE SEARCH
module _ (b : ℕ) where
  -- the letter b is not before the place i
  abbrev Before : List ℕ → ℕ → Type 0
  Before ls i = (k : ℕ) → k < i → (get_or ls k 0 == b) ≡ false

  none_past : (m l : ℕ) → cond (nat_lt m l) (Some m) None ≡ None → l ≤ m
  none_past m l e = go (nat_lt m l) refl e
    where
      go : (t : Bool) → nat_lt m l ≡ t → cond t (Some m) None ≡ None → l ≤ m
      go true q z = absurd (cc)
      go false q z = ltb-false m l q

  nowhere : (ls : List ℕ) → position (λ x. x == b) ls ≡ None → Before ls (length ls)
  nowhere ls e k l =
      let past : length ls ≤ position_or_len (λ x. x == b) ls = none_past _ _ e in
      fails_before_first (λ x. x == b) ls k 0 (omega arith)

-- the entry of a letter is at the letter's first place
module _ {A : Type 0} (b : ℕ) where
  pick_first : (x : Char) (a : A) (es : List (Char × A)) → code x ≡ b → pick b ((x, a) ∷ es) ≡ some a
  unfolding pick
  pick_first x a es e = rw (pick, eq-eqb b (code x) (sym e))

  pick_later : (x : Char) (a : A) (es : List (Char × A)) → (code x == b) ≡ false → pick b ((x, a) ∷ es) ≡ pick b es
  unfolding pick
  pick_later x a es e = rw (pick, ne_eqb b (code x) (λ q. eqb-false (code x) b e (sym q)))

  pick_at : (table : List (Char × A)) (i : ℕ) (d : A) → i < length (letters table) → get_or (letters table) i 0 ≡ b → Before b (letters table) i → pick b table ≡ some (get_or (entries table) i d)
  unfolding letters entries
  pick_at [] i d h e clear = absurd (omega arith)
  pick_at (x ∷ xs) zero d h e clear = pick_first x.0 x.1 xs e
  pick_at (x ∷ xs) (suc i) d h e clear = pick_later x.0 x.1 xs (clear 0 (omega arith)) ∙ pick_at xs i d (omega arith) e (λ k l. clear (suc k) (omega arith))

  pick_nowhere : (table : List (Char × A)) → Before b (letters table) (length (letters table)) → pick b table ≡ none
  unfolding letters pick
  pick_nowhere [] clear = refl
  pick_nowhere (x ∷ xs) clear = pick_later x.0 x.1 xs (clear 0 (omega arith)) ∙ pick_nowhere xs (λ k l. clear (suc k) (omega arith))

  -- in a table with these letters
  module _ (table : List (Char × A)) {ls : List ℕ} (is : letters table ≡ ls) where
    pub pick_some : (i : ℕ) (d : A) → position (λ x. x == b) ls ≡ Some i → pick b table ≡ some (get_or (entries table) i d)
    pick_some i d e =
        let p = position-Some (λ x. x == b) ls i 0 e in
        pick_at table i d (rw is p.0) (rw is (eqb-true _ _ p.1)) (rw is p.2)

    pub pick_none : position (λ x. x == b) ls ≡ None → pick b table ≡ none
    pick_none e = pick_nowhere table (rw is (nowhere b ls e))

-- ENTRIES of two lists: what each of both represents
module _ {K N X Y : Type 0} (f : K → X) (g : N → Y) where
  unfoldable pub rows : List K → List N → List (X × Y)
  rows [] ns = []
  rows (k ∷ ks) [] = []
  rows (k ∷ ks) (n ∷ ns) = (f k, g n) ∷ rows ks ns

  row_at : (ks : List K) (ns : List N) (i : ℕ) (k : K) (n : N) → i < length ks → i < length ns → get_or (rows ks ns) i (f k, g n) ≡ (f (get_or ks i k), g (get_or ns i n))
  unfolding rows
  row_at [] ns i k n h l = absurd (omega arith)
  row_at (x ∷ ks) [] i k n h l = absurd (omega arith)
  row_at (x ∷ ks) (y ∷ ns) zero k n h l = refl
  row_at (x ∷ ks) (y ∷ ns) (suc i) k n h l = row_at ks ns i k n (omega arith) (omega arith)

  pub pick_row : (b : ℕ) (table : List (Char × (X × Y))) (ls : List ℕ) (ks : List K) (ns : List N) (i : ℕ) (k : K) (n : N) → letters table ≡ ls → entries table ≡ rows ks ns → length ks ≡ length ls → length ns ≡ length ls → position (λ x. x == b) ls ≡ Some i → pick b table ≡ some (f (get_or ks i k), g (get_or ns i n))
  pick_row b table ls ks ns i k n is are h l e =
      let inside : i < length ls = (position-Some (λ x. x == b) ls i 0 e).0 in
      pick_some b table is i (f k, g n) e ∙ ap (λ (es : List (X × Y)). some (get_or es i (f k, g n))) are ∙ ap (λ (x : X × Y). some x) (row_at ks ns i k n (omega arith) (omega arith))
