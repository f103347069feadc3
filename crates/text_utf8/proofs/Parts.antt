-- A part of a well-formed text is well-formed if it begins and ends between characters, and only
-- then. Assumes nothing.
use mathlib.Core.Path.{◌≡◌, refl, sym, subst, ap, ◌∙◌}
use mathlib.Core.Bool.{Bool, true, false, ◌&&◌, not, and-eq-true_iff}
use mathlib.Core.List.{List, [], ◌∷◌, ◌++◌}
use mathlib.Core.Option.{Option, some, none}
use Prim.Native.Nat.{ℕ, zero, suc, ◌+◌, ◌-◌, ◌≤◌, ◌<◌}
use native.Mathlib.Omega.{arith}
use borrow.Author.Tests.{ltb-true, ltb-false, leb-true, le-leb, lt-leb}
use lib.Dec.{leb, ltb}
use lib.ListN.{length, get_or, take, drop, length-append, length-drop, get_or-append, get_or-eq_default}
use lib.Seq.{take-append-le, take-append-add, drop-append-add, get_or-append-add, get_or-drop}
use Rattle.definition.specs.Base.{between}
use Rattle.definition.specs.Text.{Text, Utf8Row, utf8_rows, tails, second, by_row, character, ill_formed_from, ill_formed, well_formed}
use Rattle.text_cursor.proofs.Steps.{front, differ}
use Rattle.text_utf8.proofs.Characters.{character_ascii, character_row, well_formed_no, well_formed_all}

-- a byte of 80 to BF: the bytes of a character after its first are such, and its first is not
abbrev pub tail : ℕ → Bool
tail b = between 0x80 0xBF b

pub never : {A : Type 0} {a : A} → none ≡ some a → ⊥
never e = let z : ◌≡◌ {A = ℕ} 0 1 = cc in omega arith

-- both of two tests hold
both : (m n k l : ℕ) → (leb m n && leb k l) ≡ true → (m ≤ n) × (k ≤ l)
both m n k l e = let h = (and-eq-true_iff (leb m n) (leb k l)).0 e in (leb-true m n h.0, leb-true k l h.1)

-- A CHARACTER
-- f takes bytes of 80 to BF from the front of t and leaves u; it takes them before any rest, and
-- nothing if some of them are missing
pub record Takes (f : Text → Option Text) (t u : Text) : Type 0 where
  pub taken : Text
  pub is : t ≡ taken ++ u
  pub each : (i : ℕ) → i < length taken → tail (get_or taken i 0) ≡ true
  pub rest : (v : Text) → f (taken ++ v) ≡ some v
  pub short : (i : ℕ) → i < length taken → f (take i taken) ≡ none

takes_same : {f g : Text → Option Text} {t u : Text} → ((v : Text) → f v ≡ g v) → Takes g t u → Takes f t u
takes_same e h = record { taken = h.taken; is = h.is; each = h.each; rest = λ v. e _ ∙ h.rest v; short = λ i l. e _ ∙ h.short i l }

takes_nothing : {f : Text → Option Text} {t u : Text} → ((v : Text) → f v ≡ some v) → f t ≡ some u → Takes f t u
takes_nothing {f} {t} {u} e h =
    let k : some t ≡ some u = sym (e t) ∙ h in
    record { taken = []; is = cc; each = λ i l. absurd (omega arith); rest = e; short = λ i l. absurd (omega arith) }

-- a byte that passes a test, and then what g takes
module _ {f g : Text → Option Text} (p : ℕ → Bool) (high : (b : ℕ) → p b ≡ true → tail b ≡ true) (empty : f [] ≡ none)
    (pass : (b : ℕ) (v : Text) → p b ≡ true → f (b ∷ v) ≡ g v) (fail : (b : ℕ) (v : Text) → p b ≡ false → f (b ∷ v) ≡ none) where
  takes_byte : (b : ℕ) {t u : Text} → p b ≡ true → Takes g t u → Takes f (b ∷ t) u
  takes_byte b {t} {u} k h = record { taken = b ∷ h.taken; is = ap (λ (l : Text). b ∷ l) h.is; each = each; rest = λ v. pass b _ k ∙ h.rest v; short = short }
    where
      each : (i : ℕ) → i < length (b ∷ h.taken) → tail (get_or (b ∷ h.taken) i 0) ≡ true
      each zero l = high b k
      each (suc i) l = h.each i (omega arith)

      short : (i : ℕ) → i < length (b ∷ h.taken) → f (take i (b ∷ h.taken)) ≡ none
      short zero l = empty
      short (suc i) l = pass b _ k ∙ h.short i (omega arith)

  takes_tested : (t : Text) {u : Text} → ((v : Text) → g v ≡ some u → Takes g v u) → f t ≡ some u → Takes f t u
  takes_tested [] h e = absurd (never (sym empty ∙ e))
  takes_tested (b ∷ t) {u} h e = by (p b) refl
    where
      by : (d : Bool) → p b ≡ d → Takes f (b ∷ t) u
      by true k = takes_byte b k (h t (sym (pass b t k) ∙ e))
      by false k = absurd (never (sym (fail b t k) ∙ e))

tails_takes : (n : ℕ) (t : Text) {u : Text} → tails n t ≡ some u → Takes (tails n) t u
unfolding tails
tails_takes zero t e = takes_nothing (λ v. refl) e
tails_takes (suc n) t e = takes_tested {g = tails n} tail (λ b k. k) refl (λ b v k. rw (tails, k)) (λ b v k. rw (tails, k)) t (λ v. tails_takes n v) e

-- the second bytes of a row are of 80 to BF, and its first bytes are not
fits : Utf8Row → Bool
fits r = leb 0xC0 r.first && (leb 0x80 r.low && leb r.high 0xBF)

all_fit : List Utf8Row → Bool
all_fit [] = true
all_fit (r ∷ rs) = fits r && all_fit rs

rows_fit : all_fit utf8_rows ≡ true
unfolding all_fit fits utf8_rows
rows_fit = refl

-- the first row of a list fits, and so do the others
first_fits : (r : Utf8Row) (rs : List Utf8Row) → all_fit (r ∷ rs) ≡ true → (fits r ≡ true) × (all_fit rs ≡ true)
unfolding all_fit
first_fits r rs h = (and-eq-true_iff (fits r) (all_fit rs)).0 h

second_high : (r : Utf8Row) → fits r ≡ true → (b : ℕ) → between r.low r.high b ≡ true → tail b ≡ true
unfolding fits
second_high r h b e =
    let k = both 0x80 r.low r.high 0xBF ((and-eq-true_iff (leb 0xC0 r.first) (leb 0x80 r.low && leb r.high 0xBF)).0 h).1 in
    let i = both r.low b b r.high e in
    (and-eq-true_iff (leb 0x80 b) (leb b 0xBF)).1 (le-leb 0x80 b (omega (arith, k.0, i.0)), le-leb b 0xBF (omega (arith, k.1, i.1)))

second_takes : (r : Utf8Row) → fits r ≡ true → (t : Text) {u : Text} → second r t ≡ some u → Takes (second r) t u
unfolding second
second_takes r h t e = takes_tested {g = tails r.more} (between r.low r.high) (second_high r h) refl (λ b v k. rw (second, k)) (λ b v k. rw (second, k)) t (λ v. tails_takes r.more v) e

by_row_takes : (b : ℕ) (rs : List Utf8Row) → all_fit rs ≡ true → (t : Text) {u : Text} → by_row b rs t ≡ some u → Takes (by_row b rs) t u
unfolding by_row
by_row_takes b [] h t e = absurd (never e)
by_row_takes b (r ∷ rs) h t {u} e = by (λ k. by_row_takes b rs (first_fits r rs h).1 t k) (between r.first r.last b) refl
  where
    by : (by_row b rs t ≡ some u → Takes (by_row b rs) t u) → (d : Bool) → between r.first r.last b ≡ d → Takes (by_row b (r ∷ rs)) t u
    by later true k =
        let here : (v : Text) → by_row b (r ∷ rs) v ≡ second r v = λ v. rw (by_row, k) in
        takes_same here (second_takes r (first_fits r rs h).0 t (sym (here t) ∙ e))
    by later false k =
        let past : (v : Text) → by_row b (r ∷ rs) v ≡ by_row b rs v = λ v. rw (by_row, k) in
        takes_same past (later (sym (past t) ∙ e))

by_row_low : (b : ℕ) → b < 0xC0 → (rs : List Utf8Row) → all_fit rs ≡ true → (t : Text) → by_row b rs t ≡ none
unfolding by_row fits
by_row_low b l [] h t = refl
by_row_low b l (r ∷ rs) h t =
    let f : 0xC0 ≤ r.first = leb-true _ _ ((and-eq-true_iff (leb 0xC0 r.first) (leb 0x80 r.low && leb r.high 0xBF)).0 (first_fits r rs h).0).0 in
    let k : b < r.first = omega arith in
    rw (by_row, lt-leb _ _ k) (by_row_low b l rs (first_fits r rs h).1 t)

-- a character is its first byte and bytes of 80 to BF
pub character_takes : (b : ℕ) (t : Text) {u : Text} → character b t ≡ some u → Takes (character b) t u
character_takes b t {u} e = by (ltb b 0x80) refl
  where
    by : (d : Bool) → ltb b 0x80 ≡ d → Takes (character b) t u
    by true k = takes_nothing (λ v. character_ascii b v (ltb-true _ _ k)) e
    by false k =
        let row_of : (v : Text) → character b v ≡ by_row b utf8_rows v = λ v. character_row b v (ltb-false _ _ k) in
        takes_same row_of (by_row_takes b utf8_rows rows_fit t (sym (row_of t) ∙ e))

-- a byte of 80 to BF begins no character
pub character_tail : (b : ℕ) (t : Text) → tail b ≡ true → character b t ≡ none
character_tail b t h = let k = both 0x80 b b 0xBF h in character_row b t k.0 ∙ by_row_low b (omega (arith, k.1)) utf8_rows rows_fit t

-- A TEXT
-- a text that is a number of characters
pub data Characters : Text → Type 0 where
  done : Characters []
  more : {b : ℕ} {t u : Text} → character b t ≡ some u → Characters u → Characters (b ∷ t)

-- so is what follows the first character; there is a first character, and its first byte is not of
-- 80 to BF
pub behind : {b : ℕ} {t u : Text} → Characters (b ∷ t) → character b t ≡ some u → Characters u
behind {u = u} (more {u = v} e h) k = let z : some v ≡ some u = sym e ∙ k in let q : v ≡ u = cc in subst Characters q h

begun : {b : ℕ} {t : Text} → Characters (b ∷ t) → character b t ≡ none → ⊥
begun (more e h) k = never (sym k ∙ e)

first_byte : {b : ℕ} {t : Text} → Characters (b ∷ t) → tail b ≡ false
first_byte {b} {t} h = by (tail b) refl
  where
    by : (d : Bool) → tail b ≡ d → tail b ≡ false
    by true e = absurd (begun h (character_tail b t e))
    by false e = e

by_fuel : (f n : ℕ) (t : Text) → length t ≤ f → ill_formed_from f n t ≡ none → Characters t
unfolding ill_formed_from
by_fuel zero n [] l e = done
by_fuel zero n (b ∷ t) l e = absurd (omega arith)
by_fuel (suc f) n [] l e = done
by_fuel (suc f) n (b ∷ t) l e = by (λ u. by_fuel f n u) (character b t) refl
  where
    by : ((u : Text) → length u ≤ f → ill_formed_from f n u ≡ none → Characters u) → (o : Option Text) → character b t ≡ o → Characters (b ∷ t)
    by later none k =
        let z : ill_formed_from (suc f) n (b ∷ t) ≡ some (n - length (b ∷ t)) = rw (ill_formed_from, k) in
        absurd (never (sym e ∙ z))
    by later (some u) k =
        let c = character_takes b t k in
        let z : ill_formed_from (suc f) n (b ∷ t) ≡ ill_formed_from f n u = rw (ill_formed_from, k) in
        more k (later u (omega (arith, simp length-append at (ap length c.is))) (sym z ∙ e))

each_fuel : {t : Text} → Characters t → (f n : ℕ) → ill_formed_from f n t ≡ none
unfolding ill_formed_from
each_fuel done zero n = refl
each_fuel done (suc f) n = refl
each_fuel (more e h) zero n = refl
each_fuel (more e h) (suc f) n = rw (ill_formed_from, e) (each_fuel h f n)

-- a text is well-formed if it is a number of characters, and only then
pub characters : (t : Text) → well_formed t ≡ true → Characters t
unfolding ill_formed
characters t h = by (ill_formed t) refl
  where
    by : (o : Option ℕ) → ill_formed t ≡ o → Characters t
    by none e = by_fuel (length t) (length t) t (omega arith) e
    by (some i) e = absurd (differ (sym h ∙ well_formed_no t e))

pub well : {t : Text} → Characters t → well_formed t ≡ true
unfolding ill_formed
well {t} h = well_formed_all t (each_fuel h (length t) (length t))

pub ill : (t : Text) → (Characters t → ⊥) → well_formed t ≡ false
ill t h = by (well_formed t) refl
  where
    by : (d : Bool) → well_formed t ≡ d → well_formed t ≡ false
    by true e = absurd (h (characters t e))
    by false e = e

-- A PART
-- the byte at a place says whether the place is between two characters, or at an end of the text
-- (apart), or among the bytes of one (inside)
data Cut (t : Text) (k : ℕ) : Type 0 where
  apart : tail (get_or t k 0) ≡ false → Characters (take k t) → Characters (drop k t) → Cut t k
  inside : tail (get_or t k 0) ≡ true → (Characters (take k t) → ⊥) → Cut t k

module _ (b : ℕ) (s u : Text) where
  cut_inside : (k : ℕ) → k < length s → tail (get_or s k 0) ≡ true → character b (take k s) ≡ none → Cut (b ∷ (s ++ u)) (suc k)
  cut_inside k l e n =
      let same : take k (s ++ u) ≡ take k s = take-append-le k s u (omega arith) in
      inside (ap tail (get_or-append s u 0 k l) ∙ e) (λ c. begun c (ap (character b) same ∙ n))

  cut_behind : (j : ℕ) → ((v : Text) → character b (s ++ v) ≡ some v) → Cut u j → Cut (b ∷ (s ++ u)) (suc (length s + j))
  cut_behind j e (apart k x y) = apart (ap tail (get_or-append-add s u j 0) ∙ k) (rw (take-append-add s u j) (more (e (take j u)) x)) (rw (drop-append-add s u j) y)
  cut_behind j e (inside k n) = inside (ap tail (get_or-append-add s u j 0) ∙ k) (λ c. n (behind (rw (take-append-add s u j) at c) (e (take j u))))

cut_first : (b : ℕ) {t u : Text} (c : Takes (character b) t u) → ((j : ℕ) → j ≤ length u → Cut u j) → (k : ℕ) → k ≤ length t → Cut (b ∷ t) (suc k)
cut_first b {t} {u} c later k l = subst (λ (x : Text). Cut (b ∷ x) (suc k)) (sym c.is) (by (ltb k (length c.taken)) refl)
  where
    by : (d : Bool) → ltb k (length c.taken) ≡ d → Cut (b ∷ (c.taken ++ u)) (suc k)
    by true e = let i = ltb-true _ _ e in cut_inside b c.taken u k i (c.each k i) (c.short k i)
    by false e =
        let j = k - length c.taken in
        let g : length c.taken ≤ k = ltb-false _ _ e in
        let q : length c.taken + j ≡ k = omega arith in
        subst (λ (n : ℕ). Cut (b ∷ (c.taken ++ u)) (suc n)) q (cut_behind b c.taken u j c.rest (later j (omega (arith, simp length-append at (ap length c.is)))))

cut : {t : Text} → Characters t → (k : ℕ) → k ≤ length t → Cut t k
cut done zero l = apart refl done done
cut done (suc k) l = absurd (omega arith)
cut (more e h) zero l = apart (first_byte (more e h)) done (more e h)
cut (more {b} {t} {u} e h) (suc k) l = cut_first b (character_takes b t e) (λ j. cut h j) k (omega arith)

module _ {t : Text} (h : Characters t) (k : ℕ) (l : k ≤ length t) where
  pub take_characters : well_formed (take k t) ≡ not (tail (get_or t k 0))
  take_characters = by (cut h k l)
    where
      by : Cut t k → well_formed (take k t) ≡ not (tail (get_or t k 0))
      by (apart e x y) = well x ∙ sym (ap not e)
      by (inside e n) = ill (take k t) n ∙ sym (ap not e)

  pub drop_characters : tail (get_or t k 0) ≡ false → Characters (drop k t)
  drop_characters e = by (cut h k l)
    where
      by : Cut t k → Characters (drop k t)
      by (apart k x y) = y
      by (inside k n) = absurd (differ (sym k ∙ e))

module _ (text : Text) (from to : ℕ) (inside : to ≤ length text) where
  -- a part that begins with a byte of 80 to BF is ill-formed
  pub part_ill : from < to → tail (get_or text from 0) ≡ true → well_formed (take (to - from) (drop from text)) ≡ false
  part_ill order e =
      let f : drop from text ≡ get_or text from 0 ∷ drop (from + 1) text = front text from (omega arith) in
      let n : to - from ≡ suc (to - from - 1) = omega arith in
      ill _ (λ c. differ (sym e ∙ first_byte (rw (n, f) at c)))

  -- a part that begins between characters is well-formed if it ends between characters, and only
  -- then
  pub part_ends : from ≤ to → Characters (drop from text) → well_formed (take (to - from) (drop from text)) ≡ not (tail (get_or text to 0))
  part_ends order h =
      let n : from + (to - from) ≡ to = omega arith in
      take_characters h (to - from) (omega (arith, length-drop from text)) ∙ ap (λ (b : ℕ). not (tail b)) (get_or-drop from text (to - from) 0 ∙ ap (λ (i : ℕ). get_or text i 0) n)

  -- also if it ends with the text: `get_or` gives 0 there, which is not of 80 to BF
  pub part_last : from ≤ to → to ≡ length text → Characters (drop from text) → well_formed (take (to - from) (drop from text)) ≡ true
  part_last order e h = part_ends order h ∙ ap (λ (b : ℕ). not (tail b)) (get_or-eq_default text 0 (omega arith))
