-- Characters of UTF-8 at a place of a text. Assumes nothing.
use mathlib.Core.Path.{◌≡◌, refl, sym, subst, ap, ◌∙◌}
use Rattle.std.proofs.lemmas.List.{get_or-drop, take_all}
use mathlib.Core.Bool.{Bool, true, false, ◌&&◌, and-false, and-eq-true_iff}
use mathlib.Core.List.{List, [], ◌∷◌}
use mathlib.Core.Option.{some, none}
use Prim.Native.Nat.{ℕ, zero, suc, ◌+◌, ◌-◌, ◌≤◌, ◌<◌}
use native.Mathlib.Omega.{arith}
use borrow.Author.Tests.{lt-ltb, le-ltb, ltb-true, leb-true, lt-leb, le-leb}
use lib.Dec.{leb, ltb}
use lib.ListN.{length, get_or, take, drop, length-drop}
use Rattle.definition.specs.Base.{between}
use Rattle.definition.specs.Text.{Text, Utf8Row, utf8_row, utf8_rows, tails, second, by_row, character, ill_formed_from, ill_formed, well_formed}
use Rattle.text_utf8.specs.Utf8.{row, below_80}
use Rattle.text_utf8.specs.declared.Row.{Row}
use Rattle.text_cursor.specs.Each.{Each}
use Rattle.text_cursor.proofs.Steps.{front, ended}

-- THE TABLE
-- the first bytes of a row do not bear on what follows them
second_same : (r : Utf8Row) (t : Text) → second r t ≡ second (utf8_row 0 0 r.low r.high r.more) t
unfolding second
second_same r [] = refl
second_same r (c ∷ t) = refl

unfoldable pub row_at : List Utf8Row → ℕ → Utf8Row
row_at rs i = get_or rs i (utf8_row 0 0 0 0 0)

-- the first bytes of row i are above those of the rows before it
unfoldable pub above : List Utf8Row → ℕ → Bool
above [] i = false
above (r ∷ rs) zero = true
above (r ∷ rs) (suc i) = ltb r.last (row_at rs i).first && above rs i

-- the first bytes of each row are C2 to F4
unfoldable pub all_from : List Utf8Row → Bool
all_from [] = true
all_from (r ∷ rs) = leb 0xC2 r.first && all_from rs

unfoldable pub all_to : List Utf8Row → Bool
all_to [] = true
all_to (r ∷ rs) = leb r.last 0xF4 && all_to rs

module _ (b : ℕ) (t : Text) where
  row_is : (rs : List Utf8Row) (i : ℕ) → above rs i ≡ true → (row_at rs i).first ≤ b → b ≤ (row_at rs i).last → by_row b rs t ≡ second (utf8_row 0 0 (row_at rs i).low (row_at rs i).high (row_at rs i).more) t
  unfolding by_row above row_at
  row_is [] i e h k = cc
  row_is (r ∷ rs) zero e h k = rw (by_row, le-leb r.first b h, le-leb b r.last k) (second_same r t)
  row_is (r ∷ rs) (suc i) e h k =
      let q = (and-eq-true_iff _ _).0 e in
      let k₀ : r.last < (row_at rs i).first = ltb-true _ _ q.0 in
      let l : r.last < b = omega arith in
      rw (by_row, lt-leb b r.last l, and-false (leb r.first b)) (row_is rs i q.1 h k)

  pub row_made : (rs : List Utf8Row) (i : ℕ) → above rs i ≡ true → (row_at rs i).first ≤ b → b ≤ (row_at rs i).last → (r : Row) → (r.low ≡ (row_at rs i).low) × (r.high ≡ (row_at rs i).high) × (r.more ≡ (row_at rs i).more) → by_row b rs t ≡ second (row r) t
  row_made rs i e h k r is = rw is.0 (rw is.1 (rw is.2 (row_is rs i e h k)))

  -- no row begins with a byte below C2, nor with one above F4
  pub no_row_below : (rs : List Utf8Row) → all_from rs ≡ true → b < 0xC2 → by_row b rs t ≡ none
  unfolding by_row all_from
  no_row_below [] e h = refl
  no_row_below (r ∷ rs) e h =
      let q = (and-eq-true_iff _ _).0 e in
      let k₀ : 0xC2 ≤ r.first = leb-true _ _ q.0 in
      let l : b < r.first = omega arith in
      rw (by_row, lt-leb r.first b l) (no_row_below rs q.1 h)

  pub no_row_above : (rs : List Utf8Row) → all_to rs ≡ true → 0xF4 < b → by_row b rs t ≡ none
  unfolding by_row all_to
  no_row_above [] e h = refl
  no_row_above (r ∷ rs) e h =
      let q = (and-eq-true_iff _ _).0 e in
      let k₀ : r.last ≤ 0xF4 = leb-true _ _ q.0 in
      let l : r.last < b = omega arith in
      rw (by_row, lt-leb b r.last l, and-false (leb r.first b)) (no_row_above rs q.1 h)

-- one of k bytes
pub tails_step : (k : ℕ) {t u : Text} {b : ℕ} → 0 < k → t ≡ b ∷ u → between 0x80 0xBF b ≡ true → tails k t ≡ tails (k - 1) u
unfolding tails
tails_step zero z h e = absurd (omega arith)
tails_step (suc n) z h e = let k : suc n - 1 ≡ n = omega arith in rw (k, h, tails, e)

pub character_ascii : (b : ℕ) (t : Text) → b < 128 → character b t ≡ some t
unfolding character
character_ascii b t h = rw (character, lt-ltb _ _ h)

pub character_row : (b : ℕ) (t : Text) → 128 ≤ b → character b t ≡ by_row b utf8_rows t
unfolding character
character_row b t h = rw (character, le-ltb _ _ h)

-- THE TEXT
-- the loop of `ill_formed`: the text before `at` is well-formed
pub record Scanning (text : Text) (at : ℕ) : Type 0 where
  pub fuel : ℕ
  pub enough : length text ≤ at + fuel
  pub inside : at ≤ length text
  pub same : ill_formed text ≡ ill_formed_from fuel (length text) (drop at text)

module _ (text : Text) (at : ℕ) (n : ℕ) where
  from_more : (f : ℕ) {u : Text} → 0 < f → at < length text → character (get_or text at 0) (drop (at + 1) text) ≡ some u → ill_formed_from f n (drop at text) ≡ ill_formed_from (f - 1) n u
  unfolding ill_formed_from
  from_more zero z h e = absurd (omega arith)
  from_more (suc f) z h e = let k : suc f - 1 ≡ f = omega arith in rw (k, front text at h, ill_formed_from, e)

  from_bad : (f : ℕ) → 0 < f → at < length text → character (get_or text at 0) (drop (at + 1) text) ≡ none → ill_formed_from f n (drop at text) ≡ some (n - length (drop at text))
  unfolding ill_formed_from
  from_bad zero z h e = absurd (omega arith)
  from_bad (suc f) z h e = rw (front text at h, ill_formed_from, e)

  from_end : (f : ℕ) → length text ≤ at → ill_formed_from f n (drop at text) ≡ none
  unfolding ill_formed_from
  from_end zero h = refl
  from_end (suc f) h = rw (ended text at h)

pub scan_start : (text : Text) → Scanning text 0
unfolding ill_formed
scan_start text = record { fuel = length text; enough = omega arith; inside = omega arith; same = refl }

module _ {text : Text} {at : ℕ} (s : Scanning text at) where
  pub scan_more : at < length text → {next : ℕ} → character (get_or text at 0) (drop (at + 1) text) ≡ some (drop next text) → next ≤ length text → at + 1 ≤ next → Scanning text next
  scan_more h {next} g l m =
      let e = s.enough in
      let z : 0 < s.fuel = omega arith in
      record { fuel = s.fuel - 1; enough = omega arith; inside = l; same = s.same ∙ from_more text at (length text) s.fuel z h g }

  pub scan_bad : at < length text → character (get_or text at 0) (drop (at + 1) text) ≡ none → ill_formed text ≡ some at
  scan_bad h g =
      let e = s.enough in
      let z : 0 < s.fuel = omega arith in
      let k : length text - length (drop at text) ≡ at = omega (arith, length-drop at text) in
      s.same ∙ from_bad text at (length text) s.fuel z h g ∙ ap (λ (i : ℕ). some i) k

-- ASCII is skipped: from `at` on, what is left has n bytes of it
scan_ascii : {text : Text} {at : ℕ} (n : ℕ) → Scanning text at → n ≤ length text - at → Each below_80 (drop at text) n → Scanning text (at + n)
scan_ascii {text} {at} zero s l h = let k : at ≡ at + 0 = omega arith in subst (Scanning text) k s
scan_ascii {text} {at} (suc n) s l h =
    let i : at < length text = omega arith in
    let k₀ : at + 0 ≡ at = omega arith in
    let first : get_or (drop at text) 0 0 ≡ get_or text at 0 = get_or-drop at text 0 0 ∙ ap (λ (m : ℕ). get_or text m 0) k₀ in
    let b : get_or text at 0 < 128 = ltb-true _ _ (ap below_80 (sym first) ∙ h.at 0 (omega arith)) in
    let one = scan_more s i {next = at + 1} (character_ascii (get_or text at 0) (drop (at + 1) text) b) (omega arith) (omega arith) in
    let k : at + 1 + n ≡ at + suc n = omega arith in
    subst (Scanning text) k (scan_ascii {at = at + 1} n one (omega arith) (record { at = λ j r. next_place j ∙ h.at (j + 1) (omega arith) }))
  where
    next_place : (j : ℕ) → below_80 (get_or (drop (at + 1) text) j 0) ≡ below_80 (get_or (drop at text) (j + 1) 0)
    next_place j = let k : at + 1 + j ≡ at + (j + 1) = omega arith in ap below_80 (get_or-drop (at + 1) text j 0 ∙ ap (λ (m : ℕ). get_or text m 0) k ∙ sym (get_or-drop at text (j + 1) 0))

pub scan_past : {text : Text} {at n : ℕ} → Scanning text at → (n ≤ length (take (length text - at) (drop at text))) × Each below_80 (take (length text - at) (drop at text)) n → Scanning text (at + n)
scan_past {text} {at} {n} s h =
    let a : take (length text - at) (drop at text) ≡ drop at text = take_all _ _ (omega (arith, length-drop at text)) in
    scan_ascii n s (omega (arith, h.0, ap length a, length-drop at text)) (subst (λ (t : Text). Each below_80 t n) a h.1)

pub scan_first : (text : Text) {n : ℕ} → (n ≤ length text) × Each below_80 text n → Scanning text n
scan_first text {n} h = let k : 0 + n ≡ n = omega arith in subst (Scanning text) k (scan_ascii n (scan_start text) (omega (arith, h.0)) h.1)

pub well_formed_no : (t : Text) {i : ℕ} → ill_formed t ≡ some i → well_formed t ≡ false
unfolding well_formed
well_formed_no t e = rw (well_formed, e)

pub well_formed_all : (t : Text) → ill_formed t ≡ none → well_formed t ≡ true
unfolding well_formed
well_formed_all t e = rw (well_formed, e)
