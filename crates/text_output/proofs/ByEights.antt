-- A part of a text is copied into a slice eight bytes at a time, and the last eight may overlap
-- some that were copied before. Assumes nothing.
use mathlib.Core.Path.{◌≡◌, refl, sym, ap, ◌∙◌}
use mathlib.Core.List.{List, ◌++◌, append_assoc}
use Prim.Native.Nat.{ℕ, ◌+◌, ◌-◌, ◌≤◌, ◌<◌}
use native.Mathlib.Omega.{arith}
use native.Mathlib.Numerals.{add-one}
use lib.ListN.{length, get_or, take, drop, set, length-set, length-drop}
use Rattle.std.proofs.lemmas.Slice.{put_mid-paste}
use borrow.Rule.Slice.PartMut.{put_mid}
use lib.Seq.{take-length, length-take-le, take-append-le, take-append-add, take-take, take-add, drop-drop, sets, sets-eq, paste, paste-zero, paste-suc, length_paste_head, length-paste, drop-paste}
use Rattle.text_output.specs.Copied.{part, copied}

-- none copied yet
pub copied_none : (o : List ℕ) (at : ℕ) (text : List ℕ) (from : ℕ) → o ≡ copied o at text from from
copied_none o at text from =
    let e : 0 ≡ from - from = omega arith in
    paste-zero o at (drop from text) ∙ ap (λ (n : ℕ). take at o ++ take n (drop from text) ++ drop (at + n) o) e

-- eight more, up to e; those from i to k, if any, were copied before
module _ (o text : List ℕ) (at from k i e place : ℕ) (a : place + from ≡ at + i) (b : from ≤ i) (c : i ≤ k) (d : k ≤ e) (f : i + 8 ≡ e) (g : e ≤ length text) (h : place + 8 ≤ length o) where
  copied_long : length (copied o at text from k) ≡ length o
  copied_long = length-paste o at (drop from text) (k - from) (omega arith) (omega (arith, length-drop from text))

  head_long : length (take at o ++ part text from k) ≡ at + (k - from)
  head_long = length_paste_head o at (drop from text) (k - from) (omega arith) (omega (arith, length-drop from text))

  before : take place (copied o at text from k) ≡ take at o ++ part text from i
  before =
      let p : place ≤ length (take at o ++ part text from k) = omega (arith, head_long) in
      let q : place ≡ length (take at o) + (i - from) = omega (arith, length-take-le at o (omega arith)) in
      take-append-le place (take at o ++ part text from k) (drop (at + (k - from)) o) p
      ∙ ap (λ (n : ℕ). take n (take at o ++ part text from k)) q
      ∙ take-append-add (take at o) (part text from k) (i - from)
      ∙ ap (λ (x : List ℕ). take at o ++ x) (take-take (i - from) (k - from) (drop from text) (omega arith))

  behind : drop (place + 8) (copied o at text from k) ≡ drop (at + (e - from)) o
  behind =
      let p : place + 8 ≡ at + (k - from) + (e - k) = omega arith in
      let q : at + (k - from) + (e - k) ≡ at + (e - from) = omega arith in
      ap (λ (n : ℕ). drop n (copied o at text from k)) p
      ∙ sym (drop-drop (e - k) (at + (k - from)) (copied o at text from k))
      ∙ ap (drop (e - k)) (drop-paste o at (drop from text) (k - from) (omega arith) (omega (arith, length-drop from text)))
      ∙ drop-drop (e - k) (at + (k - from)) o
      ∙ ap (λ (n : ℕ). drop n o) q

  more : part text from i ++ take 8 (drop i text) ≡ part text from e
  more =
      let p : i ≡ from + (i - from) = omega arith in
      let q : i - from + 8 ≡ e - from = omega arith in
      ap (λ (n : ℕ). part text from i ++ take 8 (drop n text)) p
      ∙ ap (λ (x : List ℕ). part text from i ++ take 8 x) (sym (drop-drop (i - from) from text))
      ∙ sym (take-add (i - from) 8 (drop from text))
      ∙ ap (λ (n : ℕ). take n (drop from text)) q

  over : sets (copied o at text from k) place (take 8 (drop i text)) ≡ copied o at text from e
  over =
      let w : List ℕ = take 8 (drop i text) in
      let l : length w ≡ 8 = length-take-le 8 (drop i text) (omega (arith, length-drop i text)) in
      sets-eq w (copied o at text from k) place (omega (arith, copied_long))
      ∙ ap (λ (n : ℕ). take place (copied o at text from k) ++ w ++ drop (place + n) (copied o at text from k)) l
      ∙ ap (λ (x : List ℕ). take place (copied o at text from k) ++ w ++ x) behind
      ∙ ap (λ (x : List ℕ). x ++ w ++ drop (at + (e - from)) o) before
      ∙ ap (λ (x : List ℕ). x ++ drop (at + (e - from)) o) (append_assoc (take at o) (part text from i) w)
      ∙ ap (λ (x : List ℕ). take at o ++ x ++ drop (at + (e - from)) o) more

  pub copied_word : {m m' : List ℕ} → m ≡ copied o at text from k → m' ≡ sets m place (take 8 (drop i text)) → m' ≡ copied o at text from e
  copied_word x y = y ∙ ap (λ (z : List ℕ). sets z place (take 8 (drop i text))) x ∙ over

-- EIGHT BYTES written over a part of the slice that was lent for them
pub word_put : (o : List ℕ) (at : ℕ) (text : List ℕ) (from k : ℕ) {w : List ℕ} → k ≡ 8 → at + 8 ≤ length o → from + 8 ≤ length text → w ≡ take 8 (drop from text) → put_mid at k o w ≡ sets o at (take 8 (drop from text))
word_put o at text from k {w} e h g q =
    let v : List ℕ = take 8 (drop from text) in
    let l : length v ≡ 8 = length-take-le 8 (drop from text) (omega (arith, length-drop from text)) in
    put_mid-paste at k o w v k q refl (e ∙ sym l)
    ∙ ap (λ (n : ℕ). take at o ++ take n v ++ drop (at + n) o) (e ∙ sym l)
    ∙ ap (λ (x : List ℕ). take at o ++ x ++ drop (at + length v) o) (take-length v)
    ∙ sym (sets-eq v o at (omega (arith, l)))

-- ONE BY ONE: i bytes are copied into o, starting at `at`
pub record Copying (at : ℕ) (bytes o o' : List ℕ) (i : ℕ) : Type 0 where
  pub is : o' ≡ paste o at bytes i
  pub long : length o' ≡ length o

pub copying_none : (at : ℕ) (bytes o : List ℕ) → Copying at bytes o o 0
copying_none at bytes o = record { is = paste-zero o at bytes; long = refl }

pub copying_more : {at : ℕ} {bytes o o' : List ℕ} {i : ℕ} → Copying at bytes o o' i → i < length bytes → at + i < length o → Copying at bytes o (set o' (at + i) (get_or bytes i 0)) (i + 1)
copying_more {at} {bytes} {o} {o'} {i} c h k = record {
  is = ap (λ (x : List ℕ). set x (at + i) (get_or bytes i 0)) c.is ∙ paste-suc o at bytes i 0 k h ∙ ap (paste o at bytes) (sym (add-one i));
  long = length-set o' (at + i) (get_or bytes i 0) ∙ c.long;
}

pub copying_all : {at : ℕ} {bytes o o' : List ℕ} {i : ℕ} → Copying at bytes o o' i → i ≡ length bytes → o' ≡ take at o ++ bytes ++ drop (at + length bytes) o
copying_all {at} {bytes} {o} c e =
    c.is ∙ ap (paste o at bytes) e ∙ ap (λ (x : List ℕ). take at o ++ x ++ drop (at + length bytes) o) (take-length bytes)
