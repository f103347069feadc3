-- Appending to a lent slice, limited by room. Assumes nothing. One function measures and writes:
-- with an empty slice and the available room it only counts; with a slice and its own length as
-- room it writes.
use Rattle.std.specs.Prelude.{◌≡◌, refl, List, [], ◌∷◌, ◌++◌, ℕ, suc, ◌+◌, ◌≤◌, ◌<◌, min, ◌^◌, length, take, drop, set}
use Rattle.std.proofs.Common.{sym, ap, subst, ◌∙◌, append_assoc, append-nil, arith, add-one, length-append, length-take, length-set, take-append-drop, take_at, drop_at, drop-drop}
use Rattle.std.proofs.lemmas.List.{set_split}
use Rattle.std.proofs.Math.Seq.{append_snoc}

-- What may be appended to: `at` is the place of the next byte, or room + 1 once something did not
-- fit. The slice is no longer than room
pub record Room (room : ℕ) (o : List ℕ) (at : ℕ) : Type 0 where
  pub past : at ≤ room + 1
  pub short : length o ≤ room
  pub small : room < 2 ^ 63

-- The bytes s are appended at `at` to the slice o, which is then o'. The next place r is after
-- them, or room + 1 if they do not fit. If r is within the slice, the slice has s from `at` to r,
-- and the rest of it is unchanged
pub record Wrote (room : ℕ) (o o' : List ℕ) (at : ℕ) (s : List ℕ) (r : ℕ) : Type 0 where
  pub next : Room room o' r
  pub count : r ≡ min (at + length s) (room + 1)
  pub len : length o' ≡ length o
  pub text : r ≤ length o → o' ≡ take at o ++ s ++ drop r o

-- ONE PIECE
pub wrote_nothing : {room at : ℕ} {o : List ℕ} → Room room o at → Wrote room o o at [] at
wrote_nothing {room} {at} {o} h = record {
  next = h;
  count = omega (arith, h.past);
  len = refl;
  text = λ _. sym (ap (λ (x : List ℕ). x ++ drop at o) (append-nil (take at o)) ∙ take-append-drop at o);
}

-- a piece that ends past the end of the slice leaves the slice unchanged
pub wrote_out : {room at r : ℕ} {o : List ℕ} (s : List ℕ) → Room room o at → r ≡ min (at + length s) (room + 1) → length o < r → Wrote room o o at s r
wrote_out {room} {at} {r} {o} s h e k = record {
  next = record { past = omega arith; short = h.short; small = h.small };
  count = e;
  len = refl;
  text = λ (l : r ≤ length o). absurd (omega arith);
}

-- once past room, nothing is appended
pub wrote_stays : {room at : ℕ} {o : List ℕ} (s : List ℕ) → Room room o at → room < at → Wrote room o o at s at
wrote_stays s h k = wrote_out s h (omega (arith, h.past)) (omega (arith, h.short))

-- a piece within the slice
pub wrote_in : {room at r : ℕ} {o o' : List ℕ} (s : List ℕ) → Room room o at → r ≡ at + length s → r ≤ length o → o' ≡ take at o ++ s ++ drop r o → length o' ≡ length o → Wrote room o o' at s r
wrote_in {room} {at} {r} {o} {o'} s h e k d l = record {
  next = record { past = omega (arith, h.short); short = omega (arith, h.short); small = h.small };
  count = omega (arith, h.short);
  len = l;
  text = λ _. d;
}

-- one byte within the slice
pub wrote_byte : {room at : ℕ} {o : List ℕ} (b : ℕ) → Room room o at → at < length o → Wrote room o (set o at b) at (b ∷ []) (at + 1)
wrote_byte {room} {at} {o} b h k =
    let one : at + 1 ≡ at + length (b ∷ []) = refl in
    let end : at + 1 ≤ length o = omega arith in
    let d : set o at b ≡ take at o ++ (b ∷ []) ++ drop (at + 1) o =
    set_split o at b k ∙ sym (append_snoc (take at o) b (drop (suc at) o)) ∙ ap (λ (n : ℕ). take at o ++ (b ∷ []) ++ drop n o) (sym (add-one at)) in
    wrote_in (b ∷ []) h one end d (length-set o at b)

pub wrote_is : {room at r : ℕ} {o o' s t : List ℕ} → s ≡ t → Wrote room o o' at s r → Wrote room o o' at t r
wrote_is {room} {at} {r} {o} {o'} e w = subst (λ (x : List ℕ). Wrote room o o' at x r) e w

-- SEVERAL PIECES
-- one piece after another
pub wrote_then : {room at m r : ℕ} {o o1 o2 s t : List ℕ} → Wrote room o o1 at s m → Wrote room o1 o2 m t r → Wrote room o o2 at (s ++ t) r
wrote_then {room} {at} {m} {r} {o} {o1} {o2} {s} {t} a b = record {
  next = b.next;
  count = omega (arith, a.count, b.count, length-append s t);
  len = b.len ∙ a.len;
  text = λ (k : r ≤ length o).
      let l1 : length o1 ≡ length o = a.len in
      let s1 : length o1 ≤ room = a.next.short in
      let m≤ : m ≤ length o = omega (arith, b.count, a.count) in
      let k1 : r ≤ length o1 = omega arith in
      let mm : m ≡ at + length s = omega (arith, b.count, a.count) in
      let rr : r ≡ m + length t = omega (arith, b.count, a.count) in
      let e : o1 ≡ take at o ++ s ++ drop m o = a.text m≤ in
      let lh : length (take at o ++ s) ≡ m = length-append (take at o) s ∙ omega (arith, length-take at o) in
      let t1 : take m o1 ≡ take at o ++ s = ap (take m) e ∙ take_at (take at o ++ s) (drop m o) m lh in
      let d1 : drop m o1 ≡ drop m o = ap (drop m) e ∙ drop_at (take at o ++ s) (drop m o) m lh in
      let d2 : drop r o1 ≡ drop r o = ap (λ (n : ℕ). drop n o1) rr ∙ sym (drop-drop (length t) m o1) ∙ ap (drop (length t)) d1 ∙ drop-drop (length t) m o ∙ ap (λ (n : ℕ). drop n o) (sym rr) in
      b.text k1 ∙ ap (λ (x : List ℕ). x ++ t ++ drop r o1) t1 ∙ ap (λ (x : List ℕ). (take at o ++ s) ++ t ++ x) d2 ∙ ap (λ (x : List ℕ). x ++ drop r o) (append_assoc (take at o) s t);
}
