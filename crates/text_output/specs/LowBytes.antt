-- The bytes of a word, stored in a slice. Assumes nothing. No code of this port stores words now.
use Rattle.std.specs.Prelude.{◌≡◌, refl, List, [], ◌∷◌, ◌++◌, ℕ, zero, suc, ◌+◌, ◌-◌, ◌/◌, ◌%◌, ◌≤◌, ◌<◌, length, take, drop, set}
use Rattle.std.proofs.Common.{sym, ap, ◌∙◌, arith}
use Rattle.std.proofs.Math.Nat.{div-div-eq-div-mul}
use Rattle.std.proofs.Math.Numerals.{unary_clauses}
use Rattle.std.proofs.Math.Seq.{length-sets}
use Rattle.std.proofs.lemmas.List.Edits.{sets, sets-eq}
use Rattle.text_output.specs.Sink.{Room, Wrote, wrote_in}

-- the n low bytes of a number, the least significant first
unfoldable pub low_bytes : ℕ → ℕ → List ℕ
low_bytes zero w = []
low_bytes (suc n) w = w % 256 ∷ low_bytes n (w / 256)

pub low_length : (n w : ℕ) → length (low_bytes n w) ≡ n
unfolding low_bytes
low_length zero w = refl
low_length (suc n) w = ap suc (low_length n (w / 256))

-- stores one after another
pub sets_then : (o : List ℕ) (at : ℕ) (s t : List ℕ) → sets (sets o at s) (at + length s) t ≡ sets o at (s ++ t)
sets_then o at [] t = let e : at + 0 ≡ at = omega arith in ap (λ (i : ℕ). sets o i t) e
sets_then o at (x ∷ s) t = let e : at + suc (length s) ≡ suc at + length s = omega arith in ap (λ (i : ℕ). sets (sets (set o at x) (suc at) s) i t) e ∙ sets_then (set o at x) (suc at) s t

-- no byte stored yet, one more, and all
pub low_none : (o : List ℕ) (at n w : ℕ) → sets o (at + 0) (low_bytes (n - 0) w) ≡ sets o at (low_bytes n w)
low_none o at n w =
    let e : n - 0 ≡ n = omega arith in
    let d : at + 0 ≡ at = omega arith in
    rw (e, d)

pub low_more : (o : List ℕ) (at n i w : ℕ) → i < n → sets (set o (at + i) (w % 256)) (at + (i + 1)) (low_bytes (n - (i + 1)) (w / 256)) ≡ sets o (at + i) (low_bytes (n - i) w)
unfolding low_bytes
low_more o at n i w h =
    let e : n - i ≡ suc (n - (i + 1)) = omega arith in
    let d : at + (i + 1) ≡ suc (at + i) = omega arith in
    rw (e, d)

pub low_done : (o : List ℕ) (at n i w : ℕ) → n ≤ i → sets o at (low_bytes (n - i) w) ≡ o
unfolding low_bytes
low_done o at n i w h = let e : n - i ≡ 0 = omega arith in rw e

-- the eight bytes of a word, by one division each
low_eight : (w : ℕ) → w % 256 ∷ w / 256 % 256 ∷ w / 65536 % 256 ∷ w / 16777216 % 256 ∷ w / 4294967296 % 256 ∷ w / 1099511627776 % 256 ∷ w / 281474976710656 % 256 ∷ w / 72057594037927936 % 256 ∷ [] ≡ low_bytes 8 w
unfolding low_bytes
low_eight w = rw (div-div-eq-div-mul w 256 256, div-div-eq-div-mul w 65536 256, div-div-eq-div-mul w 16777216 256, div-div-eq-div-mul w 4294967296 256, div-div-eq-div-mul w 1099511627776 256, div-div-eq-div-mul w 281474976710656 256)

pub stored_eight : (o : List ℕ) (at w : ℕ) → set (set (set (set (set (set (set (set o at (w % 256)) (at + 1) (w / 256 % 256)) (at + 2) (w / 65536 % 256)) (at + 3) (w / 16777216 % 256)) (at + 4) (w / 4294967296 % 256)) (at + 5) (w / 1099511627776 % 256)) (at + 6) (w / 281474976710656 % 256)) (at + 7) (w / 72057594037927936 % 256) ≡ sets o at (low_bytes 8 w)
stored_eight o at w = simp unary_clauses (ap (sets o at) (low_eight w))

-- bytes stored within the slice
pub wrote_stored : {room at r : ℕ} {o o' : List ℕ} (s : List ℕ) → Room room o at → o' ≡ sets o at s → r ≡ at + length s → r ≤ length o → Wrote room o o' at s r
wrote_stored {room} {at} {r} {o} {o'} s h d e k =
    let l : at + length s ≤ length o = omega arith in
    wrote_in s h e k (d ∙ sets-eq s o at l ∙ ap (λ (i : ℕ). take at o ++ s ++ drop i o) (sym e)) (ap length d ∙ length-sets o at s)
