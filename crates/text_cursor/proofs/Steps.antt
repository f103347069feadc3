-- The steps of the definition at a place of a text. Assumes nothing.
use mathlib.Core.Path.{◌≡◌, sym, ap, ◌∙◌}
use mathlib.Core.Bool.{Bool, true, false, ◌&&◌}
use mathlib.Core.List.{[], ◌∷◌}
use Prim.Native.Nat.{ℕ, ◌+◌, ◌-◌, ◌*◌, ◌^◌, ◌≤◌, ◌<◌}
use native.Mathlib.Omega.{arith}
use native.Mathlib.Numerals.{add-one}
use borrow.Author.Tests.{lt-ltb, leb-true}
use lib.Dec.{leb}
use lib.ListN.{length, get_or, drop, drop_of_length-le}
use lib.Seq.{drop-cons}
use Rattle.definition.specs.Base.{Out, ok, refused, digit, and_then}
use Rattle.definition.specs.Text.{Text, peek, next_if, digits, natural}

-- the text from a place on begins with the byte there, or is empty
pub front : (text : Text) (at : ℕ) → at < length text → drop at text ≡ get_or text at 0 ∷ drop (at + 1) text
front text at h = drop-cons text at 0 h ∙ ap (λ (n : ℕ). get_or text at 0 ∷ drop n text) (sym (add-one at))

pub ended : (text : Text) (at : ℕ) → length text ≤ at → drop at text ≡ []
ended text at h = drop_of_length-le text h

pub differ : true ≡ false → ⊥
differ e = let z : ◌≡◌ {A = ℕ} 0 1 = cc in omega arith

and_right : (a b : Bool) → (a && b) ≡ true → b ≡ true
and_right true b e = e
and_right false b e = absurd (let z : ◌≡◌ {A = ℕ} 0 1 = cc in omega arith)

pub digit_high : (b : ℕ) → digit b ≡ true → b ≤ 57
digit_high b e = leb-true b 57 (and_right (leb 48 b) (leb b 57) e)

digits_front : (value b : ℕ) (t : Text) → digit b ≡ true → value * 10 + (b - 48) < 2 ^ 64 → digits value (b ∷ t) ≡ digits (value * 10 + (b - 48)) t
unfolding digits
digits_front value b t e k = rw (digits, e, lt-ltb _ _ k)

module _ (text : Text) (at : ℕ) where
  module _ (p : ℕ → Bool) where
    pub peek_read : at < length text → peek p (drop at text) ≡ p (get_or text at 0)
    unfolding peek
    peek_read h = ap (peek p) (front text at h)

    pub next_if_leaves : at < length text → p (get_or text at 0) ≡ false → next_if p (drop at text) ≡ ok false (drop at text)
    unfolding next_if
    next_if_leaves h e = rw (front text at h, next_if, e)

  pub natural_reads : at < length text → digit (get_or text at 0) ≡ true → natural (drop at text) ≡ digits (get_or text at 0 - 48) (drop (at + 1) text)
  unfolding natural peek digits
  natural_reads h e =
      let b = get_or text at 0 in
      let u = digit_high b e in
      let k : 0 * 10 + (b - 48) < 2 ^ 64 = omega arith in
      let z : 0 * 10 + (b - 48) ≡ b - 48 = omega arith in
      rw (front text at h, e) (digits_front 0 b (drop (at + 1) text) e k ∙ ap (λ (n : ℕ). digits n (drop (at + 1) text)) z)

  pub natural_other : at < length text → digit (get_or text at 0) ≡ false → natural (drop at text) ≡ refused 9
  unfolding natural peek
  natural_other h e = rw (front text at h, e)

module _ {A B : Type 0} {out : Out Text A} (f : A → Text → Out Text B) where
  pub then_ok : {a : A} {u : Text} → out ≡ ok a u → and_then out f ≡ f a u
  then_ok e = ap (λ (o : Out Text A). and_then o f) e

  pub then_refused : {n : ℕ} → out ≡ refused n → and_then out f ≡ refused n
  then_refused e = ap (λ (o : Out Text A). and_then o f) e
