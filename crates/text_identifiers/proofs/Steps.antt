-- The steps of an identifier at a place of a text: letters, literals, the closing `0`. Assumes
-- nothing.
use mathlib.Core.Path.{◌≡◌, refl, sym, ap, subst, ◌∙◌}
use mathlib.Core.Bool.{Bool, true, false}
use mathlib.Core.List.{List, [], ◌∷◌}
use Prim.Native.Nat.{ℕ, ◌+◌, ◌-◌, ◌≤◌, ◌<◌}
use native.Mathlib.Omega.{arith}
use borrow.Author.Tests.{lt-ltb, le-ltb, le-leb, lt-leb}
use lib.ListN.{length, drop, length-drop}
use lib.Seq.{drop-drop}
use Rattle.definition.specs.Base.{Name, Out, ok, refused, is, lower, upper, and_then}
use Rattle.definition.specs.Text.{Text, Lex, next_if, natural, well_formed}
use Rattle.definition.specs.Words.{take_bytes, literal}
use Rattle.definition.specs.Check.{spelled, word_letters}
use Rattle.definition.specs.declared.Refusal.{Refusal}
use Rattle.std.specs.Prelude.{Result, Ok, Err}
use Rattle.std.specs.Result.{IsErrAnd}
use denote.Ref.{Bor}
use Rattle.text_cursor.specs.declared.Reader.{Reader}
use Rattle.text_cursor.specs.Reads.{rest, Stands, Takes, TookPart}
use Rattle.text_words.specs.Table.{part}
use Rattle.text_identifiers.specs.Rounds.{Round, closes, takes, closing, whole_slice}
use Rattle.text_identifiers.specs.Identifiers.{Lies, Taken, Extends, Pieced}
use Rattle.text_identifiers.specs.declared.Extent.{Extent}
use Rattle.text_identifiers.specs.declared.Letters.{Letters}
use Rattle.text_identifiers.specs.declared.Piece.{Piece}

-- LETTERS
module _ (known : ℕ) (empty : Bool) where
  pub letters_none : {t : Text} → t ≡ [] → word_letters known empty t ≡ ok (spelled empty true) t
  unfolding word_letters
  letters_none e = rw e refl

  module _ {t u : Text} {b : ℕ} (e : t ≡ b ∷ u) where
    pub letters_stop : lower b ≡ false → upper b ≡ false → word_letters known empty t ≡ ok (spelled empty true) t
    unfolding word_letters
    letters_stop l h = rw (e, word_letters, l, h) refl

    pub letters_last : lower b ≡ false → upper b ≡ true → b - 65 < known → word_letters known empty t ≡ ok (spelled false false) u
    unfolding word_letters
    letters_last l h k = rw (e, word_letters, l, h, lt-ltb _ _ k) refl

    pub letters_last_unknown : lower b ≡ false → upper b ≡ true → known ≤ b - 65 → word_letters known empty t ≡ refused 9
    unfolding word_letters
    letters_last_unknown l h k = rw (e, word_letters, l, h, le-ltb _ _ k) refl

    pub letters_more : lower b ≡ true → b - 97 < known → word_letters known empty t ≡ word_letters known false u
    unfolding word_letters
    letters_more l k = rw (e, word_letters, l, lt-ltb _ _ k) refl

    pub letters_unknown : lower b ≡ true → known ≤ b - 97 → word_letters known empty t ≡ refused 9
    unfolding word_letters
    letters_unknown l k = rw (e, word_letters, l, le-ltb _ _ k) refl

-- the loop of `word_letters`: the letters before the place are known words
pub record Spelling (known : ℕ) (first : Bool) (old new : Reader) (empty : Bool) : Type 0 where
  pub text : new.text ≡ old.text
  pub onward : old.at ≤ new.at
  pub same : word_letters known first (rest old) ≡ word_letters known empty (rest new)

-- LITERALS
module _ (text : Text) (at n : ℕ) where
  pub slice_short : 0 < n → length text < at + n → whole_slice n (drop at text) ≡ refused 9
  unfolding take_bytes
  slice_short h k = let l : length (drop at text) < n = omega (arith, length-drop at text) in rw (take_bytes, lt-leb n (length (drop at text)) l)

  module _ (h : at + n ≤ length text) where
    bytes_there : take_bytes n (drop at text) ≡ ok (part text at (at + n)) (drop (at + n) text)
    unfolding take_bytes
    bytes_there =
        let l : n ≤ length (drop at text) = simp length-drop (omega arith) in
        let z : (at + n) - at ≡ n = omega arith in
        rw (take_bytes, le-leb n (length (drop at text)) l, drop-drop n at text, z)

    pub slice_whole : well_formed (part text at (at + n)) ≡ true → whole_slice n (drop at text) ≡ ok (part text at (at + n)) (drop (at + n) text)
    slice_whole e = rw (bytes_there, e)

    pub slice_ill : well_formed (part text at (at + n)) ≡ false → whole_slice n (drop at text) ≡ refused 9
    slice_ill e = rw (bytes_there, e)

-- the bytes that a reader took
module _ {n : ℕ} {bytes : Name} {old new : Reader} (t : TookPart n bytes old new) where
  abbrev slice : Name
  slice = part new.text.now old.at new.at

  inside : old.at + n ≤ length old.text.now
  inside = rw (← t.onward, ← t.text) t.inside

  same_slice : slice ≡ part old.text.now old.at (old.at + n)
  same_slice = rw (t.text, t.onward)

  pub part_ill : well_formed slice ≡ false → whole_slice n (rest old) ≡ refused 9
  part_ill e = slice_ill old.text.now old.at n inside (ap well_formed (sym same_slice) ∙ e)

  pub part_read : 0 < n → well_formed slice ≡ true → Taken (whole_slice n (rest old)) (λ s. s) old new (record { from = old.at; to = new.at })
  part_read h e = record {
    lies = record {
      is = slice_whole old.text.now old.at n inside (ap well_formed (sym same_slice) ∙ e) ∙ ap (λ (m : ℕ). ok (part old.text.now old.at m) (drop m old.text.now)) (sym t.onward);
      onward = omega arith;
      some = omega (arith, t.onward);
      inside = rw t.onward inside;
    };
    text = t.text;
    here = refl;
  }

module _ (t : Text) where
  pub literal_zero : (punycoded : Bool) {n : ℕ} {u : Text} → n ≡ 0 → natural t ≡ ok n u → literal punycoded t ≡ refused 9
  unfolding literal
  literal_zero punycoded z e = rw (literal, e, z)

  pub literal_punycoded : {n : ℕ} {u v : Text} {b : Bool} → 0 < n → natural t ≡ ok n u → next_if (is "_") u ≡ ok b v → literal true t ≡ whole_slice n v
  unfolding literal
  literal_punycoded h e k = rw (literal, e, lt-ltb _ _ h, k)

  pub literal_plain : {n : ℕ} {u : Text} → 0 < n → natural t ≡ ok n u → literal false t ≡ whole_slice n u
  unfolding literal
  literal_plain h e = rw (literal, e, lt-ltb _ _ h)

  pub literal_refused : (punycoded : Bool) {k : ℕ} → natural t ≡ refused k → literal punycoded t ≡ refused k
  unfolding literal
  literal_refused punycoded e = rw (literal, e)

  -- ROUNDS
  module _ (punycoded empty more : Bool) {u : Text} where
    pub closing_closes : next_if (is "0") t ≡ ok true u → closing punycoded empty more t ≡ ok (closes empty) u
    closing_closes e = rw e

    pub closing_takes : next_if (is "0") t ≡ ok false u → closing punycoded empty more t ≡ and_then (literal punycoded u) (λ s v. ok (takes empty more s) v)
    closing_takes e = rw e

-- AFTER A CALL
-- a byte that was taken or left
pub record Looked (m : Lex Bool) (old new : Reader) (b : Bool) : Type 0 where
  pub is : m (rest old) ≡ ok b (rest new)
  pub text : new.text ≡ old.text
  pub inside : new.at ≤ length new.text.now
  pub onward : old.at ≤ new.at

pub looked : {m : Lex Bool} {old new : Reader} (b : Bool) → old.at ≤ length old.text.now → Takes m old new b → Looked m old new b
looked true i h = record { is = h.is; text = h.text; inside = h.inside; onward = omega (arith, h.onward) }
looked false i h = record { is = h.is; text = h.text; inside = rw (h.text, h.here) i; onward = omega (arith, h.here) }

above : (n : ℕ) → (n ≡ 0 → ⊥) → 0 < n
above n z = omega (arith, z)

-- behind a length, and the `_` that may follow it
pub record Behind (n : ℕ) (punycoded : Bool) (old mid : Reader) : Type 0 where
  pub is : literal punycoded (rest old) ≡ whole_slice n (rest mid)
  pub text : mid.text ≡ old.text
  pub inside : mid.at ≤ length mid.text.now
  pub onward : old.at ≤ mid.at

module _ {n : ℕ} {punycoded : Bool} {old next mid : Reader} (h : Stands (natural (rest old)) n 1 old next) (z : n ≡ 0 → ⊥) where
  pub behind_mark : punycoded ≡ true → {new : Reader} (b : Bool) → Takes (next_if (is "_")) next new b → mid ≡ new → Behind n punycoded old mid
  behind_mark p {new} b t e =
      let l = looked b h.inside t in
      subst (Behind n punycoded old) (sym e) (record {
        is = ap (λ (q : Bool). literal q (rest old)) p ∙ literal_punycoded (rest old) (above n z) h.is l.is;
        text = l.text ∙ h.text;
        inside = l.inside;
        onward = omega (arith, l.onward, h.onward);
      })

  pub behind_length : punycoded ≡ false → mid ≡ next → Behind n punycoded old mid
  behind_length p e = subst (Behind n punycoded old) (sym e) (record {
    is = ap (λ (q : Bool). literal q (rest old)) p ∙ literal_plain (rest old) (above n z) h.is;
    text = h.text;
    inside = h.inside;
    onward = omega (arith, h.onward);
  })

-- what is read from `mid` on was read from `old` on
module _ {A : Type 0} {f : Name → A} {o o' : Out Text A} {old mid new : Reader} {e : Extent} where
  pub taken_on : o ≡ o' → mid.text ≡ old.text → old.at ≤ mid.at → Taken o' f mid new e → Taken o f old new e
  taken_on q t l h = record {
    lies = subst (λ (s : Bor (List ℕ)). Lies o f s.now old.at e.from e.to) t (record { is = q ∙ h.lies.is; onward = omega (arith, h.lies.onward); some = h.lies.some; inside = h.lies.inside });
    text = h.text ∙ t;
    here = h.here;
  }

pub extends_on : (m m' : Lex Name) (old mid new : Reader) (r : Result Extent Refusal) → m (rest old) ≡ m' (rest mid) → mid.text ≡ old.text → old.at ≤ mid.at → Extends m' mid new r → Extends m old new r
extends_on m m' old mid new (Ok e) q t l h = taken_on q t l h
extends_on m m' old mid new (Err f) q t l h = record { is = q ∙ h.is; text = h.text ∙ t }

pub pieced_on : (m m' : Lex Round) (old mid new : Reader) (r : Result Piece Refusal) → m (rest old) ≡ m' (rest mid) → mid.text ≡ old.text → old.at ≤ mid.at → Pieced m' mid new r → Pieced m old new r
pieced_on m m' old mid new (Ok (Piece.Closed e)) q t l h = record { is = q ∙ h.is; text = h.text ∙ t; inside = h.inside; onward = omega (arith, h.onward) }
pieced_on m m' old mid new (Ok (Piece.Literal s e)) q t l h = taken_on q t l h
pieced_on m m' old mid new (Err f) q t l h = record { is = q ∙ h.is; text = h.text ∙ t }

-- a literal after a round's letters
pub taken_as : {A B : Type 0} {f : Name → A} (g : A → B) {o : Out Text A} {o' : Out Text B} {old new : Reader} {e : Extent} → o' ≡ and_then o (λ a u. ok (g a) u) → Taken o f old new e → Taken o' (λ s. g (f s)) old new e
taken_as g q h = record { lies = record { is = q ∙ ap (λ x. and_then x (λ a u. ok (g a) u)) h.lies.is; onward = h.lies.onward; some = h.lies.some; inside = h.lies.inside }; text = h.text; here = h.here }

-- what `?` hands on
pub refused_as : {X : Type 0} {f : Refusal} (r : Result X Refusal) → IsErrAnd r (λ g. g ≡ f) → r ≡ Err f
refused_as (Ok x) h = absurd h
refused_as (Err g) h = ap (λ x. Err x) h

-- what a match took apart
module _ (m : Lex Round) (old new : Reader) where
  pub piece_closed : (p : Piece) {e : Bool} → p ≡ Piece.Closed e → Pieced m old new (Ok p) → Stands (m (rest old)) (closes e) 1 old new
  piece_closed p q h = subst (λ (x : Piece). Pieced m old new (Ok x)) q h

  pub piece_literal : (p : Piece) {l : Letters} {e : Extent} → p ≡ Piece.Literal l e → Pieced m old new (Ok p) → Taken (m (rest old)) (takes l.empty l.more) old new e
  piece_literal p q h = subst (λ (x : Piece). Pieced m old new (Ok x)) q h
