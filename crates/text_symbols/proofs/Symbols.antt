-- Prefixes, the first dot and the parts of a symbol. Assumes nothing.
use mathlib.Core.Path.{◌≡◌, refl, sym, subst, ap, ◌∙◌}
use mathlib.Core.Bool.{Bool, true, false, ◌&&◌}
use mathlib.Core.List.{List, [], ◌∷◌}
use mathlib.Core.Option.{Option, some, none}
use Prim.Native.Nat.{ℕ, zero, suc, ◌+◌, ◌-◌, ◌≤◌, ◌<◌}
use Prim.Native.String.{String}
use native.Mathlib.Omega.{arith}
use borrow.Author.Tests.{ne_eqb, eqb-false, ltb-false, not-true}
use lib.Dec.{eqb}
use lib.ListN.{length, get_or, take, drop, length-drop, length-take}
use lib.Seq.{drop-drop}
use Rattle.definition.specs.Base.{bytes, is, same}
use Rattle.definition.specs.Text as Text
use Rattle.definition.specs.Text.{Text, prefixes, prefix_of, before_dot, split_at, split}
use Rattle.text_cursor.specs.Each.{Each}
use Rattle.text_symbols.specs.Symbol.{no_dot, dot, BeforeDot, Parts, SplitIs}
use Rattle.text_symbols.specs.declared.Parts.{Parts as Split}
use Rattle.std.specs.Prelude as Std
use Rattle.std.specs.Prelude.{Some, None, ◌==◌, position, cond, nat_lt}
use Rattle.std.specs.List.{starts_with, position_or_len}
use Rattle.std.proofs.lemmas.List.{take_all}
use lib.Pointwise.{pointwise}
use Rattle.text_cursor.proofs.Steps.{front, ended}

-- t begins with the bytes p
abbrev pub begins_with : Text → Text → Bool
begins_with p t = same p (take (length p) t)

-- the library's test of a text's first bytes is the definition's
pub starts_same : (p t : Text) → starts_with eqb t p ≡ begins_with p t
starts_same p t = go p (take (length p) t)
  where
    go : (p t : Text) → pointwise eqb p t ≡ same p t
    go [] [] = refl
    go [] (y ∷ t) = refl
    go (x ∷ p) [] = refl
    go (x ∷ p) (y ∷ t) = ap (λ (d : Bool). eqb x y && d) (go p t)

-- the first prefix of a list, or one of the others
module _ (p : String) (ps : List String) (t : Text) where
  pub prefix_here : begins_with (bytes p) t ≡ true → prefix_of (p ∷ ps) t ≡ some (length (bytes p))
  unfolding prefix_of
  prefix_here e = rw (prefix_of, e)

  pub prefix_later : begins_with (bytes p) t ≡ false → prefix_of (p ∷ ps) t ≡ prefix_of ps t
  unfolding prefix_of
  prefix_later e = rw (prefix_of, e)

-- there is no dot up to `at`
pub record Seeking (text : Text) (at : ℕ) : Type 0 where
  pub inside : at ≤ length text
  pub same_end : length (before_dot text) ≡ at + length (before_dot (drop at text))

module _ (text : Text) (at : ℕ) where
  pub dot_later : at < length text → (get_or text at 0 ≡ 46 → ⊥) → length (before_dot (drop at text)) ≡ suc (length (before_dot (drop (at + 1) text)))
  unfolding before_dot
  dot_later h e = rw (front text at h, before_dot, ne_eqb _ _ e)

-- bytes that are not dots are skipped
pass : {text : Text} {at : ℕ} (n to : ℕ) → at + n ≡ to → Seeking text at → to ≤ length text → Each no_dot text to → Seeking text to
pass {text} {at} zero to e s l h = let k : at ≡ to = omega arith in subst (Seeking text) k s
pass {text} {at} (suc n) to e s l h =
    let i : at < length text = omega arith in
    let d = dot_later text at i (eqb-false _ _ (not-true (eqb (get_or text at 0) 46) (h.at at (omega arith)))) in
    let next : Seeking text (at + 1) = record { inside = omega arith; same_end = omega (arith, s.same_end, d) } in
    pass {at = at + 1} n to (omega arith) next l h

pub seek_past : (text : Text) (at : ℕ) → at ≤ length text → Each no_dot text at → Seeking text at
seek_past text at l h = pass {text = text} {at = 0} at at (omega arith) (record { inside = omega arith; same_end = omega arith }) l h

before_step : (b : ℕ) (t : Text) (d : Bool) → is "." b ≡ d → before_dot t ≡ take (length (before_dot t)) t → before_dot (b ∷ t) ≡ take (length (before_dot (b ∷ t))) (b ∷ t)
unfolding before_dot
before_step b t true e h = let q : before_dot (b ∷ t) ≡ [] = rw (before_dot, e) in rw q
before_step b t false e h = let q : before_dot (b ∷ t) ≡ b ∷ before_dot t = rw (before_dot, e) in rw q (ap (λ (l : Text). b ∷ l) h)

-- the text before the first dot is the text up to it
pub before_front : (t : Text) → before_dot t ≡ take (length (before_dot t)) t
unfolding before_dot
before_front [] = refl
before_front (b ∷ t) = before_step b t (is "." b) refl (before_front t)

front_length : (t : Text) → length (before_dot t) ≤ length t
front_length t = omega (arith, ap length (before_front t), length-take (length (before_dot t)) t)

-- the library counts the bytes before the first dot as the definition does
before_count : (t : Text) → position_or_len (λ b. b == dot) t ≡ length (before_dot t)
unfolding before_dot
before_count [] = refl
before_count (b ∷ t) = go (is "." b) refl (before_count t)
  where
    go : (d : Bool) → is "." b ≡ d → position_or_len (λ b. b == dot) t ≡ length (before_dot t) → position_or_len (λ b. b == dot) (b ∷ t) ≡ length (before_dot (b ∷ t))
    go true e h = rw (before_dot, e) refl
    go false e h = rw (before_dot, e) (omega (arith, h))

-- the first dot of what is left is the first dot of all
module _ {text : Text} {at : ℕ} (s : Seeking text at) where
  left_all : take (length text - at) (drop at text) ≡ drop at text
  left_all = take_all (length text - at) (drop at text) (omega (arith, length-drop at text))

  abbrev left : Text
  left = take (length text - at) (drop at text)

  left_ends : length (before_dot text) ≡ at + position_or_len (λ b. b == dot) left
  left_ends = rw left_all (s.same_end ∙ ap (λ (n : ℕ). at + n) (sym (before_count (drop at text))))

  pub dot_at : {n : ℕ} → position (λ b. b == dot) left ≡ Some n → BeforeDot text (at + n)
  dot_at {n} e = go (nat_lt (position_or_len (λ b. b == dot) left) (length left)) e
    where
      go : (b : Bool) → cond b (Some (position_or_len (λ b. b == dot) left)) None ≡ Some n → BeforeDot text (at + n)
      go true k = let z : position_or_len (λ b. b == dot) left ≡ n = cc in let w = left_ends ∙ ap (λ (m : ℕ). at + m) z in record { is = w; inside = omega (arith, w, front_length text) }
      go false k = absurd (cc)

  pub dot_nowhere : position (λ b. b == dot) left ≡ None → BeforeDot text (length text)
  dot_nowhere e = go (nat_lt (position_or_len (λ b. b == dot) left) (length left)) refl e
    where
      go : (b : Bool) → nat_lt (position_or_len (λ b. b == dot) left) (length left) ≡ b → cond b (Some (position_or_len (λ b. b == dot) left)) None ≡ None → BeforeDot text (length text)
      go true q k = absurd (cc)
      go false q k =
          let l : length left ≤ position_or_len (λ b. b == dot) left = ltb-false _ _ q in
          let m : length left ≡ length text - at = ap length left_all ∙ length-drop at text in
          record { is = omega (arith, left_ends, front_length text, s.inside); inside = omega arith }

abbrev made : ℕ → Text → Text → Text.Symbol
made start body suffix = record { start = start; body = body; suffix = suffix }

split_at_is : (start : ℕ) (t : Text) → 0 < length t → split_at start t ≡ some (made start (before_dot t) (drop (length (before_dot t)) t))
unfolding split_at
split_at_is start [] h = absurd (omega arith)
split_at_is start (b ∷ t) h = refl

-- the parts of a symbol whose prefix ends at start
module _ (text : Text) (start : ℕ) where
  pub parts_none : length text ≤ start → split_at start (drop start text) ≡ none
  unfolding split_at
  parts_none h = rw (ended text start h)

  pub parts : start < length text → {n : ℕ} → BeforeDot (take (length text - start) (drop start text)) n → Parts (split_at start (drop start text)) text start (start + n)
  parts h {n = m} e =
      let t = drop start text in
      let end = start + m in
      let a : take (length text - start) t ≡ t = take_all (length text - start) t (omega (arith, length-drop start text)) in
      let n = length (before_dot t) in
      let k : 0 < length t = omega (arith, length-drop start text) in
      let i : start + length (before_dot t) ≡ end = ap (λ (x : Text). start + length (before_dot x)) (sym a) ∙ ap (λ (k : ℕ). start + k) e.is in
      let z : n ≡ end - start = omega arith in
      record {
        is = split_at_is start t k
            ∙ ap (λ (b : Text). some (made start b (drop n t))) (before_front t ∙ ap (λ (m : ℕ). take m t) z)
            ∙ ap (λ (u : Text). some (made start (take (end - start) t) u)) (drop-drop n start text ∙ ap (λ (m : ℕ). drop m text) i);
        begun = h;
        order = omega arith;
        inside = omega (arith, e.inside, ap length a, length-drop start text);
      }

pub split_none : (text : Text) → prefix_of prefixes text ≡ none → split text ≡ none
unfolding split
split_none text e = rw (split, e)

pub split_some : (text : Text) (p : ℕ) → prefix_of prefixes text ≡ some p → split text ≡ split_at p (drop p text)
unfolding split
split_some text p e = rw (split, e)

pub parts_is : (text : Text) {o o' : Option Text.Symbol} → o ≡ o' → (r : Std.Option Split) → SplitIs o' text r → SplitIs o text r
parts_is text e (Some p) h = record { is = e ∙ h.is; begun = h.begun; order = h.order; inside = h.inside }
parts_is text e None h = e ∙ h
