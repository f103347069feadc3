-- The loop of specs/Rounds.antt is the definition's, with words as a table and with words as a
-- count. Assumes nothing.
use Rattle.std.specs.Prelude.{if◌then◌else◌}
use mathlib.Core.Path.{◌≡◌, refl, sym, ap, ◌∙◌}
use mathlib.Core.Bool.{Bool, true, false, ◌&&◌, not}
use mathlib.Core.List.{List, [], ◌∷◌, ◌++◌}
use mathlib.Core.Option.{some, none}
use Prim.Native.Nat.{ℕ, zero, suc, ◌-◌, ◌≤◌}
use Prim.Native.Char.{code}
use native.Mathlib.Omega.{arith}
use lib.Dec.{ltb, leb-zero, leb-suc-zero, leb-suc-suc}
use lib.ListN.{length, get_elem?}
use Rattle.definition.specs.Base.{Name, is, lower, upper, Out, ok, refused, ret, unless, and_then, ◌>>=◌}
use Rattle.definition.specs.Text.{Text, Lex, next_if}
use Rattle.definition.specs.Words as W
use Rattle.definition.specs.Words.{literal, note_words, is_empty}
use Rattle.definition.specs.Check as C
use Rattle.definition.specs.Check.{count_words_from}
use Rattle.definition.proofs.WordsAdded.{Long, WellKept, note_words_well_kept}
use Rattle.text_words.proofs.Counting.{counted}
use Rattle.text_identifiers.specs.Rounds.{Round, closes, takes, letters, closing, round, Got, got, finish, known_after, after, rounds, identifier_of}

-- OUTCOMES
abbrev pub map_out : {A B : Type 0} → (A → B) → Out Text A → Out Text B
map_out f (ok a u) = ok (f a) u
map_out f (refused r) = refused r

module _ {B D : Type 0} (g : B → D) where
  -- the same step, and then alike steps
  then_alike : {A : Type 0} (o : Out Text A) (k' : A → Lex D) (k : A → Lex B) → ((a : A) (u : Text) → k' a u ≡ map_out g (k a u)) → and_then o k' ≡ map_out g (and_then o k)
  then_alike (ok a u) k' k h = h a u
  then_alike (refused r) k' k h = refl

  mapped_alike : {A E : Type 0} (f : A → E) (o : Out Text A) (k' : E → Lex D) (k : A → Lex B) → ((a : A) (u : Text) → k' (f a) u ≡ map_out g (k a u)) → and_then (map_out f o) k' ≡ map_out g (and_then o k)
  mapped_alike f (ok a u) k' k h = h a u
  mapped_alike f (refused r) k' k h = refl

  if_alike : (b : Bool) (x x' : Lex D) (y y' : Lex B) (u : Text) → x u ≡ map_out g (y u) → x' u ≡ map_out g (y' u) → (if b then x else x') u ≡ map_out g ((if b then y else y') u)
  if_alike true x x' y y' u h k = h
  if_alike false x x' y y' u h k = k

  either : (b : Bool) (x x' : Out Text D) (y y' : Out Text B) → x ≡ map_out g y → x' ≡ map_out g y' → ◌≡◌ {A = Out Text D} (elim b [ true ↦ x | false ↦ x' ]) (map_out g (elim b [ true ↦ y | false ↦ y' ]))
  either true x x' y y' h k = h
  either false x x' y y' h k = k

-- ONE ROUND, after its letters
module _ {S R : Type 0} (count : S → ℕ) (note : Text → S → S) (g : R → Got S) (punycoded : Bool) (words : S) (again : S → Bool → Lex (Got S)) where
  closing_alike : (e m : Bool) (u : Text) (done : R) (cont : Name → Lex R) → got e words ≡ g done →
      ((slice : Name) (v : Text) → after count note punycoded words again (takes e m slice) v ≡ map_out g (cont slice v)) →
      and_then (closing punycoded e m u) (after count note punycoded words again) ≡ map_out g (and_then (next_if (is "0") u) (λ closed. if closed then ret done else (literal punycoded >>= cont)))
  closing_alike e m u done cont p h = go (next_if (is "0") u)
    where
      taken : (o : Out Text Name) → and_then (and_then o (λ slice. ret (takes e m slice))) (after count note punycoded words again) ≡ map_out g (and_then o cont)
      taken (ok s w) = h s w
      taken (refused r) = refl

      go : (o : Out Text Bool) →
          and_then (and_then o (λ closed. if closed then ret (closes e) else (literal punycoded >>= λ slice. ret (takes e m slice)))) (after count note punycoded words again)
          ≡ map_out g (and_then o (λ closed. if closed then ret done else (literal punycoded >>= cont)))
      go (refused r) = refl
      go (ok true v) = ap (λ x. ok x v) p
      go (ok false v) = taken (literal punycoded v)

-- WORDS AS A COUNT
abbrev pub count_got : C.Identified → Got ℕ
count_got r = got r.empty r.words

abbrev itself : ℕ → ℕ
itself n = n

count_loop : (f : ℕ) (subs punycoded : Bool) (n : ℕ) (empty : Bool) (t : Text) → rounds itself (count_words_from 0 0) f subs punycoded n empty t ≡ map_out count_got (C.identifier_from f subs punycoded n empty t)
unfolding rounds C.identifier_from
count_loop zero subs punycoded n empty t = refl
count_loop (suc f) subs punycoded n empty t = go (λ k e v. count_loop f true punycoded k e v) (letters n subs empty t)
  where
    again : ℕ → Bool → Lex (Got ℕ)
    again = rounds itself (count_words_from 0 0) f true punycoded

    cont : C.Spelled → Name → Lex C.Identified
    cont s slice =
        if s.more then C.identifier_from f true punycoded (if punycoded then n else count_words_from 0 0 slice n) (s.empty && is_empty slice)
        else ret (C.identified (s.empty && is_empty slice) (if punycoded then n else count_words_from 0 0 slice n))

    go : ((k : ℕ) (e : Bool) (v : Text) → again k e v ≡ map_out count_got (C.identifier_from f true punycoded k e v)) → (o : Out Text C.Spelled) →
        and_then (and_then o (λ s. closing punycoded s.empty s.more)) (after itself (count_words_from 0 0) punycoded n again)
        ≡ map_out count_got (and_then o (λ s. next_if (is "0") >>= λ closed. if closed then ret (C.identified s.empty n) else (literal punycoded >>= cont s)))
    go ih (refused r) = refl
    go ih (ok s u) =
        closing_alike itself (count_words_from 0 0) count_got punycoded n again s.empty s.more u (C.identified s.empty n) (cont s) refl
        λ slice v. if_alike count_got s.more _ _ _ _ v (ih _ _ v) refl

count_finish : (e : Bool) (n : ℕ) (u : Text) → finish (got e n) u ≡ map_out count_got (and_then (unless 9 (not e) u) (λ _. ret (C.identified e n)))
count_finish true n u = refl
count_finish false n u = refl

pub count_alike : (n : ℕ) (t : Text) → identifier_of itself (count_words_from 0 0) n t ≡ map_out count_got (C.identifier n t)
unfolding identifier_of C.identifier
count_alike n t =
    then_alike count_got (next_if (is "0") t) _ _ λ z u.
    then_alike count_got ((if z then next_if (is "0") else ret false) u) _ _ λ p v.
    ap (λ o. and_then o finish) (count_loop (suc (length t)) (z && not p) p n true v)
    ∙ mapped_alike count_got count_got (C.identifier_from (suc (length t)) (z && not p) p n true v) finish _ (λ r w. count_finish r.empty r.words w)

-- WORDS AS A TABLE
abbrev pub table_got : W.Identified → Got (List Name)
table_got r = got (is_empty r.name) r.words

abbrev spelled_as : W.Spelled → C.Spelled
spelled_as s = C.spelled (is_empty s.name) s.more

-- a name followed by a word
not_empty : (a b : Name) → 2 ≤ length b → is_empty (a ++ b) ≡ false
unfolding is_empty
not_empty [] [] h = absurd (omega arith)
not_empty [] (y ∷ b) h = refl
not_empty (x ∷ a) b h = refl

empty_append : (a b : Name) → (is_empty a && is_empty b) ≡ is_empty (a ++ b)
unfolding is_empty
empty_append [] b = refl
empty_append (x ∷ a) b = refl

-- a word by its number: the count says whether there is one
look : (ws : List Name) → Long ws → (i : ℕ) (y : Out Text C.Spelled) (x : Name → Out Text W.Spelled) → ((w : Name) → 2 ≤ length w → y ≡ map_out spelled_as (x w)) →
    ◌≡◌ {A = Out Text C.Spelled} (elim (ltb i (length ws)) [ false ↦ refused 9 | true ↦ y ]) (map_out spelled_as (elim (get_elem? ws i) [ none ↦ refused 9 | some w ↦ x w ]))
look [] l i y x h = rw (leb-suc-zero i)
look (w ∷ ws) l zero y x h = rw (leb-suc-suc 0 (length ws), leb-zero (length ws)) (h w l.0)
look (w ∷ ws) l (suc i) y x h = rw (leb-suc-suc (suc i) (length ws)) (look ws l.1 i y x h)

letters_alike : (ws : List Name) → Long ws → (name : Name) (t : Text) → C.word_letters (length ws) (is_empty name) t ≡ map_out spelled_as (W.word_letters ws name t)
unfolding W.word_letters C.word_letters
letters_alike ws l name [] = refl
letters_alike ws l name (c ∷ t) =
    either spelled_as (lower c) _ _ _ _
    (look ws l (c - code "a") (C.word_letters (length ws) false t) (λ w. W.word_letters ws (name ++ w) t) (λ w h. ap (λ (b : Bool). C.word_letters (length ws) b t) (sym (not_empty name w h)) ∙ letters_alike ws l (name ++ w) t))
    (either spelled_as (upper c) _ _ _ _
    (look ws l (c - code "A") (ok (C.spelled false false) t) (λ w. ok (W.spelled (name ++ w) false) t) (λ w h. ap (λ (b : Bool). ok (C.spelled b false) t) (sym (not_empty name w h))))
    refl)

first_alike : (subs : Bool) (ws : List Name) → Long ws → (name : Name) (t : Text) → letters (length ws) subs (is_empty name) t ≡ map_out spelled_as ((if subs then W.word_letters ws name else ret (W.spelled name false)) t)
first_alike true ws l name t = letters_alike ws l name t
first_alike false ws l name t = refl

known_well : (punycoded : Bool) (slice : Name) (ws : List Name) → WellKept ws → WellKept (known_after note_words punycoded slice ws)
known_well true slice ws k = k
known_well false slice ws k = note_words_well_kept slice ws k

table_loop : (f : ℕ) (subs punycoded : Bool) (ws : List Name) (name : Name) (t : Text) → WellKept ws → rounds length note_words f subs punycoded ws (is_empty name) t ≡ map_out table_got (W.identifier_from f subs punycoded ws name t)
unfolding rounds W.identifier_from
table_loop zero subs punycoded ws name t k = refl
table_loop (suc f) subs punycoded ws name t k =
    ap (λ o. and_then (and_then o (λ s. closing punycoded s.empty s.more)) (after length note_words punycoded ws (rounds length note_words f true punycoded))) (first_alike subs ws k.long name t)
    ∙ go (λ vs m v h. table_loop f true punycoded vs m v h) ((if subs then W.word_letters ws name else ret (W.spelled name false)) t)
  where
    again : List Name → Bool → Lex (Got (List Name))
    again = rounds length note_words f true punycoded

    cont : W.Spelled → Name → Lex W.Identified
    cont s slice =
        if s.more then W.identifier_from f true punycoded (if punycoded then ws else note_words slice ws) (s.name ++ slice)
        else ret (W.identified (s.name ++ slice) (if punycoded then ws else note_words slice ws))

    go : ((vs : List Name) (m : Name) (v : Text) → WellKept vs → again vs (is_empty m) v ≡ map_out table_got (W.identifier_from f true punycoded vs m v)) → (o : Out Text W.Spelled) →
        and_then (and_then (map_out spelled_as o) (λ s. closing punycoded s.empty s.more)) (after length note_words punycoded ws again)
        ≡ map_out table_got (and_then o (λ s. next_if (is "0") >>= λ closed. if closed then ret (W.identified s.name ws) else (literal punycoded >>= cont s)))
    go ih (refused r) = refl
    go ih (ok s u) =
        closing_alike length note_words table_got punycoded ws again (is_empty s.name) s.more u (W.identified s.name ws) (cont s) refl
        λ slice v. if_alike table_got s.more _ _ _ _ v
        (ap (λ (b : Bool). again (known_after note_words punycoded slice ws) b v) (empty_append s.name slice) ∙ ih (known_after note_words punycoded slice ws) (s.name ++ slice) v (known_well punycoded slice ws k))
        (ap (λ (b : Bool). ok (got b (known_after note_words punycoded slice ws)) v) (empty_append s.name slice))

table_finish : (empty : Bool) (r : W.Identified) (u : Text) → and_then (unless 9 (not empty) u) (λ _. ret (table_got r)) ≡ map_out table_got (and_then (unless 9 (not empty) u) (λ _. ret r))
table_finish true r u = refl
table_finish false r u = refl

pub table_alike : (ws : List Name) (t : Text) → WellKept ws → identifier_of length note_words ws t ≡ map_out table_got (W.identifier ws t)
unfolding identifier_of W.identifier is_empty
table_alike ws t k =
    then_alike table_got (next_if (is "0") t) _ _ λ z u.
    then_alike table_got ((if z then next_if (is "0") else ret false) u) _ _ λ p v.
    ap (λ o. and_then o finish) (table_loop (suc (length t)) (z && not p) p ws [] v k)
    ∙ mapped_alike table_got table_got (W.identifier_from (suc (length t)) (z && not p) p ws [] v) finish _ (λ r w. table_finish (is_empty r.name) r w)

-- THE SAME LOOP, counted
abbrev pub length_got : Got (List Name) → Got ℕ
length_got r = got r.empty (length r.words)

known_counted : (punycoded : Bool) (slice : Name) (ws : List Name) → known_after (count_words_from 0 0) punycoded slice (length ws) ≡ length (known_after note_words punycoded slice ws)
known_counted true slice ws = refl
known_counted false slice ws = counted slice ws

rounds_counted : (f : ℕ) (subs punycoded : Bool) (ws : List Name) (e : Bool) (t : Text) → rounds itself (count_words_from 0 0) f subs punycoded (length ws) e t ≡ map_out length_got (rounds length note_words f subs punycoded ws e t)
unfolding rounds
rounds_counted zero subs punycoded ws e t = refl
rounds_counted (suc f) subs punycoded ws e t =
    then_alike length_got (round (length ws) subs punycoded e t) (after itself (count_words_from 0 0) punycoded (length ws) (rounds itself (count_words_from 0 0) f true punycoded)) (after length note_words punycoded ws (rounds length note_words f true punycoded))
    (go (λ ws e u. rounds_counted f true punycoded ws e u))
  where
    go : ((ws : List Name) (e : Bool) (u : Text) → rounds itself (count_words_from 0 0) f true punycoded (length ws) e u ≡ map_out length_got (rounds length note_words f true punycoded ws e u)) → (a : Round) (u : Text) →
        after itself (count_words_from 0 0) punycoded (length ws) (rounds itself (count_words_from 0 0) f true punycoded) a u ≡ map_out length_got (after length note_words punycoded ws (rounds length note_words f true punycoded) a u)
    go ih (closes e) u = refl
    go ih (takes e m slice) u =
        let k = known_counted punycoded slice ws in
        if_alike length_got m _ _ _ _ u
        (ap (λ (n : ℕ). rounds itself (count_words_from 0 0) f true punycoded n (e && is_empty slice) u) k ∙ ih (known_after note_words punycoded slice ws) (e && is_empty slice) u)
        (ap (λ (n : ℕ). ok (got (e && is_empty slice) n) u) k)

finish_counted : (e : Bool) (ws : List Name) (u : Text) → finish (got e (length ws)) u ≡ map_out length_got (finish (got e ws) u)
finish_counted true ws u = refl
finish_counted false ws u = refl

pub identifier_counted : (ws : List Name) (t : Text) → identifier_of itself (count_words_from 0 0) (length ws) t ≡ map_out length_got (identifier_of length note_words ws t)
unfolding identifier_of
identifier_counted ws t =
    then_alike length_got (next_if (is "0") t) _ _ λ z u.
    then_alike length_got ((if z then next_if (is "0") else ret false) u) _ _ λ p v.
    ap (λ o. and_then o finish) (rounds_counted (suc (length t)) (z && not p) p ws true v)
    ∙ mapped_alike length_got length_got (rounds length note_words (suc (length t)) (z && not p) p ws true v) finish finish (λ r w. finish_counted r.empty r.words w)
