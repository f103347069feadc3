-- The check reads an identifier as the reading does, although it knows only the number of words.
use Rattle.std.specs.Prelude.{if◌then◌else◌}
use mathlib.Core.Path.{◌≡◌, refl, sym, ap, ◌∙◌, subst}
use mathlib.Core.Bool.{Bool, true, false, ◌&&◌, not}
use mathlib.Core.List.{List, [], ◌∷◌, ◌++◌}
use mathlib.Core.Option.{Option, some, none}
use Prim.Native.Nat.{ℕ, zero, suc, ◌-◌}
use Prim.Native.Char.{code}
use lib.Dec.{T, ltb, leb, leb-zero, leb-suc-zero, leb-suc-suc}
use lib.ListN.{length, get_elem?}
use Rattle.definition.specs.Base.{Name, is, lower, upper, is_some, Out, ok, refused, ret, refuse, unless, and_then, ◌>>=◌, ◌>>◌}
use Rattle.definition.specs.Text.{Text, Lex, next_if}
use Rattle.definition.specs.Words.{keep, starts, note_words_from, note_words, Spelled, spelled, word_letters, literal, Identified, identified, identifier_from, is_empty, identifier}
use Rattle.definition.specs.Check as C
use Rattle.definition.proofs.Simulation.{Any, itself, Filled}

-- READING ALIKE FROM ONE TEXT: the same refusal, or f of the value and the same rest
module _ {A B : Type 0} (P : A → Type 0) (f : A → B) where
  abbrev pub Agree : Out Text A → Out Text B → Type 0
  Agree (ok a u) o = (o ≡ ok (f a) u) × P a
  Agree (refused r) o = o ≡ refused r

  pub record Reads (s : Lex A) (e : Lex B) : Type 0 where
    pub at : (t : Text) → Agree (s t) (e t)

module _ {A B C D : Type 0} {P : A → Type 0} {f : A → B} {Q : C → Type 0} {g : C → D} where
  bind_out : (x : Out Text A) (y : Out Text B) (k : A → Lex C) (l : B → Lex D) → Agree P f x y → ((a : A) → P a → Reads Q g (k a) (l (f a))) → Agree Q g (and_then x k) (and_then y l)
  bind_out (ok a u) y k l h c = rw h.0 ((c a h.1).at u)
  bind_out (refused r) y k l h c = rw h refl

  bind : {s : Lex A} {e : Lex B} (k : A → Lex C) (l : B → Lex D) → Reads P f s e → ((a : A) → P a → Reads Q g (k a) (l (f a))) → Reads Q g (s >>= k) (e >>= l)
  bind {s} {e} k l h c = record { at = λ t. bind_out (s t) (e t) k l (h.at t) c }

module _ {A B : Type 0} {P : A → Type 0} {f : A → B} where
  ret_alike : (a : A) (b : B) → b ≡ f a → P a → Reads P f (ret a) (ret b)
  ret_alike a b e p = record { at = λ t. (ap (λ x. ok x t) e, p) }

  refuse_alike : (r : ℕ) → Reads P f (refuse r) (refuse r)
  refuse_alike r = record { at = λ t. refl }

  if_alike : {s s' : Lex A} {e e' : Lex B} (b : Bool) → Reads P f s e → Reads P f s' e' → Reads P f (if b then s else s') (if b then e else e')
  if_alike true h k = h
  if_alike false h k = k

-- one of two outcomes
pub either_out : {A B : Type 0} (P : A → Type 0) (f : A → B) (b : Bool) (x x' : Out Text A) (y y' : Out Text B) → Agree P f x y → Agree P f x' y' → Agree P f (elim b [ true ↦ x | false ↦ x' ]) (elim b [ true ↦ y | false ↦ y' ])
either_out P f true x x' y y' h k = h
either_out P f false x x' y y' h k = k

pub agree_itself : {A : Type 0} (o : Out Text A) → Agree {A = A} Any itself o o
agree_itself (ok a u) = (refl, tt)
agree_itself (refused r) = refl

same_reads : {A : Type 0} (s : Lex A) → Reads {A = A} Any itself s s
same_reads s = record { at = λ t. agree_itself (s t) }

-- WORDS
-- that many words, none of them empty
record Counted (n : ℕ) (words : List Name) : Type 0 where
  many : n ≡ length words
  filled : Filled words

either : {n n' : ℕ} {v v' : List Name} (b : Bool) → Counted n v → Counted n' v' → Counted (elim b [ true ↦ n | false ↦ n' ]) (elim b [ true ↦ v | false ↦ v' ])
either true h j = h
either false h j = j

snoc_length : {A : Type 0} (s : List A) (a : A) → length (s ++ (a ∷ [])) ≡ suc (length s)
snoc_length [] a = refl
snoc_length (x ∷ s) a = ap suc (snoc_length s a)

snoc_filled : (ws : List Name) (w : Name) → Filled ws → T (not (is_empty w)) → Filled (ws ++ (w ∷ []))
snoc_filled [] w g h = (h, tt)
snoc_filled (x ∷ ws) w g h = (g.0, snoc_filled ws w g.1 h)

keep_counted : (x : ℕ) (w : Name) (ws : List Name) → Filled ws → Counted (C.keep_count (suc (length w)) (length ws)) (keep (x ∷ w) ws)
unfolding keep C.keep_count is_empty
keep_counted x w ws g = go (leb 2 (suc (length w)) && ltb (length ws) 26)
  where
    go : (b : Bool) → Counted (if b then suc (length ws) else length ws) (if b then ws ++ ((x ∷ w) ∷ []) else ws)
    go true = record { many = sym (snoc_length ws (x ∷ w)); filled = snoc_filled ws (x ∷ w) g tt }
    go false = record { many = refl; filled = g }

words_counted : (w : Name) (previous : ℕ) (t : Text) (ws : List Name) → Filled ws → Counted (C.count_words_from (length w) previous t (length ws)) (note_words_from w previous t ws)
unfolding note_words_from C.count_words_from
words_counted [] previous [] ws g = record { many = refl; filled = g }
words_counted (x ∷ w) previous [] ws g = keep_counted x w ws g
words_counted [] previous (c ∷ t) ws g = either (starts c) (words_counted (c ∷ []) c t ws g) (words_counted [] c t ws g)
words_counted (x ∷ w) previous (c ∷ t) ws g =
    let kept : Counted (C.keep_count (suc (length w)) (length ws)) (keep (x ∷ w) ws) = keep_counted x w ws g in
    either (is "_" c)
    (subst (λ (n : ℕ). Counted (C.count_words_from 0 c t n) (note_words_from [] c t (keep (x ∷ w) ws))) (sym kept.many) (words_counted [] c t (keep (x ∷ w) ws) kept.filled))
    (either (not (upper previous) && upper c)
    (subst (λ (n : ℕ). Counted (C.count_words_from 1 c t n) (note_words_from (c ∷ []) c t (keep (x ∷ w) ws))) (sym kept.many) (words_counted (c ∷ []) c t (keep (x ∷ w) ws) kept.filled))
    (subst (λ (n : ℕ). Counted (C.count_words_from (suc n) c t (length ws)) (note_words_from (x ∷ (w ++ (c ∷ []))) c t ws)) (snoc_length w c) (words_counted (x ∷ (w ++ (c ∷ []))) c t ws g)))

-- WORD LETTERS
known : (ws : List Name) (i : ℕ) → is_some (get_elem? ws i) ≡ ltb i (length ws)
unfolding is_some
known [] i = sym (leb-suc-zero i)
known (w ∷ ws) zero = sym (leb-suc-suc 0 (length ws) ∙ leb-zero (length ws))
known (w ∷ ws) (suc i) = known ws i ∙ sym (leb-suc-suc (suc i) (length ws))

abbrev FilledIf : Option Name → Type 0
FilledIf none = Unit {0}
FilledIf (some w) = T (not (is_empty w))

word_filled : (ws : List Name) (i : ℕ) → Filled ws → FilledIf (get_elem? ws i)
word_filled [] i g = tt
word_filled (w ∷ ws) zero g = g.0
word_filled (w ∷ ws) (suc i) g = word_filled ws i g.1

-- a name followed by something that is not empty
not_empty : (a b : Name) → T (not (is_empty b)) → is_empty (a ++ b) ≡ false
unfolding is_empty
not_empty [] [] h = absurd h
not_empty [] (y ∷ b) h = refl
not_empty (x ∷ a) b h = refl

empty_append : (a b : Name) → (is_empty a && is_empty b) ≡ is_empty (a ++ b)
unfolding is_empty
empty_append [] b = refl
empty_append (x ∷ a) b = refl

-- what the check keeps of a name so far
abbrev spelled_as : Spelled → C.Spelled
spelled_as s = C.spelled (is_empty s.name) s.more

-- a word by its number: the check tests how many there are
look : (ws : List Name) → Filled ws → (i : ℕ) (x : Name → Out Text Spelled) (y : Out Text C.Spelled) → ((w : Name) → T (not (is_empty w)) → Agree Any spelled_as (x w) y) →
    Agree Any spelled_as (elim (get_elem? ws i) [ none ↦ refused 9 | some w ↦ x w ]) (elim (ltb i (length ws)) [ false ↦ refused 9 | true ↦ y ])
unfolding is_some
look ws g i x y h = subst (λ (b : Bool). Agree Any spelled_as (elim (get_elem? ws i) [ none ↦ refused 9 | some w ↦ x w ]) (elim b [ false ↦ refused 9 | true ↦ y ])) (known ws i) (go (get_elem? ws i) (word_filled ws i g))
  where
    go : (o : Option Name) → FilledIf o → Agree Any spelled_as (elim o [ none ↦ refused 9 | some w ↦ x w ]) (elim (is_some o) [ false ↦ refused 9 | true ↦ y ])
    go none u = refl
    go (some w) u = h w u

letters_alike : (ws : List Name) → Filled ws → (name : Name) (t : Text) → Agree Any spelled_as (word_letters ws name t) (C.word_letters (length ws) (is_empty name) t)
unfolding word_letters C.word_letters
letters_alike ws g name [] = (refl, tt)
letters_alike ws g name (c ∷ t) =
    either_out Any spelled_as (lower c) _ _ _ _
    (look ws g (c - code "a") (λ w. word_letters ws (name ++ w) t) (C.word_letters (length ws) false t) (λ w h. subst (λ (b : Bool). Agree Any spelled_as (word_letters ws (name ++ w) t) (C.word_letters (length ws) b t)) (not_empty name w h) (letters_alike ws g (name ++ w) t)))
    (either_out Any spelled_as (upper c) _ _ _ _
    (look ws g (c - code "A") (λ w. ok (spelled (name ++ w) false) t) (ok (C.spelled false false) t) (λ w h. (ap (λ b. ok (C.spelled b false) t) (sym (not_empty name w h)), tt)))
    (refl, tt))

-- IDENTIFIERS
abbrev pub FilledWords : Identified → Type 0
FilledWords r = Filled r.words

abbrev pub identified_as : Identified → C.Identified
identified_as r = C.identified (is_empty r.name) (length r.words)

noted : (punycoded : Bool) (slice : Name) (ws : List Name) → Filled ws → Counted (if punycoded then length ws else C.count_words_from 0 0 slice (length ws)) (if punycoded then ws else note_words slice ws)
unfolding note_words
noted true slice ws g = record { many = refl; filled = g }
noted false slice ws g = words_counted [] 0 slice ws g

after_literal : (f : ℕ) (punycoded : Bool) (name slice : Name) (more : Bool) (n : ℕ) (v : List Name) → Counted n v →
    ((ws : List Name) → Filled ws → Reads FilledWords identified_as (identifier_from f true punycoded ws (name ++ slice)) (C.identifier_from f true punycoded (length ws) (is_empty (name ++ slice)))) →
    Reads FilledWords identified_as (if more then identifier_from f true punycoded v (name ++ slice) else ret (identified (name ++ slice) v))
    (if more then C.identifier_from f true punycoded n (is_empty name && is_empty slice) else ret (C.identified (is_empty name && is_empty slice) n))
after_literal f punycoded name slice more n v c h =
    if_alike more (rw (c.many, empty_append name slice) (h v c.filled))
    (ret_alike (identified (name ++ slice) v) (C.identified (is_empty name && is_empty slice) n) (λ i. C.identified (empty_append name slice i) (c.many i)) c.filled)

loop_alike : (f : ℕ) (subs punycoded : Bool) (ws : List Name) (name : Name) → Filled ws → Reads FilledWords identified_as (identifier_from f subs punycoded ws name) (C.identifier_from f subs punycoded (length ws) (is_empty name))
unfolding identifier_from C.identifier_from
loop_alike zero subs punycoded ws name g = refuse_alike 9
loop_alike (suc f) subs punycoded ws name g =
    bind _ _ (if_alike subs (record { at = letters_alike ws g name }) (ret_alike (spelled name false) (C.spelled (is_empty name) false) refl tt)) λ s _.
    bind _ _ (same_reads (next_if (is "0"))) λ closed _.
    if_alike closed (ret_alike (identified s.name ws) (C.identified (is_empty s.name) (length ws)) refl g)
    (bind _ _ (same_reads (literal punycoded)) λ slice _. after_literal f punycoded s.name slice s.more _ _ (noted punycoded slice ws g) (λ ws₁ g₁. loop_alike f true punycoded ws₁ (s.name ++ slice) g₁))

pub identifier_alike : (ws : List Name) → Filled ws → Reads FilledWords identified_as (identifier ws) (C.identifier (length ws))
unfolding identifier C.identifier is_empty
identifier_alike ws g = record { at = λ t. (whole t).at t }
  where
    whole : (t : Text) → Reads FilledWords identified_as
        (next_if (is "0") >>= λ a. (if a then next_if (is "0") else ret false) >>= λ b. identifier_from (suc (length t)) (a && not b) b ws [] >>= λ r. unless 9 (not (is_empty r.name)) >> ret r)
        (next_if (is "0") >>= λ a. (if a then next_if (is "0") else ret false) >>= λ b. C.identifier_from (suc (length t)) (a && not b) b (length ws) true >>= λ r. unless 9 (not r.empty) >> ret r)
    whole t =
        bind _ _ (same_reads (next_if (is "0"))) λ a _. bind _ _ (same_reads (if a then next_if (is "0") else ret false)) λ b _.
        bind _ _ (loop_alike (suc (length t)) (a && not b) b ws [] g) λ r h. bind _ _ (same_reads (unless 9 (not (is_empty r.name)))) λ _ _. ret_alike r (C.identified (is_empty r.name) (length r.words)) refl h
