-- The loops of the definition have a bound on their rounds, because antt's functions must recurse
-- on a smaller argument. No loop is cut off by it: any two bounds that are large enough give the
-- same result (`..-bound`, one law for each loop; each says what a round takes), and those that the
-- definition gives are large enough (`..-any`, `rounds_enough`). The law for `turns` is in
-- proofs/WholeRuns, the law for the letters of `A` in crate `operator_substitutions`
-- (proofs/ChainLaws `letters_chain`, `letters_are`).
use Rattle.std.specs.Prelude.{if◌then◌else◌}
use mathlib.Core.Path.{◌≡◌, refl, sym, ap, subst}
use mathlib.Core.Bool.{Bool, true, false, ◌&&◌, not}
use mathlib.Core.List.{List, [], ◌∷◌, ◌++◌}
use mathlib.Core.Option.{Option, some, none}
use Prim.Native.Nat.{ℕ, zero, suc, ◌+◌, ◌-◌, ◌*◌, ◌/◌, ◌%◌, ◌^◌, ◌≤◌, ◌<◌}
use Prim.Native.Char.{code}
use native.Mathlib.Omega.{arith}
use borrow.Author.Tests.{ltb-false, eqb-false}
use lib.Dec.{T, eqb, ltb, leb}
use lib.ListN.{length, take, drop, length-drop, get_elem?}
use Rattle.definition.specs.Base.{Name, decimal_before, decimal, given, is_some, between, is, digit, lower, upper, Out, ok, refused, Step, Done, ret, refuse, unless, and_then, ◌>>=◌}
use Rattle.definition.specs.Text.{Text, peek, next_if, digits, natural, Utf8Row, utf8_rows, tails, second, by_row, character, ill_formed_from, ill_formed, well_formed}
use Rattle.definition.specs.Words as W
use Rattle.definition.specs.Words.{take_bytes, literal}
use Rattle.definition.specs.Kind as K
use Rattle.definition.specs.Kind.{Entry, entry}
use Rattle.definition.specs.Node as N
use Rattle.definition.specs.Node.{Node, Nodes, Module, Nominal, kind, name_of, member_of}
use Rattle.definition.specs.Print.{param_letters, generic_param_name}
use Rattle.definition.specs.Machine as M
use Rattle.definition.specs.Machine.{Machine, restack}
use Rattle.definition.specs.Perform as R
use Rattle.definition.specs.Perform.{Demangler}
use Rattle.definition.specs.Shape as C
use Rattle.definition.specs.Shape.{Shapes, Taken, kind_of}
use Rattle.definition.specs.Check as Ch
use Rattle.definition.proofs.OperatorsKeep.{Yields, yields_then, yields_map}

-- NUMBERS
-- each digit divides the number by 10
pub digits_bound : (f g n : ℕ) (tail : Name) → n < f → n < g → decimal_before f n tail ≡ decimal_before g n tail
unfolding decimal_before
digits_bound zero g n tail a b = absurd (omega arith)
digits_bound (suc f) zero n tail a b = absurd (omega arith)
digits_bound (suc f) (suc g) n tail a b = by_size (digits_bound f g (n / 10) ((48 + n % 10) ∷ tail)) (ltb n 10) refl
  where
    by_size : (n / 10 < f → n / 10 < g → decimal_before f (n / 10) ((48 + n % 10) ∷ tail) ≡ decimal_before g (n / 10) ((48 + n % 10) ∷ tail)) → (t : Bool) → ltb n 10 ≡ t →
        ◌≡◌ {A = Name} (elim t [ true ↦ (48 + n) ∷ tail | false ↦ decimal_before f (n / 10) ((48 + n % 10) ∷ tail) ]) (elim t [ true ↦ (48 + n) ∷ tail | false ↦ decimal_before g (n / 10) ((48 + n % 10) ∷ tail) ])
    by_size next true e = refl
    by_size next false e = let h : 10 ≤ n = ltb-false n 10 e in next (omega (arith, h)) (omega (arith, h))

-- each letter divides the index by 26
pub letters_bound : (f g i : ℕ) → i < f → i < g → param_letters f i ≡ param_letters g i
unfolding param_letters
letters_bound zero g i a b = absurd (omega arith)
letters_bound (suc f) zero i a b = absurd (omega arith)
letters_bound (suc f) (suc g) i a b = by_size (letters_bound f g (i / 26)) (eqb (i / 26) 0) refl
  where
    by_size : (i / 26 < f → i / 26 < g → param_letters f (i / 26) ≡ param_letters g (i / 26)) → (t : Bool) → eqb (i / 26) 0 ≡ t → param_letters (suc f) i ≡ param_letters (suc g) i
    by_size next true e = rw (param_letters, e) refl
    by_size next false e = let h : i / 26 ≡ 0 → ⊥ = eqb-false (i / 26) 0 e in rw (param_letters, e, next (omega (arith, h)) (omega (arith, h))) refl

-- TEXTS
-- what a step leaves of a text: no more than there was, or less
abbrev NoMore : {A : Type 0} → Text → Out Text A → Type 0
NoMore t o = Yields (λ a u. length u ≤ length t) o

abbrev Less : {A : Type 0} → Text → Out Text A → Type 0
Less t o = Yields (λ a u. length u < length t) o

-- the steps after a first one are the same if it leaves less
then_same : {S A B : Type 0} {P : A → S → Type 0} (o : Out S A) (k l : A → Step S B) → Yields P o → ((a : A) (s : S) → P a s → k a s ≡ l a s) → and_then o k ≡ and_then o l
then_same (ok a s) k l h f = f a s h
then_same (refused r) k l h f = refl

-- and so are two choices that differ in the one that continues
if_else : {S A : Type 0} (b : Bool) (x y z : Step S A) (s : S) → y s ≡ z s → (if b then x else y) s ≡ (if b then x else z) s
if_else true x y z s e = refl
if_else false x y z s e = e

if_then : {S A : Type 0} (b : Bool) (x y z : Step S A) (s : S) → x s ≡ y s → (if b then x else z) s ≡ (if b then y else z) s
if_then true x y z s e = e
if_then false x y z s e = refl

-- UTF-8: each character takes its first byte
tails_take : (n : ℕ) (t u : Text) → tails n t ≡ some u → length u ≤ length t
unfolding tails
tails_take zero t u e = let q : t ≡ u = cc in omega (arith, ap length q)
tails_take (suc n) [] u e = let z : ◌≡◌ {A = ℕ} 0 1 = cc in absurd (omega arith)
tails_take (suc n) (b ∷ t) u e = by (between 0x80 0xBF b) (tails_take n t u) e
  where
    by : (x : Bool) → (tails n t ≡ some u → length u ≤ length t) → ◌≡◌ {A = Option Text} (elim x [ true ↦ tails n t | false ↦ none ]) (some u) → length u ≤ length (b ∷ t)
    by true next e = omega (arith, next e)
    by false next e = let z : ◌≡◌ {A = ℕ} 0 1 = cc in absurd (omega arith)

second_takes : (r : Utf8Row) (t u : Text) → second r t ≡ some u → length u ≤ length t
unfolding second
second_takes r [] u e = let z : ◌≡◌ {A = ℕ} 0 1 = cc in absurd (omega arith)
second_takes r (b ∷ t) u e = by (between r.low r.high b) e
  where
    by : (x : Bool) → ◌≡◌ {A = Option Text} (elim x [ true ↦ tails r.more t | false ↦ none ]) (some u) → length u ≤ length (b ∷ t)
    by true e = omega (arith, tails_take r.more t u e)
    by false e = let z : ◌≡◌ {A = ℕ} 0 1 = cc in absurd (omega arith)

by_row_takes : (b : ℕ) (rs : List Utf8Row) (t u : Text) → by_row b rs t ≡ some u → length u ≤ length t
unfolding by_row
by_row_takes b [] t u e = let z : ◌≡◌ {A = ℕ} 0 1 = cc in absurd (omega arith)
by_row_takes b (r ∷ rs) t u e = by (between r.first r.last b) (by_row_takes b rs t u) e
  where
    by : (x : Bool) → (by_row b rs t ≡ some u → length u ≤ length t) → ◌≡◌ {A = Option Text} (elim x [ true ↦ second r t | false ↦ by_row b rs t ]) (some u) → length u ≤ length t
    by true next e = second_takes r t u e
    by false next e = next e

character_takes : (b : ℕ) (t u : Text) → character b t ≡ some u → length u ≤ length t
unfolding character
character_takes b t u e = by (ltb b 0x80) e
  where
    by : (x : Bool) → ◌≡◌ {A = Option Text} (elim x [ true ↦ some t | false ↦ by_row b utf8_rows t ]) (some u) → length u ≤ length t
    by true e = let q : t ≡ u = cc in omega (arith, ap length q)
    by false e = by_row_takes b utf8_rows t u e

pub characters_bound : (f g n : ℕ) (t : Text) → length t ≤ f → length t ≤ g → ill_formed_from f n t ≡ ill_formed_from g n t
unfolding ill_formed_from
characters_bound zero zero n t a b = refl
characters_bound zero (suc g) n [] a b = refl
characters_bound zero (suc g) n (c ∷ t) a b = absurd (omega (arith, a))
characters_bound (suc f) zero n [] a b = refl
characters_bound (suc f) zero n (c ∷ t) a b = absurd (omega (arith, b))
characters_bound (suc f) (suc g) n [] a b = refl
characters_bound (suc f) (suc g) n (c ∷ t) a b = by (λ u. characters_bound f g n u) (character c t) (character_takes c t)
  where
    by : ((u : Text) → length u ≤ f → length u ≤ g → ill_formed_from f n u ≡ ill_formed_from g n u) → (o : Option Text) → ((u : Text) → o ≡ some u → length u ≤ length t) →
        ◌≡◌ {A = Option ℕ} (elim o [ none ↦ some (n - length (c ∷ t)) | some u ↦ ill_formed_from f n u ]) (elim o [ none ↦ some (n - length (c ∷ t)) | some u ↦ ill_formed_from g n u ])
    by next none h = refl
    by next (some u) h = next u (omega (arith, h u refl, a)) (omega (arith, h u refl, b))

-- IDENTIFIERS: each round that continues takes a literal, which has at least one digit
next_if_leaves : (p : ℕ → Bool) (t : Text) → NoMore t (next_if p t)
unfolding next_if
next_if_leaves p [] = omega arith
next_if_leaves p (b ∷ t) = by (p b)
  where
    by : (x : Bool) → NoMore {A = Bool} (b ∷ t) (elim x [ true ↦ ok true t | false ↦ ok false (b ∷ t) ])
    by true = omega arith
    by false = omega arith

digits_leave : (v : ℕ) (t : Text) → NoMore t (digits v t)
unfolding digits
digits_leave v [] = omega arith
digits_leave v (c ∷ t) = by (digit c) (ltb (v * 10 + (c - 48)) (2 ^ 64)) (digits_leave (v * 10 + (c - 48)) t)
  where
    by : (x y : Bool) → NoMore t (digits (v * 10 + (c - 48)) t) →
        NoMore {A = ℕ} (c ∷ t) (elim x [ true ↦ elim y [ true ↦ digits (v * 10 + (c - 48)) t | false ↦ refused 9 ] | false ↦ ok v (c ∷ t) ])
    by true true h = yields_map _ (digits (v * 10 + (c - 48)) t) (λ a u k. omega (arith, k)) h
    by true false h = tt
    by false y h = omega arith

digits_take : (v c : ℕ) (t : Text) → digit c ≡ true → Less (c ∷ t) (digits v (c ∷ t))
unfolding digits
digits_take v c t e = by (digit c) (ltb (v * 10 + (c - 48)) (2 ^ 64)) e (digits_leave (v * 10 + (c - 48)) t)
  where
    by : (x y : Bool) → x ≡ true → NoMore t (digits (v * 10 + (c - 48)) t) →
        Less {A = ℕ} (c ∷ t) (elim x [ true ↦ elim y [ true ↦ digits (v * 10 + (c - 48)) t | false ↦ refused 9 ] | false ↦ ok v (c ∷ t) ])
    by true true e h = yields_map _ (digits (v * 10 + (c - 48)) t) (λ a u k. omega (arith, k)) h
    by true false e h = tt
    by false y e h = absurd (subst T (sym e) tt)

natural_leaves : (t : Text) → Less t (natural t)
unfolding natural peek
natural_leaves [] = tt
natural_leaves (c ∷ t) = by (digit c) refl
  where
    by : (x : Bool) → digit c ≡ x → Less {A = ℕ} (c ∷ t) (and_then (unless 9 x (c ∷ t)) (λ _. digits 0))
    by true e = digits_take 0 c t e
    by false e = tt

take_bytes_leaves : (n : ℕ) (t : Text) → NoMore t (take_bytes n t)
unfolding take_bytes
take_bytes_leaves n t = by (leb n (length t))
  where
    by : (x : Bool) → NoMore {A = Name} t (elim x [ true ↦ ok (take n t) (drop n t) | false ↦ refused 9 ])
    by true = omega (arith, length-drop n t)
    by false = tt

unless_leaves : (r : ℕ) (b : Bool) (t : Text) → NoMore {A = Done} t (unless r b t)
unless_leaves r true t = omega arith
unless_leaves r false t = tt

mark_leaves : (punycoded : Bool) (t : Text) → NoMore {A = Bool} t ((if punycoded then next_if (is "_") else ret false) t)
mark_leaves true t = next_if_leaves (is "_") t
mark_leaves false t = omega arith

literal_leaves : (punycoded : Bool) (t : Text) → Less t (literal punycoded t)
unfolding literal
literal_leaves punycoded t =
    yields_then _ (natural t) _ (natural_leaves t) λ count t₁ a.
    yields_then _ (unless 9 (ltb 0 count) t₁) _ (unless_leaves 9 (ltb 0 count) t₁) λ _ t₂ b.
    yields_then _ ((if punycoded then next_if (is "_") else ret false) t₂) _ (mark_leaves punycoded t₂) λ _ t₃ c.
    yields_then _ (take_bytes count t₃) _ (take_bytes_leaves count t₃) λ slice t₄ d.
    yields_then _ (unless 9 (well_formed slice) t₄) (λ _. ret slice) (unless_leaves 9 (well_formed slice) t₄) λ _ u e. omega (arith, a, b, c, d, e)

words_leave : (words : List Name) (name : Name) (t : Text) → NoMore t (W.word_letters words name t)
unfolding W.word_letters
words_leave words name [] = omega arith
words_leave words name (c ∷ t) = by (lower c) (upper c) (get_elem? words (c - code "a")) (get_elem? words (c - code "A")) (λ name. words_leave words name t)
  where
    by : (x y : Bool) (o p : Option Name) → ((name : Name) → NoMore t (W.word_letters words name t)) →
        NoMore {A = W.Spelled} (c ∷ t) (elim x [
          | true ↦ elim o [ none ↦ refused 9 | some w ↦ W.word_letters words (name ++ w) t ]
          | false ↦ elim y [
            | true ↦ elim p [ none ↦ refused 9 | some w ↦ ok (W.spelled (name ++ w) false) t ]
            | false ↦ ok (W.spelled name true) (c ∷ t)
          ]
        ])
    by true y none p h = tt
    by true y (some w) p h = yields_map _ (W.word_letters words (name ++ w) t) (λ a u k. omega (arith, k)) (h (name ++ w))
    by false true o none h = tt
    by false true o (some w) h = omega arith
    by false false o p h = omega arith

spelled_leaves : (subs : Bool) (words : List Name) (name : Name) (t : Text) → NoMore {A = W.Spelled} t ((if subs then W.word_letters words name else ret (W.spelled name false)) t)
spelled_leaves true words name t = words_leave words name t
spelled_leaves false words name t = omega arith

pub identifier_bound : (f g : ℕ) (subs punycoded : Bool) (words : List Name) (name : Name) (t : Text) → length t < f → length t < g →
    W.identifier_from f subs punycoded words name t ≡ W.identifier_from g subs punycoded words name t
unfolding W.identifier_from
identifier_bound zero g subs punycoded words name t a b = absurd (omega arith)
identifier_bound (suc f) zero subs punycoded words name t a b = absurd (omega arith)
identifier_bound (suc f) (suc g) subs punycoded words name t a b =
    then_same ((if subs then W.word_letters words name else ret (W.spelled name false)) t) _ _ (spelled_leaves subs words name t) λ s t₁ c.
    then_same (next_if (is "0") t₁) _ _ (next_if_leaves (is "0") t₁) λ closed t₂ d.
    if_else closed _ _ _ t₂
    (then_same (literal punycoded t₂) _ _ (literal_leaves punycoded t₂) λ slice t₃ e.
    if_then s.more _ _ _ t₃ (identifier_bound f g true punycoded _ _ t₃ (omega (arith, a, c, d, e)) (omega (arith, b, c, d, e))))

counted_words_leave : (words : ℕ) (empty : Bool) (t : Text) → NoMore t (Ch.word_letters words empty t)
unfolding Ch.word_letters
counted_words_leave words empty [] = omega arith
counted_words_leave words empty (c ∷ t) = by (lower c) (upper c) (ltb (c - code "a") words) (ltb (c - code "A") words) (counted_words_leave words false t)
  where
    by : (x y o p : Bool) → NoMore t (Ch.word_letters words false t) →
        NoMore {A = Ch.Spelled} (c ∷ t) (elim x [
          | true ↦ elim o [ false ↦ refused 9 | true ↦ Ch.word_letters words false t ]
          | false ↦ elim y [
            | true ↦ elim p [ false ↦ refused 9 | true ↦ ok (Ch.spelled false false) t ]
            | false ↦ ok (Ch.spelled empty true) (c ∷ t)
          ]
        ])
    by true y false p h = tt
    by true y true p h = yields_map _ (Ch.word_letters words false t) (λ a u k. omega (arith, k)) h
    by false true o false h = tt
    by false true o true h = omega arith
    by false false o p h = omega arith

counted_leaves : (subs : Bool) (words : ℕ) (empty : Bool) (t : Text) → NoMore {A = Ch.Spelled} t ((if subs then Ch.word_letters words empty else ret (Ch.spelled empty false)) t)
counted_leaves true words empty t = counted_words_leave words empty t
counted_leaves false words empty t = omega arith

pub identifier_count_bound : (f g : ℕ) (subs punycoded : Bool) (words : ℕ) (empty : Bool) (t : Text) → length t < f → length t < g →
    Ch.identifier_from f subs punycoded words empty t ≡ Ch.identifier_from g subs punycoded words empty t
unfolding Ch.identifier_from
identifier_count_bound zero g subs punycoded words empty t a b = absurd (omega arith)
identifier_count_bound (suc f) zero subs punycoded words empty t a b = absurd (omega arith)
identifier_count_bound (suc f) (suc g) subs punycoded words empty t a b =
    then_same ((if subs then Ch.word_letters words empty else ret (Ch.spelled empty false)) t) _ _ (counted_leaves subs words empty t) λ s t₁ c.
    then_same (next_if (is "0") t₁) _ _ (next_if_leaves (is "0") t₁) λ closed t₂ d.
    if_else closed _ _ _ t₂
    (then_same (literal punycoded t₂) _ _ (literal_leaves punycoded t₂) λ slice t₃ e.
    if_then s.more _ _ _ t₃ (identifier_count_bound f g true punycoded _ _ t₃ (omega (arith, a, c, d, e)) (omega (arith, b, c, d, e))))

-- STACKS. `rounds` gives the loops below one round more than there are nodes on the stack
-- what a step leaves on a stack: no more than there was, or less
module _ {A W X : Type 0} where
  abbrev NoDeeper : Machine A W → Out (Machine A W) X → Type 0
  NoDeeper m o = Yields (λ x n. length n.stack ≤ length m.stack) o

  abbrev Lower : Machine A W → Out (Machine A W) X → Type 0
  Lower m o = Yields (λ x n. length n.stack < length m.stack) o

-- a node that was tried for is taken if it is there
module _ {A W : Type 0} where
  abbrev Tried : Machine A W → Option A → Machine A W → Type 0
  Tried m none n = length n.stack ≤ length m.stack
  Tried m (some a) n = length n.stack < length m.stack

  tried_same : {X : Type 0} (o : Option A) (m n : Machine A W) (x y : Step (Machine A W) X) (f g : A → Step (Machine A W) X) → Tried m o n →
      (length n.stack ≤ length m.stack → x n ≡ y n) → ((a : A) → length n.stack < length m.stack → f a n ≡ g a n) → given o x f n ≡ given o y g n
  tried_same none m n x y f g t h k = h t
  tried_same (some a) m n x y f g t h k = k a t

  tried_keeps : (o : Option A) (m n : Machine A W) → Tried m o n → length n.stack ≤ length m.stack
  tried_keeps none m n t = t
  tried_keeps (some a) m n t = omega (arith, t)

module _ {A W : Type 0} (kind : A → ℕ) where
  pop_if_lowers : (want : ℕ → Bool) (m : Machine A W) → Lower m (M.pop_if kind want m)
  unfolding M.pop_if M.pop_from
  pop_if_lowers want m = by m.stack refl
    where
      taken : (a : A) (s : List A) (b : Bool) → m.stack ≡ a ∷ s → Lower m (if b then ok a (restack s m) else refused 10)
      taken a s true e = omega (arith, ap length e)
      taken a s false e = tt

      by : (s : List A) → m.stack ≡ s → Lower m (M.pop_from kind want s m)
      by [] e = tt
      by (a ∷ s) e = taken a s (want (kind a)) e

  try_takes : (want : ℕ → Bool) (m : Machine A W) → Yields (λ o n. Tried m o n) (M.try kind want m)
  unfolding M.try M.try_from
  try_takes want m = by m.stack refl
    where
      taken : (a : A) (s : List A) (b : Bool) → m.stack ≡ a ∷ s → Yields (λ o n. Tried m o n) (if b then ok (some a) (restack s m) else ok none m)
      taken a s true e = omega (arith, ap length e)
      taken a s false e = omega arith

      by : (s : List A) → m.stack ≡ s → Yields (λ o n. Tried m o n) (M.try_from kind want s m)
      by [] e = omega arith
      by (a ∷ s) e = taken a s (want (kind a)) e

  try_keeps : (want : ℕ → Bool) (m : Machine A W) → NoDeeper m (M.try kind want m)
  try_keeps want m = yields_map _ (M.try kind want m) (λ o n t. tried_keeps o m n t) (try_takes want m)

  took_keeps : (k : ℕ) (m : Machine A W) → NoDeeper m (M.took kind k m)
  unfolding M.took
  took_keeps k m = yields_then _ (M.try kind (eqb k) m) (λ o. ret (is_some o)) (try_keeps (eqb k) m) λ o n h. h

  -- what is popped and then examined, with no more pops
  popped_lowers : {X : Type 0} (look : A → Step (Machine A W) X) → ((a : A) (n : Machine A W) → NoDeeper n (look a n)) → (m : Machine A W) → Lower m ((M.pop kind >>= look) m)
  unfolding M.pop
  popped_lowers look h m =
      yields_then _ (M.pop_if kind (λ k. true) m) look (pop_if_lowers (λ k. true) m) λ a n l. yields_map _ (look a n) (λ x k e. omega (arith, l, e)) (h a n)

context_lowers : (m : Demangler) → Lower m (R.context m)
unfolding R.context R.context_in
context_lowers = popped_lowers kind R.context_in λ n m. by n m (name_of n) (K.is_context (kind n))
  where
    by : (n : Node) (m : Demangler) (o : Option Name) (b : Bool) → NoDeeper m (given o (if b then ret n else refuse 10) (λ name. ret (Module name)) m)
    by n m none true = omega arith
    by n m none false = tt
    by n m (some name) b = omega arith

protocol_lowers : (m : Demangler) → Lower m (R.protocol m)
unfolding R.protocol R.protocol_in
protocol_lowers = popped_lowers kind R.protocol_in λ n m. by n m (K.is_protocol (kind n)) (member_of n) (name_of n)
  where
    named : (name : Name) (m : Demangler) → NoDeeper m ((R.context >>= λ c. ret (Nominal N.Protocol c name)) m)
    named name m = yields_then _ (R.context m) (λ c. ret (Nominal N.Protocol c name)) (context_lowers m) λ c n l. omega (arith, l)

    by : (n : Node) (m : Demangler) (b : Bool) (o : Option Node) (p : Option Name) →
        NoDeeper m ((if b then ret n else given o (given p (refuse 10) (λ name. R.context >>= λ c. ret (Nominal N.Protocol c name))) ret) m)
    by n m true o p = omega arith
    by n m false (some x) p = omega arith
    by n m false none none = tt
    by n m false none (some name) = named name m

entry_context_lowers : (m : Shapes) → Lower m (C.context m)
unfolding C.context C.context_in
entry_context_lowers = popped_lowers kind_of C.context_in λ e m. by e m (K.is_identifier e.kind) (K.is_context e.kind)
  where
    by : (e : Entry) (m : Shapes) (a b : Bool) → NoDeeper m ((if a then ret (entry K.module_kind 1 0) else if b then ret e else refuse 10) m)
    by e m true b = omega arith
    by e m false true = omega arith
    by e m false false = tt

entry_protocol_lowers : (m : Shapes) → Lower m (C.protocol m)
unfolding C.protocol C.protocol_in
entry_protocol_lowers = popped_lowers kind_of C.protocol_in λ e m. by e m (K.is_protocol e.kind) (eqb e.kind K.protocol_list && eqb e.count 1) (K.is_identifier e.kind)
  where
    named : (m : Shapes) → NoDeeper m ((C.context >>= λ c. ret (entry K.protocol (1 + c.size) 0)) m)
    named m = yields_then _ (C.context m) (λ c. ret (entry K.protocol (1 + c.size) 0)) (entry_context_lowers m) λ c n l. omega (arith, l)

    by : (e : Entry) (m : Shapes) (a b c : Bool) →
        NoDeeper m ((if a then ret e else if b then ret (entry K.protocol (e.size - 1) 0) else if c then (C.context >>= λ x. ret (entry K.protocol (1 + x.size) 0)) else refuse 10) m)
    by e m true b c = omega arith
    by e m false true c = omega arith
    by e m false false true = named m
    by e m false false false = tt

-- each round takes a type
pub elements_bound : (f g : ℕ) (es : Nodes) (m : Demangler) → length m.stack < f → length m.stack < g → R.elements f es m ≡ R.elements g es m
unfolding R.elements
elements_bound zero g es m a b = absurd (omega arith)
elements_bound (suc f) zero es m a b = absurd (omega arith)
elements_bound (suc f) (suc g) es m a b =
    then_same (R.took K.first_element_marker m) _ _ (took_keeps kind K.first_element_marker m) λ first m₁ c.
    then_same (R.took K.variadic_marker m₁) _ _ (took_keeps kind K.variadic_marker m₁) λ _ m₂ d.
    then_same (R.try K.is_identifier m₂) _ _ (try_keeps kind K.is_identifier m₂) λ label m₃ e.
    then_same (R.pop_if K.is_type m₃) _ _ (pop_if_lowers kind K.is_type m₃) λ ty m₄ l.
    if_else first _ _ _ m₄ (elements_bound f g _ m₄ (omega (arith, a, c, d, e, l)) (omega (arith, b, c, d, e, l)))

pub entry_elements_bound : (f g : ℕ) (t : Taken) (m : Shapes) → length m.stack < f → length m.stack < g → C.elements_from f t m ≡ C.elements_from g t m
unfolding C.elements_from
entry_elements_bound zero g t m a b = absurd (omega arith)
entry_elements_bound (suc f) zero t m a b = absurd (omega arith)
entry_elements_bound (suc f) (suc g) t m a b =
    then_same (C.took K.first_element_marker m) _ _ (took_keeps kind_of K.first_element_marker m) λ first m₁ c.
    then_same (C.took K.variadic_marker m₁) _ _ (took_keeps kind_of K.variadic_marker m₁) λ _ m₂ d.
    then_same (C.try K.is_identifier m₂) _ _ (try_keeps kind_of K.is_identifier m₂) λ _ m₃ e.
    then_same (C.pop_if K.is_type m₃) _ _ (pop_if_lowers kind_of K.is_type m₃) λ x m₄ l.
    if_else first _ _ _ m₄ (entry_elements_bound f g _ m₄ (omega (arith, a, c, d, e, l)) (omega (arith, b, c, d, e, l)))

-- each round takes a protocol
pub members_bound : (f g : ℕ) (ps : Nodes) (m : Demangler) → length m.stack < f → length m.stack < g → R.members f ps m ≡ R.members g ps m
unfolding R.members
members_bound zero g ps m a b = absurd (omega arith)
members_bound (suc f) zero ps m a b = absurd (omega arith)
members_bound (suc f) (suc g) ps m a b =
    then_same (R.took K.first_element_marker m) _ _ (took_keeps kind K.first_element_marker m) λ first m₁ c.
    then_same (R.protocol m₁) _ _ (protocol_lowers m₁) λ p m₂ l.
    if_else first _ _ _ m₂ (members_bound f g _ m₂ (omega (arith, a, c, l)) (omega (arith, b, c, l)))

pub entry_members_bound : (f g : ℕ) (t : Taken) (m : Shapes) → length m.stack < f → length m.stack < g → C.members_from f t m ≡ C.members_from g t m
unfolding C.members_from
entry_members_bound zero g t m a b = absurd (omega arith)
entry_members_bound (suc f) zero t m a b = absurd (omega arith)
entry_members_bound (suc f) (suc g) t m a b =
    then_same (C.took K.first_element_marker m) _ _ (took_keeps kind_of K.first_element_marker m) λ first m₁ c.
    then_same (C.protocol m₁) _ _ (entry_protocol_lowers m₁) λ p m₂ l.
    if_else first _ _ _ m₂ (entry_members_bound f g _ m₂ (omega (arith, a, c, l)) (omega (arith, b, c, l)))

-- each round takes a type or a marker
pub arguments_bound : (f g : ℕ) (args : Nodes) (m : Demangler) → length m.stack < f → length m.stack < g → R.arguments f args m ≡ R.arguments g args m
unfolding R.arguments
arguments_bound zero g args m a b = absurd (omega arith)
arguments_bound (suc f) zero args m a b = absurd (omega arith)
arguments_bound (suc f) (suc g) args m a b =
    then_same (R.try K.is_type m) _ _ (try_takes kind K.is_type m) λ ty m₁ c.
    tried_same ty m m₁ _ _ _ _ c
    (λ d. then_same (R.took K.empty_list m₁) _ _ (took_keeps kind K.empty_list m₁) λ opened m₂ e.
    if_else opened _ _ _ m₂ (then_same (R.pop_if (eqb K.first_element_marker) m₂) _ _ (pop_if_lowers kind (eqb K.first_element_marker) m₂) λ _ m₃ l.
    arguments_bound f g args m₃ (omega (arith, a, d, e, l)) (omega (arith, b, d, e, l))))
    (λ n l. arguments_bound f g _ m₁ (omega (arith, a, l)) (omega (arith, b, l)))

pub entry_arguments_bound : (f g : ℕ) (t : Taken) (m : Shapes) → length m.stack < f → length m.stack < g → C.arguments_from f t m ≡ C.arguments_from g t m
unfolding C.arguments_from
entry_arguments_bound zero g t m a b = absurd (omega arith)
entry_arguments_bound (suc f) zero t m a b = absurd (omega arith)
entry_arguments_bound (suc f) (suc g) t m a b =
    then_same (C.try K.is_type m) _ _ (try_takes kind_of K.is_type m) λ ty m₁ c.
    tried_same ty m m₁ _ _ _ _ c
    (λ d. then_same (C.took K.empty_list m₁) _ _ (took_keeps kind_of K.empty_list m₁) λ opened m₂ e.
    if_else opened _ _ _ m₂ (then_same (C.pop_if (eqb K.first_element_marker) m₂) _ _ (pop_if_lowers kind_of (eqb K.first_element_marker) m₂) λ _ m₃ l.
    entry_arguments_bound f g t m₃ (omega (arith, a, d, e, l)) (omega (arith, b, d, e, l))))
    (λ n l. entry_arguments_bound f g _ m₁ (omega (arith, a, l)) (omega (arith, b, l)))

-- each round takes a requirement
pub requirements_bound : (f g : ℕ) (rs : Nodes) (m : Demangler) → length m.stack < f → length m.stack < g → R.requirements f rs m ≡ R.requirements g rs m
unfolding R.requirements
requirements_bound zero g rs m a b = absurd (omega arith)
requirements_bound (suc f) zero rs m a b = absurd (omega arith)
requirements_bound (suc f) (suc g) rs m a b =
    then_same (R.try K.is_requirement m) _ _ (try_takes kind K.is_requirement m) λ r m₁ c.
    tried_same r m m₁ _ _ _ _ c (λ d. refl) (λ n l. requirements_bound f g _ m₁ (omega (arith, a, l)) (omega (arith, b, l)))

pub entry_requirements_bound : (f g : ℕ) (t : Taken) (m : Shapes) → length m.stack < f → length m.stack < g → C.requirements_from f t m ≡ C.requirements_from g t m
unfolding C.requirements_from
entry_requirements_bound zero g t m a b = absurd (omega arith)
entry_requirements_bound (suc f) zero t m a b = absurd (omega arith)
entry_requirements_bound (suc f) (suc g) t m a b =
    then_same (C.try K.is_requirement m) _ _ (try_takes kind_of K.is_requirement m) λ r m₁ c.
    tried_same r m m₁ _ _ _ _ c (λ d. refl) (λ n l. entry_requirements_bound f g _ m₁ (omega (arith, a, l)) (omega (arith, b, l)))

-- THE BOUNDS THAT THE DEFINITION GIVES ARE LARGE ENOUGH: with any larger one the result is the same
pub decimal_any : (f n : ℕ) → n < f → decimal n ≡ decimal_before f n []
unfolding decimal
decimal_any f n h = digits_bound (suc n) f n [] (omega arith) h

pub param_name_any : (f depth index : ℕ) → index < f → generic_param_name depth index ≡ param_letters f index ++ (if ltb 0 depth then decimal depth else [])
unfolding generic_param_name
param_name_any f depth index h = ap (λ (x : Name). x ++ (if ltb 0 depth then decimal depth else [])) (letters_bound (suc index) f index (omega arith) h)

pub ill_formed_any : (f : ℕ) (t : Text) → length t ≤ f → ill_formed t ≡ ill_formed_from f (length t) t
unfolding ill_formed
ill_formed_any f t h = characters_bound (length t) f (length t) t (omega arith) h

-- for every loop over the stack
pub rounds_enough : {A W : Type 0} (m : Machine A W) → Yields (λ f n. (n ≡ m) × (length m.stack < f)) (M.rounds m)
unfolding M.rounds
rounds_enough m = (refl, omega arith)

lead_leaves : (b : Bool) (t : Text) → NoMore {A = Bool} t ((if b then next_if (is "0") else ret false) t)
lead_leaves true t = next_if_leaves (is "0") t
lead_leaves false t = omega arith

pub identifier_any : (f : ℕ) (words : List Name) (t : Text) → length t < f →
    W.identifier words t ≡ (next_if (is "0") >>= λ zero₁. (if zero₁ then next_if (is "0") else ret false) >>= λ punycoded. W.identifier_from f (zero₁ && not punycoded) punycoded words [] >>= λ r. unless 9 (not (W.is_empty r.name)) >>= λ _. ret r) t
unfolding W.identifier
identifier_any f words t h =
    then_same (next_if (is "0") t) _ _ (next_if_leaves (is "0") t) λ zero₁ t₁ a.
    then_same ((if zero₁ then next_if (is "0") else ret false) t₁) _ _ (lead_leaves zero₁ t₁) λ punycoded t₂ b.
    ap (λ (o : Out Text W.Identified). and_then o (λ r. unless 9 (not (W.is_empty r.name)) >>= λ _. ret r))
    (identifier_bound (suc (length t)) f (zero₁ && not punycoded) punycoded words [] t₂ (omega (arith, a, b)) (omega (arith, a, b, h)))

pub identifier_count_any : (f words : ℕ) (t : Text) → length t < f →
    Ch.identifier words t ≡ (next_if (is "0") >>= λ zero₁. (if zero₁ then next_if (is "0") else ret false) >>= λ punycoded. Ch.identifier_from f (zero₁ && not punycoded) punycoded words true >>= λ r. unless 9 (not r.empty) >>= λ _. ret r) t
unfolding Ch.identifier
identifier_count_any f words t h =
    then_same (next_if (is "0") t) _ _ (next_if_leaves (is "0") t) λ zero₁ t₁ a.
    then_same ((if zero₁ then next_if (is "0") else ret false) t₁) _ _ (lead_leaves zero₁ t₁) λ punycoded t₂ b.
    ap (λ (o : Out Text Ch.Identified). and_then o (λ r. unless 9 (not r.empty) >>= λ _. ret r))
    (identifier_count_bound (suc (length t)) f (zero₁ && not punycoded) punycoded words true t₂ (omega (arith, a, b)) (omega (arith, a, b, h)))
