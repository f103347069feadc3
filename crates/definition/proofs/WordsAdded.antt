-- Words are only added: each part of a reading leaves a list of words that begins with the one that
-- it was given. Every known word has 2 bytes or more, and there are at most 26.
use Rattle.std.specs.Prelude.{if◌then◌else◌}
use mathlib.Core.Path.{◌≡◌, refl, sym, ap, ◌∙◌, subst, subst⁻¹}
use mathlib.Core.Bool.{Bool, true, false, ◌&&◌, not}
use mathlib.Core.List.{List, [], ◌∷◌, ◌++◌, append-nil, append_assoc}
use mathlib.Core.Option.{some}
use Prim.Native.Nat.{ℕ, zero, suc, ◌≤◌, ◌<◌}
use native.Mathlib.Omega.{arith}
use lib.Dec.{T, ltb, leb, leb→le, ltb→lt}
use lib.ListN.{length, length-append, get_elem?}
use Rattle.definition.specs.Base.{Name, is, digit, upper, Out, ok, refused, Step, Done, ret, unless, ◌>>=◌, ◌>>◌}
use Rattle.definition.specs.Text.{Text, Lex, peek, next_if}
use Rattle.definition.specs.Words.{most_words, keep, starts, note_words_from, note_words, spelled, word_letters, literal, Identified, identified, identifier_from, is_empty, identifier}
use Rattle.definition.specs.Budget as B
use Rattle.definition.specs.Budget.{Budget}
use Rattle.definition.specs.Machine.{fresh, spent, spend, know, remember, push}
use Rattle.definition.specs.Operators.{operator}
use Rattle.definition.specs.Perform.{Demangler, Run, perform}
use Rattle.definition.specs.Calls.{End, ran, stopped, then_run, turn, turns}
use Rattle.definition.specs.Reading.{name, one}
use Rattle.definition.proofs.OperatorsKeep.{Yields, yields_then, yields_after, yields_map, Keeps, keeps_then_run, keeps_perform}

-- WHAT IS STATED
-- vs begins with ws
pub record Begins (ws vs : List Name) : Type 0 where
  pub more : List Name
  pub all : vs ≡ ws ++ more

pub begins_refl : (ws : List Name) → Begins ws ws
begins_refl ws = record { more = []; all = sym (append-nil ws) }

pub begins_trans : {us vs ws : List Name} → Begins us vs → Begins vs ws → Begins us ws
begins_trans {us} {vs} {ws} a b = record { more = a.more ++ b.more; all = b.all ∙ ap (λ x. x ++ b.more) a.all ∙ append_assoc us a.more b.more }

-- An identifier that begins with `0` may have used words: those known after it begin vs. Another
-- identifier used none (lines 793 to 801)
abbrev pub Looked : Text → (ws vs : List Name) → Type 0
Looked t ws vs = peek (is "0") t ≡ true → Begins ws vs

found_append : (ws more : List Name) (i : ℕ) (w : Name) → get_elem? ws i ≡ some w → get_elem? (ws ++ more) i ≡ some w
found_append [] more i w e = let z : ◌≡◌ {A = ℕ} 0 1 = cc in absurd (omega arith)
found_append (v ∷ ws) more zero w e = e
found_append (v ∷ ws) more (suc i) w e = found_append ws more i w e

-- a word found in the older list is found at the same index in the newer one (line 812 finds words
-- in this way)
pub found_again : {ws vs : List Name} (i : ℕ) (w : Name) → Begins ws vs → get_elem? ws i ≡ some w → get_elem? vs i ≡ some w
found_again {ws} {vs} i w b e = rw b.all (found_append ws b.more i w e)

-- every word has 2 bytes or more
abbrev pub Long : List Name → Type 0
Long [] = Unit {0}
Long (w ∷ ws) = (2 ≤ length w) × Long ws

-- the known words: each has 2 bytes or more, and there are at most MOST_WORDS (line 603)
pub record WellKept (ws : List Name) : Type 0 where
  pub long : Long ws
  pub few : length ws ≤ most_words

-- line 612: a run begins with no words
pub well_kept_none : WellKept []
well_kept_none = record { long = tt; few = omega arith }

-- both, for an older and a newer list
record Added (ws vs : List Name) : Type 0 where
  begins : Begins ws vs
  well_kept : WellKept ws → WellKept vs

added_none : (ws : List Name) → Added ws ws
added_none ws = record { begins = begins_refl ws; well_kept = λ w. w }

added_both : {us vs ws : List Name} → Added us vs → Added vs ws → Added us ws
added_both a b = record { begins = begins_trans a.begins b.begins; well_kept = λ w. b.well_kept (a.well_kept w) }

long_snoc : (ws : List Name) (w : Name) → Long ws → 2 ≤ length w → Long (ws ++ (w ∷ []))
long_snoc [] w l h = (h, tt)
long_snoc (v ∷ ws) w l h = (l.0, long_snoc ws w l.1 h)

-- WORDS OF A TEXT
-- what holds for both outcomes of a test holds for the outcome
pub by_test : {A : Type 0} (P : A → Type 0) (b : Bool) (x y : A) → P x → P y → P (elim b [ true ↦ x | false ↦ y ])
by_test P true x y p q = p
by_test P false x y p q = q

keep_added : (word : Name) (ws : List Name) → Added ws (keep word ws)
unfolding keep
keep_added word ws = go (leb 2 (length word)) (ltb (length ws) most_words) (leb→le 2 (length word)) (ltb→lt (length ws) most_words)
  where
    go : (a b : Bool) → (T a → 2 ≤ length word) → (T b → length ws < most_words) → Added ws (if a && b then ws ++ (word ∷ []) else ws)
    go true true h k = record {
      begins = record { more = word ∷ []; all = refl };
      well_kept = λ w. record { long = long_snoc ws word w.long (h tt); few = simp length-append (omega (arith, k tt)) };
    }
    go true false h k = added_none ws
    go false b h k = added_none ws

note_words_from_added : (word : Name) (previous : ℕ) (t : Text) (ws : List Name) → Added ws (note_words_from word previous t ws)
unfolding note_words_from
note_words_from_added [] previous [] ws = added_none ws
note_words_from_added (x ∷ word) previous [] ws = keep_added (x ∷ word) ws
note_words_from_added [] previous (c ∷ t) ws = by_test (Added ws) (starts c) _ _ (note_words_from_added (c ∷ []) c t ws) (note_words_from_added [] c t ws)
note_words_from_added (x ∷ word) previous (c ∷ t) ws =
    by_test (Added ws) (is "_" c) _ _ (added_both (keep_added (x ∷ word) ws) (note_words_from_added [] c t (keep (x ∷ word) ws)))
    (by_test (Added ws) (not (upper previous) && upper c) _ _ (added_both (keep_added (x ∷ word) ws) (note_words_from_added (c ∷ []) c t (keep (x ∷ word) ws)))
    (note_words_from_added ((x ∷ word) ++ (c ∷ [])) c t ws))

note_words_added : (t : Text) (ws : List Name) → Added ws (note_words t ws)
unfolding note_words
note_words_added t ws = note_words_from_added [] 0 t ws

-- `note_words`, lines 846 to 872
pub note_words_begins : (t : Text) (ws : List Name) → Begins ws (note_words t ws)
note_words_begins t ws = (note_words_added t ws).begins

pub note_words_well_kept : (t : Text) (ws : List Name) → WellKept ws → WellKept (note_words t ws)
note_words_well_kept t ws = (note_words_added t ws).well_kept

-- IDENTIFIERS
-- P holds for what is read
record Reads {A : Type 0} (P : A → Type 0) (s : Lex A) : Type 0 where
  at : (t : Text) → Yields (λ a u. P a) (s t)

reads_ret : {A : Type 0} {P : A → Type 0} (a : A) → P a → Reads P (ret a)
reads_ret a p = record { at = λ t. p }

reads_bind : {A B : Type 0} {P : A → Type 0} {Q : B → Type 0} (s : Lex A) (k : A → Lex B) → Reads P s → ((a : A) → P a → Reads Q (k a)) → Reads Q (s >>= k)
reads_bind {Q = Q} s k h f = record { at = λ t. yields_then (λ b u. Q b) (s t) k (h.at t) (λ a u p. (f a p).at u) }

-- what was read before does not matter
reads_after : {A B : Type 0} {Q : B → Type 0} (s : Lex A) (k : A → Lex B) → ((a : A) → Reads Q (k a)) → Reads Q (s >>= k)
reads_after {Q = Q} s k f = record { at = λ t. yields_after (λ b u. Q b) (s t) k (λ a u. (f a).at u) }

reads_if : {A : Type 0} {P : A → Type 0} (b : Bool) {s s' : Lex A} → Reads P s → Reads P s' → Reads P (if b then s else s')
reads_if true h k = h
reads_if false h k = k

known_added : (b : Bool) (slice : Name) (ws : List Name) → Added ws (if b then ws else note_words slice ws)
known_added true slice ws = added_none ws
known_added false slice ws = note_words_added slice ws

identifier_from_added : (f : ℕ) (subs punycoded : Bool) (ws : List Name) (name : Name) → Reads (λ r. Added ws r.words) (identifier_from f subs punycoded ws name)
unfolding identifier_from
identifier_from_added zero subs punycoded ws name = record { at = λ t. tt }
identifier_from_added (suc f) subs punycoded ws name =
    reads_after (if subs then word_letters ws name else ret (spelled name false)) _ λ s.
    reads_after (next_if (is "0")) _ λ closed.
    reads_if closed (reads_ret (identified s.name ws) (added_none ws))
    (reads_after (literal punycoded) _ λ slice. reads_if s.more
    (goes_on slice (identifier_from_added f true punycoded (if punycoded then ws else note_words slice ws) (s.name ++ slice)))
    (reads_ret (identified (s.name ++ slice) _) (known_added punycoded slice ws)))
  where
    goes_on : (slice : Name) {s : Lex Identified} → Reads (λ r. Added (if punycoded then ws else note_words slice ws) r.words) s → Reads (λ r. Added ws r.words) s
    goes_on slice {s} h = record { at = λ t. yields_map _ (s t) (λ r u a. added_both (known_added punycoded slice ws) a) (h.at t) }

-- the loop of lines 803 to 836, if it is not refused
pub identifier_from_begins : (f : ℕ) (subs punycoded : Bool) (ws : List Name) (name : Name) (t u : Text) (r : Identified) →
    identifier_from f subs punycoded ws name t ≡ ok r u → Begins ws r.words
identifier_from_begins f subs punycoded ws name t u r e = (subst (Yields (λ r u. Added ws r.words)) e ((identifier_from_added f subs punycoded ws name).at t)).begins

-- the steps of `identifier`, with n rounds of the loop allowed
rounds_added : (n : ℕ) (ws : List Name) → Reads (λ r. Added ws r.words) (do
  zero₁ ← next_if (is "0")
  punycoded ← if zero₁ then next_if (is "0") else ret false
  r ← identifier_from n (zero₁ && not punycoded) punycoded ws []
  unless 9 (not (is_empty r.name))
  ret r)
rounds_added n ws =
    reads_after (next_if (is "0")) _ λ zero₁.
    reads_after (if zero₁ then next_if (is "0") else ret false) _ λ punycoded.
    reads_bind (identifier_from n (zero₁ && not punycoded) punycoded ws []) _ (identifier_from_added n (zero₁ && not punycoded) punycoded ws []) λ r a.
    reads_after (unless 9 (not (is_empty r.name))) _ λ x.
    reads_ret r a

identifier_added : (ws : List Name) (t : Text) → Yields (λ r u. Added ws r.words) (identifier ws t)
unfolding identifier
identifier_added ws t = (rounds_added (suc (length t)) ws).at t

-- `identifier`, lines 790 to 843, if it is not refused
pub identifier_begins : (ws : List Name) (t u : Text) (r : Identified) → identifier ws t ≡ ok r u → Begins ws r.words
identifier_begins ws t u r e = (subst (Yields (λ r u. Added ws r.words)) e (identifier_added ws t)).begins

-- TURNS
-- a step can only add words
record Adds {A : Type 0} (s : Run A) : Type 0 where
  at : (m : Demangler) → Yields (λ a n. Added m.words n.words) (s m)

adds_by : {us ws : List Name} → ws ≡ us → Added us ws
adds_by {us} e = subst⁻¹ (Added us) e (added_none us)

keeps_adds : {A : Type 0} {s : Run A} → Keeps s → Adds s
keeps_adds {s = s} h = record { at = λ m. yields_map _ (s m) (λ a n k. adds_by k.words) (h.at m) }

adds_bind : {A B : Type 0} {s : Run A} {k : A → Run B} → Adds s → ((a : A) → Adds (k a)) → Adds (s >>= k)
adds_bind {s = s} {k = k} h f = record { at = λ m. yields_then _ (s m) k (h.at m) (λ a n e. yields_map _ (k a n) (λ b o d. added_both e d) ((f a).at n)) }

adds_spend : (s : Step Budget Done) → Adds (spend s)
unfolding spend
adds_spend s = record { at = λ m. go m (s m.budget) }
  where
    go : (m : Demangler) (o : Out Budget Done) → Yields (λ a n. Added m.words n.words) (spent o m)
    go m (ok a b) = added_none m.words
    go m (refused r) = tt

-- P holds for the machine at the end of a run, unless it is refused
abbrev Ends : (Demangler → Type 0) → End Demangler → Type 0
Ends P (ran n) = P n
Ends P (stopped r left) = Unit {0}

ends_then : (m : Demangler) (left : ℕ) (o : Out Demangler Text) (rest : Text → Demangler → End Demangler) → Yields (λ u n. Added m.words n.words) o →
    ((u : Text) (n : Demangler) → Ends (λ k. Added n.words k.words) (rest u n)) →
    Ends (λ k. Added m.words k.words) (elim o [ ok u n ↦ rest u n | refused r ↦ stopped r left ])
ends_then m left (ok u n) rest a h = ends_map (rest u n) (h u n)
  where
    ends_map : (e : End Demangler) → Ends (λ k. Added n.words k.words) e → Ends (λ k. Added m.words k.words) e
    ends_map (ran k) b = added_both a b
    ends_map (stopped r l) b = tt
ends_then m left (refused r) rest a h = tt

module _ (N : ℕ) where
  adds_identifier : (t : Text) → Adds (λ m. then_run (identifier m.words t) (λ r. name N r.name r.words) m)
  unfolding then_run name know remember push
  adds_identifier t = record { at = λ m. go m (identifier m.words t) (identifier_added m.words t) }
    where
      go : (m : Demangler) (o : Out Text Identified) → Yields (λ r u. Added m.words r.words) o →
          Yields (λ u n. Added m.words n.words) (then_run o (λ r. name N r.name r.words) m)
      go m (ok r u) a = a
      go m (refused r) a = tt

  adds_one : (t : Text) → Adds (one N t)
  unfolding one
  adds_one [] = record { at = λ m. tt }
  adds_one (c ∷ t) = by_test Adds (digit c) _ _ (adds_identifier (c ∷ t)) (keeps_adds (keeps_then_run (operator c t) (λ op. perform N op) (keeps_perform N)))

  adds_turn : (t : Text) → Adds (turn N (one N) t)
  unfolding turn
  adds_turn t = adds_bind (adds_spend B.step) λ _. adds_bind (adds_spend (B.charge N 1)) λ _. adds_one t

  -- one turn of `run`, lines 691 to 697, if it is not refused
  pub turn_begins : (t u : Text) (m n : Demangler) → turn N (one N) t m ≡ ok u n → Begins m.words n.words
  turn_begins t u m n e = (subst (Yields (λ a k. Added m.words k.words)) e ((adds_turn t).at m)).begins

  pub turn_well_kept : (t u : Text) (m n : Demangler) → turn N (one N) t m ≡ ok u n → WellKept m.words → WellKept n.words
  turn_well_kept t u m n e = (subst (Yields (λ a k. Added m.words k.words)) e ((adds_turn t).at m)).well_kept

  adds_turns : (k : ℕ) (t : Text) (m : Demangler) → Ends (λ n. Added m.words n.words) (turns (turn N (one N)) k t m)
  unfolding turns
  adds_turns zero t m = added_none m.words
  adds_turns (suc k) [] m = added_none m.words
  adds_turns (suc k) (c ∷ t) m = ends_then m (length (c ∷ t)) (turn N (one N) (c ∷ t) m) (turns (turn N (one N)) k) ((adds_turn (c ∷ t)).at m) (adds_turns k)

  -- k turns of `run` or fewer, lines 689 to 700, if none is refused
  pub turns_begin : (k : ℕ) (t : Text) (m n : Demangler) → turns (turn N (one N)) k t m ≡ ran n → Begins m.words n.words
  turns_begin k t m n e = (subst (Ends (λ n. Added m.words n.words)) e (adds_turns k t m)).begins

  pub turns_well_kept : (k : ℕ) (t : Text) (m n : Demangler) → turns (turn N (one N)) k t m ≡ ran n → WellKept m.words → WellKept n.words
  turns_well_kept k t m n e = (subst (Ends (λ n. Added m.words n.words)) e (adds_turns k t m)).well_kept

  -- the words at the end of a run that began with none
  pub reached_well_kept : (k : ℕ) (t : Text) (n : Demangler) → turns (turn N (one N)) k t (fresh []) ≡ ran n → WellKept n.words
  reached_well_kept k t n e = turns_well_kept k t (fresh []) n e well_kept_none
