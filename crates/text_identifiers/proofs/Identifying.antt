-- From the rounds to the results of `identifier` and `identifier_count`. Assumes nothing.
use mathlib.Core.Path.{◌≡◌, refl, sym, ap, ◌∙◌, subst}
use mathlib.Core.Bool.{Bool, true, false, not}
use mathlib.Core.List.{List, [], ◌∷◌, ◌++◌}
use Prim.Native.Nat.{ℕ, zero, suc, ◌+◌, ◌-◌, ◌≤◌, ◌<◌}
use native.Mathlib.Omega.{arith}
use lib.ListN.{length, drop, length-drop, length-append}
use lib.Seq.{length-take-le}
use Rattle.definition.specs.Base.{Name, is, Out, ok, refused}
use Rattle.definition.specs.Text.{Text, next_if}
use Rattle.definition.specs.Words as W
use Rattle.definition.specs.Check as C
use Rattle.definition.proofs.WordsAdded.{Begins, Long, WellKept, identifier_begins}
use Rattle.std.specs.Prelude.{Result, Ok, Err}
use denote.Ref.{Bor}
use Rattle.definition.specs.declared.Refusal.{Refusal}
use Rattle.text_cursor.specs.declared.Reader.{Reader}
use Rattle.text_cursor.specs.Reads.{rest, Stands}
use Rattle.text_words.specs.declared.spans.Span.{Span}
use Rattle.text_words.specs.Table.{Words, span_at, spans_of, word_of, words_of, table, Fitting, Lists}
use Rattle.text_words.proofs.Keeping.{table_length}
use Rattle.text_words.proofs.Counting.{some_words, some_many}
use Rattle.text_identifiers.specs.Rounds.{Got, got, named, identifier_of}
use Rattle.text_identifiers.specs.Identifiers.{Finds, Named, Identifies, Counted}
use Rattle.text_identifiers.proofs.Alike.{map_out, table_got, count_got, length_got, table_alike, count_alike, identifier_counted}

-- THE TABLE IS VALID
long_snoc : (ws : List Name) (w : Name) → Long ws → 2 ≤ length w → Long (ws ++ (w ∷ []))
long_snoc [] w l h = (h, tt)
long_snoc (x ∷ ws) w l h = (l.0, long_snoc ws w l.1 h)

long_words : (text : Text) (s : List Span) (n : ℕ) → ((i : ℕ) → i < n → (span_at s i).start + (span_at s i).length ≤ length text) → ((i : ℕ) → i < n → 2 ≤ (span_at s i).length) → Long (words_of text s n)
unfolding words_of
long_words text s zero h k = tt
long_words text s (suc n) h k =
    let i : n < suc n = omega arith in
    let a = span_at s n in
    let fits : a.length ≤ length (drop a.start text) = simp length-drop (omega (arith, h n i)) in
    let long : 2 ≤ length (word_of text s n) = rw (length-take-le a.length (drop a.start text) fits) (k n i) in
    long_snoc (words_of text s n) (word_of text s n)
    (long_words text s n (λ j p. let q : j < suc n = omega arith in h j q) (λ j p. let q : j < suc n = omega arith in k j q)) long

pub well_kept : (text : Text) (w : Words) → Fitting text w → WellKept (table text w)
well_kept text w g = record {
  long = long_words text (spans_of w) w.count g.inside g.long;
  few = rw (← table_length text w) g.few;
}

-- THE FIRST BYTES
module _ {S : Type 0} (count : S → ℕ) (note : Text → S → S) (words : S) (t : Text) {u : Text} where
  pub first_plain : next_if (is "0") t ≡ ok false u → identifier_of count note words t ≡ named count note (suc (length t)) false false words true u
  unfolding identifier_of
  first_plain e = rw e

  pub first_zero : {p : Bool} {v : Text} → next_if (is "0") t ≡ ok true u → next_if (is "0") u ≡ ok p v → identifier_of count note words t ≡ named count note (suc (length t)) (not p) p words true v
  unfolding identifier_of
  first_zero e k = rw (e, k)

pub fuel_enough : {old mid : Reader} → mid.text ≡ old.text → old.at ≤ mid.at → length mid.text.now - mid.at < suc (length (rest old))
fuel_enough {old} {mid} t h = rw (t, length-drop old.at old.text.now) (omega arith)

-- what is found from `mid` on was found from `old` on
pub finds_on : (stands : List Name → Type 0) (first : List Name) {o o' : Out Text (Got (List Name))} (old mid new : Reader) (r : Result Unit Refusal) → o ≡ o' → mid.text ≡ old.text → old.at ≤ mid.at → Finds stands first o' mid new r → Finds stands first o old new r
finds_on stands first old mid new (Ok u) e t l h = record { words = h.words; met = h.met; is = record { is = e ∙ h.is.is; text = h.is.text ∙ t; inside = h.is.inside; onward = omega (arith, h.is.onward) } }
finds_on stands first old mid new (Err f) e t l h = record { words = h.words; met = h.met; begins = h.begins; is = record { is = e ∙ h.is.is; text = h.is.text ∙ t } }

-- WHAT THE RESULTS SAY
module _ (old new : Reader) where
  named_is : (w : Words) (out : Out Text W.Identified) {ws : List Name} {u : Text} → map_out table_got out ≡ ok (got false ws) u → table old.text.now w ≡ ws → u ≡ rest new → new.text ≡ old.text → new.at ≤ length new.text.now → old.at + 1 ≤ new.at → Named out old new w
  named_is w (ok i v) {ws} {u} e q z t k l =
      let p : table_got i ≡ got false ws = cc in
      let s : i.words ≡ table old.text.now w = ap (λ (x : Got (List Name)). x.words) p ∙ sym q in
      let y : v ≡ rest new = cc in
      record {
        name = i.name;
        is = record {
          is = ap (λ (ws : List Name). ok (W.identified i.name ws) v) s ∙ ap (λ (x : Text). ok (W.identified i.name (table old.text.now w)) x) y;
          text = t;
          inside = k;
          onward = l;
        };
      }
  named_is w (refused n) e q z t k l = absurd (let y : ◌≡◌ {A = ℕ} 0 1 = cc in omega arith)

  refused_is : {A B : Type 0} (g : A → B) (out : Out Text A) {n : ℕ} → map_out g out ≡ refused n → out ≡ refused n
  refused_is g (ok i v) e = absurd (let y : ◌≡◌ {A = ℕ} 0 1 = cc in omega arith)
  refused_is g (refused m) e = cc

  pub identifies : (w w' : Words) → Fitting old.text.now w → (r : Result Unit Refusal) → Finds (Lists old.text.now w') (table old.text.now w) (identifier_of length W.note_words (table old.text.now w) (rest old)) old new r → Identifies (W.identifier (table old.text.now w) (rest old)) old new w w' r
  identifies w w' g (Ok u) h =
      let a : Named (W.identifier (table old.text.now w) (rest old)) old new w' = named_is w' (W.identifier (table old.text.now w) (rest old)) (sym (table_alike (table old.text.now w) (rest old) (well_kept old.text.now w g)) ∙ h.is.is) h.met.is refl h.is.text h.is.inside h.is.onward in
      record {
        answer = a;
        fitting = h.met.fitting;
        begins = identifier_begins (table old.text.now w) (rest old) (rest new) (W.identified a.name (table old.text.now w')) a.is.is;
      }
  identifies w w' g (Err f) h = record {
    answer = record { is = refused_is table_got (W.identifier (table old.text.now w) (rest old)) (sym (table_alike (table old.text.now w) (rest old) (well_kept old.text.now w g)) ∙ h.is.is); text = h.is.text };
    fitting = h.met.fitting;
    begins = subst (λ (ws : List Name). Begins (table old.text.now w) ws) (sym h.met.is) h.begins;
  }

  count_is : (out : Out Text C.Identified) {n : ℕ} {u : Text} → map_out count_got out ≡ ok (got false n) u → out ≡ ok (C.identified false n) u
  count_is (ok i v) {n} {u} e =
      let p : count_got i ≡ got false n = cc in
      let b : i.empty ≡ false = ap (λ (x : Got ℕ). x.empty) p in
      let s : i.words ≡ n = ap (λ (x : Got ℕ). x.words) p in
      let y : v ≡ u = cc in
      ap (λ (x : Bool). ok (C.identified x i.words) v) b ∙ ap (λ (m : ℕ). ok (C.identified false m) v) s ∙ ap (λ (x : Text). ok (C.identified false n) x) y
  count_is (refused m) e = absurd (let y : ◌≡◌ {A = ℕ} 0 1 = cc in omega arith)

  pub counts : (n n' : ℕ) (r : Result Unit Refusal) → ((ws : List Name) → n ≡ length ws → Finds (λ vs. n' ≡ length vs) ws (identifier_of length W.note_words ws (rest old)) old new r) → Counted (C.identifier n (rest old)) old new n n' r
  counts n n' r h = go r (h (some_words n) (some_many n))
    where
      alike : map_out count_got (C.identifier n (rest old)) ≡ map_out length_got (identifier_of length W.note_words (some_words n) (rest old))
      alike = sym (count_alike n (rest old)) ∙ ap (λ (m : ℕ). identifier_of (λ (k : ℕ). k) (C.count_words_from 0 0) m (rest old)) (some_many n) ∙ identifier_counted (some_words n) (rest old)

      go : (r : Result Unit Refusal) → Finds (λ vs. n' ≡ length vs) (some_words n) (identifier_of length W.note_words (some_words n) (rest old)) old new r → Counted (C.identifier n (rest old)) old new n n' r
      go (Ok u) h = record {
        is = count_is (C.identifier n (rest old)) (alike ∙ ap (map_out length_got) h.is.is ∙ ap (λ (m : ℕ). ok (got false m) (rest new)) (sym h.met));
        text = h.is.text;
        inside = h.is.inside;
        onward = h.is.onward;
      }
      go (Err f) h =
          let more : length h.words ≡ length (some_words n) + length h.begins.more = ap (λ (ws : List Name). length ws) h.begins.all ∙ length-append (some_words n) h.begins.more in
          record {
            refuses = record { is = refused_is count_got (C.identifier n (rest old)) (alike ∙ ap (map_out length_got) h.is.is); text = h.is.text };
            grown = omega (arith, more, h.met, some_many n);
          }

-- FOR CALLERS
-- the place that a reader stands at, in the text that it was given
pub record Place {A : Type 0} (out : Out Text A) (a : A) (text : Text) (least at : ℕ) : Type 0 where
  pub is : out ≡ ok a (drop at text)
  pub inside : at ≤ length text
  pub onward : least ≤ at

pub place : {A : Type 0} {o : Out Text A} {a : A} {least : ℕ} {old new : Reader} → Stands o a least old new → Place o a old.text.now (old.at + least) new.at
place {a = a} {new = new} h = record {
  is = h.is ∙ ap (λ (s : Bor (List ℕ)). ok a (drop new.at s.now)) h.text;
  inside = subst (λ (s : Bor (List ℕ)). new.at ≤ length s.now) h.text h.inside;
  onward = h.onward;
}
