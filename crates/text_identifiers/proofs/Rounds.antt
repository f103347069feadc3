-- The rounds of an identifier, over words as a table or as a count. Assumes nothing.
use mathlib.Core.Path.{◌≡◌, refl, sym, ap, subst, ◌∙◌}
use mathlib.Core.Bool.{Bool, true, false, ◌&&◌}
use mathlib.Core.List.{List, [], ◌∷◌}
use Prim.Native.Nat.{ℕ, zero, suc, ◌+◌, ◌-◌, ◌≤◌, ◌<◌}
use native.Mathlib.Omega.{arith}
use lib.ListN.{length, drop}
use Rattle.definition.specs.Base.{Name, Out, ok, refused, and_then}
use Rattle.definition.specs.Text.{Text, Lex}
use Rattle.definition.specs.Words.{note_words, is_empty}
use Rattle.definition.specs.Enums.{number}
use Rattle.definition.proofs.WordsAdded.{Begins, begins_refl, begins_trans, note_words_begins}
use Rattle.definition.specs.declared.Refusal.{Refusal}
use denote.Ref.{Bor}
use Rattle.text_cursor.specs.declared.Reader.{Reader}
use Rattle.text_cursor.specs.Reads.{rest, Stands, Refuses}
use Rattle.text_words.specs.Table.{part}
use Rattle.text_identifiers.specs.declared.Extent.{Extent}
use Rattle.text_identifiers.specs.Identifiers.{Lies, Taken, Found, Missed}
use Rattle.text_words.proofs.Parts.{part_length}
use Rattle.text_identifiers.specs.Rounds.{Round, closes, takes, round, Got, got, finish, known_after, after, rounds, named}

-- the outcome is the value a, and its rest begins at a place, `least` or later
pub record Reaches {A : Type 0} (out : Out Text A) (a : A) (text : Text) (least at : ℕ) : Type 0 where
  pub is : out ≡ ok a (drop at text)
  pub inside : at ≤ length text
  pub onward : least ≤ at

long : (text : Text) (a b : ℕ) → a < b → b ≤ length text → 0 < length (part text a b)
long text a b l h = rw (part_length text a b h) (omega arith)

-- a name followed by one byte or more is not empty
not_empty : (e : Bool) (slice : Name) → 0 < length slice → (e && is_empty slice) ≡ false
unfolding is_empty
not_empty e [] h = absurd (omega arith)
not_empty true (x ∷ slice) h = refl
not_empty false (x ∷ slice) h = refl

module _ {S : Type 0} (count : S → ℕ) (note : Text → S → S) (punycoded : Bool) where
  step : (f : ℕ) (subs : Bool) (words : S) (empty : Bool) (t : Text) → 0 < f →
      rounds count note f subs punycoded words empty t ≡ and_then (round (count words) subs punycoded empty t) (after count note punycoded words (rounds count note (f - 1) true punycoded))
  unfolding rounds
  step zero subs words empty t h = absurd (omega arith)
  step (suc f) subs words empty t h =
      let z : f ≡ suc f - 1 = omega arith in
      ap (λ (n : ℕ). and_then (round (count words) subs punycoded empty t) (after count note punycoded words (rounds count note n true punycoded))) z

  module _ (text : Text) where
    -- the outcome `out` is that of the rounds from here on, with enough fuel
    pub record Going (out : Out Text (Got S)) (words : S) (subs empty : Bool) (at : ℕ) : Type 0 where
      pub fuel : ℕ
      pub enough : length text - at < fuel
      pub same : out ≡ named count note fuel subs punycoded words empty (drop at text)

    module _ {out : Out Text (Got S)} {words : S} {subs empty : Bool} {at : ℕ} (g : Going out words subs empty at) {known : ℕ} (k : known ≡ count words) where
      opened : {o : Out Text Round} → round known subs punycoded empty (drop at text) ≡ o →
          out ≡ and_then (and_then o (after count note punycoded words (rounds count note (g.fuel - 1) true punycoded))) finish
      opened e =
          let h : 0 < g.fuel = omega (arith, g.enough) in
          g.same ∙ ap (λ (o : Out Text (Got S)). and_then o finish) (step g.fuel subs words empty (drop at text) h
          ∙ ap (λ (o : Out Text Round). and_then o (after count note punycoded words (rounds count note (g.fuel - 1) true punycoded)))
          (ap (λ (n : ℕ). round n subs punycoded empty (drop at text)) (sym k) ∙ e))

      going_refused : {n : ℕ} → round known subs punycoded empty (drop at text) ≡ refused n → out ≡ refused n
      going_refused e = opened e

      going_closed : {e : Bool} {u : Text} → e ≡ false → round known subs punycoded empty (drop at text) ≡ ok (closes e) u → out ≡ ok (got false words) u
      going_closed {u = u} z e = opened e ∙ ap (λ (b : Bool). finish (got b words) u) z

      going_empty : {e : Bool} {u : Text} → e ≡ true → round known subs punycoded empty (drop at text) ≡ ok (closes e) u → out ≡ refused 9
      going_empty {u = u} z e = opened e ∙ ap (λ (b : Bool). finish (got b words) u) z

      module _ {e : Bool} {slice : Name} {u : Text} (some : 0 < length slice) {words' : S} (w : words' ≡ known_after note punycoded slice words) where
        going_last : {m : Bool} → m ≡ false → round known subs punycoded empty (drop at text) ≡ ok (takes e m slice) u → out ≡ ok (got false words') u
        going_last z r =
            opened r
            ∙ ap (λ (m : Bool). and_then (after count note punycoded words (rounds count note (g.fuel - 1) true punycoded) (takes e m slice) u) finish) z
            ∙ ap (λ (b : Bool). finish (got b (known_after note punycoded slice words)) u) (not_empty e slice some)
            ∙ ap (λ (s : S). ok (got false s) u) (sym w)

        going_on : {m : Bool} → m ≡ true → round known subs punycoded empty (drop at text) ≡ ok (takes e m slice) u →
            out ≡ named count note (g.fuel - 1) true punycoded words' false u
        going_on z r =
            opened r
            ∙ ap (λ (m : Bool). and_then (after count note punycoded words (rounds count note (g.fuel - 1) true punycoded) (takes e m slice) u) finish) z
            ∙ ap (λ (b : Bool). named count note (g.fuel - 1) true punycoded (known_after note punycoded slice words) b u) (not_empty e slice some)
            ∙ ap (λ (s : S). named count note (g.fuel - 1) true punycoded s false u) (sym w)

    -- THE LOOP: the rounds before `at` have been made
    pub record Running (first : S) (subs : Bool) (from at : ℕ) (words : S) (more empty : Bool) : Type 0 where
      pub onward : from ≤ at
      pub same : (f : ℕ) → length text - from < f → Going (named count note f subs punycoded first true (drop from text)) words more empty at

    pub running_first : (first : S) (subs : Bool) (from : ℕ) → Running first subs from from first subs true
    running_first first subs from = record { onward = omega arith; same = λ f e. record { fuel = f; enough = e; same = refl } }

    module _ {first : S} {subs : Bool} {from at : ℕ} {words : S} {more empty : Bool} (g : Running first subs from at words more empty) {known : ℕ} (k : known ≡ count words) where
      -- a literal after which letters may follow
      pub running_next : {e m : Bool} {a b : ℕ} {words' : S} → m ≡ true → Lies (round known more punycoded empty (drop at text)) (takes e m) text at a b →
          words' ≡ known_after note punycoded (part text a b) words → Running first subs from b words' true false
      running_next {a = a} {b = b} z l w = record {
        onward = omega (arith, g.onward, l.onward, l.some);
        same = λ f h.
            let r = g.same f h in
            record {
              fuel = r.fuel - 1;
              enough = omega (arith, r.enough, l.onward, l.some, l.inside);
              same = going_on r k (long text a b l.some l.inside) w z l.is;
            };
      }

      -- the last round
      module _ (f : ℕ) (h : length text - from < f) where
        pub running_refused : {n : ℕ} → round known more punycoded empty (drop at text) ≡ refused n → named count note f subs punycoded first true (drop from text) ≡ refused n
        running_refused e = going_refused (g.same f h) k e

        pub running_empty : {e : Bool} {c : ℕ} → e ≡ true → Reaches (round known more punycoded empty (drop at text)) (closes e) text (at + 1) c →
            named count note f subs punycoded first true (drop from text) ≡ refused 9
        running_empty z r = going_empty (g.same f h) k z r.is

        pub running_closed : {e : Bool} {c : ℕ} → e ≡ false → Reaches (round known more punycoded empty (drop at text)) (closes e) text (at + 1) c →
            Reaches (named count note f subs punycoded first true (drop from text)) (got false words) text (from + 1) c
        running_closed z r = record { is = going_closed (g.same f h) k z r.is; inside = r.inside; onward = omega (arith, g.onward, r.onward) }

        pub running_last : {e m : Bool} {a b : ℕ} {words' : S} → m ≡ false → Lies (round known more punycoded empty (drop at text)) (takes e m) text at a b →
            words' ≡ known_after note punycoded (part text a b) words → Reaches (named count note f subs punycoded first true (drop from text)) (got false words') text (from + 1) b
        running_last {a = a} {b = b} z l w = record {
          is = going_last (g.same f h) k (long text a b l.some l.inside) w z l.is;
          inside = l.inside;
          onward = omega (arith, g.onward, l.onward, l.some);
        }

-- OVER A READER, and what is known of the words
module _ {A : Type 0} (m : Lex A) (old mid new : Reader) (t : mid.text ≡ old.text) where
  pub reached : {a : A} → Stands (m (rest mid)) a 1 mid new → Reaches (m (drop mid.at old.text.now)) a old.text.now (mid.at + 1) new.at
  reached {a} h = subst (λ (s : Bor (List ℕ)). Reaches (m (drop mid.at s.now)) a s.now (mid.at + 1) new.at) t (record {
    is = h.is ∙ ap (λ (s : Bor (List ℕ)). ok a (drop new.at s.now)) h.text;
    inside = subst (λ (s : Bor (List ℕ)). new.at ≤ length s.now) h.text h.inside;
    onward = h.onward;
  })

  pub lain : {f : Name → A} {e : Extent} → Taken (m (rest mid)) f mid new e → Lies (m (drop mid.at old.text.now)) f old.text.now mid.at e.from e.to
  lain {f} {e} h = subst (λ (s : Bor (List ℕ)). Lies (m (drop mid.at s.now)) f s.now mid.at e.from e.to) t h.lies

pub standing : {A : Type 0} {o : Out Text A} {a : A} {old new : Reader} → new.text ≡ old.text → Reaches o a old.text.now (old.at + 1) new.at → Stands o a 1 old new
standing {a = a} {new = new} t h = record {
  is = h.is ∙ ap (λ (s : Bor (List ℕ)). ok a (drop new.at s.now)) (sym t);
  text = t;
  inside = subst (λ (s : Bor (List ℕ)). new.at ≤ length s.now) (sym t) h.inside;
  onward = h.onward;
}

-- after a literal the words are noted, unless it is punycode
module _ {S : Type 0} (stands : S → List Name → Type 0) {punycoded : Bool} {known known' : S} (slice : Name) where
  pub after_noted : {noted : S} → punycoded ≡ false → known' ≡ noted → ((ws : List Name) → stands known ws → stands noted (note_words slice ws)) →
      (ws : List Name) → stands known ws → stands known' (known_after note_words punycoded slice ws)
  after_noted p e h ws k = subst (λ (b : Bool). stands known' (known_after note_words b slice ws)) (sym p) (subst (λ (s : S). stands s (note_words slice ws)) (sym e) (h ws k))

  pub after_kept : punycoded ≡ true → known' ≡ known → (ws : List Name) → stands known ws → stands known' (known_after note_words punycoded slice ws)
  after_kept p e ws k = subst (λ (b : Bool). stands known' (known_after note_words b slice ws)) (sym p) (subst (λ (s : S). stands s ws) (sym e) k)

known_begins : (punycoded : Bool) (slice : Name) (ws : List Name) → Begins ws (known_after note_words punycoded slice ws)
known_begins true slice ws = begins_refl ws
known_begins false slice ws = note_words_begins slice ws

module _ {S : Type 0} (stands : S → List Name → Type 0) (punycoded subs : Bool) (old : Reader) (first : List Name) where
  -- the rounds before `at` have been made, and what is known stands for the words
  pub record Tracked (known : S) (at : ℕ) (more empty : Bool) : Type 0 where
    pub words : List Name
    pub met : stands known words
    pub begins : Begins first words
    pub run : Running length note_words punycoded old.text.now first subs old.at at words more empty

  pub tracked_first : (known : S) → stands known first → Tracked known old.at subs true
  tracked_first known h = record { words = first; met = h; begins = begins_refl first; run = running_first length note_words punycoded old.text.now first subs old.at }

  abbrev Outcome : ℕ → Out Text (Got (List Name))
  Outcome f = named length note_words f subs punycoded first true (rest old)

  module _ {known : S} (mid new : Reader) {more empty : Bool} (t : mid.text ≡ old.text) (g : Tracked known mid.at more empty) {n : ℕ} (k : n ≡ length g.words) where
    abbrev Step : Lex Round
    Step = round n more punycoded empty

    -- what is known after a literal
    abbrev pub After : S → Extent → Type 0
    After known' e = (ws : List Name) → stands known ws → stands known' (known_after note_words punycoded (part old.text.now e.from e.to) ws)

    pub tracked_next : {known' : S} {b : Bool} {e : Extent} {s : Bool} → s ≡ true → Taken (Step (rest mid)) (takes b s) mid new e → After known' e → Tracked known' new.at true false
    tracked_next {known'} {e = e} z h a = record {
      words = known_after note_words punycoded (part old.text.now e.from e.to) g.words;
      met = a g.words g.met;
      begins = begins_trans g.begins (known_begins punycoded (part old.text.now e.from e.to) g.words);
      run = subst (λ (i : ℕ). Running length note_words punycoded old.text.now first subs old.at i (known_after note_words punycoded (part old.text.now e.from e.to) g.words) true false) (sym h.here)
          (running_next length note_words punycoded old.text.now g.run k z (lain Step old mid new t h) refl);
    }

    module _ (f : ℕ) (fuel : length old.text.now - old.at < f) where
      missed : {x : Refusal} → Outcome f ≡ refused (number x) → new.text ≡ mid.text → Missed (stands known) first (Outcome f) old new x
      missed e s = record { words = g.words; met = g.met; begins = g.begins; is = record { is = e; text = s ∙ t } }

      pub tracked_refused : {x : Refusal} → Refuses (Step (rest mid)) x mid new → Missed (stands known) first (Outcome f) old new x
      tracked_refused e = missed (running_refused length note_words punycoded old.text.now g.run k f fuel (ap (λ (s : Bor (List ℕ)). Step (drop mid.at s.now)) (sym t) ∙ e.is)) e.text

      pub tracked_empty : {b : Bool} → b ≡ true → Stands (Step (rest mid)) (closes b) 1 mid new → Missed (stands known) first (Outcome f) old new Refusal.Spelling
      unfolding number
      tracked_empty z h = missed (running_empty length note_words punycoded old.text.now g.run k f fuel z (reached Step old mid new t h)) h.text

      pub tracked_closed : {b : Bool} → b ≡ false → Stands (Step (rest mid)) (closes b) 1 mid new → Found (stands known) (Outcome f) old new
      tracked_closed z h = record { words = g.words; met = g.met; is = standing (h.text ∙ t) (running_closed length note_words punycoded old.text.now g.run k f fuel z (reached Step old mid new t h)) }

      pub tracked_last : {known' : S} {b : Bool} {e : Extent} {s : Bool} → s ≡ false → Taken (Step (rest mid)) (takes b s) mid new e → After known' e → Found (stands known') (Outcome f) old new
      tracked_last {e = e} z h a = record {
        words = known_after note_words punycoded (part old.text.now e.from e.to) g.words;
        met = a g.words g.met;
        is = standing (h.text ∙ t)
            (subst (λ (i : ℕ). Reaches (Outcome f) (got false (known_after note_words punycoded (part old.text.now e.from e.to) g.words)) old.text.now (old.at + 1) i) (sym h.here)
            (running_last length note_words punycoded old.text.now g.run k f fuel z (lain Step old mid new t h) refl));
      }
