-- One more literal that waits, and one that is noted. Assumes nothing.
use mathlib.Core.Path.{◌≡◌, refl, sym, ap, ap₂, ◌∙◌}
use mathlib.Core.Bool.{Bool, true, false, ◌||◌, true≢false}
use mathlib.Core.List.{List}
use Prim.Native.Nat.{ℕ, zero, suc, ◌+◌, ◌-◌, ◌≤◌, ◌<◌}
use native.Mathlib.Omega.{arith}
use native.Mathlib.Numerals.{add-one}
use borrow.Author.Count.{below_more}
use borrow.Author.Tests.{eqb-false}
use lib.Dec.{eqb}
use lib.ListN.{length, set, take, drop}
use Rattle.std.proofs.lemmas.List.{get_or-take, length-take}
use lib.Seq.{get_or-set_same, get_or-set_other}
use Rattle.definition.specs.Base.{Name, is}
use Rattle.definition.specs.Text.{Text}
use Rattle.definition.specs.Words as W
use Rattle.definition.proofs.WordsAdded.{Begins, begins_refl, begins_trans, note_words_begins}
use Rattle.text_words.specs.Table.{part, span_at, word_of}
use Rattle.text_words.specs.Waits.{Waiting, noted_from, noted_behind, Waits, More}
use Rattle.text_words.specs.declared.spans.Span.{Span}

neither : (a b : Bool) → (a || b) ≡ false → (a ≡ false) × (b ≡ false)
neither true b e = absurd (true≢false e)
neither false b e = (refl, e)

pub noted_none : {A : Type 0} (note : Name → A → A) (text : Text) (s : List Span) (known : A) → known ≡ noted_from note text s 0 known
unfolding noted_from
noted_none note text s known = refl

-- words are only added
pub noted_begins : (text : Text) (q : Waiting) (known : List Name) → Begins known (noted_behind W.note_words text q known)
unfolding noted_from
noted_begins text q known = go q.count
  where
    go : (n : ℕ) → Begins known (noted_from W.note_words text q.spans n known)
    go zero = begins_refl known
    go (suc n) = begins_trans (go n) (note_words_begins (word_of text q.spans n) (noted_from W.note_words text q.spans n known))

-- nothing waits
pub noted_nothing : {A : Type 0} (note : Name → A → A) (text : Text) (q : Waiting) (known : A) → q.count ≡ 0 → noted_behind note text q known ≡ known
noted_nothing note text q known e = ap (λ (n : ℕ). noted_from note text q.spans n known) e ∙ sym (noted_none note text q.spans known)

pub waits_none : (text : Text) (q : Waiting) → q.count ≡ 0 → Waits text q
waits_none text q e = record { few = omega arith; inside = λ i l. absurd (omega arith) }

-- what is stored after the literals does not change them
noted_set : {A : Type 0} (note : Name → A → A) (text : Text) (s : List Span) (i : ℕ) (a : Span) (n : ℕ) (known : A) → n ≤ i → noted_from note text (set s i a) n known ≡ noted_from note text s n known
unfolding noted_from
noted_set note text s i a zero known h = refl
noted_set note text s i a (suc n) known h =
    let k : n ≤ i = omega arith in
    let d : n ≡ i → ⊥ = λ e. omega arith in
    rw (noted_set note text s i a n known k, get_or-set_other s i n a _ d)

noted_stored : {A : Type 0} (note : Name → A → A) (text : Text) (s : List Span) (n : ℕ) (a : Span) (known : A) → n < length s → noted_from note text (set s n a) (n + 1) known ≡ note (take a.length (drop a.start text)) (noted_from note text s n known)
unfolding noted_from
noted_stored note text s n a known h =
    let k : n ≤ n = omega arith in
    rw (add-one, noted_set note text s n a n known k, get_or-set_same s n a (record { start = 0; length = 0 }) h)

-- q followed by a literal
module _ (text : Text) (q r : Waiting) (from to : ℕ) (a : Span) (room : q.count < length q.spans) (is : (r.count ≡ q.count + 1) × (r.spans ≡ set q.spans q.count a)) (at : (a.start ≡ from) × (a.length ≡ to - from)) where
  noted_longer : {A : Type 0} (note : Name → A → A) (known : A) → noted_behind note text r known ≡ note (part text from to) (noted_behind note text q known)
  noted_longer {A} note known =
      ap (λ (n : ℕ). noted_from note text r.spans n known) is.0 ∙ ap (λ (xs : List Span). noted_from note text xs (q.count + 1) known) is.1
      ∙ noted_stored note text q.spans q.count a known room
      ∙ ap₂ (λ (i j : ℕ). note (take j (drop i text)) (noted_behind note text q known)) at.0 at.1

  pub more : q.count < 16 → from ≤ to → to ≤ length text → Waits text q → More text from to q r
  more k l e h =
      let n = q.count in
      let other : (i : ℕ) → i < n → i ≡ n → ⊥ = λ i p z. omega arith in
      let here : span_at r.spans n ≡ a = rw is.1 (get_or-set_same q.spans n a (record { start = 0; length = 0 }) room) in
      let there : (i : ℕ) → i < n → span_at r.spans i ≡ span_at q.spans i = λ i p. rw is.1 (get_or-set_other q.spans n i a (record { start = 0; length = 0 }) (other i p)) in
      record {
        waits = record {
          few = omega (arith, is.0);
          inside = λ i p. below_more (λ (i : ℕ). (span_at r.spans i).start + (span_at r.spans i).length ≤ length text) n (λ i p. rw (there i p) (h.inside i p)) (rw (here, at.0, at.1) (omega arith)) i (omega (arith, is.0));
        };
        words = noted_longer _;
        count = noted_longer _;
      }

-- ONE LITERAL OF THE LOOP
module _ (text : Text) (q : Waiting) (i : ℕ) {xs : List Span} (all : xs ≡ take q.count q.spans) (h : i < length xs) {from to : ℕ} (begins : from ≡ (span_at xs i).start) (ends : to ≡ (span_at xs i).start + (span_at xs i).length) where
  below : i < q.count
  below = omega (arith, length-take q.count q.spans, ap length all)

  found : span_at xs i ≡ span_at q.spans i
  found = let l = below in ap (λ (ys : List Span). span_at ys i) all ∙ get_or-take q.count q.spans i (record { start = 0; length = 0 }) l

  pub literal_inside : Waits text q → (from ≤ to) × (to ≤ length text)
  literal_inside w = (omega arith, omega (arith, ap (λ (a : Span). a.start + a.length) found, w.inside i below))

  -- the literal i is noted after those before it
  pub noted_next : {A : Type 0} (note : Name → A → A) (known : A) → note (part text from to) (noted_from note text q.spans i known) ≡ noted_from note text q.spans (i + 1) known
  unfolding noted_from
  noted_next note known =
      let e : to - from ≡ (span_at q.spans i).length = omega (arith, ap (λ (a : Span). a.length) found) in
      let b : from ≡ (span_at q.spans i).start = begins ∙ ap (λ (a : Span). a.start) found in
      rw (add-one, e, b)

-- THE TEST OF THE RUNS: the byte there is not `0`, and fewer than 16 literals wait
module _ (b held : ℕ) (e : (eqb b 48 || eqb held 16) ≡ false) where
  pub no_zero : is "0" b ≡ false
  no_zero = (neither (eqb b 48) (eqb held 16) e).0

  pub room_left : held ≤ 16 → held < 16
  room_left l = omega (arith, l, eqb-false held 16 (neither (eqb b 48) (eqb held 16) e).1)
