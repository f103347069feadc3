-- The segments of a name, at a reader's place. Assumes nothing.
use Rattle.std.specs.Prelude.{if◌then◌else◌, Some, None}
use mathlib.Core.Path.{◌≡◌, refl, sym, ap, subst, ◌∙◌}
use mathlib.Core.Bool.{Bool, true, false, not}
use mathlib.Core.List.{List, [], ◌∷◌}
use Prim.Native.Nat.{ℕ, ◌+◌, ◌-◌, ◌≤◌, ◌<◌}
use Prim.Native.Char.{code}
use native.Mathlib.Omega.{arith}
use borrow.Author.Tests.{lt-ltb, le-leb, lt-leb}
use denote.Bor.{Bor}
use lib.ListN.{length, drop, get_elem?, length-drop, length-take}
use lib.Seq.{drop-drop, drop-length}
use Rattle.definition.specs.Base.{Name, is, lower, upper, ok, refused, ret, and_then}
use Rattle.definition.specs.Text.{Text, next_if, natural}
use Rattle.definition.specs.Words.{take_bytes}
use Rattle.text_cursor.specs.Reads.{rest, Stands, Takes, Took, Left, TookByte, TookPart, Short, TakesPart}
use Rattle.text_cursor.specs.declared.Reader.{Reader}
use Rattle.std.specs.Prelude.{Option}
use Rattle.std.proofs.Math.Option as M
use Rattle.text_words.specs.Table.{Words, table}
use Rattle.text_spelling.specs.Measures.{Measured, MeasuredIs}
use Rattle.text_spelling.specs.SegmentsRead.{Begun, Taken, NoSegment, SegmentIs, WordIs, Letter, NoLetter, coming}
use Rattle.text_spelling.specs.declared.segments.Segments.{Segments}
use Rattle.text_spelling.specs.Segments.{Segment, segment, end, counted, of_bytes, of_length, unless_closed, literal_segment, of_word, segment_of, lead, second_zero, start}

-- THE LEAD
module _ (t : Text) {u : Text} where
  pub start_plain : next_if (is "0") t ≡ ok false u → start t ≡ ok (lead false false) u
  unfolding start
  start_plain e = ap (λ o. and_then o second_zero) e

  pub start_zero : {v : Text} {p : Bool} → next_if (is "0") t ≡ ok true u → next_if (is "0") u ≡ ok p v → start t ≡ ok (lead (not p) p) v
  unfolding start
  start_zero e k = ap (λ o. and_then o second_zero) e ∙ ap (λ o. and_then o (λ p. ret (lead (not p) p))) k

-- THE BYTES AFTER A LENGTH
pub length_none : (more punycoded : Bool) (t : Text) {u : Text} {n : ℕ} → n ≡ 0 → natural t ≡ ok n u → of_length more punycoded (natural t) ≡ end
unfolding counted
length_none more punycoded t z e = rw (e, z)

-- behind a length, and the `_` that may follow it
pub record Behind (n : ℕ) (punycoded : Bool) (old mid : Reader) : Type 0 where
  pub is : (more : Bool) → of_length more punycoded (natural (rest old)) ≡ of_bytes more (take_bytes n (rest mid))
  pub text : mid.text ≡ old.text
  pub inside : mid.at ≤ length mid.text.now
  pub onward : old.at + 1 ≤ mid.at

module _ {n : ℕ} (punycoded : Bool) {old next : Reader} (h : Stands (natural (rest old)) n 1 old next) (z : n ≡ 0 → ⊥) where
  by_mark : (more : Bool) {b : Bool} → punycoded ≡ true → {u : Text} → next_if (is "_") (rest next) ≡ ok b u → of_length more punycoded (natural (rest old)) ≡ of_bytes more (take_bytes n u)
  unfolding counted
  by_mark more p e = rw (h.is, p, lt-ltb 0 n (omega (arith, z)), e)

  by_length : (more : Bool) → punycoded ≡ false → of_length more punycoded (natural (rest old)) ≡ of_bytes more (take_bytes n (rest next))
  unfolding counted
  by_length more p = rw (h.is, p, lt-ltb 0 n (omega (arith, z)))

  marked : punycoded ≡ true → {new : Reader} (b : Bool) → Takes (next_if (is "_")) next new b → Behind n punycoded old new
  marked p true t = record { is = λ more. by_mark more p t.is; text = t.text ∙ h.text; inside = t.inside; onward = omega (arith, t.onward, h.onward) }
  marked p false t = record { is = λ more. by_mark more p t.is; text = t.text ∙ h.text; inside = rw (t.text, t.here) h.inside; onward = omega (arith, t.here, h.onward) }

  pub behind_mark : punycoded ≡ true → {new mid : Reader} (b : Bool) → Takes (next_if (is "_")) next new b → mid ≡ new → Behind n punycoded old mid
  behind_mark p b t e = subst (Behind n punycoded old) (sym e) (marked p b t)

  pub behind_length : punycoded ≡ false → {mid : Reader} → mid ≡ next → Behind n punycoded old mid
  behind_length p e = subst (Behind n punycoded old) (sym e) (record { is = λ more. by_length more p; text = h.text; inside = h.inside; onward = omega (arith, h.onward) })

module _ {n : ℕ} {mid : Reader} where
  pub bytes_short : mid.at ≤ length mid.text.now → {new : Reader} → Short n mid new → take_bytes n (rest mid) ≡ refused 9
  unfolding take_bytes
  bytes_short i s = let l : length (rest mid) < n = simp length-drop (omega (arith, s.few)) in rw (take_bytes, lt-leb n (length (rest mid)) l)

  pub bytes_taken : {new : Reader} {bytes : Name} → TookPart n bytes mid new → take_bytes n (rest mid) ≡ ok bytes (rest new)
  unfolding take_bytes
  bytes_taken {new} {bytes} t =
      let i : mid.at + n ≤ length mid.text.now = rw (← t.text, ← t.onward) t.inside in
      let l : n ≤ length (rest mid) = simp length-drop (omega arith) in
      let r : rest new ≡ drop n (rest mid) = ap (λ (b : Bor (List ℕ)). drop new.at b.now) t.text ∙ ap (λ (m : ℕ). drop m mid.text.now) t.onward ∙ sym (drop-drop n mid.at mid.text.now) in
      rw (take_bytes, le-leb n (length (rest mid)) l, r) (ap (λ (b : Name). ok b (drop n (rest mid))) (sym t.is))

-- A SEGMENT
module _ (more punycoded : Bool) (t : Text) {u : Text} where
  pub literal_closed : next_if (is "0") t ≡ ok true u → literal_segment more punycoded t ≡ end
  unfolding literal_segment
  literal_closed e = ap (unless_closed more punycoded) e

  pub literal_open : next_if (is "0") t ≡ ok false u → literal_segment more punycoded t ≡ of_length more punycoded (natural u)
  unfolding literal_segment
  literal_open e = ap (unless_closed more punycoded) e

-- A LETTER
module _ (words : List Name) (punycoded : Bool) (t : Text) where
  module _ {b : ℕ} {u : Text} (e : t ≡ b ∷ u) where
    pub segment_small : lower b ≡ true → segment_of words true punycoded t ≡ of_word (get_elem? words (b - code "a")) true u
    unfolding segment_of
    segment_small l = rw (e, segment_of, l)

    pub segment_capital : lower b ≡ false → upper b ≡ true → segment_of words true punycoded t ≡ of_word (get_elem? words (b - code "A")) false u
    unfolding segment_of
    segment_capital l k = rw (e, segment_of, l, k)

    pub segment_other : lower b ≡ false → upper b ≡ false → segment_of words true punycoded t ≡ literal_segment true punycoded t
    unfolding segment_of
    segment_other l k = rw (e, segment_of, l, k)

  pub segment_past : t ≡ [] → segment_of words true punycoded t ≡ literal_segment true punycoded t
  unfolding segment_of
  segment_past e = rw e

  pub segment_plain : segment_of words false punycoded t ≡ literal_segment false punycoded t
  unfolding segment_of
  segment_plain = refl

-- WHAT A METHOD RETURNS
-- a segment of these bytes, where the reader is then at `new`
part_short : {n : ℕ} {mid new : Reader} {bytes : Name} → TookPart n bytes mid new → (text : Bor (List ℕ)) → mid.text ≡ text → length bytes ≤ length text.now
part_short {n} {mid} t text e = rw (t.is, ← e) (omega (arith, length-take n (rest mid), length-drop mid.at mid.text.now))

pub measures : {n : ℕ} {punycoded : Bool} {old mid : Reader} (new : Reader) → Behind n punycoded old mid → (a : Option (Bor (List ℕ))) → TakesPart n mid new a → MeasuredIs punycoded old new a
measures {old = old} new b (Some bytes) t = record {
  is = λ more. b.is more ∙ ap (of_bytes more) (bytes_taken t);
  text = t.text ∙ b.text;
  short = part_short t old.text b.text;
  onward = omega (arith, t.onward, b.onward);
  inside = t.inside;
}
measures new b None s = record { is = λ more. b.is more ∙ ap (of_bytes more) (bytes_short b.inside s); text = ap (λ (x : Reader). x.text) s.same ∙ b.text }

module _ {s : Segments} {new : Reader} {bytes : Name} (t : Measured bytes s.punycoded s.text new) where
  pub part_more : s.more ≡ true → {r : Segments} → r.text ≡ new → r.words ≡ s.words → r.more ≡ s.more → r.punycoded ≡ s.punycoded → Taken (of_length s.more s.punycoded (natural (rest s.text))) bytes s r
  part_more m {r} e w k p = record {
    is = t.is s.more ∙ ap (λ (x : Bool). segment bytes s.more (if x then rest new else [])) m ∙ ap (λ (x : Reader). segment bytes s.more (rest x)) (sym e) ∙ ap (λ (x : Bool). segment bytes x (rest r.text)) (sym k);
    text = ap (λ (x : Reader). x.text) e ∙ t.text;
    words = w;
    kept = p;
    short = t.short;
    onward = rw e t.onward;
    within = rw (e, ← t.text) t.inside;
  }

  pub part_last : s.more ≡ false → {r : Segments} → r.text ≡ record { text = new.text; at = length new.text.now } → r.words ≡ s.words → r.more ≡ s.more → r.punycoded ≡ s.punycoded → Taken (of_length s.more s.punycoded (natural (rest s.text))) bytes s r
  part_last m {r} e w k p = record {
    is = t.is s.more ∙ ap (λ (x : Bool). segment bytes s.more (if x then rest new else [])) m ∙ ap (segment bytes s.more) (sym (drop-length new.text.now)) ∙ ap (λ (x : Reader). segment bytes s.more (rest x)) (sym e) ∙ ap (λ (x : Bool). segment bytes x (rest r.text)) (sym k);
    text = ap (λ (x : Reader). x.text) e ∙ t.text;
    words = w;
    kept = p;
    short = t.short;
    onward = rw e (omega (arith, t.inside, t.onward));
    within = rw (e, t.text) (omega arith);
  }

-- a segment after a step
pub segment_is : {out out' : Segment} (old mid new : Segments) (r : Option (Bor (List ℕ))) → out ≡ out' → mid.text.text ≡ old.text.text → mid.words ≡ old.words → mid.punycoded ≡ old.punycoded → old.text.at ≤ mid.text.at → SegmentIs out' mid new r → SegmentIs out old new r
segment_is old mid new (Some b) e t w k l h = record { is = e ∙ h.is; text = h.text ∙ t; words = h.words ∙ w; kept = h.kept ∙ k; short = rw (← t) h.short; onward = omega (arith, h.onward); within = rw (← t) h.within }
segment_is old mid new None e t w k l h = record { is = e ∙ h.is; text = h.text ∙ t; words = h.words ∙ w }

-- a letter, and its word
module _ (s : Segments) {new : Reader} {b i : ℕ} (m : s.more ≡ true) (t : TookByte b s.text new) where
  pub letter_small : lower b ≡ true → i ≡ b - 97 → (words : List Name) → segment_of words s.more s.punycoded (rest s.text) ≡ of_word (get_elem? words i) s.more (rest new)
  letter_small l e words = rw (m, e) (segment_small words s.punycoded (rest s.text) t.is l)

  pub letter_capital : lower b ≡ false → upper b ≡ true → i ≡ b - 65 → (words : List Name) → segment_of words s.more s.punycoded (rest s.text) ≡ of_word (get_elem? words i) false (rest new)
  letter_capital l u e words = rw (m, e) (segment_capital words s.punycoded (rest s.text) t.is l u)

pub no_letters : {s : Segments} → s.more ≡ false → NoLetter s s
no_letters {s} m = record { is = λ words. rw m (segment_plain words s.punycoded (rest s.text)); same = refl }

pub letters_ended : {s : Segments} → s.more ≡ true → rest s.text ≡ [] → NoLetter s s
letters_ended {s} m e = record { is = λ words. rw m (segment_past words s.punycoded (rest s.text) e); same = refl }

pub other_byte : {s : Segments} {new : Reader} {b : ℕ} → s.more ≡ true → TookByte b s.text new → lower b ≡ false → upper b ≡ false → NoLetter s s
other_byte {s} m t l u = record { is = λ words. rw m (segment_other words s.punycoded (rest s.text) t.is l u); same = refl }

same_word : (s r : Segments) {i : ℕ} → Letter i s r → coming s ≡ of_word (get_elem? (table r.text.text.now r.words.now) i) r.more (rest r.text)
same_word s r {i} l = l.is (table s.text.text.now s.words.now) ∙ ap (λ (x : Bor (List ℕ)). of_word (get_elem? (table x.now s.words.now) i) r.more (rest r.text)) (sym l.text) ∙ ap (λ (x : Bor Words). of_word (get_elem? (table r.text.text.now x.now) i) r.more (rest r.text)) (sym l.words)

pub letter_word : (s r : Segments) {i : ℕ} (a : Option (Bor (List ℕ))) → Letter i s r → WordIs (get_elem? (table r.text.text.now r.words.now) i) r.text.text.now a → SegmentIs (coming s) s r a
letter_word s r {i} (Some b) l w = record {
  is = same_word s r l ∙ ap (λ (o : M.Option Name). of_word o r.more (rest r.text)) w.is;
  text = l.text;
  words = l.words;
  kept = l.kept;
  short = rw (← l.text) w.short;
  onward = l.onward;
  within = l.within;
}
letter_word s r None l w = record { is = same_word s r l ∙ ap (λ (o : M.Option Name). of_word o r.more (rest r.text)) w; text = l.text; words = l.words }

module _ {s r : Segments} (n : NoLetter s r) {new : Reader} where
  pub next_closed : Took (next_if (is "0")) r.text new → (last : Segments) → last.text ≡ new → last.words ≡ r.words → NoSegment (coming s) s last
  next_closed t last e w = record {
    is = n.is (table s.text.text.now s.words.now) ∙ literal_closed s.more s.punycoded (rest s.text) (ap (λ (x : Segments). next_if (is "0") (rest x.text)) (sym n.same) ∙ t.is);
    text = ap (λ (x : Reader). x.text) e ∙ t.text ∙ ap (λ (x : Segments). x.text.text) n.same;
    words = w ∙ ap (λ (x : Segments). x.words) n.same;
  }

  next_open : Left (next_if (is "0")) r.text new → coming s ≡ of_length s.more s.punycoded (natural (rest new))
  next_open t = n.is (table s.text.text.now s.words.now) ∙ literal_open s.more s.punycoded (rest s.text) (ap (λ (x : Segments). next_if (is "0") (rest x.text)) (sym n.same) ∙ t.is)

  pub next_counted : Left (next_if (is "0")) r.text new → (q last : Segments) → q.text ≡ new → q.words ≡ r.words → q.more ≡ r.more → q.punycoded ≡ r.punycoded → (a : Option (Bor (List ℕ))) → SegmentIs (of_length q.more q.punycoded (natural (rest q.text))) q last a → SegmentIs (coming s) s last a
  next_counted t q last e w k p a h =
      let more : q.more ≡ s.more = k ∙ ap (λ (x : Segments). x.more) n.same in
      let code : q.punycoded ≡ s.punycoded = p ∙ ap (λ (x : Segments). x.punycoded) n.same in
      let out : coming s ≡ of_length q.more q.punycoded (natural (rest q.text)) = rw (more, code, e) (next_open t) in
      segment_is s q last a out
      (ap (λ (x : Reader). x.text) e ∙ t.text ∙ ap (λ (x : Segments). x.text.text) n.same)
      (w ∙ ap (λ (x : Segments). x.words) n.same) code
      (omega (arith, ap (λ (x : Reader). x.at) e, t.here, ap (λ (x : Segments). x.text.at) n.same)) h

-- the lead of a name
module _ {first : Reader} (s : Segments) where
  pub begun_plain : {new : Reader} → Left (next_if (is "0")) first new → s.text ≡ new → s.more ≡ false → s.punycoded ≡ false → Begun first.text.now s.words.now first.at s
  begun_plain {new} t e m k = record {
    is = rw (e, m, k) (start_plain (rest first) t.is);
    text = rw e (ap (λ (x : Bor (List ℕ)). x.now) t.text);
    words = refl;
    inside = λ h. omega (arith, h, t.here, ap (λ (x : Reader). x.at) e);
  }

  pub begun_zero : {mid new : Reader} → Took (next_if (is "0")) first mid → (p : Bool) → Takes (next_if (is "0")) mid new p → s.text ≡ new → s.more ≡ not p → s.punycoded ≡ p → Begun first.text.now s.words.now first.at s
  begun_zero {mid} {new} o true t e m k = record {
    is = rw (e, m, k) (start_zero (rest first) o.is t.is);
    text = rw e (ap (λ (x : Bor (List ℕ)). x.now) (t.text ∙ o.text));
    words = refl;
    inside = λ h. omega (arith, h, t.inside, ap (λ (x : Bor (List ℕ)). length x.now) (t.text ∙ o.text), ap (λ (x : Reader). x.at) e);
  }
  begun_zero {mid} {new} o false t e m k = record {
    is = rw (e, m, k) (start_zero (rest first) o.is t.is);
    text = rw e (ap (λ (x : Bor (List ℕ)). x.now) (t.text ∙ o.text));
    words = refl;
    inside = λ h. omega (arith, o.inside, ap (λ (x : Bor (List ℕ)). length x.now) o.text, t.here, ap (λ (x : Reader). x.at) e);
  }
