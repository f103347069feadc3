-- The loops over the segments of a name. Assumes nothing.
use mathlib.Core.Path.{◌≡◌, refl, sym, ap, ◌∙◌, subst}
use mathlib.Core.Bool.{Bool, true, false, ◌&&◌}
use mathlib.Core.List.{List, [], ◌∷◌, ◌++◌}
use Prim.Native.Nat.{ℕ, ◌+◌, ◌*◌, ◌≤◌, ◌<◌}
use native.Mathlib.Omega.{arith}
use denote.Bor.{Bor}
use lib.Dec.{eqb}
use Rattle.std.proofs.Math.Dec.{eqb-suc-zero}
use Rattle.std.specs.Prelude.{◌==◌}
use borrow.Author.Tests.{eq-eqb, ne_eqb, eqb-false}
use Rattle.std.proofs.lemmas.Bool.{eqb-true}
use lib.ListN.{length, take, drop, length-append}
use lib.Pointwise.{pointwise}
use Rattle.definition.specs.Base.{Name, same, is}
use Rattle.definition.specs.Text.{Text, next_if, natural, peek}
use Rattle.text_cursor.specs.Reads.{rest}
use Rattle.text_cursor.specs.Reads as Reads
use Rattle.text_cursor.specs.declared.Reader.{Reader}
use Rattle.text_words.specs.Table.{Words, table, Fitting}
use Rattle.text_output.specs.Appends.{Appended, Rest, rest_start, rest_then, rest_end, rest_past}
use Rattle.text_output.specs.declared.Sink.{Sink}
use Rattle.text_spelling.specs.Segments.{Segment, segment, end, segment_of, of_length, literal_segment, lead, Follows, nothing, after}
use Rattle.text_spelling.specs.Spelled.{Spells, LengthIs, Spelled}
use Rattle.text_spelling.specs.SegmentsRead.{Begun, Taken, coming}
use Rattle.text_spelling.specs.declared.segments.Segments.{Segments}
use Rattle.text_spelling.specs.Measures.{Measured, Unmeasured}
use Rattle.text_spelling.proofs.segments.Steps.{begun_plain, segment_plain, literal_open, part_last}
use lib.Seq.{drop-length}
use Rattle.text_spelling.proofs.Reading.{spelled_again}

-- WHAT FOLLOWS A PIECE
record Behind (words : List Name) (punycoded : Bool) (w : Name) (more : Bool) (t : Text) (n : Name) : Type 0 where
  rest : Name
  is : n ≡ w ++ rest
  follows : Follows words punycoded (segment_of words more punycoded t) rest

abbrev Parts : List Name → Bool → Segment → Name → Type 0
Parts words punycoded (segment w more t) n = Behind words punycoded w more t n
Parts words punycoded end n = n ≡ []

parts : {words : List Name} {punycoded : Bool} {p : Segment} {n : Name} → Follows words punycoded p n → Parts words punycoded p n
parts nothing = refl
parts (after {n = n} h) = record { rest = n; is = refl; follows = h }

-- TWO TEXTS
and_assoc : (a b c : Bool) → (a && (b && c)) ≡ ((a && b) && c)
and_assoc true b c = refl
and_assoc false b c = refl

-- a text of two parts, compared part by part
same_parts : (a n f : Name) → same (a ++ n) f ≡ (same a (take (length a) f) && same n (drop (length a) f))
same_parts [] n f = refl
same_parts (x ∷ a) n [] = refl
same_parts (x ∷ a) n (y ∷ f) = ap (λ (b : Bool). eqb x y && b) (same_parts a n f) ∙ and_assoc (eqb x y) (same a (take (length a) f)) (same n (drop (length a) f))

eqb_turned : (a b : ℕ) → eqb a b ≡ eqb b a
eqb_turned a b = go (eqb a b) refl
  where
    go : (d : Bool) → eqb a b ≡ d → eqb a b ≡ eqb b a
    go true e = e ∙ sym (eq-eqb b a (sym (eqb-true a b e)))
    go false e = e ∙ sym (ne_eqb b a (λ (k : b ≡ a). eqb-false a b e (sym k)))

-- the library's tests of a text's first bytes, and of its end, are the definition's
first_same : (t p : Name) → pointwise eqb t p ≡ same p t
first_same [] [] = refl
first_same (y ∷ t) [] = refl
first_same [] (x ∷ p) = refl
first_same (y ∷ t) (x ∷ p) = rw (eqb_turned y x) (ap (λ (d : Bool). eqb x y && d) (first_same t p))

pub empty_same : (f : Name) → (length f == 0) ≡ same [] f
empty_same [] = refl
empty_same (y ∷ f) = eqb-suc-zero (length f)

-- A LOOP
abbrev words_of : Segments → List Name
words_of s = table s.text.text.now s.words.now

module _ (text : Text) (w : Words) (p : ℕ) where
  -- this rest of the whole name is left, and Q holds for both
  pub record Yet (Q : Name → Name → Type 0) (s : Segments) (name : Name) : Type 0 where
    rest : Name
    remains : Follows (words_of s) s.punycoded (coming s) rest
    done : Q name rest

  -- this is so whatever name is spelled at p
  abbrev pub Left : (Name → Name → Type 0) → Segments → Type 0
  Left Q s = (name : Name) → Spells text w p name → Yet Q s name

  pub left_first : {s : Segments} (Q : Name → Name → Type 0) → Begun text w p s → ((name : Name) → Q name name) → Left Q s
  left_first {s} Q b q name h =
      let t : table text w ≡ words_of s = ap (λ (x : Text). table x w) (sym b.text) ∙ ap (table s.text.text.now) (sym b.words) in
      let f = spelled_again (table text w) h.words (drop p text) h.rest (rest s.text) h.read (lead s.more s.punycoded) h.is h.later b.is in
      record {
        rest = name;
        remains = subst (λ (n : Name). Follows (words_of s) s.punycoded (coming s) n) h.named (subst (λ (x : List Name). Follows x s.punycoded (segment_of x s.more s.punycoded (rest s.text)) h.read.name) t f);
        done = q name;
      }

  module _ {s : Segments} where
    pub left_next : {bytes : Name} {next : Segments} {Q R : Name → Name → Type 0} → Taken (coming s) bytes s next → Left Q s → ((name rest : Name) → Q name (bytes ++ rest) → R name rest) → Left R next
    left_next {bytes} {next} {Q = Q} t l f name h =
        let y = l name h in
        let b = parts (subst (λ (x : Segment). Follows (words_of s) s.punycoded x y.rest) t.is y.remains) in
        let e : words_of s ≡ words_of next = ap (λ (x : Bor (List ℕ)). table x.now s.words.now) (sym t.text) ∙ ap (λ (x : Bor Words). table next.text.text.now x.now) (sym t.words) in
        record {
          rest = b.rest;
          remains = subst (λ (x : List Name). Follows x next.punycoded (segment_of x next.more next.punycoded (rest next.text)) b.rest) e (subst (λ (c : Bool). Follows (words_of s) c (segment_of (words_of s) next.more c (rest next.text)) b.rest) (sym t.kept) b.follows);
          done = f name b.rest (subst (Q name) b.is y.done);
        }

    pub left_end : {Q : Name → Name → Type 0} {R : Name → Type 0} → coming s ≡ end → Left Q s → ((name : Name) → Q name [] → R name) → (name : Name) → Spells text w p name → R name
    left_end {Q = Q} e l f name h =
        let y = l name h in
        f name (subst (Q name) (parts (subst (λ (x : Segment). Follows (words_of s) s.punycoded x y.rest) e y.remains)) y.done)

    -- a segment at which the loop stops
    pub left_stop : {bytes : Name} {next : Segments} {Q : Name → Name → Type 0} {R : Name → Type 0} → Taken (coming s) bytes s next → Left Q s → ((name rest : Name) → Q name (bytes ++ rest) → R name) → (name : Name) → Spells text w p name → R name
    left_stop {next = next} {R = R} t l f name h = (left_next {R = λ (x y : Name). R x} t l f name h).done

  -- NAME_LENGTH
  -- sum bytes of the name were returned
  pub record Counting (s : Segments) (sum : ℕ) : Type 0 where
    pub short : length s.text.text.now ≤ 65535
    pub small : sum ≤ 65535 * s.text.at
    pub total : sum ≤ 65535 * 65535
    pub left : Left (λ name rest. length name ≡ sum + length rest) s

  pub counting_first : length text ≤ 65535 → {s : Segments} → Begun text w p s → Counting s 0
  counting_first h {s} b = record { short = rw b.text h; small = omega arith; total = omega arith; left = left_first (λ name rest. length name ≡ 0 + length rest) b (λ name. omega arith) }

  pub counting_next : {s : Segments} {sum : ℕ} → Counting s sum → {bytes : Name} {next : Segments} → Taken (coming s) bytes s next → Counting next (sum + length bytes)
  counting_next {s} {sum} c {bytes} {next} t =
      let k : sum + length bytes ≤ 65535 * next.text.at = omega (arith, c.small, t.onward, t.short, c.short) in
      record {
        short = rw t.text c.short;
        small = k;
        total = omega (arith, t.within, c.short);
        left = left_next {s = s} {R = λ name rest. length name ≡ (sum + length bytes) + length rest} t c.left (λ name rest e. e ∙ omega (arith, length-append bytes rest));
      }

  pub counting_end : {s : Segments} {sum : ℕ} → Counting s sum → coming s ≡ end → LengthIs text w p sum
  counting_end {s} {sum} c e = record { is = left_end {s = s} {R = λ name. sum ≡ length name} e c.left (λ name k. omega (arith, k)); small = omega (arith, c.total) }

  -- PUT_NAME
  -- appending the rest of the name to o appends the whole to o₀
  pub record Writing (o₀ o : Sink) (s : Segments) : Type 0 where
    pub same : o.out.ghost_name ≡ o₀.out.ghost_name
    pub room : o.room ≡ o₀.room
    pub len : length o.out.now ≡ length o₀.out.now
    pub left : Left (λ name rest. Rest o₀ name o rest) s

  pub writing_first : (o : Sink) {s : Segments} → Begun text w p s → Writing o o s
  writing_first o b = record { same = refl; room = refl; len = refl; left = left_first (λ name rest. Rest o name o rest) b (λ name. rest_start) }

  module _ {o₀ o : Sink} {s : Segments} (c : Writing o₀ o s) where
    pub writing_next : {bytes : Name} {next : Segments} {o' : Sink} → Taken (coming s) bytes s next → Appended o o' bytes → Writing o₀ o' next
    writing_next {o' = o'} t v = record {
      same = v.same ∙ c.same;
      room = v.room ∙ c.room;
      len = v.wrote.len ∙ c.len;
      left = left_next {s = s} {R = λ name rest. Rest o₀ name o' rest} t c.left (λ name rest e. rest_then v e);
    }

    pub writing_past : o.room < o.at → Spelled text w p o₀ o
    writing_past k = record { is = λ name h. rest_past k (c.left name h).done; same = c.same; room = c.room; len = c.len }

    pub writing_end : coming s ≡ end → Spelled text w p o₀ o
    writing_end e = record { is = left_end {s = s} {R = λ name. Appended o₀ o name} e c.left (λ name k. rest_end k); same = c.same; room = c.room; len = c.len }

  -- NAME_IS
  -- the rest of the name is compared with f
  module _ (fixed : Name) where
    pub record Comparing (s : Segments) (f : Name) : Type 0 where
      pub left : Left (λ name rest. same name fixed ≡ same rest f) s

    pub comparing_first : {s : Segments} → Begun text w p s → Comparing s fixed
    comparing_first b = record { left = left_first (λ name rest. same name fixed ≡ same rest fixed) b (λ name. refl) }

    module _ {s : Segments} {f : Name} (c : Comparing s f) where
      module _ {bytes : Name} {next : Segments} (t : Taken (coming s) bytes s next) {d : Bool} (g : pointwise eqb (take (length bytes) f) bytes ≡ d) where
        segment_first : (name rest : Name) → same name fixed ≡ same (bytes ++ rest) f → same name fixed ≡ (d && same rest (drop (length bytes) f))
        segment_first name rest e = e ∙ same_parts bytes rest f ∙ ap (λ (x : Bool). x && same rest (drop (length bytes) f)) (sym (first_same (take (length bytes) f) bytes) ∙ g)

        pub comparing_next : d ≡ true → {f' : Name} → f' ≡ drop (length bytes) f → Comparing next f'
        comparing_next z {f'} e = record { left = left_next {s = s} {R = λ name rest. same name fixed ≡ same rest f'} t c.left (λ name rest h. segment_first name rest h ∙ ap (λ (x : Bool). x && same rest (drop (length bytes) f)) z ∙ ap (same rest) (sym e)) }

        pub comparing_differs : d ≡ false → (name : Name) → Spells text w p name → false ≡ same name fixed
        comparing_differs z = left_stop {s = s} {R = λ name. false ≡ same name fixed} t c.left (λ name rest h. sym (segment_first name rest h ∙ ap (λ (x : Bool). x && same rest (drop (length bytes) f)) z))

      pub comparing_end : coming s ≡ end → {r : Bool} → r ≡ same [] f → (name : Name) → Spells text w p name → r ≡ same name fixed
      comparing_end e {r} q = left_end {s = s} {R = λ name. r ≡ same name fixed} e c.left (λ name h. q ∙ sym h)

-- A NAME THAT DOES NOT BEGIN WITH `0`: A LENGTH AND ITS BYTES
no_text : (words : List Name) (punycoded : Bool) → segment_of words false punycoded [] ≡ end
unfolding segment_of literal_segment next_if natural peek
no_text words punycoded = refl

module _ (first : Reader) (words : Bor Words) (g : Fitting first.text.now words.now) {r : Reader} (l : Reads.Left (next_if (is "0")) first r) where
  abbrev plain : Segments
  plain = record { text = r; words = words; more = false; punycoded = false; fits = rw l.text g }

  begun : Begun first.text.now words.now first.at plain
  begun = begun_plain plain l refl refl refl

  there : coming plain ≡ of_length false false (natural (rest r))
  there =
      let e : rest r ≡ rest first = rw (l.text, l.here) in
      segment_plain (table r.text.now words.now) false (rest r) ∙ literal_open false false (rest r) (ap (next_if (is "0")) e ∙ l.is)

  pub plain_put : {bytes : Name} {new : Reader} → Measured bytes false r new → {o o' : Sink} → Appended o o' bytes → Spelled first.text.now words.now first.at o o'
  plain_put {bytes} {new} m {o} v =
      let last : Segments = record { text = record { text = new.text; at = length new.text.now }; words = words; more = false; punycoded = false; fits = rw (m.text, l.text) g } in
      let t = part_last {s = plain} m refl {r = last} refl refl refl refl in
      let k : Taken (coming plain) bytes plain last = record { is = there ∙ t.is; text = t.text; words = t.words; kept = t.kept; short = t.short; onward = t.onward; within = t.within } in
      writing_end first.text.now words.now first.at (writing_next first.text.now words.now first.at (writing_first first.text.now words.now first.at o begun) k v)
      (ap (λ (u : Text). segment_of (table new.text.now words.now) false false u) (drop-length new.text.now) ∙ no_text (table new.text.now words.now) false)

  pub plain_none : {new : Reader} → Unmeasured false r new → (o : Sink) → Spelled first.text.now words.now first.at o o
  plain_none u o = writing_end first.text.now words.now first.at (writing_first first.text.now words.now first.at o begun) (there ∙ u.is false)
