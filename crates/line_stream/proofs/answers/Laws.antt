-- From the answer of a call to its line. Assumes nothing.
use mathlib.Core.Path.{◌≡◌, refl, sym, ap, subst, ◌∙◌}
use mathlib.Core.Bool.{false}
use mathlib.Core.List.{List, [], ◌∷◌, ◌++◌, append_assoc, append-nil}
use Prim.Native.Nat.{ℕ, ◌+◌, ◌-◌, ◌≤◌, ◌<◌, ◌^◌}
use native.Mathlib.Omega.{arith}
use borrow.Author.Tests.{lt-leb, le-leb}
use borrow.Rule.Slice.PartMut.{put_mid, Post-is}
use lib.Dec.{eqb}
use lib.ListN.{length, take, drop, length-append, length-take, length-drop, take-append-drop}
use lib.Seq.{take_at, drop_at, drop-drop, drop-append-le, length-take-le}
use Rattle.definition.specs.Text.{Text}
use Rattle.definition.specs.Calls as Calls
use Rattle.definition.specs.Calls.{Values}
use Rattle.definition.specs.Enums.{values, number}
use Rattle.definition.specs.declared.Counts.{Counts}
use Rattle.definition.specs.declared.Refusal.{Refusal}
use Rattle.definition.specs.Enums.{Answer}
use Rattle.std.specs.Prelude.{Ok, Err}
use Rattle.definition.specs.Check as Check
use Rattle.definition.specs.Reading as Reading
use Rattle.call_endings.specs.Answers as Ends
use Rattle.text_output.specs.Sink.{Room, Wrote, wrote_in, wrote_then}
use Rattle.text_output.specs.Appends.{Appended}
use Rattle.text_output.specs.declared.Sink.{Sink}
use Rattle.line_forms.specs.Appends.{longest, Space, Appends}
use Rattle.line_forms.specs.Lines.{refused_line, accepted_line, counts_told, line_answer, name_answer, shape_answer, read_line, name_line, shape_line, line_of}
use Rattle.line_forms.specs.declared.Asked.{Asked}
use Rattle.line_forms.proofs.Laws.{appended, appends_is}
use Rattle.line_forms.proofs.Sizes.{refused_long, refused_short}
use Rattle.line_stream.specs.Does.{Whole, Same, Reads, Answers}
use Rattle.line_stream.proofs.answers.Sizes.{Fits, demangle_fits}

-- THE ANSWER OF A CALL
abbrev pub gives : Counts → ℕ → Answer
gives c n = Ok (record { counts = c; length = n })

abbrev pub refuses : Refusal → ℕ → Answer
refuses f p = Err (record { refusal = f; place = p })

-- with what it writes from `at` on
pub record ReadsAt (a : Calls.Answer) (o o' : List ℕ) (at : ℕ) (r : Answer) : Type 0 where
  pub values : values r ≡ a.values
  pub written : o' ≡ take at o ++ a.written ++ drop (at + length a.written) o

-- no refusal has the number 0
refused_number : (f : Refusal) → eqb (number f) 0 ≡ false
unfolding number
refused_number Refusal.Ceiling = refl
refused_number Refusal.Workspace = refl
refused_number Refusal.Length = refl
refused_number Refusal.Encoding = refl
refused_number Refusal.Prefix = refl
refused_number Refusal.Steps = refl
refused_number Refusal.Charge = refl
refused_number Refusal.Nesting = refl
refused_number Refusal.Spelling = refl
refused_number Refusal.Stack = refl
refused_number Refusal.Leftover = refl
refused_number Refusal.Output = refl

answer_accepted : (c : Counts) (n : ℕ) (told : List ℕ) → line_answer (values (gives c n)) told ≡ accepted_line told
unfolding line_answer values
answer_accepted c n told = refl

answer_refused : (f : Refusal) (p : ℕ) (told : List ℕ) → line_answer (values (refuses f p)) told ≡ refused_line (number f) p
unfolding line_answer values
answer_refused f p told = rw (refused_number f)

-- SHAPES
module _ {r : Answer} {v : Values} (is : values r ≡ v) where
  pub shape_accepted : {c : Counts} {n : ℕ} → r ≡ gives c n → accepted_line (counts_told c.steps c.total c.wraps) ≡ shape_answer v
  unfolding shape_answer values
  shape_accepted {c} {n} q =
      let s : accepted_line (counts_told c.steps c.total c.wraps) ≡ shape_answer (values (gives c n)) = sym (answer_accepted c n (counts_told c.steps c.total c.wraps)) in
      s ∙ ap (λ (x : Answer). shape_answer (values x)) (sym q) ∙ ap shape_answer is

  pub shape_refused : {f : Refusal} {p k : ℕ} → r ≡ refuses f p → k ≡ number f → refused_line k p ≡ shape_answer v
  unfolding shape_answer
  shape_refused {f} {p} q j =
      let s : refused_line (number f) p ≡ shape_answer (values (refuses f p)) = sym (answer_refused f p _) in
      ap (λ (x : ℕ). refused_line x p) j ∙ s ∙ ap (λ (x : Answer). shape_answer (values x)) (sym q) ∙ ap shape_answer is

-- NAMES
-- what overwrites bytes that end before it does
overwritten : {R : ℕ} {o o₁ o₂ h s : List ℕ} {at m r : ℕ} → at ≤ length o → m ≤ length o → m ≤ r → r ≤ length o → Wrote R o o₁ at h m → Wrote R o₁ o₂ at s r → Wrote R o o₂ at s r
overwritten {R} {o} {o₁} {o₂} {h} {s} {at} {m} {r} i j k l a b = record {
  next = b.next;
  count = b.count;
  len = b.len ∙ a.len;
  text = λ _.
      let e : o₁ ≡ take at o ++ h ++ drop m o = a.text j in
      let la : length (take at o) ≡ at = length-take-le at o i in
      let lm : length (take at o ++ h) ≡ m = length-append (take at o) h ∙ omega (arith, a.count, a.next.short, a.len) in
      let t : take at o₁ ≡ take at o = ap (take at) (e ∙ append_assoc (take at o) h (drop m o)) ∙ take_at (take at o) (h ++ drop m o) at la in
      let d : drop m o₁ ≡ drop m o = ap (drop m) e ∙ drop_at (take at o ++ h) (drop m o) m lm in
      let q : m + (r - m) ≡ r = omega arith in
      let f : drop r o₁ ≡ drop r o = ap (λ (n : ℕ). drop n o₁) (sym q) ∙ sym (drop-drop (r - m) m o₁) ∙ ap (drop (r - m)) d ∙ drop-drop (r - m) m o ∙ ap (λ (n : ℕ). drop n o) q in
      let r₁ : r ≤ length o₁ = omega (arith, a.len) in
      b.text r₁ ∙ ap (λ (x : List ℕ). x ++ s ++ drop r o₁) t ∙ ap (λ (x : List ℕ). take at o ++ s ++ x) f;
}

no_bytes : (s : List ℕ) → length s ≡ 0 → s ≡ []
no_bytes [] e = refl
no_bytes (x ∷ s) e = absurd (omega arith)

nothing_written : (o : List ℕ) (n : ℕ) → take n o ++ [] ++ drop (n + length {A = ℕ} []) o ≡ o
nothing_written o n =
    let z : n + 0 ≡ n = omega arith in
    ap (λ (k : ℕ). take n o ++ [] ++ drop k o) z ∙ ap (λ (u : List ℕ). u ++ drop n o) (append-nil (take n o)) ∙ take-append-drop n o

-- `=`, a tab, then the call
module _ {o o₁ o₂ : List ℕ} {at m from : ℕ} (h : Space o at) (w : Wrote (length o) o o₁ at (61 ∷ []) m) (x : Wrote (length o) o₁ o₂ m (9 ∷ []) from) where
  pub from_is : from ≡ at + 2
  from_is = omega (arith, h.room, w.count, x.count)

  pub read_room : (at + 2 + 16384 ≤ length o₂)
  read_room = omega (arith, h.room, w.len, x.len)

  module _ {o₃ : List ℕ} {r : Answer} (a : Calls.Answer) (y : ReadsAt a o₂ o₃ from r) (f : Fits 16384 a) where
    long : length o₃ ≡ length o₂
    long =
        let l : length o₃ ≡ length (take from o₂ ++ a.written ++ drop (from + length a.written) o₂) = ap length y.written in
        l ∙ omega (arith, from_is, read_room, f.short, length-append (take from o₂ ++ a.written) (drop (from + length a.written) o₂), length-append (take from o₂) a.written, length-take from o₂, length-drop (from + length a.written) o₂)

    pub still : length o₃ ≡ length o
    still = long ∙ x.len ∙ w.len

    -- the text is in its place
    text_wrote : Wrote (length o) o₂ o₃ from a.written (from + length a.written)
    text_wrote = wrote_in a.written x.next refl (omega (arith, from_is, read_room, f.short)) y.written long

    pub accepted_length : {c : Counts} {n : ℕ} → r ≡ gives c n → n ≡ length a.written
    unfolding values
    accepted_length {c} {n} q = ap (λ (z : Answer). (values z).length) (sym q) ∙ ap (λ (v : Values). v.length) y.values ∙ f.told

    pub line_room : {c : Counts} {n : ℕ} → r ≡ gives c n → Room (length o) o₃ (from + n)
    line_room q = record { past = omega (arith, accepted_length q, f.short, from_is, read_room, x.len, w.len); short = omega (arith, still); small = h.small }

    pub name_accepted : {o₄ : List ℕ} {c : Counts} {n e : ℕ} → r ≡ gives c n → Wrote (length o) o₃ o₄ (from + n) (10 ∷ []) e → Appends o o₄ at (name_answer a) e
    unfolding name_answer accepted_line
    name_accepted {o₄} {c} {n} {e} q z =
        let l : n ≡ length a.written = accepted_length q in
        let z' : Wrote (length o) o₃ o₄ (from + length a.written) (10 ∷ []) e = subst (λ (k : ℕ). Wrote (length o) o₃ o₄ (from + k) (10 ∷ []) e) l z in
        let s : length (accepted_line (9 ∷ a.written)) ≤ longest = omega (arith, f.short, length-append a.written (10 ∷ [])) in
        let t : accepted_line (9 ∷ a.written) ≡ name_answer a = sym (answer_accepted c n (9 ∷ a.written)) ∙ ap (λ (k : Answer). line_answer (values k) (9 ∷ a.written)) (sym q) ∙ ap (λ (v : Values). line_answer v (9 ∷ a.written)) y.values in
        appends_is t (appended h s (wrote_then (wrote_then (wrote_then w x) text_wrote) z'))

    pub name_refused : {o₄ : List ℕ} {g : Refusal} {p k e : ℕ} → r ≡ refuses g p → k ≡ number g → Appends o₃ o₄ at (refused_line k p) e → Appends o o₄ at (name_answer a) e
    unfolding name_answer values
    name_refused {o₄} {g} {p} {k} {e} q j z =
        let l : length a.written ≡ 0 = sym f.told ∙ sym (ap (λ (v : Values). v.length) y.values) ∙ ap (λ (u : Answer). (values u).length) q in
        let same : o₃ ≡ o₂ = y.written ∙ ap (λ (u : List ℕ). take from o₂ ++ u ++ drop (from + length u) o₂) (no_bytes a.written l) ∙ nothing_written o₂ from in
        let z₂ : Appends o₂ o₄ at (refused_line k p) e = subst (λ (u : List ℕ). Appends u o₄ at (refused_line k p) e) same z in
        let lo : length o₂ ≡ length o = x.len ∙ w.len in
        let z₃ : Wrote (length o) o₂ o₄ at (refused_line k p) e = subst (λ (u : ℕ). Wrote u o₂ o₄ at (refused_line k p) e) lo z₂.wrote in
        let at≤ : at ≤ length o = omega (arith, h.room) in
        let from≤ : from ≤ length o = omega (arith, h.room, from_is) in
        let e≤ : e ≤ length o = omega (arith, z₂.inside, lo) in
        let from≤e : from ≤ e = omega (arith, from_is, z₃.count, refused_long k p, e≤) in
        let v : Wrote (length o) o o₄ at (refused_line k p) e = overwritten at≤ from≤ from≤e e≤ (wrote_then w x) z₃ in
        let t : refused_line k p ≡ name_answer a = ap (λ (u : ℕ). refused_line u p) j ∙ sym (answer_refused g p (9 ∷ a.written)) ∙ ap (λ (u : Answer). line_answer (values u) (9 ∷ a.written)) (sym q) ∙ ap (λ (u : Values). line_answer u (9 ∷ a.written)) y.values in
        appends_is t (record { wrote = v; inside = e≤ })

-- the same over sinks
pub wrote_of : {R R' at at' e : ℕ} {o o₁ o' s : List ℕ} → R ≡ R' → o ≡ o₁ → at ≡ at' → Wrote R o o' at s e → Wrote R' o₁ o' at' s e
wrote_of {R} {R'} {at} {at'} {e} {o} {o₁} {o'} {s} p q r w =
    subst (λ (n : ℕ). Wrote R' o₁ o' n s e) r (subst (λ (u : List ℕ). Wrote R' u o' at s e) q (subst (λ (n : ℕ). Wrote n o o' at s e) p w))

-- what is appended to a whole sink, if it is a line
pub answers_of : {s s' : Sink} {l : List ℕ} → Whole s × Space s.out.now s.at → length l ≤ longest → Appended s s' l → Answers s s' l
answers_of {s} {s'} {l} (w, h) k a = record { same = record { slice = a.same; room = a.room }; appends = appended h k (wrote_of w refl refl a.wrote) }

pub answers_is : {s s' : Sink} {l l' : List ℕ} → l ≡ l' → Answers s s' l → Answers s s' l'
answers_is e a = record { same = a.same; appends = appends_is e a.appends }

-- the same slice, at another place
pub record Put (s s' : Sink) (place : ℕ) : Type 0 where
  pub same : Same s s'
  pub now : s'.out.now ≡ s.out.now
  pub at : s'.at ≡ place

module _ {s s₁ s₂ s₃ : Sink} (b : Whole s × Space s.out.now s.at) (w : Appended s s₁ (61 ∷ [])) (x : Appended s₁ s₂ (9 ∷ [])) {r : Answer} (a : Calls.Answer) (y : Reads a s₂ s₃ r) (f : Fits 16384 a) where
  first : Wrote (length s.out.now) s.out.now s₁.out.now s.at (61 ∷ []) s₁.at
  first = wrote_of b.0 refl refl w.wrote

  second : Wrote (length s.out.now) s₁.out.now s₂.out.now s₁.at (9 ∷ []) s₂.at
  second = wrote_of (w.room ∙ b.0) refl refl x.wrote

  called : ReadsAt a s₂.out.now s₃.out.now s₂.at r
  called = record { values = y.values; written = y.written }

  room_is : s₃.room ≡ length s.out.now
  room_is = y.same.room ∙ x.room ∙ w.room ∙ b.0

  slice_is : s₃.out.ghost_name ≡ s.out.ghost_name
  slice_is = y.same.slice ∙ x.same ∙ w.same

  pub room_after : {c : Counts} {n : ℕ} → r ≡ gives c n → Room s₃.room s₃.out.now (s₃.at + n)
  room_after {c} {n} q =
      let h : Room (length s.out.now) s₃.out.now (s₂.at + n) = line_room b.1 first second a called f q in
      subst (λ (k : ℕ). Room s₃.room s₃.out.now (k + n)) (sym y.at) (subst (λ (k : ℕ). Room k s₃.out.now (s₂.at + n)) (sym room_is) h)

  pub room_before : Room s₃.room s₃.out.now s.at
  room_before = record { past = omega (arith, room_is, b.1.room); short = omega (arith, room_is, still b.1 first second a called f); small = omega (arith, room_is, b.1.small) }

  pub sink_accepted : {s₄ s₅ : Sink} {c : Counts} {n : ℕ} → r ≡ gives c n → Put s₃ s₄ (s₃.at + n) → Appended s₄ s₅ (10 ∷ []) → Answers s s₅ (name_answer a)
  sink_accepted {s₄} {s₅} {c} {n} q p k =
      let z : Wrote (length s.out.now) s₃.out.now s₅.out.now (s₂.at + n) (10 ∷ []) s₅.at = wrote_of (p.same.room ∙ room_is) p.now (p.at ∙ ap (λ (m : ℕ). m + n) y.at) k.wrote in
      record {
        same = record { slice = k.same ∙ p.same.slice ∙ slice_is; room = k.room ∙ p.same.room ∙ y.same.room ∙ x.room ∙ w.room };
        appends = name_accepted b.1 first second a called f q z;
      }

  pub sink_refused : {s₄ s₅ : Sink} {g : Refusal} {m k : ℕ} → r ≡ refuses g m → k ≡ number g → k < 2 ^ 64 → m < 2 ^ 64 → Put s₃ s₄ s.at → Appended s₄ s₅ (refused_line k m) → Answers s s₅ (name_answer a)
  sink_refused {s₄} {s₅} {g} {m} {k} q j u v p h =
      let l : length s₃.out.now ≡ length s.out.now = still b.1 first second a called f in
      let z : Wrote (length s₃.out.now) s₃.out.now s₅.out.now s.at (refused_line k m) s₅.at = wrote_of (p.same.room ∙ room_is ∙ sym l) p.now p.at h.wrote in
      let e : s₅.at ≤ length s₃.out.now = omega (arith, z.count, refused_short k m u v, b.1.room, l) in
      record {
        same = record { slice = h.same ∙ p.same.slice ∙ slice_is; room = h.room ∙ p.same.room ∙ y.same.room ∙ x.room ∙ w.room };
        appends = name_refused b.1 first second a called f q j (record { wrote = z; inside = e });
      }

-- a call on a part of the slice
rest_of : (m n : ℕ) (l : List ℕ) → m ≤ n → n ≤ length l → drop m (take n l) ++ drop n l ≡ drop m l
rest_of m n l h k =
    let i : m ≤ length (take n l) = omega (arith, length-take n l) in
    sym (drop-append-le m (take n l) (drop n l) i) ∙ ap (drop m) (take-append-drop n l)

module _ {o p p' o' : List ℕ} {at n : ℕ} (a : Calls.Answer) {r : Answer} where
  pub part_reads : at + n ≤ length o → p ≡ take n (drop at o) → Fits n a → Ends.Answers a p p' r → o' ≡ take at o ++ p' ++ drop (at + n) o → ReadsAt a o o' at r
  part_reads h q f x e =
      let k : n ≤ length (drop at o) = omega (arith, length-drop at o) in
      let m : ℕ = length a.written in
      let d : drop m p ++ drop (at + n) o ≡ drop (at + m) o =
      ap (λ (u : List ℕ). drop m u ++ drop (at + n) o) q ∙ ap (λ (u : List ℕ). drop m (take n (drop at o)) ++ u) (sym (drop-drop n at o)) ∙ rest_of m n (drop at o) f.short k ∙ drop-drop m at o in
      let i : (take at o ++ (a.written ++ drop m p)) ++ drop (at + n) o ≡ (take at o ++ a.written) ++ (drop m p ++ drop (at + n) o) =
      ap (λ (u : List ℕ). u ++ drop (at + n) o) (sym (append_assoc (take at o) a.written (drop m p))) ∙ append_assoc (take at o ++ a.written) (drop m p) (drop (at + n) o) in
      record {
        values = x.values;
        written = e ∙ ap (λ (u : List ℕ). take at o ++ u ++ drop (at + n) o) x.written ∙ i ∙ ap (λ (u : List ℕ). take at o ++ a.written ++ u) d;
      }

-- the part is put back
pub put_back : (o p' : List ℕ) (at : ℕ) → put_mid at ((at + 16384) - at) o p' ≡ take at o ++ p' ++ drop (at + 16384) o
put_back o p' at =
    let h : at ≤ at + 16384 = omega arith in
    ap (λ (u : List ℕ). take at o ++ (p' ++ u)) (Post-is at (at + 16384) o h) ∙ sym (append_assoc (take at o) p' (drop (at + 16384) o))

-- the call that is made
pub read_part : {o p p' o' : List ℕ} {at w : ℕ} {r : Answer} (t : Text) → at + 16384 ≤ length o → w ≡ 16384 → p ≡ take ((at + 16384) - at) (drop at o) → Ends.Answers (Reading.demangle t 256 w (length p)) p p' r → o' ≡ take at o ++ p' ++ drop (at + 16384) o →
    ReadsAt (Reading.demangle t 256 16384 16384) o o' at r
read_part {o} {p} {p'} {o'} {at} {w} {r} t h k q x e =
    let n : (at + 16384) - at ≡ 16384 = omega arith in
    let q₁ : p ≡ take 16384 (drop at o) = q ∙ ap (λ (m : ℕ). take m (drop at o)) n in
    let l : length p ≡ 16384 = ap length q₁ ∙ length-take-le 16384 (drop at o) (omega (arith, length-drop at o)) in
    let y : Ends.Answers (Reading.demangle t 256 16384 16384) p p' r = subst (λ (m : ℕ). Ends.Answers (Reading.demangle t 256 16384 m) p p' r) l (subst (λ (m : ℕ). Ends.Answers (Reading.demangle t 256 m (length p)) p p' r) k x) in
    part_reads (Reading.demangle t 256 16384 16384) h q₁ (demangle_fits t 256 16384 16384) y e

pub shape_is : {w : ℕ} (r : Answer) (t : Text) → w ≡ 16384 → values r ≡ (Check.shape t 256 w).values → values r ≡ (Check.shape t 256 16384).values
shape_is r t k e = e ∙ ap (λ (m : ℕ). (Check.shape t 256 m).values) k

-- LINES
pub line_long : (asked : Asked) (t : Text) → 4096 < length t → refused_line 3 0 ≡ line_of asked t
unfolding name_line shape_line read_line
line_long Asked.Name t h = rw (lt-leb (length t) 4096 h)
line_long Asked.Shape t h = rw (lt-leb (length t) 4096 h)

pub line_name : {asked : Asked} (t : Text) → asked ≡ Asked.Name → length t ≤ 4096 → name_answer (Reading.demangle t 256 16384 16384) ≡ line_of asked t
unfolding name_line read_line
line_name t q h = rw (q, le-leb (length t) 4096 h)

pub line_shape : {asked : Asked} (t : Text) → asked ≡ Asked.Shape → length t ≤ 4096 → shape_answer (Check.shape t 256 16384).values ≡ line_of asked t
unfolding shape_line read_line
line_shape t q h = rw (q, le-leb (length t) 4096 h)
