-- A read, a turn and a write, one after another. Assumes nothing.
use mathlib.Core.Path.{◌≡◌, refl, sym, ap, subst, ◌∙◌}
use mathlib.Core.Bool.{Bool, true, false}
use mathlib.Core.List.{List, [], ◌++◌, append_assoc, append-nil}
use Rattle.std.specs.Prelude.{Option, Result, Ok}
use Rattle.std.proofs.lemmas.Bool.{eqb-true}
use Prim.Native.Nat.{ℕ, ◌+◌, ◌-◌, ◌≤◌}
use native.Mathlib.Omega.{arith}
use lib.Dec.{eqb}
use lib.ListN.{length, take, drop, length-append, length-drop}
use lib.Seq.{take-add, drop_at, drop-drop, length-take-le}
use Rattle.definition.specs.Text.{Text}
use Rattle.text_cursor.specs.Part.{part}
use Rattle.text_cursor.proofs.Parts.{part_length}
use Rattle.line_forms.specs.Lines.{owed}
use Rattle.line_buffers.specs.Buffers.{Goes, Turned, kept, due, Holds, Fetched, Filling, Filled, begins, fetched, Stepped, Reading, Took, Failed}
use Rattle.line_buffers.specs.declared.Next.{Next}
use Rattle.line_buffers.specs.declared.Turn.{Turn}
use Rattle.line_buffers.specs.declared.State.{State}
use Rattle.line_buffers.specs.declared.Failure.{Failure}

-- PARTS
part_join : (l : List ℕ) (m e : ℕ) → m ≤ e → part l 0 e ≡ take m l ++ part l m e
part_join l m e h = let q : e - 0 ≡ m + (e - m) = omega arith in ap (λ (n : ℕ). take n l) q ∙ take-add m (e - m) l

part_drop : (l : List ℕ) (a k e : ℕ) → a + k ≤ e → e ≤ length l → drop k (part l a e) ≡ part l (a + k) e
part_drop l a k e h j =
    let q : e - a ≡ k + (e - (a + k)) = omega arith in
    let s : part l a e ≡ take k (drop a l) ++ take (e - (a + k)) (drop k (drop a l)) = ap (λ (n : ℕ). take n (drop a l)) q ∙ take-add k (e - (a + k)) (drop a l) in
    let i : length (take k (drop a l)) ≡ k = length-take-le k (drop a l) (omega (arith, length-drop a l)) in
    ap (drop k) s ∙ drop_at (take k (drop a l)) (take (e - (a + k)) (drop k (drop a l))) k i ∙ ap (take (e - (a + k))) (drop-drop k a l)

not_false : true ≡ false → ⊥
not_false e = let z : ◌≡◌ {A = ℕ} 0 1 = cc in omega arith

-- AFTER A READ: what the buffer then holds
record Came (n : Next) (l l' : List ℕ) (b h : State) : Type 0 where
  inside : h.inside ≡ b.inside
  joined : kept l' h ≡ kept l b ++ fetched n l' b h.end
  start : begins n b ≡ h.from
  order : h.from ≤ h.end
  within : h.end ≤ length l'

same_ok : {a b : State} → ◌≡◌ {A = Result State Failure} (Ok a) (Ok b) → a ≡ b
same_ok e = cc

came_unread : (n : Next) {l l' : List ℕ} {b h : State} → Holds l b → fetched n l' b h.end ≡ [] → begins n b ≡ b.from → l' ≡ l → h ≡ b → Came n l l' b h
came_unread n {l} {l'} {b} {h} k f s e q = record {
  inside = ap (λ (x : State). x.inside) q;
  joined = ap (λ (x : State). kept l' x) q ∙ ap (λ (x : List ℕ). kept x b) e ∙ sym (append-nil (kept l b)) ∙ ap (λ (x : Text). kept l b ++ x) (sym f);
  start = s ∙ ap (λ (x : State). x.from) (sym q);
  order = omega (arith, k.order, ap (λ (x : State). x.from) q, ap (λ (x : State). x.end) q);
  within = omega (arith, k.within, ap length e, ap (λ (x : State). x.end) q);
}

module _ (r r' : Option (List ℕ)) (l l' : List ℕ) (b h : State) where
  came_read : Fetched r r' l l' b h → Came Next.Read l l' b h
  came_read f =
      let z : h.from ≡ 0 = ap (λ (x : State). x.from) f.is in
      let e : h.end ≡ b.end - b.from + f.count = ap (λ (x : State). x.end) f.is in
      let k : b.end - b.from ≤ h.end = omega arith in
      record {
        inside = ap (λ (x : State). x.inside) f.is;
        joined = ap (λ (n : ℕ). part l' n h.end) z ∙ part_join l' (b.end - b.from) h.end k ∙ ap (λ (x : Text). x ++ part l' (b.end - b.from) h.end) f.same;
        start = sym z;
        order = omega arith;
        within = f.within;
      }

  came_as : (n : Next) → Holds l b → Filling n r r' l l' b (Ok h) → Came n l l' b h
  came_as Next.Read k f = came_read f
  came_as Next.Answer k f = came_unread Next.Answer k refl refl f.1 (same_ok f.2)
  came_as Next.Done k f = came_unread Next.Done k refl refl f.1 (same_ok f.2)

  -- nothing is read after the end of the input
  ended_as : (n : Next) → Holds l b → b.next ≡ n → Filling n r r' l l' b (Ok h) → b.ended ≡ true → (h.ended ≡ true) × (fetched n l' b h.end ≡ [])
  ended_as Next.Read k q f e = absurd (not_false (sym e ∙ (k.asks q).0))
  ended_as Next.Answer k q f e = (ap (λ (x : State). x.ended) (same_ok f.2) ∙ e, refl)
  ended_as Next.Done k q f e = (ap (λ (x : State). x.ended) (same_ok f.2) ∙ e, refl)

  -- what was read are the input's next bytes
  took_read : Fetched r r' l l' b h → Reading Next.Read r r' (part l' (b.end - b.from) h.end) b.ended h.ended
  took_read f =
      let q : h.end ≡ b.end - b.from + f.count = ap (λ (x : State). x.end) f.is in
      let k : length (part l' (b.end - b.from) h.end) ≡ f.count = omega (arith, part_length l' (b.end - b.from) h.end f.within) in
      let e : h.ended ≡ eqb f.count 0 = ap (λ (x : State). x.ended) f.is in
      (f.read, e ∙ ap (λ (n : ℕ). eqb n 0) (sym k), λ z. f.last (eqb-true f.count 0 (sym e ∙ z)))

  took_as : (n : Next) → Filling n r r' l l' b (Ok h) → Reading n r r' (fetched n l' b h.end) b.ended h.ended
  took_as Next.Read f = took_read f
  took_as Next.Answer f = (f.0, ap (λ (x : State). x.ended) (same_ok f.2))
  took_as Next.Done f = (f.0, ap (λ (x : State). x.ended) (same_ok f.2))

-- what is owed before a read is owed after it
came_owed : (line : Text → List ℕ) {n : Next} {l l' : List ℕ} {b h : State} → Came n l l' b h → (u : Text) → due line l b (fetched n l' b h.end ++ u) ≡ due line l' h u
came_owed line {n} {l} {l'} {b} {h} c u =
    ap (owed line b.inside) (sym (append_assoc (kept l b) (fetched n l' b h.end) u)) ∙ ap (λ (x : Text). owed line b.inside (x ++ u)) (sym c.joined) ∙ ap (λ (i : Bool). owed line i (kept l' h ++ u)) (sym c.inside)

-- the buffer ends after what was kept and what was read
came_grew : {n : Next} {l l' : List ℕ} {b h : State} → Holds l b → Came n l l' b h → h.end ≡ begins n b + (b.end - b.from) + length (fetched n l' b h.end)
came_grew {n} {l} {l'} {b} {h} k c =
    let q : h.end - h.from ≡ (b.end - b.from) + length (fetched n l' b h.end) =
    sym (part_length l' h.from h.end c.within) ∙ ap length c.joined ∙ length-append (kept l b) (fetched n l' b h.end) ∙ ap (λ (m : ℕ). m + length (fetched n l' b h.end)) (part_length l b.from b.end k.within) in
    omega (arith, q, c.start, c.order)

-- THE STEP
module _ {R : Type 0} {remaining : R → Option (List ℕ)} {i i' : R} {l l' : List ℕ} {b h : State} (k : Holds l b) (f : Filled remaining i i' l l' b (Ok h)) where
  came : Came b.next l l' b h
  came = came_as _ _ _ _ _ _ b.next k f.filling

  pub in_order : h.from ≤ h.end
  in_order = came.order

  pub in_buffer : h.end ≤ length l'
  in_buffer = came.within

  pub took : Took (remaining i) (remaining i') l' b h
  took = took_as _ _ _ _ _ _ b.next f.filling

  module _ (line : Text → List ℕ) {o' : List ℕ} {t : Turn} (x : Turned line (kept l' h) h.inside h.ended o' t) where
    long_kept : length (kept l' h) ≡ h.end - h.from
    long_kept = part_length l' h.from h.end in_buffer

    pub still_in : h.from + t.read ≤ h.end
    still_in = omega (arith, x.within, long_kept, in_order)

    left : drop t.read (kept l' h) ≡ part l' (h.from + t.read) h.end
    left = part_drop l' h.from t.read h.end still_in in_buffer

    goes_as : (n : Next) → t.next ≡ n → Goes line (kept l' h) h.ended t n
    goes_as n e = subst (Goes line (kept l' h) h.ended t) e x.goes

    pub stepped : Stepped line l l' o' b (record { from = h.from + t.read; end = h.end; inside = t.inside; ended = h.ended; written = t.written; next = t.next })
    stepped = record {
      long = f.long;
      holds = record {
        order = still_in;
        within = in_buffer;
        asks = λ e. let g = goes_as Next.Read e in (g.0, omega (arith, g.1, long_kept));
      };
      fits = x.fits;
      owes = λ u j.
          came_owed line came u ∙ x.owes u j ∙ ap (λ (y : Text). take t.written o' ++ owed line t.inside (y ++ u)) left;
      ended = ended_as _ _ _ _ _ _ b.next k refl f.filling;
      grew = came_grew k came;
      forward = omega (arith, came.start);
      onward = λ e. omega (arith, goes_as Next.Answer e, came.start);
      done = λ e.
          let g = goes_as Next.Done e in
          (g.0, ap (owed line t.inside) (append-nil (part l' (h.from + t.read) h.end) ∙ sym left) ∙ g.1);
    }

    -- what was to be written is right where the write fails
    pub failed_write : {W : Type 0} (w w' : W) → Failed line (remaining i) (remaining i') w w' l l' o' b Failure.Write
    failed_write w w' = (_, stepped, took)
