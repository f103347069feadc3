-- An identifier that was read is spelled, segment by segment, by every later table. Assumes
-- nothing.
use Rattle.std.specs.Prelude.{if◌then◌else◌}
use mathlib.Core.Path.{◌≡◌, refl, sym, ap, ◌∙◌, subst, subst⁻¹}
use mathlib.Core.Bool.{Bool, true, false, ◌&&◌, not, and-eq-true_iff}
use mathlib.Core.List.{List, [], ◌∷◌, ◌++◌, append-nil, append_assoc}
use mathlib.Core.Option.{Option, some, none}
use Prim.Native.Nat.{ℕ, zero, suc, ◌-◌}
use Prim.Native.Char.{code}
use native.Mathlib.Omega.{arith}
use lib.Dec.{ltb}
use lib.ListN.{length, get_elem?}
use Rattle.definition.specs.Base.{Name, is, lower, upper, Out, ok, refused, Step, Done, ret, unless, and_then, ◌>>=◌}
use Rattle.definition.specs.Text.{Text, peek, next_if, natural, well_formed}
use Rattle.definition.specs.Words.{note_words, Spelled, spelled, word_letters, take_bytes, literal, Identified, identified, identifier_from, is_empty, identifier}
use Rattle.definition.proofs.WordsAdded.{Begins, Looked, begins_trans, found_again, identifier_from_begins}
use Rattle.text_spelling.specs.Segments.{Segment, segment, end, mark, counted, of_bytes, of_length, unless_closed, literal_segment, of_word, segment_of, Lead, lead, second_zero, start, Follows, nothing, after}

-- STEPS THAT ARE NOT REFUSED
module _ {S A B : Type 0} where
  record Came (o : Out S A) (f : A → Step S B) (b : B) (u : S) : Type 0 where
    value : A
    state : S
    is : o ≡ ok value state
    goes : f value state ≡ ok b u

  came : (o : Out S A) (f : A → Step S B) (b : B) (u : S) → and_then o f ≡ ok b u → Came o f b u
  came (ok a s) f b u e = record { value = a; state = s; is = refl; goes = e }
  came (refused r) f b u e = absurd (let z : ◌≡◌ {A = ℕ} 0 1 = cc in omega arith)

  then_ok : (f : A → Step S B) {o : Out S A} {a : A} {u : S} → o ≡ ok a u → and_then o f ≡ f a u
  then_ok f e = ap (λ (o : Out S A). and_then o f) e

same_value : {S A : Type 0} {a b : A} {s u : S} → ok a s ≡ ok b u → a ≡ b
same_value e = cc

same_state : {S A : Type 0} {a b : A} {s u : S} → ok a s ≡ ok b u → s ≡ u
same_state e = cc

unless_state : (b : Bool) (t u : Text) (x : Done) → unless 9 b t ≡ ok x u → u ≡ t
unless_state true t u x e = cc
unless_state false t u x e = absurd (let z : ◌≡◌ {A = ℕ} 0 1 = cc in omega arith)

-- a literal is a length and the bytes after it
record Measured (punycoded : Bool) (t u : Text) (s : Name) : Type 0 where
  size : ℕ
  behind : Text
  length_is : natural t ≡ ok size behind
  bytes_are : counted punycoded size behind ≡ ok s u

measured : (punycoded : Bool) (t u : Text) (s : Name) → literal punycoded t ≡ ok s u → Measured punycoded t u s
unfolding literal counted
measured punycoded t u s e =
    let a = came (natural t) _ s u e in
    let b = came (unless 9 (ltb 0 a.value) a.state) _ s u a.goes in
    let m = came (mark punycoded b.state) _ s u b.goes in
    let d = came (take_bytes a.value m.state) _ s u m.goes in
    let w = came (unless 9 (well_formed d.value) d.state) _ s u d.goes in
    let state_is : w.state ≡ d.state = unless_state (well_formed d.value) d.state w.state w.value w.is in
    let last : ok d.value w.state ≡ ok s u = w.goes in
    let taken : take_bytes a.value m.state ≡ ok s u = d.is ∙ ap (ok d.value) (sym state_is) ∙ last in
    record {
      size = a.value;
      behind = a.state;
      length_is = a.is;
      bytes_are = then_ok (λ _. mark punycoded >>= λ _. take_bytes a.value) b.is ∙ then_ok (λ _. take_bytes a.value) m.is ∙ taken;
    }

-- THE NAME, PIECE BY PIECE
module _ (vs : List Name) (punycoded : Bool) where
  -- after `before`, this segment and those that follow it complete the whole
  record Completes (p : Segment) (before whole : Name) : Type 0 where
    rest : Name
    is : whole ≡ before ++ rest
    follows : Follows vs punycoded p rest

  ends : {p : Segment} {before : Name} → p ≡ end → Completes p before before
  ends {before = before} e = record { rest = []; is = sym (append-nil before); follows = subst⁻¹ (λ (p : Segment). Follows vs punycoded p []) e nothing }

  step_back : {before whole w : Name} (more : Bool) (t : Text) → Completes (segment_of vs more punycoded t) (before ++ w) whole → Completes (segment w more t) before whole
  step_back {before} {w = w} more t h = record { rest = w ++ h.rest; is = h.is ∙ append_assoc before w h.rest; follows = after h.follows }

  completes_is : {p q : Segment} {before whole : Name} → p ≡ q → Completes q before whole → Completes p before whole
  completes_is {before = before} {whole = whole} e h = subst⁻¹ (λ (p : Segment). Completes p before whole) e h

  no_text : segment_of vs false punycoded [] ≡ end
  unfolding segment_of literal_segment next_if natural peek
  no_text = refl

  literal_closed : (more : Bool) (t : Text) {u : Text} → next_if (is "0") t ≡ ok true u → literal_segment more punycoded t ≡ end
  unfolding literal_segment
  literal_closed more t e = ap (unless_closed more punycoded) e

  literal_read : (more : Bool) (t : Text) {u v : Text} {s : Name} → next_if (is "0") t ≡ ok false u → Measured punycoded u v s → literal_segment more punycoded t ≡ segment s more (if more then v else [])
  unfolding literal_segment
  literal_read more t e h = ap (unless_closed more punycoded) e ∙ ap (of_length more punycoded) h.length_is ∙ ap (of_bytes more) h.bytes_are

  -- LETTERS
  module _ (ws : List Name) (s : Spelled) (v : Text) (whole : Name) (tail : Completes (literal_segment s.more punycoded v) s.name whole) where
    stops : (name : Name) (more : Bool) (t : Text) → ok (spelled name more) t ≡ ok s v → Completes (literal_segment more punycoded t) name whole
    stops name more t e =
        let a : spelled name more ≡ s = cc in
        let b : t ≡ v = cc in
        subst⁻¹ (λ (x : Spelled). Completes (literal_segment x.more punycoded t) x.name whole) a (subst⁻¹ (λ (x : Text). Completes (literal_segment s.more punycoded x) s.name whole) b tail)

    by_capital : (name : Name) (t : Text) (i : ℕ) → Begins ws vs →
        ◌≡◌ {A = Out Text Spelled} (elim (get_elem? ws i) [ none ↦ refused 9 | some w ↦ ok (spelled (name ++ w) false) t ]) (ok s v) → Completes (of_word (get_elem? vs i) false t) name whole
    unfolding segment_of
    by_capital name t i later e = go (get_elem? ws i) (λ w k. found_again i w later k) e
      where
        go : (a : Option Name) → ((w : Name) → a ≡ some w → get_elem? vs i ≡ some w) →
            ◌≡◌ {A = Out Text Spelled} (elim a [ none ↦ refused 9 | some w ↦ ok (spelled (name ++ w) false) t ]) (ok s v) → Completes (of_word (get_elem? vs i) false t) name whole
        go none f k = absurd (let z : ◌≡◌ {A = ℕ} 0 1 = cc in omega arith)
        go (some w) f k = completes_is (ap (λ (o : Option Name). of_word o false t) (f w refl)) (step_back false t (stops (name ++ w) false t k))

    by_small : (name : Name) (t : Text) (i : ℕ) → Begins ws vs → ((w : Name) → word_letters ws (name ++ w) t ≡ ok s v → Completes (segment_of vs true punycoded t) (name ++ w) whole) →
        ◌≡◌ {A = Out Text Spelled} (elim (get_elem? ws i) [ none ↦ refused 9 | some w ↦ word_letters ws (name ++ w) t ]) (ok s v) → Completes (of_word (get_elem? vs i) true t) name whole
    by_small name t i later ih e = go (get_elem? ws i) (λ w k. found_again i w later k) e
      where
        go : (a : Option Name) → ((w : Name) → a ≡ some w → get_elem? vs i ≡ some w) →
            ◌≡◌ {A = Out Text Spelled} (elim a [ none ↦ refused 9 | some w ↦ word_letters ws (name ++ w) t ]) (ok s v) → Completes (of_word (get_elem? vs i) true t) name whole
        go none f k = absurd (let z : ◌≡◌ {A = ℕ} 0 1 = cc in omega arith)
        go (some w) f k = completes_is (ap (λ (o : Option Name). of_word o true t) (f w refl)) (step_back true t (ih w k))

    letters : Begins ws vs → (name : Name) (t : Text) → word_letters ws name t ≡ ok s v → Completes (segment_of vs true punycoded t) name whole
    unfolding word_letters segment_of
    letters later name [] e = stops name true [] e
    letters later name (c ∷ t) e = go (λ w. letters later (name ++ w) t) (lower c) (upper c) e
      where
        go : ((w : Name) → word_letters ws (name ++ w) t ≡ ok s v → Completes (segment_of vs true punycoded t) (name ++ w) whole) → (l u : Bool) → ◌≡◌ {A = Out Text Spelled} (elim l [
          | true ↦ elim (get_elem? ws (c - code "a")) [ none ↦ refused 9 | some w ↦ word_letters ws (name ++ w) t ]
          | false ↦ elim u [
            | true ↦ elim (get_elem? ws (c - code "A")) [ none ↦ refused 9 | some w ↦ ok (spelled (name ++ w) false) t ]
            | false ↦ ok (spelled name true) (c ∷ t)
          ]
        ]) (ok s v) →
            Completes (elim l [
              | true ↦ of_word (get_elem? vs (c - code "a")) true t
              | false ↦ elim u [
                | true ↦ of_word (get_elem? vs (c - code "A")) false t
                | false ↦ literal_segment true punycoded (c ∷ t)
              ]
            ]) name whole
        go ih true u k = by_small name t (c - code "a") later ih k
        go ih false true k = by_capital name t (c - code "A") later k
        go ih false false k = stops name true (c ∷ t) k

    first_part : (subs : Bool) (name : Name) (t : Text) → (subs ≡ true → Begins ws vs) → (if subs then word_letters ws name else ret (spelled name false)) t ≡ ok s v → Completes (segment_of vs subs punycoded t) name whole
    unfolding segment_of
    first_part true name t later e = letters (later refl) name t e
    first_part false name t later e = stops name false t e

  -- THE LOOP
  behind_literal : (f : ℕ) (more : Bool) (known : List Name) (before slice : Name) (t u : Text) (r : Identified) →
      (more ≡ true → identifier_from f true punycoded known (before ++ slice) t ≡ ok r u → Completes (segment_of vs true punycoded t) (before ++ slice) r.name) →
      (if more then identifier_from f true punycoded known (before ++ slice) else ret (identified (before ++ slice) known)) t ≡ ok r u →
      Completes (segment slice more (if more then t else [])) before r.name
  behind_literal f true known before slice t u r ih e = step_back true t (ih refl e)
  behind_literal f false known before slice t u r ih e =
      let a : identified (before ++ slice) known ≡ r = cc in
      subst (λ (x : Identified). Completes (segment slice false []) before x.name) a (step_back false [] (ends no_text))

  -- letters may follow only if they were allowed before
  more_letters : (ws : List Name) (subs : Bool) (name : Name) (t : Text) {v : Text} {s : Spelled} → (if subs then word_letters ws name else ret (spelled name false)) t ≡ ok s v → s.more ≡ true → subs ≡ true
  more_letters ws true name t e h = refl
  more_letters ws false name t {s = s} e h =
      let a : spelled name false ≡ s = cc in
      ap (λ (x : Spelled). x.more) a ∙ h

  from : (f : ℕ) (subs : Bool) (ws : List Name) (name : Name) (t u : Text) (r : Identified) → identifier_from f subs punycoded ws name t ≡ ok r u → (subs ≡ true → Begins r.words vs) →
      Completes (segment_of vs subs punycoded t) name r.name
  unfolding identifier_from
  from zero subs ws name t u r e later = absurd (let z : ◌≡◌ {A = ℕ} 0 1 = cc in omega arith)
  from (suc f) subs ws name t u r e later =
      let a = came ((if subs then word_letters ws name else ret (spelled name false)) t) _ r u e in
      let b = came (next_if (is "0") a.state) _ r u a.goes in
      first_part ws a.value a.state r.name
      (tail (λ m known before x h. from f true known before x u r h (λ _. later (more_letters ws subs name t a.is m))) a.state b.state b.value b.is b.goes)
      subs name t (λ k. begins_trans (identifier_from_begins (suc f) subs punycoded ws name t u r e) (later k)) a.is
    where
      tail : {s : Spelled} → (s.more ≡ true → (known : List Name) (before : Name) (x : Text) → identifier_from f true punycoded known before x ≡ ok r u → Completes (segment_of vs true punycoded x) before r.name) →
          (v x : Text) (closed : Bool) → next_if (is "0") v ≡ ok closed x →
          (if closed then ret (identified s.name ws) else (literal punycoded >>= λ slice.
          if s.more then identifier_from f true punycoded (if punycoded then ws else note_words slice ws) (s.name ++ slice) else ret (identified (s.name ++ slice) (if punycoded then ws else note_words slice ws)))) x ≡ ok r u →
          Completes (literal_segment s.more punycoded v) s.name r.name
      tail {s} ih v x true k g =
          let z : identified s.name ws ≡ r = cc in
          subst (λ (y : Identified). Completes (literal_segment s.more punycoded v) s.name y.name) z (ends (literal_closed s.more v k))
      tail {s} ih v x false k g =
          let d = came (literal punycoded x) _ r u g in
          completes_is (literal_read s.more v k (measured punycoded x d.state d.value d.is))
          (behind_literal f s.more (if punycoded then ws else note_words d.value ws) s.name d.value d.state u r
          (λ m. ih m (if punycoded then ws else note_words d.value ws) (s.name ++ d.value) d.state) d.goes)

-- `0` was taken if it is there
zero_there : (t : Text) (zero₁ : Bool) {u : Text} → next_if (is "0") t ≡ ok zero₁ u → zero₁ ≡ true → peek (is "0") t ≡ true
unfolding next_if peek
zero_there [] zero₁ e h = let z : false ≡ zero₁ = cc in z ∙ h
zero_there (c ∷ t) zero₁ e h = go (is "0" c) e
  where
    go : (b : Bool) {u : Text} → ◌≡◌ {A = Out Text Bool} (elim b [ true ↦ ok true t | false ↦ ok false (c ∷ t) ]) (ok zero₁ u) → b ≡ true
    go true k = refl
    go false k = let z : false ≡ zero₁ = cc in z ∙ h

-- an identifier after its lead
pub spelled_again : (vs ws : List Name) (t u v : Text) (r : Identified) (l : Lead) → identifier ws t ≡ ok r u → Looked t r.words vs → start t ≡ ok l v →
    Follows vs l.punycoded (segment_of vs l.more l.punycoded v) r.name
unfolding identifier start
spelled_again vs ws t u v r l e later k =
    let a = came (next_if (is "0") t) _ r u e in
    let b = came ((if a.value then next_if (is "0") else ret false) a.state) _ r u a.goes in
    let m = a.value && not b.value in
    let d = came (identifier_from (suc (length t)) m b.value ws [] b.state) _ r u b.goes in
    let n = came (unless 9 (not (is_empty d.value.name)) d.state) _ r u d.goes in
    let same_read : d.value ≡ r = same_value n.goes in
    let begun : start t ≡ ok (lead m b.value) b.state = then_ok second_zero a.is ∙ then_ok (λ p. ret (lead (a.value && not p) p)) b.is in
    let same_lead : lead m b.value ≡ l = same_value (sym begun ∙ k) in
    let same_text : b.state ≡ v = same_state (sym begun ∙ k) in
    let h = from vs b.value (suc (length t)) m ws [] b.state d.state d.value d.is (λ k. subst⁻¹ (λ (x : Identified). Begins x.words vs) same_read (later (zero_there t a.value a.is ((and-eq-true_iff a.value (not b.value)).0 k).0))) in
    let name_is : r.name ≡ h.rest = ap (λ (x : Identified). x.name) (sym same_read) ∙ h.is in
    subst⁻¹ (Follows vs l.punycoded (segment_of vs l.more l.punycoded v)) name_is
    (subst (λ (x : Lead). Follows vs x.punycoded (segment_of vs x.more x.punycoded v) h.rest) same_lead
    (subst (λ (x : Text). Follows vs b.value (segment_of vs m b.value x) h.rest) same_text h.follows))
