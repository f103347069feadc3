-- The operator that begins at a reader's place, and the turn that performs it. Assumes nothing.
use Rattle.std.specs.Prelude.{Result, Ok, Err}
use Rattle.std.proofs.Common.{Bor}
use mathlib.Core.Path.{◌≡◌, refl, sym, ap, subst, ◌∙◌}
use mathlib.Core.Bool.{Bool, true, false}
use mathlib.Core.List.{List, [], ◌∷◌}
use mathlib.Core.Logic.{◌⊎◌, inl, inr}
use Prim.Native.Nat.{ℕ, ◌+◌, ◌<◌}
use native.Mathlib.Omega.{arith}
use Rattle.std.proofs.lemmas.Bool.{eqb-true}
use lib.Dec.{eqb}
use lib.ListN.{length, get_or, drop}
use Rattle.definition.specs.Base.{Name, digit, Out, ok, refused, Step, Done, and_then}
use Rattle.definition.specs.Text.{Text, next_if}
use Rattle.definition.specs.Words as W
use Rattle.definition.specs.Budget as B
use Rattle.definition.specs.Machine.{spend}
use Rattle.definition.specs.Operators as Op
use Rattle.definition.specs.Calls.{then_run, turn}
use Rattle.definition.specs.Enums.{number}
use Rattle.definition.specs.declared.Refusal.{Refusal}
use Rattle.machine.proofs.runs.Turns.{inner}
use Rattle.text_cursor.specs.Reads.{rest, Stands, Took, Left}
use Rattle.text_cursor.specs.declared.Reader.{Reader}
use Rattle.text_cursor.proofs.Steps.{front, differ}
use Rattle.operator_letters.specs.OperatorsRead.{first_operator, IsChain, NoneBegins}
use Rattle.operator_letters.proofs.Choices.{first_is}
use Rattle.operator_substitutions.proofs.ChainLaws.{operator_chain}
use Rattle.text_words.specs.Waits.{Waiting, Waits}
use Rattle.text_words.proofs.Later.{noted_nothing}
use Rattle.run.specs.Meaning.{Meaning, Machines, Knowing, Standing, begun, Does, Refuses, Steps, Notes, Naming, PlainNaming, Fails, Laws}
use Rattle.run.specs.Turns.{Turning, chained, turn_at, behind, NotTurned, NameTurning}
use Rattle.run.proofs.Chains.{knowing_text, knowing_on}

-- `A`, where it is taken and where it is not
taken_is : (t u : Text) → next_if (λ b. eqb b 65) t ≡ ok true u → t ≡ 65 ∷ u
unfolding next_if
taken_is [] u e = absurd (let z : ◌≡◌ {A = ℕ} 0 1 = cc in omega arith)
taken_is (b ∷ t) u e = go (eqb b 65) refl e
  where
    go : (x : Bool) → eqb b 65 ≡ x → ◌≡◌ {A = Out Text Bool} (elim x [ true ↦ ok true t | false ↦ ok false (b ∷ t) ]) (ok true u) → b ∷ t ≡ 65 ∷ u
    go true q h = let z : t ≡ u = cc in ap (λ (n : ℕ). n ∷ t) (eqb-true b 65 q) ∙ ap (λ (v : Text). 65 ∷ v) z
    go false q h = absurd (let z : ◌≡◌ {A = Bool} false true = cc in differ (sym z))

left_is : (u v : Text) → next_if (λ b. eqb b 65) (65 ∷ u) ≡ ok false v → ⊥
unfolding next_if
left_is u v e = let z : ◌≡◌ {A = Bool} true false = cc in differ z

module _ {S : Type 0} (k : Meaning S) (l : Laws k) where
  -- THE OPERATOR
  module _ (N : ℕ) (r : Reader) where
    chain_is : {r₁ : Reader} → Took (next_if (λ b. eqb b 65)) r r₁ → k.one N (rest r) ≡ chained k N (rest r₁)
    chain_is {r₁} a =
        ap (k.one N) (taken_is (rest r) (rest r₁) a.is) ∙ (l.other N 65 (rest r₁) refl
        ∙ ap (λ (o : Out Text Op.Operator). then_run o (k.performs N)) (operator_chain (rest r₁)))

    one_operator : r.at < length r.text.now → digit (get_or r.text.now r.at 0) ≡ false → k.one N (rest r) ≡ then_run (first_operator (rest r)) (k.performs N)
    one_operator h e =
        ap (k.one N) (front r.text.now r.at h) ∙ (l.other N (get_or r.text.now r.at 0) (drop (r.at + 1) r.text.now) e
        ∙ ap (λ (o : Out Text Op.Operator). then_run o (k.performs N)) (sym (first_is r.text.now r.at h)))

  module _ (r : Reader) (s : S) where
    abbrev N : ℕ
    N = k.ceiling s

    -- a result of one step is a result of the same step written otherwise
    same_step : (f g : Step (Machines k) Text) → f ≡ g → (i : ℕ) (r₁ : Reader) (t : S) (o : Result Done Refusal) → Turning k g i r r₁ s t o → Turning k f i r r₁ s t o
    same_step f g e i r₁ t o h = subst (λ (x : Step (Machines k) Text). Turning k x i r r₁ s t o) (sym e) h

    unused : (f : Step (Machines k) Text) (r₁ : Reader) (t : S) (o : Result Done Refusal) → Turning k f 0 r r₁ s t o → Turning k f 1 r r₁ s t o
    unused f r₁ t (Ok u) h = record { reaches = λ noted m q. h.reaches noted m (l.less r.text.now noted s m q); knows = h.knows; text = h.text; inside = h.inside; wrote = h.wrote }
    unused f r₁ t (Err x) h = record { fails = λ noted m q. h.fails noted m (l.less r.text.now noted s m q); text = h.text; knowing = h.knowing; wrote = h.wrote }

    pub is_chain : {r₁ : Reader} → Took (next_if (λ b. eqb b 65)) r r₁ → (r₂ : Reader) (t : S) (o : Result Done Refusal) → Turning k (chained k N (rest r₁)) 0 r₁ r₂ s t o → Turning k (k.one N (rest r)) 1 r r₂ s t o
    is_chain {r₁} a r₂ t o g = same_step _ _ (chain_is N r a) 1 r₂ t o (unused _ r₂ t o (earlier o g))
      where
        earlier : (o : Result Done Refusal) → Turning k (chained k N (rest r₁)) 0 r₁ r₂ s t o → Turning k (chained k N (rest r₁)) 0 r r₂ s t o
        earlier (Ok u) h = let q : r₁.text ≡ r.text = a.text in record {
          reaches = λ noted m p.
              let z = h.reaches noted m (subst (λ (b : Bor (List ℕ)). k.holds 0 b.now noted s m) (sym q) p) in
              record { machine = z.machine; is = z.is; holds = subst (λ (b : Bor (List ℕ)). k.holds 0 b.now noted t z.machine) q z.holds };
          knows = λ words p. subst (λ (b : Bor (List ℕ)). k.knows b.now t words) q (h.knows words (subst (λ (b : Bor (List ℕ)). k.knows b.now s words) (sym q) p));
          text = h.text ∙ q;
          inside = h.inside;
          wrote = h.wrote;
        }
        earlier (Err x) h = record {
          fails = λ noted m p. h.fails noted m (subst (λ (b : Bor (List ℕ)). k.holds 0 b.now noted s m) (sym a.text) p);
          text = h.text ∙ a.text;
          knowing = λ p. knowing_text k a.text (h.knowing (knowing_text k (sym a.text) p));
          wrote = h.wrote;
        }

    module _ (h : r.at < length r.text.now) (e : digit (get_or r.text.now r.at 0) ≡ false) {r₁ : Reader} (a : Left (next_if (λ b. eqb b 65)) r r₁) where
      -- nothing was taken, and the reader is where it was
      stays : rest r₁ ≡ rest r
      stays = rw (a.text, a.here) refl

      pub is_operator : (r₂ : Reader) (op : Op.Operator) → Stands (first_operator (rest r₁)) op 1 r₁ r₂ → (t : S) (o : Result Done Refusal) → Steps k (k.performs N op) 1 0 s t o → Turning k (k.one N (rest r)) 1 r r₂ s t o
      unfolding then_run
      is_operator r₂ op q t o g = same_step _ _ (one_operator N r h e) 1 r₂ t o (did o g)
        where
          is : first_operator (rest r) ≡ ok op (rest r₂)
          is = ap first_operator (sym stays) ∙ q.is

          did : (o : Result Done Refusal) → Steps k (k.performs N op) 1 0 s t o → Turning k (then_run (first_operator (rest r)) (k.performs N)) 1 r r₂ s t o
          did (Ok u) d = record {
            reaches = λ noted m p. let z = d.does r.text.now noted m p in record { machine = z.machine; is = rw (is, z.is) refl; holds = z.holds };
            knows = d.knows r.text.now;
            text = q.text ∙ a.text;
            inside = q.inside;
            wrote = d.wrote;
          }
          did (Err x) d = record { fails = λ noted m p. rw (is, d.refuses r.text.now noted m p) refl; text = q.text ∙ a.text; knowing = d.knowing r.text.now; wrote = d.wrote }

      pub is_refused : {r₂ : Reader} {x : Refusal} → NoneBegins r₁ r₂ x → Fails k (k.one N (rest r)) 1 r r₂ s s x
      unfolding then_run
      is_refused {r₂} {x} n = go n.is
        where
          go : IsChain r₁ ⊎ (first_operator (rest r₁) ≡ refused (number x)) → Fails k (k.one N (rest r)) 1 r r₂ s s x
          go (inl z) = absurd (left_is (drop (r₁.at + 1) r₁.text.now) (rest r₁) (ap (next_if (λ b. eqb b 65)) (sym z ∙ stays) ∙ a.is))
          go (inr z) = record { fails = λ noted m p. ap (λ (f : Step (Machines k) Text). f m) (one_operator N r h e) ∙ rw (ap first_operator (sym stays) ∙ z) refl; text = n.text ∙ a.text; knowing = λ p. p; wrote = l.itself s }

  -- what the words of the waiting literals add to
  pub noted_knowing : {text : Text} {q : Waiting} {s t : S} → Notes k text q s t → Knowing k text s → Knowing k text t
  noted_knowing {text} {q} n h = record { words = behind k text q h.words; knows = n.knows h.words h.knows }

  -- THE TURN is its beginning and its operator
  turn_is : (N : ℕ) (t : Text) (m : Machines k) → turn N (k.one N) t m ≡ and_then (begun k N m) (λ x. k.one N t)
  unfolding turn
  turn_is N t m = sym (inner (spend B.step m) (spend (B.charge N 1)) (k.one N t))

  module _ (r : Reader) {s t : S} where
    -- it is refused at its beginning
    module _ {x : Refusal} (b : Refuses k (begun k (k.ceiling s)) 0 s t x) where
      pub turn_not : (noted : List Name) (m : Machines k) → k.holds 0 r.text.now noted s m → turn_at k r s m ≡ refused (number x)
      turn_not noted m h = turn_is (k.ceiling s) (rest r) m ∙ rw (b.refuses r.text.now noted m h) refl

      pub not_begun : Fails k (turn_at k r s) 0 r r s t x
      not_begun = record { fails = turn_not; text = refl; knowing = b.knowing r.text.now; wrote = b.wrote }

      pub name_not_begun : (q : Waiting) → NotTurned k r r q s t x
      name_not_begun q = record { refuses = λ words m p h. turn_not (behind k r.text.now q words) m h; text = refl; knowing = b.knowing r.text.now; wrote = b.wrote }

    -- it begins, and its operator follows
    module _ (b : Does k (begun k (k.ceiling s)) 0 1 s t) where
      pub turn_then : (noted : List Name) (m : Machines k) (h : k.holds 0 r.text.now noted s m) → turn_at k r s m ≡ k.one (k.ceiling t) (rest r) (b.does r.text.now noted m h).machine
      turn_then noted m h =
          turn_is (k.ceiling s) (rest r) m ∙ (rw (b.does r.text.now noted m h).is refl
          ∙ ap (λ (N : ℕ). k.one N (rest r) (b.does r.text.now noted m h).machine) (sym (l.ceiling s t b.wrote)))

      pub begun_standing : Standing k 0 r.text.now s → Standing k 1 r.text.now t
      begun_standing h =
          let z = b.does r.text.now h.noted h.machine h.holds in
          record { words = h.words; noted = h.noted; machine = z.machine; knows = b.knows r.text.now h.words h.knows; holds = z.holds }

      pub begun_knowing : Knowing k r.text.now s → Knowing k r.text.now t
      begun_knowing = knowing_on k (b.knows r.text.now)

      pub begun_fails : {r₁ : Reader} {u : S} {x : Refusal} → Fails k (k.one (k.ceiling t) (rest r)) 1 r r₁ t u x → Fails k (turn_at k r s) 0 r r₁ s u x
      begun_fails {u = u} g = record {
        fails = λ noted m h. let d = b.does r.text.now noted m h in turn_then noted m h ∙ g.fails noted d.machine d.holds;
        text = g.text;
        knowing = λ p. g.knowing (begun_knowing p);
        wrote = l.both s t u b.wrote g.wrote;
      }

      -- an operator that is no name
      pub turn_on : (r₁ : Reader) (u : S) (o : Result Done Refusal) → Turning k (k.one (k.ceiling t) (rest r)) 1 r r₁ t u o → Turning k (turn_at k r s) 0 r r₁ s u o
      turn_on r₁ u (Ok x) g = record {
        reaches = λ noted m h.
            let d = b.does r.text.now noted m h in
            let a = g.reaches noted d.machine d.holds in
            record { machine = a.machine; is = turn_then noted m h ∙ a.is; holds = a.holds };
        knows = λ words p. g.knows words (b.knows r.text.now words p);
        text = g.text;
        inside = g.inside;
        wrote = l.both s t u b.wrote g.wrote;
      }
      turn_on r₁ u (Err x) g = begun_fails g

      -- a name of one literal
      pub turn_plain : (r₁ : Reader) (u : S) (o : Result ℕ Refusal) → PlainNaming k (k.one (k.ceiling t) (rest r)) 1 r r₁ t u o → PlainNaming k (turn_at k r s) 0 r r₁ s u o
      turn_plain r₁ u (Ok from) g = record {
        plain = λ noted m h.
            let d = b.does r.text.now noted m h in
            let a = g.plain noted d.machine d.holds in
            record { machine = a.machine; is = turn_then noted m h ∙ a.is; holds = a.holds };
        knows = λ words p. g.knows words (b.knows r.text.now words p);
        some = g.some;
        text = g.text;
        inside = g.inside;
        wrote = l.both s t u b.wrote g.wrote;
      }
      turn_plain r₁ u (Err x) g = begun_fails g

      -- a name that may use words: those of all waiting literals are noted before it, and none waits
      -- after it
      module _ {v : S} (q : Waiting) (n : Notes k r.text.now q t v) (r₁ : Reader) (u : S) (p : Waiting) where
        -- the name, from the machine that began the turn
        named_then : (noted : List Name) (m : Machines k) (h : k.holds 0 r.text.now noted s m) → turn_at k r s m ≡ k.one (k.ceiling v) (rest r) (b.does r.text.now noted m h).machine
        named_then noted m h = turn_then noted m h ∙ ap (λ (N : ℕ). k.one N (rest r) (b.does r.text.now noted m h).machine) (sym (l.ceiling t v n.wrote))

        pub turn_named : p.count ≡ 0 → Waits r.text.now p → (o : Result Done Refusal) → Naming k (k.one (k.ceiling v) (rest r)) 1 r r₁ v u o → NameTurning k r r₁ q p s u o
        turn_named z w (Ok x) g = record {
          turned = record {
            turned = λ words m e h.
                let all : List Name = behind k r.text.now q words in
                let d = b.does r.text.now all m h in
                let known = b.knows r.text.now words e in
                let a = g.names all d.machine (n.knows words known) (n.holds 1 words all d.machine known d.holds) in
                record {
                  words = a.words;
                  knows = a.knows;
                  after = record {
                    machine = a.after.machine;
                    is = named_then all m h ∙ a.after.is;
                    holds = subst (λ (ws : List Name). k.holds 0 r.text.now ws u a.after.machine) (sym (noted_nothing W.note_words r.text.now p a.words z)) a.after.holds;
                  };
                };
            knowing = λ h. g.knowing (noted_knowing n (begun_knowing h));
            text = g.text;
            inside = g.inside;
            waits = w;
            wrote = l.both s v u (l.both s t v b.wrote n.wrote) g.wrote;
          };
          none = z;
        }
        turn_named z w (Err x) g = record {
          refuses = λ words m e h.
              let all : List Name = behind k r.text.now q words in
              let d = b.does r.text.now all m h in
              let known = b.knows r.text.now words e in
              named_then all m h ∙ g.refuses all d.machine (n.knows words known) (n.holds 1 words all d.machine known d.holds);
          text = g.text;
          knowing = λ h. g.knowing (noted_knowing n (begun_knowing h));
          wrote = l.both s v u (l.both s t v b.wrote n.wrote) g.wrote;
        }
