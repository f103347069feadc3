-- A name, which the check counts. Assumes nothing.
use mathlib.Core.Path.{◌≡◌, refl, sym, ap, subst, ◌∙◌}
use mathlib.Core.Bool.{true, false}
use mathlib.Core.List.{List, ◌∷◌}
use Prim.Native.Nat.{ℕ, ◌+◌, ◌<◌}
use lib.ListN.{length, get_or, drop}
use Rattle.definition.specs.Base.{Name, is, digit, Out, ok, refused, Done, ret, and_then}
use Rattle.definition.specs.Text.{Text}
use Rattle.definition.specs.Words as W
use Rattle.definition.specs.Machine as M
use Rattle.definition.specs.Shape as C
use Rattle.definition.specs.Shape.{Shapes}
use Rattle.definition.specs.Calls.{then_run}
use Rattle.definition.specs.Check as Ch
use Rattle.definition.specs.declared.Refusal.{Refusal}
use Rattle.definition.proofs.WordsApart.{reworded}
use Rattle.text_cursor.specs.Reads.{rest, Stands, Refuses}
use Rattle.text_cursor.specs.declared.Reader.{Reader}
use Rattle.text_cursor.proofs.Steps.{front}
use Rattle.text_identifiers.specs.Identifiers.{Lies, Taken}
use Rattle.text_identifiers.specs.declared.Extent.{Extent}
use Rattle.text_identifiers.proofs.OneLiteral.{one_counted, one_not_counted}
use Rattle.text_words.specs.Table.{part}
use Rattle.text_words.proofs.Counting.{counted, some_words, some_many}
use Rattle.check_entries.specs.Lies.{machine_of}
use Rattle.check_entries.specs.Stores.{Did}
use Rattle.check_entries.proofs.Written.{wrote_itself}
use Rattle.check_entries.specs.declared.Entries.{Entries}
use Rattle.check_perform.proofs.Sounds.{sound_name}
use Rattle.run.proofs.Readers.{moved}
use Rattle.run.specs.Meaning.{Names, NotNamed, Plain, Fails}
use Rattle.check_run.specs.Meant.{with_words, Counts, meant}
use Rattle.check_run.specs.declared.Check.{Check}

-- what is read, then what is done with it
then_did : {A : Type 0} {out : Out Text A} (f : A → C.Check Done) {a : A} {v : Text} {m n : Shapes} → out ≡ ok a v → f a m ≡ ok tt n → then_run out f m ≡ ok v n
unfolding then_run
then_did {A} f {v = v} {m = m} q h = ap (λ (x : Out Text A). then_run x f m) q ∙ ap (λ (x : Out Shapes Done). and_then x (λ y. ret v)) h

not_read : {A : Type 0} {out : Out Text A} (f : A → C.Check Done) {r : ℕ} (m : Shapes) → out ≡ refused r → then_run out f m ≡ refused r
unfolding then_run
not_read {A} f m q = ap (λ (x : Out Text A). then_run x f m) q

begins_digit : (N b : ℕ) (t : Text) → digit b ≡ true → (m : Shapes) → Ch.one N (b ∷ t) m ≡ then_run (Ch.identifier m.words (b ∷ t)) (λ x. Ch.name N x.words) m
unfolding Ch.one
begins_digit N b t e m = rw (e, Ch.one)

one_name : (N : ℕ) (text : Text) (at : ℕ) → at < length text → digit (get_or text at 0) ≡ true → (m : Shapes) → Ch.one N (drop at text) m ≡ then_run (Ch.identifier m.words (drop at text)) (λ x. Ch.name N x.words) m
one_name N text at h e m =
    ap (λ (t : Text). Ch.one N t m) (front text at h) ∙ (begins_digit N (get_or text at 0) (drop (at + 1) text) e m
    ∙ ap (λ (t : Text). then_run (Ch.identifier m.words t) (λ x. Ch.name N x.words) m) (sym (front text at h)))

-- the words of the machine that a step ends with
words_after : Out Shapes Done → ℕ
words_after (ok x m) = m.words
words_after (refused r) = 0

module _ {s t : Entries} (k : ℕ) (d : Did (Ch.name s.ceiling k) s t) where
  -- the name with any number of words, from the name with one of them
  named_with : (v n : ℕ) → Ch.name s.ceiling n (machine_of (with_words v s)) ≡ ok tt (machine_of (with_words n t))
  unfolding Ch.name M.know M.remember M.push
  named_with v n = ap (reworded n) d.is

  named_words : t.state.words ≡ k
  unfolding Ch.name M.know M.remember M.push words_after
  named_words = sym (ap words_after d.is)

module _ (c d : Check) (lent : d.entries.ghost_name ≡ c.entries.ghost_name) (r : Reader) (h : r.at < length r.text.now) (e : digit (get_or r.text.now r.at 0) ≡ true) where
  abbrev N : ℕ
  N = c.entries.now.ceiling

  -- AN IDENTIFIER, whose words are counted
  module _ (words : List Name) (m : Shapes) (q : c.entries.now.state.words ≡ length words) (p : Counts 1 words c.entries.now m) where
    same : m ≡ machine_of c.entries.now
    same = p.is ∙ ap (λ (v : ℕ). machine_of (with_words v c.entries.now)) (sym q)

    name_is : Ch.one N (rest r) m ≡ then_run (Ch.identifier c.entries.now.state.words (rest r)) (λ x. Ch.name N x.words) (machine_of c.entries.now)
    name_is = ap (Ch.one N (rest r)) same ∙ one_name N r.text.now r.at h e (machine_of c.entries.now)

  pub named : (r₁ : Reader) {n : ℕ} → Stands (Ch.identifier c.entries.now.state.words (rest r)) (Ch.identified false n) 1 r r₁ → Did (Ch.name N n) c.entries.now d.entries.now → Names meant (Ch.one N (rest r)) 1 r r₁ c d
  named r₁ {n} a g = record {
    names = λ words m q p. record {
      words = some_words d.entries.now.state.words;
      knows = some_many d.entries.now.state.words;
      after = record {
        machine = machine_of d.entries.now;
        is = name_is words m q p ∙ then_did (λ x. Ch.name N x.words) a.is g.is;
        holds = record { is = ap (λ (v : ℕ). machine_of (with_words v d.entries.now)) (some_many d.entries.now.state.words); sound = sound_name n p.sound g };
      };
    };
    knowing = λ w. record { words = some_words d.entries.now.state.words; knows = some_many d.entries.now.state.words };
    text = a.text;
    inside = a.inside;
    wrote = record { lent = lent; entries = g.wrote };
  }

  pub not_named : {r₁ : Reader} {x : Refusal} → Refuses (Ch.identifier c.entries.now.state.words (rest r)) x r r₁ → NotNamed meant (Ch.one N (rest r)) 1 r r₁ c c x
  not_named a = record {
    refuses = λ words m q p. name_is words m q p ∙ not_read (λ y. Ch.name N y.words) (machine_of c.entries.now) a.is;
    text = a.text;
    knowing = λ k. k;
    wrote = record { lent = refl; entries = wrote_itself };
  }

  -- ONE LITERAL, whose words are not counted
  module _ (z : is "0" (get_or r.text.now r.at 0) ≡ false) where
    read_to : (from to : ℕ) → Lies (W.literal false (rest r)) (λ x. x) r.text.now r.at from to → Did (Ch.name N c.entries.now.state.words) c.entries.now d.entries.now → Plain meant (Ch.one N (rest r)) 1 r (record r { at = to }) c d from
    read_to from to l g = record {
      plain = λ noted m p.
          let v : ℕ = length noted in
          let slice : Name = part r.text.now from to in
          let n : ℕ = Ch.count_words_from 0 0 slice v in
          record {
            machine = machine_of (with_words n d.entries.now);
            is = ap (Ch.one N (rest r)) p.is ∙ (one_name N r.text.now r.at h e (machine_of (with_words v c.entries.now))
                ∙ then_did (λ y. Ch.name N y.words) (one_counted r.text.now r.at h z v l) (named_with c.entries.now.state.words g v n));
            holds = record { is = ap (λ (k : ℕ). machine_of (with_words k d.entries.now)) (counted slice noted); sound = sound_name c.entries.now.state.words p.sound g };
          };
      knows = λ words q. named_words c.entries.now.state.words g ∙ q;
      some = l.some;
      text = refl;
      inside = l.inside;
      wrote = record { lent = lent; entries = g.wrote };
    }

    pub plain : (r₁ : Reader) (x : Extent) → Taken (W.literal false (rest r)) (λ y. y) r r₁ x → Did (Ch.name N c.entries.now.state.words) c.entries.now d.entries.now → Plain meant (Ch.one N (rest r)) 1 r r₁ c d x.from
    plain r₁ x l g =
        let here : record r { at = x.to } ≡ r₁ = moved r r₁ l.text l.here in
        subst (λ (y : Reader). Plain meant (Ch.one N (rest r)) 1 r y c d x.from) here (read_to x.from x.to l.lies g)

    pub not_plain : {r₁ : Reader} {x : Refusal} → Refuses (W.literal false (rest r)) x r r₁ → Fails meant (Ch.one N (rest r)) 1 r r₁ c c x
    not_plain a = record {
      fails = λ noted m p.
          ap (Ch.one N (rest r)) p.is ∙ (one_name N r.text.now r.at h e (machine_of (with_words (length noted) c.entries.now))
          ∙ not_read (λ y. Ch.name N y.words) (machine_of (with_words (length noted) c.entries.now)) (one_not_counted r.text.now r.at h z (length noted) a.is));
      text = a.text;
      knowing = λ k. k;
      wrote = record { lent = refl; entries = wrote_itself };
    }
