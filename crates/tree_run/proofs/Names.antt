-- A name, which becomes a node. Assumes nothing.
use Rattle.std.proofs.Common.{Bor}
use mathlib.Core.Path.{◌≡◌, refl, sym, ap, subst, ◌∙◌}
use mathlib.Core.Bool.{true, false}
use mathlib.Core.List.{List, [], ◌∷◌, ◌++◌}
use Prim.Native.Nat.{ℕ, ◌+◌, ◌<◌}
use native.Mathlib.Omega.{arith}
use lib.ListN.{length, get_or, drop}
use Rattle.definition.specs.Base.{Name, is, digit, ok, refused}
use Rattle.definition.specs.Text.{Text}
use Rattle.definition.specs.Words as W
use Rattle.definition.specs.Machine as M
use Rattle.definition.specs.Machine.{machine}
use Rattle.definition.specs.Node.{Node, Identifier, kind, size, count, view}
use Rattle.definition.specs.Perform.{Demangler}
use Rattle.definition.specs.Reading as D
use Rattle.definition.specs.Calls.{then_run}
use Rattle.definition.specs.Enums.{number}
use Rattle.definition.specs.declared.Refusal.{Refusal}
use Rattle.definition.proofs.WordsAdded.{Begins, Looked, begins_refl, identifier_begins}
use Rattle.text_cursor.specs.Reads.{rest, Refuses}
use Rattle.text_cursor.specs.declared.Reader.{Reader}
use Rattle.text_cursor.proofs.Steps.{front, differ, peek_read}
use Rattle.text_identifiers.specs.Identifiers as I
use Rattle.text_identifiers.specs.declared.Extent.{Extent}
use Rattle.text_identifiers.proofs.Identifying.{place}
use Rattle.text_identifiers.proofs.OneLiteral.{one_literal, one_refused}
use Rattle.text_words.specs.Table.{Words, part, table, Fitting, Lists}
use Rattle.tree_nodes.specs.Gives.{nothing_spare, full_spare, Kept}
use Rattle.tree_nodes.proofs.Taking.{less_spare}
use Rattle.tree_records.specs.Holds.{Named, spelled, Inside, Holds, for_record, for_push, for_keeping, Ready}
use Rattle.tree_records.specs.NamesOf.{Noted, noted, names_of}
use Rattle.tree_records.specs.Trees.{Stays}
use Rattle.tree_records.specs.declared.State.{State}
use Rattle.tree_records.specs.declared.Trees.{Trees}
use Rattle.run.proofs.Chains.{standing_ready}
use Rattle.run.proofs.Readers.{moved}
use Rattle.run.specs.Meaning.{Standing, Names, NotNamed, Plain, Fails}
use Rattle.tree_run.specs.Meant.{room, Reads, Wrote, meant}
use Rattle.tree_run.specs.Laws.{wrote_itself, lent_itself, laws_met}
use Rattle.tree_run.specs.declared.Reading.{Reading}
use Rattle.tree_run.proofs.MoreWords.{holds_more}

begins_digit : (N b : ℕ) (t : Text) → digit b ≡ true → (m : Demangler) → D.one N (b ∷ t) m ≡ then_run (W.identifier m.words (b ∷ t)) (λ x. D.name N x.name x.words) m
unfolding D.one
begins_digit N b t e m = rw (e, D.one)

one_name : (N : ℕ) (text : Text) (at : ℕ) → at < length text → digit (get_or text at 0) ≡ true → (m : Demangler) → D.one N (drop at text) m ≡ then_run (W.identifier m.words (drop at text)) (λ x. D.name N x.name x.words) m
one_name N text at h e m =
    ap (λ (t : Text). D.one N t m) (front text at h) ∙ (begins_digit N (get_or text at 0) (drop (at + 1) text) e m
    ∙ ap (λ (t : Text). then_run (W.identifier m.words t) (λ x. D.name N x.name x.words) m) (sym (front text at h)))

-- room for the name
pub ready_room : {w : List ℕ} {N : ℕ} {u : State} → Ready w N u (room 1) → Inside w N u 5 1 1
ready_room p = let h = p.holds in record { small = h.small; long = h.long; charged = h.charged; room = omega (arith, h.room); deep = omega (arith, h.deep); kept = omega (arith, h.kept) }

pub name_room : {text : Text} {s : Reading} → Standing meant 1 text s → Inside s.trees.now.ws.now s.trees.now.n s.trees.now.state 5 1 1
name_room p = ready_room (standing_ready meant laws_met p)

-- AN IDENTIFIER that was read becomes a node: what was read, what is known then, and that the name can
-- be spelled
module _ (N : ℕ) (text : Text) (at : ℕ) (l : at < length text) (e : digit (get_or text at 0) ≡ true) where
  came : {w w₁ : List ℕ} {u v : State} (to : ℕ) (m : Demangler) (ws vs : Noted) (name : Name) → at < 65536 → Holds (names_of text ws) w N u full_spare m →
      Begins ws.words vs.words → W.identifier ws.all (drop at text) ≡ ok (W.identified name vs.all) (drop to text) → Looked (drop at text) vs.all vs.words →
      Kept w w₁ N u v (0 ∷ 1 ∷ 0 ∷ at ∷ 0 ∷ 0 ∷ 0 ∷ 0 ∷ []) → (m₁ : Demangler) × (D.one N (drop at text) m ≡ ok (drop to text) m₁) × Holds (names_of text vs) w₁ N v nothing_spare m₁
  unfolding then_run D.name M.know M.remember M.push kind size count view
  came {w} {w₁} {u} {v} to m ws vs name low h b r z k =
      let x : Node = Identifier name in
      let known : m.words ≡ ws.all = sym h.words in
      let read : W.identifier m.words (drop at text) ≡ ok (W.identified name vs.all) (drop to text) = ap (λ (xs : List Name). W.identifier xs (drop at text)) known ∙ r in
      let m₂ : Demangler = machine m.budget m.stack m.substitutions vs.all in
      let more : Holds (names_of text vs) w N u full_spare m₂ = holds_more text ws vs b refl h in
      let named : Named (names_of text vs) at name = spelled ws.all (W.identified name vs.all) (drop to text) (omega arith) r z refl in (
        machine m₂.budget (x ∷ m₂.stack) (m₂.substitutions ++ (x ∷ [])) m₂.words,
        one_name N text at l e m ∙ rw read refl,
        k.holds (names_of text vs) nothing_spare m₂ x
            (less_spare full_spare (for_record (for_keeping (for_push (size x) nothing_spare))) (omega arith) (omega arith) (omega arith) (omega arith) more)
            (record { kind_is = refl; size_is = refl; count_is = refl; body = named }),
      )

  refused_at : {x : ℕ} (m : Demangler) → W.identifier m.words (drop at text) ≡ refused x → D.one N (drop at text) m ≡ refused x
  unfolding then_run
  refused_at m r = one_name N text at l e m ∙ rw r refl

module _ (s : Reading) (r : Reader) (h : r.at < length r.text.now) (e : digit (get_or r.text.now r.at 0) ≡ true) where
  abbrev N : ℕ
  N = s.trees.now.n

  module _ (low : r.at < 65536) (t : Trees) (y : Stays s.trees.now t) (k : Kept s.trees.now.ws.now t.ws.now N s.trees.now.state t.state (0 ∷ 1 ∷ 0 ∷ r.at ∷ 0 ∷ 0 ∷ 0 ∷ 0 ∷ [])) where
    wrote : Wrote s.trees.now t
    wrote = record { stays = y; beyond = record { past = k.keeps.past; long = k.keeps.long } }

    pub named : (r₁ : Reader) (after : Words) → I.Named (W.identifier (table r.text.now s.words) (rest r)) r r₁ after → Fitting r.text.now after → Names meant (D.one N (rest r)) 1 r r₁ s (record { trees = record s.trees { now = t }; words = after })
    named r₁ after a f = record {
      names = λ words m q p.
          let known : List Name = table r.text.now after in
          let w = place a.is in
          let begins : Begins (table r.text.now s.words) known = identifier_begins (table r.text.now s.words) (rest r) (drop r₁.at r.text.now) (W.identified a.name known) w.is in
          let read : W.identifier words (rest r) ≡ ok (W.identified a.name known) (drop r₁.at r.text.now) = ap (λ (ws : List Name). W.identifier ws (rest r)) (sym q.is) ∙ w.is in
          let o = came N r.text.now r.at h e r₁.at m (noted (table r.text.now s.words) words) (noted known known) a.name low p begins read (λ _. begins_refl known) k in
          record {
            words = known;
            knows = record { is = refl; fitting = f };
            after = record { machine = o.0; is = o.1 ∙ ap (λ (b : Bor (List ℕ)). ok (drop r₁.at b.now) o.0) (sym a.is.text); holds = rw y.ceiling o.2 };
          };
      knowing = λ w. record { words = table r.text.now after; knows = record { is = refl; fitting = f } };
      text = a.is.text;
      inside = a.is.inside;
      wrote = record { trees = refl; wrote = wrote };
    }

    -- ONE LITERAL, whose words are not noted
    module _ (z : is "0" (get_or r.text.now r.at 0) ≡ false) where
      read_to : (from to : ℕ) → I.Lies (W.literal false (rest r)) (λ n. n) r.text.now r.at from to → Plain meant (D.one N (rest r)) 1 r (record r { at = to }) s (record s { trees = record s.trees { now = t } }) from
      read_to from to a = record {
        plain = λ all m p.
            let slice : Name = part r.text.now from to in
            let words : List Name = table r.text.now s.words in
            let o = came N r.text.now r.at h e to m (noted words all) (noted words (W.note_words slice all)) slice low p (begins_refl words) (one_literal r.text.now r.at h z all a) (λ q. absurd (differ (sym q ∙ (peek_read r.text.now r.at (is "0") h ∙ z)))) k in
            record { machine = o.0; is = o.1; holds = rw y.ceiling o.2 };
        knows = λ words q. q;
        some = a.some;
        text = refl;
        inside = a.inside;
        wrote = record { trees = refl; wrote = wrote };
      }

      pub plain : (r₁ : Reader) (x : Extent) → I.Taken (W.literal false (rest r)) (λ n. n) r r₁ x → Plain meant (D.one N (rest r)) 1 r r₁ s (record s { trees = record s.trees { now = t } }) x.from
      plain r₁ x a =
          let here : record r { at = x.to } ≡ r₁ = moved r r₁ a.text a.here in
          subst (λ (q : Reader). Plain meant (D.one N (rest r)) 1 r q s (record s { trees = record s.trees { now = t } }) x.from) here (read_to x.from x.to a.lies)

  -- an identifier that is refused
  pub unread : (x : Refusal) → W.identifier (table r.text.now s.words) (rest r) ≡ refused (number x) → (words : List Name) (m : Demangler) → Lists r.text.now s.words words → Reads 1 r.text.now words s m → D.one N (rest r) m ≡ refused (number x)
  unread x a words m q p =
      let read : W.identifier m.words (rest r) ≡ refused (number x) = ap (λ (ws : List Name). W.identifier ws (rest r)) (sym p.words ∙ sym q.is) ∙ a in
      refused_at N r.text.now r.at h e m read

  pub not_named : (after : Words) {r₁ : Reader} {x : Refusal} → Refuses (W.identifier (table r.text.now s.words) (rest r)) x r r₁ → Fitting r.text.now after → NotNamed meant (D.one N (rest r)) 1 r r₁ s (record s { words = after }) x
  not_named after a f = record {
    refuses = unread _ a.is;
    text = a.text;
    knowing = λ k. record { words = table r.text.now after; knows = record { is = refl; fitting = f } };
    wrote = record { trees = refl; wrote = wrote_itself s.trees.now };
  }

  pub not_plain : is "0" (get_or r.text.now r.at 0) ≡ false → {r₁ : Reader} {x : Refusal} → Refuses (W.literal false (rest r)) x r r₁ → Fails meant (D.one N (rest r)) 1 r r₁ s s x
  not_plain z a = record {
    fails = λ all m p. refused_at N r.text.now r.at h e m (one_refused r.text.now r.at h z m.words a.is);
    text = a.text;
    knowing = λ k. k;
    wrote = lent_itself s;
  }
