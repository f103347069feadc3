-- The items after `A`, performed one by one. Assumes nothing.
use Rattle.std.specs.Prelude.{length, Ok}
use Rattle.std.proofs.Common.{Bor}
use mathlib.Core.Path.{◌≡◌, refl, sym, ap, subst, ◌∙◌}
use mathlib.Core.Bool.{Bool, true, false}
use mathlib.Core.List.{List}
use mathlib.Core.Logic.{inl, inr}
use Prim.Native.Nat.{ℕ, ◌-◌, ◌<◌}
use native.Mathlib.Omega.{arith}
use Rattle.definition.specs.Base.{Name, Out, Done, and_then, good}
use Rattle.definition.specs.Text.{Text}
use Rattle.definition.specs.Calls.{then_run}
use Rattle.definition.specs.Enums.{number}
use Rattle.definition.specs.declared.Refusal.{Refusal}
use Rattle.text_cursor.specs.Reads.{rest}
use Rattle.text_cursor.specs.declared.Reader.{Reader}
use Rattle.operator_substitutions.specs.Chain.{Chain, ended, chain, outcome, Same, Begins, Ends, Breaks, Item}
use Rattle.run.specs.Meaning.{Meaning, Machines, Knowing, Holding, Standing, AtName, ReadyAtName, recalled, Does, Refuses, Fails, Laws}
use Rattle.run.specs.Turns.{Reaches, chained, Goes, Letters}

-- what some machine stands for
pub standing_holding : {S : Type 0} (k : Meaning S) {j : ℕ} {text : Text} {s : S} → Standing k j text s → Holding k j s
standing_holding k {text = text} h = record { text = text; noted = h.noted; machine = h.machine; holds = h.holds }

pub standing_knowing : {S : Type 0} (k : Meaning S) {j : ℕ} {text : Text} {s : S} → Standing k j text s → Knowing k text s
standing_knowing k h = record { words = h.words; knows = h.knows }

-- the same text, as a reader has it later
pub standing_text : {S : Type 0} (k : Meaning S) {j : ℕ} {b c : Bor (List ℕ)} {s : S} → b ≡ c → Standing k j b.now s → Standing k j c.now s
standing_text k {j} {s = s} e h = subst (λ (x : Bor (List ℕ)). Standing k j x.now s) e h

pub knowing_text : {S : Type 0} (k : Meaning S) {b c : Bor (List ℕ)} {s : S} → b ≡ c → Knowing k b.now s → Knowing k c.now s
knowing_text k {s = s} e h = subst (λ (x : Bor (List ℕ)). Knowing k x.now s) e h

-- words that were known are known
pub knowing_on : {S : Type 0} (k : Meaning S) {text text₁ : Text} {s t : S} → ((words : List Name) → k.knows text s words → k.knows text₁ t words) → Knowing k text s → Knowing k text₁ t
knowing_on k f h = record { words = h.words; knows = f h.words h.knows }

module _ {S : Type 0} (k : Meaning S) (l : Laws k) where
  pub standing_less : {text : Text} {s : S} → Standing k 1 text s → Standing k 0 text s
  standing_less {text} {s} h = record { words = h.words; noted = h.noted; machine = h.machine; knows = h.knows; holds = l.less text h.noted s h.machine h.holds }

  -- a machine that is held is stored
  pub holding_ready : {j : ℕ} {s : S} → Holding k j s → k.ready j s
  holding_ready {j} {s} h = l.stored j h.text h.noted s h.machine h.holds

  pub standing_ready : {j : ℕ} {text : Text} {s : S} → Standing k j text s → k.ready j s
  standing_ready h = holding_ready (standing_holding k h)

  pub name_ready : {r : Reader} {s : S} → AtName k r s → ReadyAtName k 1 r s
  name_ready h = record { ready = standing_ready h.standing; inside = h.inside; begins = h.begins; formed = h.formed }

  -- ONE ITEM
  module _ (s : S) (r : Reader) where
    abbrev N : ℕ
    N = k.ceiling s

    begins_is : {t i : ℕ} {r₁ : Reader} {o : Out (Machines k) Done} (m : Machines k) → Begins (chain (rest r)) t i r r₁ → recalled k N t i m ≡ o → chained k N (rest r) m ≡ and_then o (λ x. chained k N (rest r₁))
    begins_is {t} {i} {r₁} m b q =
        ap (λ (ch : Chain). then_run (outcome ch) (k.performs N) m) b.is ∙ (l.more_items N t i (chain (rest r₁)) m
        ∙ ap (λ (x : Out (Machines k) Done). and_then x (λ y. chained k N (rest r₁))) q)

    -- an index past everything that is remembered is refused like any other such index
    same_index : {i j : ℕ} {noted : List Name} (t : ℕ) (m : Machines k) → k.holds 0 r.text.now noted s m → Same i j → recalled k N t j m ≡ recalled k N t i m
    same_index t m h (inl q) = ap (λ (n : ℕ). recalled k N t n m) (sym q)
    same_index {i} {j} {noted} t m h (inr p) = l.past r.text.now noted s m h t j p.1 ∙ sym (l.past r.text.now noted s m h t i p.0)

    ends_is : {t i : ℕ} {r₁ : Reader} {o : Out (Machines k) Done} {noted : List Name} (m : Machines k) → k.holds 0 r.text.now noted s m → Ends (chain (rest r)) t i r r₁ → recalled k N t i m ≡ o → chained k N (rest r) m ≡ and_then o (λ x. then_run (outcome (ended (good tt) (rest r₁))) (k.performs N))
    ends_is {t} {i} {r₁} m h b q =
        ap (λ (ch : Chain). then_run (outcome ch) (k.performs N) m) b.is ∙ (l.more_items N t b.index (ended (good tt) (rest r₁)) m
        ∙ ap (λ (x : Out (Machines k) Done). and_then x (λ y. then_run (outcome (ended (good tt) (rest r₁))) (k.performs N))) (same_index t m h b.same ∙ q))

    module _ (r₁ : Reader) (t i : ℕ) (b : Bool) (g : Item (chain (rest r)) r r₁ t i b) where
      pub item_done : {u : S} → Does k (recalled k N t i) 0 0 s u → Letters k r r₁ s u (Ok b)
      item_done {u} d = go b g
        where
          go : (b : Bool) → Item (chain (rest r)) r r₁ t i b → Letters k r r₁ s u (Ok b)
          go false a = record {
            goes = λ noted m h. let o = d.does r.text.now noted m h in record { machine = o.machine; is = begins_is m a o.is; holds = o.holds };
            ready = d.ready;
            knows = d.knows r.text.now;
            text = a.text;
            inside = a.inside;
            onward = a.onward;
            wrote = d.wrote;
          }
          go true a = record {
            reaches = λ noted m h. let o = d.does r.text.now noted m h in record { machine = o.machine; is = ends_is m h a o.is ∙ l.no_item N (rest r₁) o.machine; holds = o.holds };
            knows = d.knows r.text.now;
            text = a.text;
            inside = a.inside;
            wrote = d.wrote;
          }

      pub item_fails : {u : S} {x : Refusal} → Refuses k (recalled k N t i) 0 s u x → Fails k (chained k N (rest r)) 0 r r₁ s u x
      item_fails {u} {x} d = go b g
        where
          go : (b : Bool) → Item (chain (rest r)) r r₁ t i b → Fails k (chained k N (rest r)) 0 r r₁ s u x
          go false a = record { fails = λ noted m h. begins_is m a (d.refuses r.text.now noted m h); text = a.text; knowing = d.knowing r.text.now; wrote = d.wrote }
          go true a = record { fails = λ noted m h. ends_is m h a (d.refuses r.text.now noted m h); text = a.text; knowing = d.knowing r.text.now; wrote = d.wrote }

    pub item_broken : {r₁ : Reader} {x : Refusal} → Breaks (chain (rest r)) (number x) → r₁.text ≡ r.text → Fails k (chained k N (rest r)) 0 r r₁ s s x
    item_broken {x = x} b q = record { fails = λ noted m h. ap (λ (ch : Chain). then_run (outcome ch) (k.performs N) m) b.is ∙ l.broken_item N (number x) b.rest m; text = q; knowing = λ h. h; wrote = l.itself s }

-- ALL ITEMS: the remaining work from here has the same result as the whole
pub record Chaining {S : Type 0} (k : Meaning S) (r₀ r : Reader) (s t : S) : Type 0 where
  pub goes : (noted : List Name) (m : Machines k) → k.holds 0 r₀.text.now noted s m → (m₁ : Machines k) × (chained k (k.ceiling s) (rest r₀) m ≡ chained k (k.ceiling t) (rest r) m₁) × k.holds 0 r.text.now noted t m₁
  pub knows : (words : List Name) → k.knows r₀.text.now s words → k.knows r.text.now t words
  pub ready : k.ready 0 t
  pub text : r.text ≡ r₀.text
  pub wrote : k.wrote s t

module _ {S : Type 0} (k : Meaning S) (l : Laws k) where
  pub chain_first : {r : Reader} {s : S} → k.ready 0 s → Chaining k r r s s
  chain_first {s = s} h = record { goes = λ noted m q. (m, refl, q); knows = λ words q. q; ready = h; text = refl; wrote = l.itself s }

  holds_text : {b c : Bor (List ℕ)} (noted : List Name) (v : S) (m : Machines k) → b ≡ c → k.holds 0 b.now noted v m → k.holds 0 c.now noted v m
  holds_text noted v m e q = subst (λ (x : Bor (List ℕ)). k.holds 0 x.now noted v m) e q

  knows_text : {b c : Bor (List ℕ)} (words : List Name) (v : S) → b ≡ c → k.knows b.now v words → k.knows c.now v words
  knows_text words v e q = subst (λ (x : Bor (List ℕ)). k.knows x.now v words) e q

  pub chain_standing : {r₀ r : Reader} {s t : S} → Chaining k r₀ r s t → Standing k 0 r₀.text.now s → Standing k 0 r.text.now t
  chain_standing h z = let a = h.goes z.noted z.machine z.holds in record { words = z.words; noted = z.noted; machine = a.0; knows = h.knows z.words z.knows; holds = a.2 }

  module _ {r₀ r r₁ : Reader} {s t u : S} (h : Chaining k r₀ r s t) where
    pub chain_more : Goes k r r₁ t u → Chaining k r₀ r₁ s u
    chain_more g = record {
      goes = λ noted m q.
          let a = h.goes noted m q in
          let b = g.goes noted a.0 a.2 in (
            b.machine,
            a.1 ∙ (b.is ∙ ap (λ (N : ℕ). chained k N (rest r₁) b.machine) (sym (l.ceiling t u g.wrote))),
            holds_text noted u b.machine (sym g.text) b.holds,
          );
      knows = λ words q. knows_text words u (sym g.text) (g.knows words (h.knows words q));
      ready = g.ready h.ready;
      text = g.text ∙ h.text;
      wrote = l.both s t u h.wrote g.wrote;
    }

    pub chain_last : Reaches k (chained k (k.ceiling t) (rest r)) 0 r r₁ t u → Reaches k (chained k (k.ceiling s) (rest r₀)) 0 r₀ r₁ s u
    chain_last g = record {
      reaches = λ noted m q.
          let a = h.goes noted m q in
          let b = g.reaches noted a.0 a.2 in
          record { machine = b.machine; is = a.1 ∙ b.is; holds = holds_text noted u b.machine h.text b.holds };
      knows = λ words q. knows_text words u h.text (g.knows words (h.knows words q));
      text = g.text ∙ h.text;
      inside = g.inside;
      wrote = l.both s t u h.wrote g.wrote;
    }

  pub chain_refused : {r₀ r r₁ : Reader} {s t u : S} {x : Refusal} → Chaining k r₀ r s t → Fails k (chained k (k.ceiling t) (rest r)) 0 r r₁ t u x → Fails k (chained k (k.ceiling s) (rest r₀)) 0 r₀ r₁ s u x
  chain_refused {s = s} {t = t} {u = u} h g = record {
    fails = λ noted m q. let a = h.goes noted m q in a.1 ∙ g.fails noted a.0 a.2;
    text = g.text ∙ h.text;
    knowing = λ q. knowing_text k h.text (g.knowing (knowing_on k h.knows q));
    wrote = l.both s t u h.wrote g.wrote;
  }

-- the next item is behind the last
pub goes_onward : {S : Type 0} (k : Meaning S) (r₀ : Reader) {r r₁ : Reader} {s t : S} → r.text ≡ r₀.text → Goes k r r₁ s t → length r₀.text.now - r₁.at < length r₀.text.now - r.at
goes_onward k r₀ {r} {r₁} q g =
    let e : length r₁.text.now ≡ length r₀.text.now = ap (λ (b : Bor (List ℕ)). length b.now) (g.text ∙ q) in
    omega (arith, g.inside, g.onward, e)
