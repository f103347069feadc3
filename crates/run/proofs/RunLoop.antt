-- Turns one after another, with the literals whose words are not noted yet. Assumes nothing.
use Rattle.std.specs.Prelude.{Result, Ok, Err}
use Rattle.std.proofs.Common.{Bor}
use mathlib.Core.Path.{◌≡◌, refl, sym, ap, subst, ◌∙◌}
use mathlib.Core.List.{List, []}
use Prim.Native.Nat.{ℕ, suc, ◌+◌, ◌-◌, ◌≤◌, ◌<◌}
use native.Mathlib.Omega.{arith}
use lib.ListN.{length}
use Rattle.definition.specs.Base.{Name, Done}
use Rattle.definition.specs.Text.{Text}
use Rattle.definition.specs.Words as W
use Rattle.definition.specs.Machine.{fresh}
use Rattle.definition.specs.Calls.{stopped, turn, turns}
use Rattle.definition.specs.Enums.{number}
use Rattle.definition.specs.declared.Refusal.{Refusal}
use Rattle.machine.proofs.runs.Turns.{over, no_more, goes_on, stops}
use Rattle.text_cursor.specs.Reads.{rest}
use Rattle.text_cursor.specs.declared.Reader.{Reader}
use Rattle.text_words.specs.Waits.{Waiting, Waits, More}
use Rattle.text_words.proofs.Later.{noted_nothing}
use Rattle.run.specs.Meaning.{Meaning, Machines, Knowing, Standing, begun, Does, Notes, Plain, Fails, Laws}
use Rattle.run.specs.Turns.{Turning, turn_at, behind, Turned, NotTurned, Stepping, NameTurning, runs, Starts, Ran, Stops}
use Rattle.run.proofs.Chains.{knowing_on}
use Rattle.run.proofs.OneOperator.{begun_fails}

-- ONE TURN, and the literals that wait after it
module _ {S : Type 0} (k : Meaning S) (r : Reader) (s u : S) (q : Waiting) where
  pub step_not : {r₁ : Reader} {x : Refusal} → Fails k (turn_at k r s) 0 r r₁ s u x → NotTurned k r r₁ q s u x
  step_not g = record { refuses = λ words m p h. g.fails (behind k r.text.now q words) m h; text = g.text; knowing = g.knowing; wrote = g.wrote }

  -- an operator that is no name: the literals keep waiting
  pub step_on : (r₁ : Reader) → Waits r.text.now q → (o : Result Done Refusal) → Turning k (turn_at k r s) 0 r r₁ s u o → Stepping k r r₁ q q s u o
  step_on r₁ w (Ok x) g = record {
    turned = λ words m p h. record { words = words; knows = g.knows words p; after = g.reaches (behind k r.text.now q words) m h };
    knowing = knowing_on k g.knows;
    text = g.text;
    inside = g.inside;
    waits = w;
    wrote = g.wrote;
  }
  step_on r₁ w (Err x) g = step_not g

  -- a name that may use words
  pub step_named : (r₁ : Reader) (p : Waiting) (o : Result Done Refusal) → NameTurning k r r₁ q p s u o → Stepping k r r₁ q p s u o
  step_named r₁ p (Ok x) g = g.turned
  step_named r₁ p (Err x) g = g

  -- a name of one literal, which waits after the others
  pub step_plain : (r₁ : Reader) (p : Waiting) {from : ℕ} → Plain k (turn_at k r s) 0 r r₁ s u from → More r.text.now from r₁.at q p → Turned k r r₁ q p s u
  step_plain r₁ p g w = record {
    turned = λ words m e h.
        let a = g.plain (behind k r.text.now q words) m h in
        record {
          words = words;
          knows = g.knows words e;
          after = record { machine = a.machine; is = a.is; holds = subst (λ (ws : List Name). k.holds 0 r.text.now ws u a.machine) (sym (w.words words)) a.holds };
        };
    knowing = knowing_on k g.knows;
    text = g.text;
    inside = g.inside;
    waits = w.waits;
    wrote = g.wrote;
  }

module _ {S : Type 0} (k : Meaning S) (l : Laws k) (r : Reader) where
  module _ (r₁ : Reader) {s t : S} (b : Does k (begun k (k.ceiling s)) 0 1 s t) (u : S) (q : Waiting) where
    pub step_not_plain : {x : Refusal} → Fails k (k.one (k.ceiling t) (rest r)) 1 r r₁ t u x → NotTurned k r r₁ q s u x
    step_not_plain g = step_not k r s u q (begun_fails k l r b g)

-- what the words of the waiting literals add to
pub noted_standing : {S : Type 0} (k : Meaning S) {text : Text} {q : Waiting} {s t : S} → Notes k text q s t → Standing k 1 text s → Standing k 1 text t
noted_standing k {text} {q} n h = record { words = behind k text q h.words; noted = h.noted; machine = h.machine; knows = n.knows h.words h.knows; holds = n.holds 1 h.words h.noted h.machine h.knows h.holds }

-- THE LOOP: i turns are done, and the rest has the same result as the whole
pub record Running {S : Type 0} (k : Meaning S) (n : ℕ) (body : Text) (s t : S) (i : ℕ) (r : Reader) (q : Waiting) : Type 0 where
  pub words : List Name
  pub machine : Machines k
  pub is : runs k (k.ceiling s) n body ≡ turns (turn (k.ceiling t) (k.one (k.ceiling t))) (n - i) (rest r) machine
  pub knows : k.knows r.text.now t words
  pub holds : k.holds 0 r.text.now (behind k r.text.now q words) t machine
  pub text : r.text.now ≡ body
  pub inside : r.at ≤ length r.text.now
  pub waits : Waits r.text.now q
  pub wrote : k.wrote s t

module _ {S : Type 0} (k : Meaning S) (l : Laws k) where
  pub run_first : (n : ℕ) (b : Bor (List ℕ)) (s : S) (q : Waiting) → q.count ≡ 0 → Waits b.now q → Starts k b.now s → Running k n b.now s s 0 (record { text = b; at = 0 }) q
  run_first n b s q z w h = record {
    words = [];
    machine = fresh k.fresh;
    is = let e : n ≡ n - 0 = omega arith in ap (λ (j : ℕ). turns (turn (k.ceiling s) (k.one (k.ceiling s))) j b.now (fresh k.fresh)) e;
    knows = h.knows;
    holds = subst (λ (ws : List Name). k.holds 0 b.now ws s (fresh k.fresh)) (sym (noted_nothing W.note_words b.now q [] z)) h.holds;
    text = refl;
    inside = omega arith;
    waits = w;
    wrote = l.itself s;
  }

  module _ {n : ℕ} {body : Text} {s t : S} {i : ℕ} {r : Reader} {q : Waiting} (h : Running k n body s t i r q) where
    pub run_standing : Standing k 0 r.text.now t
    run_standing = record { words = h.words; noted = behind k r.text.now q h.words; machine = h.machine; knows = h.knows; holds = h.holds }

    pub run_knowing : Knowing k r.text.now t
    run_knowing = record { words = h.words; knows = h.knows }

    pub run_ready : k.ready 0 t
    run_ready = l.stored 0 r.text.now (behind k r.text.now q h.words) t h.machine h.holds

    pub run_over : length r.text.now ≤ r.at → Ran k n body s t
    run_over e = record {
      words = h.words;
      noted = behind k r.text.now q h.words;
      machine = h.machine;
      is = h.is ∙ over (turn (k.ceiling t) (k.one (k.ceiling t))) r.text.now (n - i) r.at h.machine e;
      knows = subst (λ (b : Text). k.knows b t h.words) h.text h.knows;
      holds = subst (λ (b : Text). k.holds 0 b (behind k r.text.now q h.words) t h.machine) h.text h.holds;
      wrote = h.wrote;
    }

    pub run_done : n ≤ i → Ran k n body s t
    run_done e = record {
      words = h.words;
      noted = behind k r.text.now q h.words;
      machine = h.machine;
      is = h.is ∙ no_more (turn (k.ceiling t) (k.one (k.ceiling t))) r.text.now (n - i) r.at h.machine (omega arith);
      knows = subst (λ (b : Text). k.knows b t h.words) h.text h.knows;
      holds = subst (λ (b : Text). k.holds 0 b (behind k r.text.now q h.words) t h.machine) h.text h.holds;
      wrote = h.wrote;
    }

    module _ (e : r.at < length r.text.now) (m : i < n) where
      one_less : n - i ≡ suc (n - (i + 1))
      one_less = omega arith

      pub run_more : {r₁ : Reader} {q₁ : Waiting} {u : S} → Turned k r r₁ q q₁ t u → Running k n body s u (i + 1) r₁ q₁
      run_more {r₁} {q₁} {u} g =
          let a = g.turned h.words h.machine h.knows h.holds in
          record {
            words = a.words;
            machine = a.after.machine;
            is = h.is ∙ (goes_on (turn (k.ceiling t) (k.one (k.ceiling t))) r.text.now r.at e h.machine (n - i) (n - (i + 1)) one_less (rest r₁) a.after.machine a.after.is
                ∙ ap (λ (N : ℕ). turns (turn N (k.one N)) (n - (i + 1)) (rest r₁) a.after.machine) (sym (l.ceiling t u g.wrote)));
            knows = subst (λ (b : Bor (List ℕ)). k.knows b.now u a.words) (sym g.text) a.knows;
            holds = subst (λ (b : Bor (List ℕ)). k.holds 0 b.now (behind k b.now q₁ a.words) u a.after.machine) (sym g.text) a.after.holds;
            text = ap (λ (b : Bor (List ℕ)). b.now) g.text ∙ h.text;
            inside = g.inside;
            waits = subst (λ (b : Bor (List ℕ)). Waits b.now q₁) (sym g.text) g.waits;
            wrote = l.both s t u h.wrote g.wrote;
          }

      pub run_stopped : {r₁ : Reader} {u : S} {x : Refusal} → NotTurned k r r₁ q t u x → Stops k n body s u (record { refusal = x; place = r.at })
      run_stopped {u = u} {x = x} g = record {
        is = h.is ∙ (stops (turn (k.ceiling t) (k.one (k.ceiling t))) r.text.now r.at e h.machine (n - i) (n - (i + 1)) one_less (number x) (g.refuses h.words h.machine h.knows h.holds)
            ∙ ap (λ (b : Text). stopped (number x) (length b - r.at)) h.text);
        inside = omega (arith, ap (λ (b : Text). length b) h.text);
        wrote = l.both s t u h.wrote g.wrote;
      }
