-- What the steps of the trees say about the reading's machine. Assumes nothing.
use Rattle.std.specs.Prelude.{if◌then◌else◌, Result, Ok, Err}
use mathlib.Core.Path.{◌≡◌, refl, sym, ap, subst}
use mathlib.Core.Bool.{Bool, true, false}
use mathlib.Core.List.{List}
use Prim.Native.Nat.{ℕ, suc, ◌+◌, ◌*◌, ◌≤◌}
use Prim.Native.String.{String}
use native.Mathlib.Omega.{arith}
use lib.Dec.{ltb}
use Rattle.definition.specs.Base.{Name, Out, ok, refused, Done}
use Rattle.definition.specs.Text.{Text}
use Rattle.definition.specs.Budget as B
use Rattle.definition.specs.Machine as M
use Rattle.definition.specs.Machine.{machine}
use Rattle.definition.specs.Perform.{Demangler, Run}
use Rattle.definition.specs.Words as W
use Rattle.definition.specs.Enums.{number}
use Rattle.definition.specs.declared.Refusal.{Refusal}
use Rattle.operator_names.specs.Fixed.{fixed}
use Rattle.machine.proofs.budget.Charging.{charge_room, charged_to}
use Rattle.machine.specs.Spent.{budget_of}
use Rattle.machine.specs.Beyond.{beyond_itself}
use Rattle.machine.specs.declared.budget.Budget.{Budget}
use Rattle.text_words.specs.Table.{Words, Lists, table}
use Rattle.text_words.specs.Waits.{Waiting, noted_behind}
use Rattle.text_words.proofs.Later.{noted_begins}
use Rattle.definition.proofs.WordsAdded.{Begins}
use Rattle.tree_nodes.specs.Trees.{step_of}
use Rattle.tree_nodes.specs.Trees as T
use Rattle.tree_copies.specs.Copies.{Recalled, recall_copies}
use Rattle.tree_records.specs.Holds.{Names, Holds, Ready}
use Rattle.tree_records.specs.NamesOf.{noted, names_of}
use Rattle.tree_records.specs.Trees.{Stays}
use Rattle.tree_records.specs.declared.Trees.{Trees}
use Rattle.run.proofs.Chains as Chains
use Rattle.run.specs.Meaning.{begun, Does, Refuses, Steps, Notes, Holding}
use Rattle.tree_run.specs.Beginnings as Beginnings
use Rattle.tree_run.specs.Beginnings.{Missing, no_step, no_charge}
use Rattle.tree_run.specs.Meant.{room, meant}
use Rattle.tree_run.specs.Laws.{wrote_itself, lent_itself, laws_met}
use Rattle.tree_run.specs.declared.Reading.{Reading}
use Rattle.tree_run.proofs.MoreWords.{holds_more}

-- what a method of `Trees` requires
pub holding_ready : {charge : ℕ} {s : Reading} → Holding meant charge s → Ready s.trees.now.ws.now s.trees.now.n s.trees.now.state (record { makes = 15 * charge; pushes = charge; nodes = 4 * charge; keeps = charge })
holding_ready h = Chains.holding_ready meant laws_met h

-- the trees hold the machine, with names of any text
abbrev Stored : (charge : ℕ) → Names → Reading → Demangler → Type 0
Stored charge nm s m = Holds nm s.trees.now.ws.now s.trees.now.n s.trees.now.state (room charge) m

-- THE BEGINNING OF A TURN
step_total : (b c : B.Budget) → B.step b ≡ ok tt c → c.total ≡ b.total
unfolding B.step
step_total b c = go (ltb b.steps 4096)
  where
    go : (t : Bool) → ◌≡◌ {A = Out B.Budget Done} (if t then ok tt (B.budget (suc b.steps) b.total b.wraps) else refused 6) (ok tt c) → c.total ≡ b.total
    go true e = let q : B.budget (suc b.steps) b.total b.wraps ≡ c = cc in sym (ap (λ (x : B.Budget). x.total) q)
    go false e = let z : ◌≡◌ {A = ℕ} 0 1 = cc in absurd (omega arith)

-- the trees with another budget
abbrev pub with_budget : Budget → Reading → Reading
with_budget b s = record s { trees = record s.trees { now = record s.trees.now { state = record s.trees.now.state { budget = b } } } }

module _ (s : Reading) (b : Budget) (q : B.step (budget_of s.trees.now.state.budget) ≡ ok tt (budget_of b)) where
  pub begin_charged : (d : Budget) → B.charge s.trees.now.n 1 (budget_of b) ≡ ok tt (budget_of d) → Steps meant (begun meant s.trees.now.n) 0 1 s (with_budget d s) (Ok tt)
  unfolding M.spend
  begin_charged d e =
      let a : b.total ≡ s.trees.now.state.budget.total = step_total (budget_of s.trees.now.state.budget) (budget_of b) q in
      let t : d.total ≡ b.total + 1 = sym (ap (λ (c : B.Budget). c.total) (charged_to s.trees.now.n 1 (budget_of b) (budget_of d) e)) in
      let r : b.total + 1 ≤ s.trees.now.n = charge_room s.trees.now.n 1 (budget_of b) (budget_of d) e in
      let charged : (nm : Names) (m : Demangler) → Stored 0 nm s m → Stored 1 nm (with_budget d s) (machine (budget_of d) m.stack m.substitutions m.words) = λ nm m h. record {
        small = h.small;
        long = h.long;
        charged = omega (arith, t, r);
        budget = refl;
        room = omega (arith, h.room, a, t);
        deep = omega (arith, h.deep, a, t);
        light = omega (arith, h.light, a, t);
        kept = omega (arith, h.kept, a, t);
        stack = h.stack;
        substitutions = h.substitutions;
        words = h.words;
      } in
      record {
        does = λ text all m h. record {
          machine = machine (budget_of d) m.stack m.substitutions m.words;
          is = rw (← h.budget, q, e) refl;
          holds = charged _ m h;
        };
        ready = λ h. record { names = h.names; machine = _; holds = charged h.names h.machine h.holds };
        knows = λ text words k. k;
        wrote = record { trees = refl; wrote = record { stays = record { slice = refl; ceiling = refl }; beyond = beyond_itself s.trees.now.ws.now s.trees.now.n } };
      }

  pub begin_uncharged : (r : Refusal) → B.charge s.trees.now.n 1 (budget_of b) ≡ refused (number r) → Steps meant (begun meant s.trees.now.n) 0 1 s s (Err r)
  unfolding M.spend
  begin_uncharged r e = record { refuses = λ text all m h. rw (← h.budget, q, e) refl; knowing = λ text k. k; wrote = lent_itself s }

pub begin_stopped : (s : Reading) (r : Refusal) → B.step (budget_of s.trees.now.state.budget) ≡ refused (number r) → Steps meant (begun meant s.trees.now.n) 0 1 s s (Err r)
unfolding M.spend
begin_stopped s r q = record { refuses = λ text all m h. rw (← h.budget, q) refl; knowing = λ text k. k; wrote = lent_itself s }

pub begins : (s : Reading) (t : Trees) (r : Result Done Refusal) → Beginnings.Begins s.trees.now t r → Steps meant (begun meant s.trees.now.n) 0 1 s (record s { trees = record s.trees { now = t } }) r
begins s t (Ok u) a =
    subst (λ (x : Trees). Does meant (begun meant s.trees.now.n) 0 1 s (record s { trees = record s.trees { now = x } })) (sym a.rest) (begin_charged s a.stepped a.step t.state.budget a.charge)
begins s t (Err x) a =
    subst (λ (y : Trees). Refuses meant (begun meant s.trees.now.n) 0 s (record s { trees = record s.trees { now = y } }) x) (sym a.rest) (missing a.missing)
  where
    missing : Missing s.trees.now x → Refuses meant (begun meant s.trees.now.n) 0 s s x
    missing (no_step q) = begin_stopped s x q
    missing (no_charge b q e) = begin_uncharged s b q x e

-- WAITING LITERALS: more words are known
pub notes : (text : Text) (q : Waiting) (s : Reading) (after : Words) → ((words : List Name) → Lists text s.words words → Lists text after (noted_behind W.note_words text q words)) → Notes meant text q s (record s { words = after })
notes text q s after h = record {
  knows = h;
  holds = λ charge words all m k p.
      let e = h words k in
      let b : Begins (table text s.words) (table text after) = rw (k.is, e.is) (noted_begins text q words) in
      holds_more text (noted (table text s.words) all) (noted (table text after) all) b p.words p;
  ready = λ charge p. p;
  wrote = record { trees = refl; wrote = wrote_itself s.trees.now };
}

-- AN OPERATOR, and copies of what is remembered
module _ (s : Reading) (t : Trees) (y : Stays s.trees.now t) where
  abbrev after : Reading
  after = record s { trees = record s.trees { now = t } }

  pub operates : (f : (ℕ → String) → Run Done) (r : Result Done Refusal) → T.Operates f s.trees.now t r → Steps meant (f fixed) 1 0 s after r
  operates f (Ok u) g = record {
    does = λ text all m h.
        let nm = names_of text (noted (table text s.words) all) in
        let o = g.runs nm m nm.known h in
        record { machine = o.machine; is = o.is; holds = rw y.ceiling o.holds };
    ready = λ h. let o = g.runs h.names h.machine h.names.known h.holds in record { names = h.names; machine = o.machine; holds = rw y.ceiling o.holds };
    knows = λ text words k. k;
    wrote = record { trees = refl; wrote = record { stays = y; beyond = record { past = g.past; long = g.long } } };
  }
  operates f (Err x) g = record {
    refuses = λ text all m h. let nm = names_of text (noted (table text s.words) all) in g.runs nm m nm.known h;
    knowing = λ text k. record { words = k.words; knows = k.knows };
    wrote = record { trees = refl; wrote = record { stays = y; beyond = record { past = g.past; long = g.long } } };
  }

  pub recalls : (times index : ℕ) (r : Result Done Refusal) → Recalled s.trees.now.ws.now t.ws.now s.trees.now.n s.trees.now.state times index (step_of r t.state) → Steps meant (recall_copies s.trees.now.n times index) 0 0 s after r
  recalls times index (Ok u) g = record {
    does = λ text all m h.
        let o = g.runs (names_of text (noted (table text s.words) all)) (record { makes = 0; pushes = 0; nodes = 0; keeps = 0 }) m h in
        record { machine = o.machine; is = o.is; holds = rw y.ceiling o.holds };
    ready = λ h. let o = g.runs h.names (record { makes = 0; pushes = 0; nodes = 0; keeps = 0 }) h.machine h.holds in record { names = h.names; machine = o.machine; holds = rw y.ceiling o.holds };
    knows = λ text words k. k;
    wrote = record { trees = refl; wrote = record { stays = y; beyond = g.beyond } };
  }
  recalls times index (Err x) g = record {
    refuses = λ text all m h. g.runs (names_of text (noted (table text s.words) all)) (record { makes = 0; pushes = 0; nodes = 0; keeps = 0 }) m h;
    knowing = λ text k. record { words = k.words; knows = k.knows };
    wrote = record { trees = refl; wrote = record { stays = y; beyond = g.beyond } };
  }
