-- The beginning and the end of the reading's run. Assumes nothing.
use Rattle.std.specs.Prelude.{Result, Ok, Err}
use mathlib.Core.Path.{◌≡◌, refl, sym, ap, ◌∙◌}
use Prim.Native.Nat.{ℕ, ◌*◌, ◌≤◌}
use native.Mathlib.Omega.{arith}
use lib.ListN.{length}
use Rattle.definition.specs.Base.{Done}
use Rattle.definition.specs.Text.{Text}
use Rattle.definition.specs.Budget as B
use Rattle.definition.specs.declared.Refused.{Refused}
use Rattle.text_words.proofs.Keeping.{table_none, fitting_none}
use Rattle.tree_records.specs.Holds.{weight}
use Rattle.tree_records.specs.declared.State.{State}
use Rattle.run.specs.Turns as R
use Rattle.tree_records.specs.Trees.{Fresh}
use Rattle.tree_run.specs.Meant.{Wrote, Lent, meant}
use Rattle.tree_run.specs.Runs.{read, Ending}
use Rattle.tree_records.specs.declared.Trees.{Trees}
use Rattle.tree_run.specs.declared.Reading.{Reading}

module _ (s : Trees) (st : State) (f : Fresh st) (c : Reading) (e : c.trees.now ≡ record s { state = st }) (none : c.words.count ≡ 0) where
  pub starts : (body : Text) → 64 * s.n ≤ length s.ws.now → s.n ≤ 65536 → R.Starts meant body c
  unfolding B.fresh weight
  starts body l h =
      let t : st.budget.total ≡ 0 = ap (λ (x : B.Budget). x.total) f.budget in
      record {
        knows = record { is = table_none body c.words none; fitting = fitting_none body c.words none };
        holds = rw e (record {
          small = h;
          long = l;
          charged = omega (arith, t);
          budget = f.budget;
          room = omega (arith, t, f.top, f.depth);
          deep = omega (arith, t, f.depth);
          light = omega (arith, t);
          kept = omega (arith, t, f.seen);
          stack = f.depth;
          substitutions = omega (arith, f.seen);
          words = refl;
        });
      }

  -- the trees before it were those of s
  from_s : {t : Reading} → Lent c t → Wrote s t.trees.now
  from_s {t} h =
      let w : Wrote (record s { state = st }) t.trees.now = rw (← e) h.wrote in
      record { stays = record { slice = w.stays.slice; ceiling = w.stays.ceiling }; beyond = w.beyond }

  ends : (k : ℕ) (body : Text) (t : Reading) (r : Result Done Refused) → R.Ending meant k body c t r → Ending k body s t.trees.now t.words r
  ends k body t (Ok u) a = record {
    machine = a.machine;
    all = a.noted;
    is = ap (λ (x : Trees). read x.n k body) (sym e) ∙ a.is;
    holds = a.holds;
    fitting = a.knows.fitting;
    wrote = from_s a.wrote;
  }
  ends k body t (Err x) a = record { is = ap (λ (x : Trees). read x.n k body) (sym e) ∙ a.is; inside = a.inside; wrote = from_s a.wrote }

  -- the trees once they are no longer lent
  pub given_back : (k : ℕ) (body : Text) (t : Reading) (r : Result Done Refused) {u : Trees} → (c.trees.ghost_name ≡ t.trees.ghost_name → u ≡ t.trees.now) → R.Ending meant k body c t r → Ending k body s u t.words r
  given_back k body t (Ok x) q a = rw (q (sym a.wrote.trees)) (ends k body t (Ok x) a)
  given_back k body t (Err x) q a = rw (q (sym a.wrote.trees)) (ends k body t (Err x) a)
