-- The beginning and the end of the check's run. Assumes nothing.
use Rattle.std.specs.Prelude.{Result, Ok, Err}
use mathlib.Core.Path.{◌≡◌, refl, sym, ap, subst, ◌∙◌}
use Prim.Native.Nat.{ℕ, ◌*◌, ◌≤◌}
use native.Mathlib.Omega.{arith}
use native.Mathlib.Nat.{le_of_eq}
use lib.ListN.{length}
use Rattle.definition.specs.Base.{Done}
use Rattle.definition.specs.Text.{Text}
use Rattle.definition.specs.Budget as B
use Rattle.definition.specs.Machine as M
use Rattle.definition.specs.Calls.{ran}
use Rattle.definition.specs.declared.Refused.{Refused}
use Rattle.definition.proofs.Room.{weigh, Fits}
use Rattle.check_entries.specs.Lies.{machine_of, stack_of, seen_of, Fresh}
use Rattle.check_entries.specs.declared.Entries.{Entries}
use Rattle.check_entries.specs.declared.State.{State}
use Rattle.run.specs.Turns as R
use Rattle.check_run.specs.Meant.{with_words, meant}
use Rattle.check_run.specs.Runs.{check, Ending}
use Rattle.check_entries.specs.Stores.{Wrote}
use Rattle.check_perform.specs.Performs.{Sound}
use Rattle.check_run.specs.declared.Check.{Check}

fresh_fits : Fits 0 (M.fresh 0)
unfolding B.fresh weigh
fresh_fits = record { depth = le_of_eq refl; weight = le_of_eq refl; kept = le_of_eq refl; sized = tt; remembered = tt }

module _ (s : Entries) (st : State) (f : Fresh st) where
  abbrev first : Entries
  first = record s { state = st }

  first_machine : M.fresh 0 ≡ machine_of (with_words 0 first)
  unfolding stack_of seen_of
  first_machine = rw (f.budget, f.depth, f.seen) refl

  own_words : machine_of (with_words 0 first) ≡ machine_of first
  own_words = rw f.words refl

  module _ (c : Check) (e : c.entries.now ≡ first) where
    pub starts : (body : Text) → 8 * s.ceiling ≤ length s.ws.now → s.ceiling ≤ 65536 → R.Starts meant body c
    unfolding B.fresh
    starts body l h = record {
      knows = ap (λ (x : Entries). x.state.words) e ∙ f.words;
      holds = record {
        is = first_machine ∙ ap (λ (x : Entries). machine_of (with_words 0 x)) (sym e);
        sound = subst (λ (x : Entries). Sound 0 x) (sym e) (record { long = l; ceiling = h; total = omega (arith, ap (λ (x : B.Budget). x.total) f.budget); fits = subst (Fits 0) (first_machine ∙ own_words) fresh_fits });
      };
    }

    -- the entries before it were those of s
    ends : (k : ℕ) (body : Text) (t : Check) (r : Result Done Refused) → R.Ending meant k body c t r → Ending k body s t.entries.now r
    ends k body t (Ok u) a =
        let w : Wrote first t.entries.now = subst (λ (x : Entries). Wrote x t.entries.now) e a.wrote.entries in
        record {
          words = length a.noted;
          is = ap (λ (x : Entries). check x.ceiling k body) (sym e) ∙ a.is ∙ ap ran a.holds.is;
          sound = a.holds.sound;
          wrote = record { outside = w.outside; lent = record { name = w.lent.name; ceiling = w.lent.ceiling } };
        }
    ends k body t (Err x) a =
        let w : Wrote first t.entries.now = subst (λ (x : Entries). Wrote x t.entries.now) e a.wrote.entries in
        record {
          is = ap (λ (x : Entries). check x.ceiling k body) (sym e) ∙ a.is;
          inside = a.inside;
          wrote = record { outside = w.outside; lent = record { name = w.lent.name; ceiling = w.lent.ceiling } };
        }

    -- the entries once they are no longer lent
    pub given_back : (k : ℕ) (body : Text) (t : Check) (r : Result Done Refused) {u : Entries} → (c.entries.ghost_name ≡ t.entries.ghost_name → u ≡ t.entries.now) → R.Ending meant k body c t r → Ending k body s u r
    given_back k body t (Ok x) q a = rw (q (sym a.wrote.lent)) (ends k body t (Ok x) a)
    given_back k body t (Err x) q a = rw (q (sym a.wrote.lent)) (ends k body t (Err x) a)
