-- What the reading's machine meets. Assumes nothing.
use mathlib.Core.Path.{◌≡◌, refl, subst, ◌∙◌}
use mathlib.Core.Bool.{false}
use mathlib.Core.List.{List, ◌∷◌}
use Prim.Native.Nat.{ℕ, ◌^◌, ◌≤◌}
use native.Mathlib.Omega.{arith}
use Rattle.definition.specs.Base.{Name, digit, ok, refused, ret, and_then, good, bad}
use Rattle.definition.specs.Text.{Text}
use Rattle.definition.specs.Machine as M
use Rattle.definition.specs.Operators as Op
use Rattle.definition.specs.Perform as R
use Rattle.definition.specs.Perform.{Demangler}
use Rattle.definition.specs.Calls.{then_run}
use Rattle.definition.specs.Reading as D
use Rattle.operator_substitutions.specs.Chain.{Chain, ended, more, outcome}
use Rattle.machine.proofs.runs.Turns.{regroup}
use Rattle.machine.specs.Beyond.{Beyond, beyond_itself, beyond_both}
use Rattle.tree_nodes.proofs.Taking.{less_spare}
use Rattle.tree_copies.specs.Copies.{recall_copies}
use Rattle.tree_copies.proofs.Copies.{not_recalled}
use Rattle.text_words.specs.Table.{table}
use Rattle.tree_records.specs.NamesOf as NamesOf
use Rattle.tree_records.specs.NamesOf.{names_of}
use Rattle.tree_records.specs.declared.Trees.{Trees}
use Rattle.run.specs.Meaning.{Laws}
use Rattle.tree_run.specs.Meant.{room, Reads, Wrote, Lent, meant}
use Rattle.tree_run.specs.declared.Reading.{Reading}

pub wrote_itself : (s : Trees) → Wrote s s
wrote_itself s = record { stays = record { slice = refl; ceiling = refl }; beyond = beyond_itself s.ws.now s.n }

wrote_both : (s t u : Trees) → Wrote s t → Wrote t u → Wrote s u
wrote_both s t u a b = record {
  stays = record { slice = b.stays.slice ∙ a.stays.slice; ceiling = b.stays.ceiling ∙ a.stays.ceiling };
  beyond = beyond_both a.beyond (subst (λ (N : ℕ). Beyond 64 N t.ws.now u.ws.now) a.stays.ceiling b.beyond);
}

pub lent_itself : (s : Reading) → Lent s s
lent_itself s = record { trees = refl; wrote = wrote_itself s.trees.now }

begins_other : (N b : ℕ) (t : Text) → digit b ≡ false → D.one N (b ∷ t) ≡ then_run (Op.operator b t) (λ op. R.perform N op)
unfolding D.one
begins_other N b t e = rw (e, D.one)

module _ (N : ℕ) where
  performs_more : (t i : ℕ) (ch : Chain) (m : Demangler) → then_run (outcome (more (Op.substitution t i) ch)) (λ op. R.perform N op) m ≡ and_then (recall_copies N t i m) (λ x. then_run (outcome ch) (λ op. R.perform N op))
  unfolding then_run R.perform R.substitutions
  performs_more t i ch m = regroup (M.recall i m) (λ e. R.copied N t e) (R.substitutions N ch.items ch.late) (ret ch.rest)

  performs_good : (u : Text) (m : Demangler) → then_run (outcome (ended (good tt) u)) (λ op. R.perform N op) m ≡ ok u m
  unfolding then_run R.perform R.substitutions
  performs_good u m = refl

  performs_bad : (r : ℕ) (u : Text) (m : Demangler) → then_run (outcome (ended (bad r) u)) (λ op. R.perform N op) m ≡ refused r
  unfolding then_run R.perform R.substitutions
  performs_bad r u m = refl

past_all : (text : Text) (noted : List Name) (s : Reading) (m : Demangler) → Reads 0 text noted s m → (times i : ℕ) → 2 ^ 32 ≤ i → recall_copies s.trees.now.n times i m ≡ refused 9
past_all text noted s m h times i l = not_recalled times i h (omega (arith, l, h.kept, h.charged, h.small))

pub laws_met : Laws meant
laws_met = record {
  less = λ text noted s m h. less_spare (room 1) (room 0) (omega arith) (omega arith) (omega arith) (omega arith) h;
  less_ready = λ s h. record { names = h.names; machine = h.machine; holds = less_spare (room 1) (room 0) (omega arith) (omega arith) (omega arith) (omega arith) h.holds };
  stored = λ charge text noted s m h. record { names = names_of text (NamesOf.noted (table text s.words) noted); machine = m; holds = h };
  begins = λ place l. l;
  itself = λ s. lent_itself s;
  both = λ s t u a b. record { trees = b.trees ∙ a.trees; wrote = wrote_both s.trees.now t.trees.now u.trees.now a.wrote b.wrote };
  ceiling = λ s t a. a.wrote.stays.ceiling;
  other = begins_other;
  more_items = λ N times i ch m. performs_more N times i ch m;
  no_item = λ N u m. performs_good N u m;
  broken_item = λ N r u m. performs_bad N r u m;
  past = λ text noted s m h times i l. past_all text noted s m h times i l;
}
