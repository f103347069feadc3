-- What the check's machine meets. Assumes nothing.
use mathlib.Core.Path.{◌≡◌, refl, ap, ◌∙◌}
use mathlib.Core.Bool.{false}
use mathlib.Core.List.{List, ◌∷◌}
use Prim.Native.Nat.{ℕ, ◌^◌, ◌≤◌}
use native.Mathlib.Omega.{arith}
use lib.ListN.{length}
use Rattle.definition.specs.Base.{Name, digit, ok, refused, ret, and_then, good, bad}
use Rattle.definition.specs.Text.{Text}
use Rattle.definition.specs.Machine as M
use Rattle.definition.specs.Operators as Op
use Rattle.definition.specs.Shape as C
use Rattle.definition.specs.Shape.{Shapes}
use Rattle.definition.specs.Calls.{then_run}
use Rattle.definition.specs.Check as Ch
use Rattle.definition.specs.Enums.{number}
use Rattle.operator_substitutions.specs.Chain.{Chain, ended, more, outcome}
use Rattle.machine.proofs.runs.Turns.{regroup}
use Rattle.check_entries.proofs.Written.{wrote_itself, wrote_both}
use Rattle.check_entries.specs.declared.Entries.{Entries}
use Rattle.check_perform.specs.Performs.{Sound, recall_copies}
use Rattle.check_perform.proofs.Leaves.{sound_seen}
use Rattle.check_perform.proofs.Recalls.{not_recalled}
use Rattle.run.specs.Meaning.{Laws}
use Rattle.check_run.specs.Meant.{with_words, Counts, meant}

-- a charge that is not used
sound_less : {s : Entries} → Sound 1 s → Sound 0 s
sound_less h = record {
  long = h.long;
  ceiling = h.ceiling;
  total = h.total;
  fits = record { depth = omega (arith, h.fits.depth); weight = omega (arith, h.fits.weight); kept = omega (arith, h.fits.kept); sized = h.fits.sized; remembered = h.fits.remembered };
}

begins_other : (N b : ℕ) (t : Text) → digit b ≡ false → Ch.one N (b ∷ t) ≡ then_run (Op.operator b t) (λ op. C.run_row N (C.row op))
unfolding Ch.one
begins_other N b t e = rw (e, Ch.one)

module _ (N : ℕ) where
  performs_more : (t i : ℕ) (ch : Chain) (m : Shapes) → then_run (outcome (more (Op.substitution t i) ch)) (λ op. C.run_row N (C.row op)) m ≡ and_then (recall_copies N t i m) (λ x. then_run (outcome ch) (λ op. C.run_row N (C.row op)))
  unfolding then_run C.row C.run_row C.recalled
  performs_more t i ch m = regroup (M.recall i m) (λ e. C.copied N t e) (C.recalled N ch.items ch.late) (ret ch.rest)

  performs_good : (u : Text) (m : Shapes) → then_run (outcome (ended (good tt) u)) (λ op. C.run_row N (C.row op)) m ≡ ok u m
  unfolding then_run C.row C.run_row C.recalled
  performs_good u m = refl

  performs_bad : (r : ℕ) (u : Text) (m : Shapes) → then_run (outcome (ended (bad r) u)) (λ op. C.run_row N (C.row op)) m ≡ refused r
  unfolding then_run C.row C.run_row C.recalled
  performs_bad r u m = refl

past_all : (noted : List Name) (s : Entries) (m : Shapes) → Counts 0 noted s m → (times i : ℕ) → 2 ^ 32 ≤ i → recall_copies s.ceiling times i m ≡ refused 9
unfolding number
past_all noted s m h times i l =
    ap (recall_copies s.ceiling times i) h.is
    ∙ (not_recalled (with_words (length noted) s) times i (omega (arith, l, sound_seen h.sound, h.sound.total, h.sound.ceiling))).is

pub laws_met : Laws meant
laws_met = record {
  less = λ text noted c m h. record { is = h.is; sound = sound_less h.sound };
  less_ready = λ c h. sound_less h;
  stored = λ charge text noted c m h. h.sound;
  begins = λ place l. tt;
  itself = λ c. record { lent = refl; entries = wrote_itself };
  both = λ c d e a b. record { lent = b.lent ∙ a.lent; entries = wrote_both a.entries b.entries };
  ceiling = λ c d a. a.entries.lent.ceiling;
  other = begins_other;
  more_items = λ N times i ch m. performs_more N times i ch m;
  no_item = λ N u m. performs_good N u m;
  broken_item = λ N r u m. performs_bad N r u m;
  past = λ text noted c m h times i l. past_all noted c.entries.now m h times i l;
}
