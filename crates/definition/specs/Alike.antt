-- Demand 3, "Judging alike": what is claimed (`Demand3`, at the end). proofs/JudgingAlike.antt has
-- the theorem.
use Rattle.std.specs.Prelude.{◌≡◌, Bool, not, ◌||◌, List, ℕ, ◌*◌, ◌≤◌, ◌<◌, T, eqb, leb, length}
use Rattle.definition.specs.Text.{Text}
use Rattle.definition.specs.Calls.{Answer, refusal, good_ceiling, reading_needs, check_needs}
use Rattle.definition.specs.Reading.{read, read_type, demangle, demangle_type, demangle_stopped, demangle_type_stopped}
use Rattle.definition.specs.Check.{shape, shape_type, shape_stopped, shape_type_stopped}

-- enough workspace; if 1 refuses N, any is enough
abbrev pub enough : (need N workspace : ℕ) → Bool
enough need N workspace = not (good_ceiling N) || leb (need * N) workspace

-- the answer c, with this text written
abbrev pub with_text : List ℕ → Answer → Answer
with_text text c = record {
  values = record { number = c.values.number; place = c.values.place; steps = c.values.steps; total = c.values.total; wraps = c.values.wraps; length = length text };
  written = text;
}

-- The answers of a whole reading and a whole check of one text, which the definition reads as
-- `text`. If the check refuses, both answers are the same. If it accepts, the reading answers with
-- the text and the check's number, place and counts, or with 12, exactly where the text is longer
-- than the output
pub record WholeAlike (out : ℕ) (text : List ℕ) (reading check : Answer) : Type 0 where
  pub refused : T (not (eqb check.values.number 0)) → reading ≡ check
  pub accepted : T (eqb check.values.number 0) → length text ≤ out → reading ≡ with_text text check
  pub too_long : T (eqb check.values.number 0) → out < length text → reading ≡ refusal 12 0

-- All calls on one text, with one ceiling and one k, whatever their workspaces and output slices
-- hold
pub record JudgedAlike (t : Text) (N k reading_workspace check_workspace out : ℕ) : Type 0 where
  pub symbol : WholeAlike out (read t N reading_workspace).written (demangle t N reading_workspace out) (shape t N check_workspace)
  pub type : WholeAlike out (read_type t N reading_workspace).written (demangle_type t N reading_workspace out) (shape_type t N check_workspace)
  -- stopped: one answer, and the same entries, which `Reading.stopped_after` takes from the trees
  -- on the stack
  pub symbol_stopped : demangle_stopped t N k reading_workspace out ≡ shape_stopped t N k check_workspace out
  pub type_stopped : demangle_type_stopped t N k reading_workspace out ≡ shape_type_stopped t N k check_workspace out

-- Demand 3: every text is judged alike, with every ceiling, k and output length, and with
-- workspaces that are large enough
abbrev pub Demand3 : Type 0
Demand3 =
    (t : Text) (N k reading_workspace check_workspace out : ℕ) → T (enough reading_needs N reading_workspace) → T (enough check_needs N check_workspace) →
    JudgedAlike t N k reading_workspace check_workspace out
