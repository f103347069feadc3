-- Demand 3 as a test: whether the answers of reading and check agree. Assumes nothing.
use Rattle.std.specs.Prelude.{Bool, ◌&&◌, List, ℕ, eqb, leb, length, if◌then◌else◌}
use Rattle.definition.specs.Base.{same}
use Rattle.definition.specs.Text.{Text}
use Rattle.definition.specs.Calls as Calls
use Rattle.definition.specs.Calls.{refusal}
use Rattle.definition.specs.Alike.{with_text}
use Rattle.definition.specs.Reading.{read, read_type, demangle, demangle_type, demangle_stopped, demangle_type_stopped}
use Rattle.definition.specs.Check.{shape, shape_type, shape_stopped, shape_type_stopped}

-- all six values are equal
abbrev pub same_values : Calls.Values → Calls.Values → Bool
same_values a b =
    eqb a.number b.number && eqb a.place b.place && eqb a.steps b.steps && eqb a.total b.total && eqb a.wraps b.wraps && eqb a.length b.length

-- All values, and what is written, number by number. For stopped calls, demand 3 says this
abbrev pub same_answer : Calls.Answer → Calls.Answer → Bool
same_answer a b = same_values a.values b.values && same a.written b.written

-- WHOLE CALLS
-- The answer that demand 3 requires of the reading where the check answers c, the definition reads
-- `text` and the output slice has `out` bytes. Where the check refuses, it is the check's own
-- answer. Where the check accepts, it is the text with the check's counts, or 12 exactly where the
-- text is longer than the output
abbrev pub due : (out : ℕ) → List ℕ → Calls.Answer → Calls.Answer
due out text c = if eqb c.values.number 0 then (if leb (length text) out then with_text text c else refusal 12 0) else c

-- `WholeAlike` of the definition as a test (proofs/Compared: `agree_alike`, `alike_agree`)
abbrev pub whole_agree : (out : ℕ) → List ℕ → (reading check : Calls.Answer) → Bool
whole_agree out text reading check = same_answer reading (due out text check)

-- BY THE VALUES ALONE
-- these values, with that length
abbrev pub with_length : ℕ → Calls.Values → Calls.Values
with_length n v = record { number = v.number; place = v.place; steps = v.steps; total = v.total; wraps = v.wraps; length = n }

-- Values do not say how long a text is that exceeds the output. For an accepted reading its own
-- length is taken. A reading that refuses what the check accepts must refuse with 12, at 0, with
-- zero counts and length 0. Together with the text of the reading this decides what `whole_agree`
-- does (crates/call_alike/proofs/Judging: `values_decide`)
abbrev pub values_due : (reading check : Calls.Values) → Calls.Values
values_due reading check =
    if eqb check.number 0 then (if eqb reading.number 0 then with_length reading.length check else (refusal 12 0).values) else check

abbrev pub values_agree : (reading check : Calls.Values) → Bool
values_agree reading check = same_values reading (values_due reading check)

-- ALL EIGHT CALLS on one text, with one ceiling and one k: how many numbers of workspace each has,
-- the length of the output slice of the whole reading, and the lengths of those of the stopped
-- calls
abbrev pub judged : Text → (N k reading_workspace check_workspace out reading_stack check_stack : ℕ) → Bool
judged t N k w w' out s s' =
    whole_agree out (read t N w).written (demangle t N w out) (shape t N w') && whole_agree out (read_type t N w).written (demangle_type t N w out) (shape_type t N w') && same_answer (demangle_stopped t N k w s) (shape_stopped t N k w' s') && same_answer (demangle_type_stopped t N k w s) (shape_type_stopped t N k w' s')
