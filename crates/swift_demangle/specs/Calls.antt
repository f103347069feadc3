-- The calls of the reading, for a symbol or for a type. Assumes nothing.
use Rattle.std.specs.Prelude.{ℕ}
use Rattle.definition.specs.Text.{Text}
use Rattle.definition.specs.Calls as Calls
use Rattle.definition.specs.Calls.{within, admit, reading_needs}
use Rattle.definition.specs.Reading as Reading
use Rattle.definition.specs.Reading.{stopped_after}
use Rattle.machine.specs.RunEnds.{kinds_of}
use Rattle.machine.specs.declared.runs.Final.{Final}
use Rattle.call_admission.specs.Admits.{framed}

abbrev pub read_whole : Final → Text → (N workspace out : ℕ) → Calls.Answer
read_whole what t N workspace out = within out (admit reading_needs N workspace t (framed what t (Reading.whole N (kinds_of what))))

abbrev pub read_stopped : Final → Text → (N k workspace out : ℕ) → Calls.Answer
read_stopped what t N k workspace out = within out (admit reading_needs N workspace t (framed what t (stopped_after N k)))
