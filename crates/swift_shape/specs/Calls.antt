-- The calls of the check, for a symbol or for a type. Assumes nothing.
use Rattle.std.specs.Prelude.{ℕ}
use Rattle.definition.specs.Text.{Text}
use Rattle.definition.specs.Calls as Calls
use Rattle.definition.specs.Calls.{within, admit, check_needs}
use Rattle.definition.specs.Check as Check
use Rattle.machine.specs.RunEnds.{kinds_of}
use Rattle.machine.specs.declared.runs.Final.{Final}
use Rattle.call_admission.specs.Admits.{framed}

abbrev pub check_whole : Final → Text → (N workspace : ℕ) → Calls.Answer
check_whole what t N workspace = admit check_needs N workspace t (framed what t (Check.whole N (kinds_of what)))

abbrev pub check_stopped : Final → Text → (N k workspace out : ℕ) → Calls.Answer
check_stopped what t N k workspace out = within out (admit check_needs N workspace t (framed what t (Check.stopped_after N k)))
