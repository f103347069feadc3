-- The theorems that a reader looks for. Three are stated here; the others are passed on under their
-- own names, from the file that states and proves them. What they speak of is in
-- crates/definition/specs. Assumes nothing.
use lib.Dec.{T}
use Rattle.definition.specs.Alike.{Demand3}
use Rattle.definition.specs.Key.{key, shut_out, holds}
use Rattle.definition.proofs.JudgingAlike as JudgingAlike
use Rattle.definition.proofs.KeyHolds as KeyHolds
-- What a user may rely on after a call that has an output slice (`Promised`): a refused call leaves
-- the slice unchanged; an accepted one wrote the definition's text at its front and nothing else;
-- the number is at most 12; it is 12 only where the text is longer than the slice
pub use Rattle.call_endings.proofs.Users.{Wrote, Promised}
pub use Rattle.call_endings.proofs.Users.{demangle_promises, demangle_type_promises}
pub use Rattle.call_endings.proofs.Users.{demangle_stopped_promises, demangle_type_stopped_promises}
pub use Rattle.call_endings.proofs.Users.{shape_stopped_promises, shape_type_stopped_promises}
-- A whole check has no output slice: its number is at most 11
pub use Rattle.call_endings.proofs.Users.{shape_number, shape_type_number}
-- A run refuses with 6 to 10 only
pub use Rattle.definition.proofs.RunNumbers.{read_numbers, check_numbers}
-- A whole run that is not refused ends with no text left
pub use Rattle.definition.proofs.WholeRuns.{whole_run_ends}
-- Among contexts only the module Swift prints `Swift`
pub use Rattle.definition.proofs.OnlySwift.{only_swift}
-- The text of a generic signature is at least three times as long as its parameter count
pub use Rattle.definition.proofs.ParamNames.{signature_length}

-- Demand 3, for every text, ceiling, k, output length and workspaces that are enough. Stopped after
-- k operators, the check and the reading give the same answer. Whole, they do but for the text,
-- which only the reading has: its length, and 12, exactly where the check accepts and the text is
-- longer than the output slice
pub judging_alike : Demand3
judging_alike = JudgingAlike.judging_alike

-- The rows of document 01's key that are marked to be proved
pub key_holds : T (holds key)
key_holds = KeyHolds.key_holds

-- The wrong readings that document 01 shuts out
pub wrong_readings_shut_out : T (holds shut_out)
wrong_readings_shut_out = KeyHolds.wrong_readings_shut_out
