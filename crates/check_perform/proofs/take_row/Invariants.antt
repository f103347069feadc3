use Rattle.std.proofs.Common.{map, drop}
use Rattle.check_entries.specs.Means.{take_of}
use Rattle.check_perform.proofs.RowTakes.{Rowed}
use Rattle.check_perform.proofs.take_row.Given as goal

abbrev pub invariant-loop-take : goal.invariant-loop-take
invariant-loop-take l = Rowed (map take_of l.takes) l.fn.entries l.entries l.taken (map take_of (drop l.take-index l.takes))
