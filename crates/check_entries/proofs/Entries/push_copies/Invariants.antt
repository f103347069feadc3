use Rattle.definition.specs.Machine as M
use Rattle.check_entries.specs.Lies.{entry_of}
use Rattle.check_entries.specs.Stores.{Did}
use Rattle.check_entries.proofs.Entries.push_copies.Given as goal

abbrev pub invariant-loop : goal.invariant-loop
invariant-loop l = Did (M.push_copies l.counter (entry_of l.e)) l.fn.self l.self
