use Rattle.std.proofs.Common.{sym, ◌∙◌}
use borrow.Author.Tests.{ne_eqb}
use Rattle.machine.specs.RunEnds.{kinds_of}
use Rattle.check_ends.proofs.StackNumbers.{single_not, single_taken}
use Rattle.check_ends.proofs.single.Goals as goal

pub returns-then-entries-eq1 : goal.returns-then-entries-eq1
returns-then-entries-eq1 c =
    single_taken c.args.entries.now.ws.now c.args.what c.if-entries-eq1.true c.takes.ensures

pub returns-else-entries-eq1 : goal.returns-else-entries-eq1
returns-else-entries-eq1 c =
    ne_eqb _ 1 c.if-entries-eq1.false ∙ sym (single_not (kinds_of c.args.what) c.args.entries.now.ws.now _ c.if-entries-eq1.false)
