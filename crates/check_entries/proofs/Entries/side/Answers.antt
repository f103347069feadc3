use Rattle.check_entries.proofs.Steps.{took_is, held_after, at_true, at_false}
use Rattle.check_entries.proofs.Composites.{side_empty, side_type}
use Rattle.check_entries.proofs.Entries.side.Goals as goal

pub returns-then-took : goal.returns-then-took
returns-then-took c = rw c.new.ensures (side_empty (took_is 30 (at_true c.if-took.true c.took.ensures)))

pub pop_if-requires : goal.pop_if-requires
pop_if-requires c = held_after c.took.ensures c.requires

pub returns : goal.returns
returns c = side_type (took_is 30 (at_false c.if-took.false c.took.ensures)) _ c.pop_if.result c.pop_if.ensures
