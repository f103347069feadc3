use Rattle.std.proofs.lemmas.Result.{err_from_is_err_and}
use Rattle.definition.specs.Shape as C
use Rattle.check_entries.proofs.Steps.{refuses}
use Rattle.check_entries.proofs.Composites.{name_there, name_other}
use Rattle.check_entries.proofs.Entries.pop_name.Goals as goal

pub returns-in_err-e : goal.returns-in_err-e
unfolding C.pop_name
returns-in_err-e c = let p = err_from_is_err_and c.from_residual.result c.from_residual.ensures.1 in rw (p.1, p.2) (refuses _ c.in_err-e.ensures)

pub returns-then-e : goal.returns-then-e
returns-then-e c = name_other c.in_ok-e.ensures c.if-e.true

pub returns : goal.returns
returns c = name_there c.in_ok-e.ensures c.if-e.false
