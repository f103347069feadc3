use Rattle.std.proofs.lemmas.Result.{err_from_is_err_and}
use Rattle.check_takes.proofs.Rounds.{rounds_start, rounds_last, rounds_more, rounds_fail, adds_after}
use Rattle.check_takes.proofs.lists.gather.Goals as goal

pub loop-all-init : goal.loop-all-init
loop-all-init g c = rounds_start g.L.List.from _ _

pub round-requires : goal.round-requires
round-requires g c = adds_after c.requires c.loop-all.invariant.gathered

pub returns-in_err-all : goal.returns-in_err-all
returns-in_err-all g c =
    let p = err_from_is_err_and c.from_residual.result c.from_residual.ensures.1 in
    rw (p.1, p.2) (rounds_fail c.loop-all.invariant c.in_err-all.ensures)

pub returns-in-Break : goal.returns-in-Break
returns-in-Break g c = let h = rw c.in-Break.is at c.in_ok-all.ensures in rounds_last c.loop-all.invariant h

pub loop-all-preserved : goal.loop-all-preserved
loop-all-preserved g c = let h = rw c.in-Continue.is at c.in_ok-all.ensures in rounds_more c.loop-all.invariant h
