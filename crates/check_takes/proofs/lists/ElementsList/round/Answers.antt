use Rattle.std.proofs.lemmas.Result.{err_from_is_err_and}
use Rattle.check_entries.proofs.Steps.{took_is, held_after}
use Rattle.check_takes.proofs.Rounds.{element_last, element_more, element_fails}
use Rattle.check_takes.proofs.lists.ElementsList.round.Goals as goal

pub took-requires : goal.took-requires
took-requires c = held_after c.took-last.ensures c.requires.held

pub took-requires-2 : goal.took-requires-2
took-requires-2 c = held_after c.took.ensures (held_after c.took-last.ensures c.requires.held)

pub pop_if-requires : goal.pop_if-requires
pop_if-requires c =
    held_after c.took-2.ensures (held_after c.took.ensures (held_after c.took-last.ensures c.requires.held))

pub returns-in_err-pop_if : goal.returns-in_err-pop_if
returns-in_err-pop_if c =
    let p = err_from_is_err_and c.from_residual.result c.from_residual.ensures.1 in
    rw (p.1, p.2)
    (element_fails (took_is 31 c.took-last.ensures) (took_is 32 c.took.ensures) c.took-2.ensures c.in_err-pop_if.ensures c.args.taken)

pub returns-then-last : goal.returns-then-last
returns-then-last c =
    element_last (took_is 31 c.took-last.ensures) (took_is 32 c.took.ensures) c.took-2.ensures c.in_ok-pop_if.ensures c.args.taken c.add_counted-sum.ensures c.if-last.true

pub returns : goal.returns
returns c =
    element_more (took_is 31 c.took-last.ensures) (took_is 32 c.took.ensures) c.took-2.ensures c.in_ok-pop_if.ensures c.args.taken c.add_counted-sum.ensures c.if-last.false
