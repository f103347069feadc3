use Rattle.std.proofs.lemmas.Result.{err_from_is_err_and}
use Rattle.check_entries.proofs.Steps.{took_is, held_after, at_true, at_false}
use Rattle.check_takes.proofs.Rounds.{argument_more, arguments_end, arguments_go_on, arguments_fail}
use Rattle.check_takes.proofs.lists.ArgumentsList.round.Goals as goal

pub returns-in-Some : goal.returns-in-Some
returns-in-Some c = argument_more c.add_counted.ensures c.in-Some.ensures

pub took-requires : goal.took-requires
took-requires c = held_after c.in_default.ensures c.requires.held

pub returns-then-took : goal.returns-then-took
returns-then-took c =
    arguments_end c.in_default.ensures c.args.taken (took_is 30 (at_true c.if-took.true c.took.ensures))

pub pop_if-requires : goal.pop_if-requires
pop_if-requires c = held_after c.took.ensures (held_after c.in_default.ensures c.requires.held)

pub returns-in_err-pop_if : goal.returns-in_err-pop_if
returns-in_err-pop_if c =
    let p = err_from_is_err_and c.from_residual.result c.from_residual.ensures.1 in
    rw (p.1, p.2)
    (arguments_fail c.in_default.ensures c.args.taken (took_is 30 (at_false c.if-took.false c.took.ensures)) c.in_err-pop_if.ensures)

pub returns : goal.returns
returns c =
    arguments_go_on c.in_default.ensures c.args.taken (took_is 30 (at_false c.if-took.false c.took.ensures)) c.in_ok-pop_if.ensures
