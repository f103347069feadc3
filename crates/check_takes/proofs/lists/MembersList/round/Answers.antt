use Rattle.std.proofs.lemmas.Result.{err_from_is_err_and}
use Rattle.check_entries.proofs.Steps.{took_is, held_after}
use Rattle.check_takes.proofs.Rounds.{member_last, member_more, member_fails}
use Rattle.check_takes.proofs.lists.MembersList.round.Goals as goal

pub protocol-requires : goal.protocol-requires
protocol-requires c = held_after c.took-last.ensures c.requires.held

pub returns-in_err-protocol : goal.returns-in_err-protocol
returns-in_err-protocol c =
    let p = err_from_is_err_and c.from_residual.result c.from_residual.ensures.1 in
    rw (p.1, p.2) (member_fails (took_is 31 c.took-last.ensures) c.in_err-protocol.ensures c.args.taken)

pub returns-then-last : goal.returns-then-last
returns-then-last c =
    member_last (took_is 31 c.took-last.ensures) c.in_ok-protocol.ensures c.args.taken c.add_counted-sum.ensures c.if-last.true

pub returns : goal.returns
returns c =
    member_more (took_is 31 c.took-last.ensures) c.in_ok-protocol.ensures c.args.taken c.add_counted-sum.ensures c.if-last.false
