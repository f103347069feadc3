use Rattle.std.proofs.Common.{◌*◌, arith}
use Rattle.std.proofs.lemmas.Result.{err_from_is_err_and}
use Rattle.machine.specs.Spent.{budget_of}
use Rattle.machine.proofs.budget.Charging.{charge_room, copies_le}
use Rattle.check_entries.proofs.Written.{copied_done, copied_refused}
use Rattle.check_entries.proofs.Entries.push_charged.Goals as goal

pub returns-in_err-self : goal.returns-in_err-self
returns-in_err-self c =
    let p = err_from_is_err_and c.from_residual.result c.from_residual.ensures.1 in
    rw (p.1, p.2) (copied_refused c.args.e c.args.times _ c.in_err-self.ensures)

pub push_copies-requires : goal.push_copies-requires
push_copies-requires c =
    let s = c.args.self.now in
    let room = charge_room s.ceiling (c.args.e.size * c.args.times) (budget_of s.state.budget) (budget_of c.in_ok-self.field-0) c.in_ok-self.ensures in
    (c.requires.0, omega (arith, c.requires.1, room, copies_le c.args.e.size c.args.times c.requires.2))

pub returns : goal.returns
returns c = copied_done c.args.e c.args.times c.in_ok-self.field-0 c.in_ok-self.ensures c.push_copies.ensures
