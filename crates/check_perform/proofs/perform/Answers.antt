use Rattle.std.proofs.Common.{arith}
use Rattle.std.proofs.lemmas.Result.{err_from_is_err_and}
use Rattle.check_perform.proofs.Rows.{row_short, row_owns}
use Rattle.check_perform.proofs.Leaves.{sound_light, sound_roomy, roomy_after, performed, not_performed}
use Rattle.check_perform.proofs.perform.Goals as goal

pub take_row-requires-clause-room : goal.take_row-requires-clause-room
take_row-requires-clause-room c = sound_light c.requires

pub take_row-requires-clause-short : goal.take_row-requires-clause-short
take_row-requires-clause-short c = row_short c.args.op c.row_of-row.result c.row_of-row.ensures

pub returns-in_err-taken : goal.returns-in_err-taken
returns-in_err-taken c =
    let p = err_from_is_err_and c.from_residual.result c.from_residual.ensures.1 in
    rw (p.1, p.2)
    (λ fixed. not_performed c.args.op c.row_of-row.result c.row_of-row.ensures fixed c.args.entries.now c.in_err-taken.ensures)

pub leave-requires : goal.leave-requires
leave-requires c =
    let h = c.in_ok-taken.ensures in
    (roomy_after (sound_roomy c.requires) h, row_owns c.args.op c.row_of-row.result c.row_of-row.ensures, omega (arith, h.size, (sound_light c.requires).light), h.small)

pub returns : goal.returns
returns c =
    λ fixed. performed c.args.op c.row_of-row.result c.row_of-row.ensures fixed c.args.entries.now c.in_ok-taken.ensures _ c.leave.result c.leave.ensures
