use Rattle.std.proofs.Common.{arith}
use Rattle.check_entries.proofs.Written.{no_copies, copies_depth, one_copy}
use Rattle.check_entries.proofs.Entries.push_copies.Goals as goal

pub loop-init : goal.loop-init
loop-init c = no_copies _ _

pub push-requires : goal.push-requires
push-requires c =
    let h = c.loop.invariant in
    omega (arith, copies_depth c.args.e c.loop.counter h, h.wrote.lent.ceiling, h.wrote.outside.long, c.requires.0, c.requires.1)

pub loop-preserved : goal.loop-preserved
loop-preserved c = one_copy c.args.e c.loop.counter c.loop.invariant c.push.ensures
