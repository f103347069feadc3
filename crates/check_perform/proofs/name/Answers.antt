use Rattle.std.proofs.Common.{arith}
use Rattle.check_perform.proofs.Leaves.{sound_roomy, named}
use Rattle.check_perform.proofs.name.Goals as goal

pub remember-requires : goal.remember-requires
remember-requires c =
    let r = sound_roomy c.requires in
    omega (arith, r.long, r.total, r.deep, r.seen)

pub push-requires : goal.push-requires
push-requires c =
    let r = sound_roomy c.requires in
    let d = c.remember.ensures in
    omega (arith, r.long, r.total, r.deep, d.depth, d.did.wrote.outside.long, d.did.wrote.lent.ceiling)

pub returns : goal.returns
returns c = named c.args.words c.new-e.ensures c.remember.ensures.did c.push.ensures
