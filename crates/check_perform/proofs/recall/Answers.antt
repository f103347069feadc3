use Rattle.std.proofs.Common.{arith}
use Rattle.check_perform.proofs.Leaves.{sound_seen, sound_depth}
use Rattle.check_perform.proofs.Recalls.{not_recalled, recalled, seen_size}
use Rattle.check_perform.proofs.recall.Goals as goal

pub returns-then-entries-index : goal.returns-then-entries-index
returns-then-entries-index c = not_recalled c.args.entries.now c.args.times c.args.index c.if-entries-index.true

pub overflow_add-place : goal.overflow_add-place
overflow_add-place c = omega (arith, sound_seen c.requires, c.requires.total, c.requires.ceiling)

pub entry_at-e-requires : goal.entry_at-e-requires
entry_at-e-requires c = omega (arith, sound_seen c.requires, c.requires.total, c.requires.long)

pub push_charged-requires : goal.push_charged-requires
push_charged-requires c =
    (c.requires.long, omega (arith, sound_depth c.requires), seen_size c.requires c.if-entries-index.false c.entry_at-e.ensures)

pub returns : goal.returns
returns c =
    recalled c.args.entries.now c.args.times c.args.index _ c.entry_at-e.result c.if-entries-index.false c.entry_at-e.ensures c.push_charged.result c.push_charged.ensures
