use Rattle.std.proofs.Common.{◌-◌, sym, ◌∙◌, arith}
use Rattle.machine.specs.Wanted.{want_of}
use Rattle.check_entries.proofs.Top.{none_below, other_top, this_top}
use Rattle.check_entries.proofs.Entries.try_take.Goals as goal

pub returns-then-self-eq0 : goal.returns-then-self-eq0
returns-then-self-eq0 c = none_below c.args.self.now (want_of c.args.want) c.if-self-eq0.true

pub returns-then-not-wanted : goal.returns-then-not-wanted
returns-then-not-wanted c =
    let s = c.args.self.now in
    other_top s (want_of c.args.want) c.entry_at-e.result (s.state.depth - 1) (omega arith) c.entry_at-e.ensures (sym c.wanted.ensures ∙ c.if-not-wanted.true)

pub returns : goal.returns
returns c =
    let s = c.args.self.now in
    this_top s (want_of c.args.want) c.entry_at-e.result (s.state.depth - 1) (omega arith) c.entry_at-e.ensures (sym c.wanted.ensures ∙ c.if-not-wanted.false)
