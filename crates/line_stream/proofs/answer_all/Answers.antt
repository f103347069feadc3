use Rattle.std.proofs.Common.{rules, ◌≡◌}
use Rattle.line_buffers.specs.declared.Next.{Next}
use Rattle.line_stream.proofs.Runs.{going_start, going_next, answered_all}
use Rattle.line_stream.proofs.answer_all.Goals as goal

pub loop-init : goal.loop-init
loop-init g c = rw c.fresh-state.ensures (record { going = going_start _ _ _ _; goes_on = λ e. (cc) })

pub returns-then-eq : goal.returns-then-eq
returns-then-eq g c =
    let e : c.in_ok-state.state.next ≡ Next.Done = search rules in
    let s = c.in_ok-state.ensures in
    let d = s.stepped.done e in
    answered_all (going_next c.loop.invariant.going s.stepped _ _ c.loop.invariant.goes_on s.read s.wrote) d.0 d.1

pub loop-preserved : goal.loop-preserved
loop-preserved g c =
    let s = c.in_ok-state.ensures in
    record {
      going = going_next c.loop.invariant.going s.stepped _ _ c.loop.invariant.goes_on s.read s.wrote;
      goes_on = search rules;
    }
