use Rattle.std.proofs.Common.{arith, length, ap, List, ℕ, ◌∙◌}
use Rattle.definition.specs.Text.{well_formed}
use Rattle.text_words.proofs.Later.{waits_none}
use Rattle.run.proofs.RunLoop.{run_first, run_ready, run_knowing, run_over, run_done, run_more, run_stopped}
use Rattle.run.proofs.run.Goals as goal

pub loop-init : goal.loop-init
loop-init g c =
    run_first g.M.Machine.meaning g.met.M.Machine.laws c.args.k c.args.body c.args.machine.now c.new-waiting.result c.new-waiting.ensures (waits_none c.args.body.now c.new-waiting.result c.new-waiting.ensures) c.requires.0

pub returns-then-body-place : goal.returns-then-body-place
returns-then-body-place g c =
    let text : List ℕ → ℕ = λ b. length b in
    run_over g.M.Machine.meaning g.met.M.Machine.laws c.loop.invariant (omega (arith, c.if-body-place.true, ap text c.loop.invariant.text))

pub step-requires : goal.step-requires
step-requires g c =
    let h = c.loop.invariant in
    let text : List ℕ → ℕ = λ b. length b in (
      run_ready g.M.Machine.meaning g.met.M.Machine.laws h,
      omega (arith, c.if-body-place.false, ap text h.text),
      omega (arith, c.requires.1, ap text h.text),
      ap well_formed h.text ∙ c.requires.2,
      run_knowing g.M.Machine.meaning g.met.M.Machine.laws h,
      h.waits,
    )

pub returns-in-Err : goal.returns-in-Err
returns-in-Err g c =
    let text : List ℕ → ℕ = λ b. length b in
    run_stopped g.M.Machine.meaning g.met.M.Machine.laws c.loop.invariant (omega (arith, c.if-body-place.false, ap text c.loop.invariant.text)) c.loop-test.true c.in-Err.ensures

pub loop-preserved : goal.loop-preserved
loop-preserved g c =
    let text : List ℕ → ℕ = λ b. length b in
    run_more g.M.Machine.meaning g.met.M.Machine.laws c.loop.invariant (omega (arith, c.if-body-place.false, ap text c.loop.invariant.text)) c.loop-test.true c.in_default.ensures

pub returns : goal.returns
returns g c = run_done g.M.Machine.meaning g.met.M.Machine.laws c.loop.invariant c.loop-test.false
