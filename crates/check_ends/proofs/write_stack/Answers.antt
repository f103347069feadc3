use mathlib.Core.Path.{◌≡◌, refl}
use Prim.Native.Nat.{◌*◌}
use native.Mathlib.Omega.{arith}
use Rattle.check_ends.proofs.StackNumbers.{too_many, all_numbers, one_number}
use Rattle.check_ends.proofs.write_stack.Goals as goal

pub returns-then-out-n : goal.returns-then-out-n
returns-then-out-n c =
    too_many c.args.entries.now.ws.now c.args.entries.now.state.depth c.requires c.if-out-n.true

pub loop-i-preserved : goal.loop-i-preserved
loop-i-preserved c = one_number c.loop-i.invariant (omega (arith, c.requires, c.loop-i-test.true)) (omega (arith, c.if-out-n.false, c.loop-i-test.true))

pub returns : goal.returns
returns c =
    let end : c.loop-i.i ≡ 3 * c.args.entries.now.state.depth = omega (arith, c.loop-i-test.false, c.loop-i.auto) in
    all_numbers c.args.entries.now.ws.now c.args.entries.now.state.depth c.requires c.loop-i.i refl end c.if-out-n.false c.loop-i.invariant.is
