use native.Mathlib.Omega.{arith}
use Rattle.text_output.proofs.ByEights.{copying_none, copying_more, copying_all}
use Rattle.text_output.proofs.copies.copy.Goals as goal

pub loop-i-init : goal.loop-i-init
loop-i-init c = copying_none c.args.at c.args.bytes.now c.args.out.now

pub loop-i-preserved : goal.loop-i-preserved
loop-i-preserved c = copying_more c.loop-i.invariant (omega (arith, c.loop-i-test.true)) (omega (arith, c.requires, c.loop-i-test.true))

pub returns : goal.returns
returns c = copying_all c.loop-i.invariant (omega (arith, c.loop-i-test.false, c.loop-i.auto))
