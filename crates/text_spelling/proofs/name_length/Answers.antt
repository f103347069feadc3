use Rattle.text_spelling.proofs.Loops.{counting_first, counting_next, counting_end}
use Rattle.text_spelling.proofs.name_length.Goals as goal

pub loop-bytes-init : goal.loop-bytes-init
loop-bytes-init c = counting_first c.args.text.now c.args.known.now c.args.p c.requires.0 c.new-segments.ensures

pub loop-bytes-preserved : goal.loop-bytes-preserved
loop-bytes-preserved c = counting_next c.args.text.now c.args.known.now c.args.p c.loop-bytes.invariant c.in-Some.ensures

pub returns : goal.returns
returns c = counting_end c.args.text.now c.args.known.now c.args.p c.loop-bytes.invariant c.in_default.ensures.is
