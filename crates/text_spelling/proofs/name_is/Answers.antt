use Rattle.std.proofs.Common.{refl, ◌∙◌}
use Rattle.text_spelling.proofs.Loops.{comparing_first, comparing_next, comparing_differs, comparing_end, empty_same}
use Rattle.text_spelling.proofs.name_is.Goals as goal

pub loop-bytes-init : goal.loop-bytes-init
loop-bytes-init c = comparing_first c.args.text.now c.args.known.now c.args.p c.args.fixed.now c.new-segments.ensures

pub loop-bytes-preserved : goal.loop-bytes-preserved
loop-bytes-preserved c = comparing_next c.args.text.now c.args.known.now c.args.p c.args.fixed.now c.loop-bytes.invariant c.in-Some.ensures c.in-Some-strip_prefix.ensures.cases.0 refl c.in-Some-strip_prefix.ensures.cases.1

pub returns-in-None : goal.returns-in-None
returns-in-None c = comparing_differs c.args.text.now c.args.known.now c.args.p c.args.fixed.now c.loop-bytes.invariant c.in-Some.ensures c.in-None.ensures.cases refl

pub returns : goal.returns
returns c = comparing_end c.args.text.now c.args.known.now c.args.p c.args.fixed.now c.loop-bytes.invariant c.in_default.ensures.is (c.is_empty.ensures ∙ empty_same c.loop-bytes.left.now)
