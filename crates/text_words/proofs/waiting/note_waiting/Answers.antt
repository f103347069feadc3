use Rattle.std.proofs.Common.{subst, ◌+◌}
use Rattle.definition.specs.Words as W
use Rattle.text_words.specs.Waits.{noted_from}
use Rattle.text_words.proofs.Later.{noted_none, noted_next, literal_inside}
use Rattle.text_words.proofs.waiting.note_waiting.Goals as goal

pub loop-span-init : goal.loop-span-init
loop-span-init g c words h = subst (g.K.Known.stands c.args.text.now c.args.known.now) (noted_none W.note_words c.args.text.now c.args.q.now.spans words) h

pub note-requires : goal.note-requires
note-requires g c =
    let l = literal_inside c.args.text.now c.args.q.now c.loop-span.span-index c.as_slice-span-items.ensures c.loop-span-test.true c.from.ensures c.to.ensures c.requires.1 in
    (l.0, l.1, c.requires.0)

pub loop-span-preserved : goal.loop-span-preserved
loop-span-preserved g c words h =
    let t = c.args.text.now in
    let q = c.args.q.now in
    let i = c.loop-span.span-index in
    subst (g.K.Known.stands t c.note.new.known) {y = noted_from W.note_words t q.spans (i + 1) words}
    (noted_next t q i c.as_slice-span-items.ensures c.loop-span-test.true c.from.ensures c.to.ensures W.note_words words)
    (c.note.ensures (noted_from W.note_words t q.spans i words) (c.loop-span.invariant words h))
