use Rattle.text_words.proofs.Keeping.{count_same, count_added}
use Rattle.text_words.proofs.UsizeKnown.keep.Goals as goal

pub returns-then-is_kept : goal.returns-then-is_kept
returns-then-is_kept c text words e h = count_added text c.args.word e words h c.is_kept.ensures c.if-is_kept.true

pub returns-else-is_kept : goal.returns-else-is_kept
returns-else-is_kept c text words e h = count_same text c.args.word e words h c.is_kept.ensures c.if-is_kept.false
