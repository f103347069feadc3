use Rattle.text_words.proofs.Loops.{Noting}
use Rattle.text_words.proofs.note.Given as goal

abbrev pub invariant-loop-at : goal.invariant-loop-at
invariant-loop-at g l = Noting (λ k words. g.K.Known.stands l.text k words) l.text l.from l.to l.fn.known l.known l.start l.previous l.at
