use Rattle.std.proofs.Common.{◌≡◌, List, ◌-◌, length}
use Rattle.definition.specs.Base.{Name}
use Rattle.text_identifiers.proofs.Rounds.{Tracked}
use Rattle.text_identifiers.proofs.rounds_of.Given as goal

abbrev pub invariant-loop-e : goal.invariant-loop-e
invariant-loop-e g l = record {
  text : l.text.text ≡ l.fn.text.text;
  tracked : (words : List Name) → g.K.Known.stands l.fn.text.text.now l.fn.known words → Tracked (λ k ws. g.K.Known.stands l.fn.text.text.now k ws) l.punycoded l.subs l.fn.text words l.known l.text.at l.more l.empty;
}

abbrev pub decreases-loop-e : goal.decreases-loop-e
decreases-loop-e g l = length l.text.text.now - l.text.at
