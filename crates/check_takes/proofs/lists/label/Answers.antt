use Rattle.check_takes.proofs.Rounds.{label_name, label_marker, label_other}
use Rattle.check_takes.proofs.lists.label.Goals.{else-e-via-then-e+else-e-2, else-e-via-else-e}
use Rattle.check_takes.proofs.lists.label.Goals as goal

pub returns-then-e-2 : goal.returns-then-e-2
returns-then-e-2 c = label_other c.in_ok-e.ensures c.if-e.true c.if-e-2.true

pub returns : goal.returns
returns c =
    elim c.else-e.branch [
      | else-e-via-then-e+else-e-2 w ↦ label_marker c.in_ok-e.ensures w.if-e.true w.if-e-2.false
      | else-e-via-else-e w ↦ label_name c.in_ok-e.ensures w.if-e.false
    ]
