use Rattle.check_perform.proofs.Leaves.{left_plain, left_remembered}
use Rattle.check_perform.proofs.leave.Goals.{then-row, else-row}
use Rattle.check_perform.proofs.leave.Goals as goal

pub returns : goal.returns
returns c =
    let s = c.args.entries.now in
    elim c.if-row.branch [
      | then-row w ↦ let h = rw w.entries-is at c.put_on.ensures in left_remembered s _ c.left_by-e.ensures w.if-row.true w.remember.ensures.did c.put_on.result h
      | else-row w ↦ let h = rw w.entries-is at c.put_on.ensures in left_plain s _ c.left_by-e.ensures w.if-row.false c.put_on.result h
    ]
