use Rattle.std.proofs.Common.{arith}
use Rattle.text_utf8.proofs.Characters.{well_formed_all}
use Rattle.call_admission.proofs.Tests.{ceiling_zero, ceiling_past, workspace_short, text_long, text_ill_formed, no_body, read_from}
use Rattle.call_admission.proofs.admit.Goals as goal
use Rattle.call_admission.proofs.admit.Goals.{then-ceiling-eq0-via-then-ceiling-eq0, then-ceiling-eq0-via-else-ceiling-eq0+then-ceiling-gt-MOST_NODES}

pub returns-then-ceiling-eq0 : goal.returns-then-ceiling-eq0
returns-then-ceiling-eq0 c =
    rw c.at_start.ensures (elim c.then-ceiling-eq0.branch [
      | then-ceiling-eq0-via-then-ceiling-eq0 w ↦ ceiling_zero c.args.what c.args.need c.args.ceiling c.args.numbers c.args.text.now (omega arith)
      | then-ceiling-eq0-via-else-ceiling-eq0+then-ceiling-gt-MOST_NODES w ↦ ceiling_past c.args.what c.args.need c.args.ceiling c.args.numbers c.args.text.now (omega arith)
    ])

pub returns-then-numbers-need : goal.returns-then-numbers-need
returns-then-numbers-need c = rw c.at_start-then-numbers-need.ensures (workspace_short c.args.what c.args.need c.args.ceiling c.args.numbers c.args.text.now (omega arith) (omega arith) (omega arith))

pub returns-then-text-gt-MOST_BYTES : goal.returns-then-text-gt-MOST_BYTES
returns-then-text-gt-MOST_BYTES c = rw c.at_start-then-text-gt-MOST_BYTES.ensures (text_long c.args.what c.args.need c.args.ceiling c.args.numbers c.args.text.now (omega arith) (omega arith) (omega arith) (omega arith))

pub returns-in-Some : goal.returns-in-Some
returns-in-Some c = text_ill_formed c.args.what c.args.need c.args.ceiling c.args.numbers c.args.text.now (omega arith) (omega arith) (omega arith) (omega arith) c.in-Some.place c.in-Some.ensures

pub parts_of-requires : goal.parts_of-requires
parts_of-requires c = well_formed_all c.args.text.now c.in_default.ensures

pub returns-in_default-parts_of : goal.returns-in_default-parts_of
returns-in_default-parts_of c = rw c.at_start-in_default-parts_of.ensures (no_body c.args.what c.args.need c.args.ceiling c.args.numbers c.args.text.now (omega arith) (omega arith) (omega arith) (omega arith) c.in_default.ensures c.in_default-parts_of.ensures)

pub part-requires : goal.part-requires
part-requires c = let p = c.in-Some-parts_of.ensures in (p.order, p.inside, omega arith, omega arith, p.encoded)

pub returns : goal.returns
returns c =
    let p = c.in-Some-parts_of.ensures in
    let a = c.part.ensures in
    record { body = read_from c.args.what c.args.need c.args.ceiling c.args.numbers c.args.text.now (omega arith) (omega arith) (omega arith) (omega arith) c.in_default.ensures _ _ p _ a.symbol; ceiling = a.ceiling; long = omega arith }
