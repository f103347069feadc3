use Rattle.std.proofs.Common.{true, ◌+◌, ◌≤◌, length, arith}
use Rattle.text_cursor.proofs.Scans.{eight_inside, few_left, eight_more, eight_last}
use Rattle.text_cursor.proofs.scan.past.Goals as goal

pub loop-eight-preserved : goal.loop-eight-preserved
loop-eight-preserved g c =
    let h = c.loop-eight.invariant in
    let k : c.loop-eight.at + 8 ≤ length c.args.text.now = eight_inside c.args.text.now c.loop-eight.at (length c.in-Some.field-0-1.now) c.in-Some.ensures.cases.2 in
    (k, eight_more (λ b. goal.F-post g c.args.holds b true) c.args.text.now c.in-Some.eight.now _ c.loop-eight.at h.1 c.in-Some.ensures.cases.0 (omega arith) k (c.all_eight.ensures c.if-not-all_eight.false))

pub returns-then-all_eight : goal.returns-then-all_eight
returns-then-all_eight g c =
    let last = c.in-Some-last_chunk.ensures.cases in
    let few = few_left c.args.text.now c.loop-eight.at c.in_default.ensures.cases in
    (omega arith, eight_last (λ b. goal.F-post g c.args.holds b true) c.args.text.now c.in-Some-last_chunk.eight.now c.loop-eight.at c.loop-eight.invariant.1 last.1.same last.0 few (c.all_eight-in-Some-last_chunk.ensures c.if-all_eight.true))
