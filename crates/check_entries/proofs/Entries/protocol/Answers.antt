use Rattle.std.proofs.Common.{true}
use Rattle.std.proofs.lemmas.Result.{err_from_is_err_and}
use Rattle.definition.specs.Machine as M
use Rattle.definition.specs.Shape as C
use Rattle.check_entries.proofs.Top.{popped_size}
use Rattle.check_entries.proofs.Steps.{refuses, held_after}
use Rattle.check_entries.proofs.Composites.{protocol_itself, protocol_named, protocol_other, protocol_member, not_list, not_one}
use Rattle.check_entries.proofs.Entries.protocol.Goals.{then-e-3-via-then-e-3, then-e-3-via-else-e-3+then-e-ne1}
use Rattle.check_entries.proofs.Entries.protocol.Goals as goal

pub returns-in_err-e : goal.returns-in_err-e
unfolding C.protocol
returns-in_err-e c = let p = err_from_is_err_and c.from_residual.result c.from_residual.ensures.1 in rw (p.1, p.2) (refuses _ c.in_err-e.ensures)

pub returns-then-e : goal.returns-then-e
returns-then-e c = protocol_itself c.in_ok-e.ensures c.if-e.true

pub named_protocol-requires : goal.named_protocol-requires
named_protocol-requires c = held_after c.in_ok-e.ensures c.requires

pub returns-then-e-2 : goal.returns-then-e-2
returns-then-e-2 c =
    protocol_named c.in_ok-e.ensures c.requires c.if-e-2.true _ c.named_protocol.result c.named_protocol.ensures

pub returns-then-e-3 : goal.returns-then-e-3
returns-then-e-3 c =
    let e = c.in_ok-e.e in
    protocol_other c.in_ok-e.ensures c.if-e.false c.if-e-2.false
    (elim c.then-e-3.branch [ then-e-3-via-then-e-3 w ↦ not_list e.kind e.count w.if-e-3.true | then-e-3-via-else-e-3+then-e-ne1 w ↦ not_one e.kind e.count w.if-e-3.false w.if-e-ne1.true ])

pub overflow_sub-e : goal.overflow_sub-e
unfolding M.pop
overflow_sub-e c = popped_size (λ k. true) c.requires c.in_ok-e.ensures

pub returns : goal.returns
returns c = rw c.new.ensures (protocol_member c.in_ok-e.ensures c.if-e-3.false c.if-e-ne1.false)
