use Rattle.std.proofs.Common.{◌≡◌, ne_eqb, refl, arith}
use Rattle.tree_records.specs.Lies.{at}
use Rattle.tree_records.proofs.Exits.{failed}
use Rattle.tree_nodes.proofs.Ready.{room, inside_record, small_place, ready_none}
use Rattle.tree_nodes.proofs.Protocols.{protocol_direct, protocol_member, protocol_several, protocol_named, protocol_not_named, protocol_other, protocol_empty, member_inside}
use Rattle.tree_nodes.proofs.Trees.{bare_refuses, read_refuses, popped_in, has_popped, has_taken}
use Rattle.tree_nodes.proofs.take.protocol.Goals as goal

pub returns-in_err-place-clause-takes : goal.returns-in_err-place-clause-takes
returns-in_err-place-clause-takes c = rw (failed c.from_residual.ensures.1) (bare_refuses protocol_empty c.in_err-place.ensures.pops)

pub field-kind-requires : goal.field-kind-requires
field-kind-requires c = (popped_in c.pop.ensures.reads c.in_ok-place.ensures.pops c.requires, omega arith)

pub field-requires : goal.field-requires
field-requires c = (popped_in c.pop.ensures.reads c.in_ok-place.ensures.pops c.requires, omega arith)

pub child-cell-requires : goal.child-cell-requires
child-cell-requires c = (popped_in c.pop.ensures.reads c.in_ok-place.ensures.pops c.requires, omega arith)

pub child-requires : goal.child-requires
child-requires c =
    let r = c.pop.ensures.reads in
    let k = c.in_ok-place.ensures.pops in
    let below = member_inside k c.requires (cc) (cc) in
    let e : at c.pop.new.self.ws.now c.in_ok-place.place 3 ≡ at c.args.trees.now.ws.now c.in_ok-place.place 3 = cc in
    (omega (arith, popped_in r k c.requires, below, c.child-cell.ensures.0, e), omega arith)

pub field-name-requires : goal.field-name-requires
field-name-requires c = (popped_in c.pop.ensures.reads c.in_ok-place.ensures.pops c.requires, omega arith)

pub context-requires : goal.context-requires
context-requires c = ready_none (has_popped c.pop.ensures.reads c.in_ok-place.ensures.pops c.requires)

pub returns-in_err-home-clause-takes : goal.returns-in_err-home-clause-takes
returns-in_err-home-clause-takes c =
    let r = c.pop.ensures.reads in
    rw (failed c.from_residual-in_err-home.ensures.1)
    (record { refuses = protocol_not_named c.in_ok-place.ensures.pops c.requires (cc) (rw (r.slice, r.ceiling) at c.in_err-home.ensures.takes.refuses); beyond = rw (r.slice, r.ceiling) at c.in_err-home.ensures.takes.beyond })

pub field-size-requires : goal.field-size-requires
field-size-requires c = (inside_record _ c.in_ok-home.ensures.takes.below (has_taken c.context.ensures.stays c.in_ok-home.ensures.takes (has_popped c.pop.ensures.reads c.in_ok-place.ensures.pops c.requires)), omega arith)

pub overflow_cast-home : goal.overflow_cast-home
overflow_cast-home c = record { fits = small_place _ c.in_ok-home.ensures.takes.below (has_taken c.context.ensures.stays c.in_ok-home.ensures.takes (has_popped c.pop.ensures.reads c.in_ok-place.ensures.pops c.requires)) }

pub grow-requires : goal.grow-requires
grow-requires c = room (omega arith) (omega arith) (omega arith) (has_taken c.context.ensures.stays c.in_ok-home.ensures.takes (has_popped c.pop.ensures.reads c.in_ok-place.ensures.pops c.requires))

pub returns-then-kind-clause-takes : goal.returns-then-kind-clause-takes
returns-then-kind-clause-takes c = rw c.pop.ensures.reads.slice (protocol_direct c.in_ok-place.ensures.pops c.requires (cc))

pub returns-then-kind-2-clause-takes : goal.returns-then-kind-2-clause-takes
returns-then-kind-2-clause-takes c =
    let r = c.pop.ensures.reads in
    rw r.slice (protocol_member c.in_ok-place.ensures.pops c.requires _ (cc) (cc) (cc))

pub returns-clause-takes : goal.returns-clause-takes
returns-clause-takes c =
    let r = c.pop.ensures.reads in
    rw c.grow.ensures.place
    (protocol_named c.in_ok-place.ensures.pops c.requires _ _ _ (cc) (cc) refl (cc) (rw (r.slice, r.ceiling) at c.in_ok-home.ensures.takes) (rw (c.context.ensures.stays.ceiling, r.ceiling) at c.grow.ensures.grew))

pub returns-then-field-ne1-clause-takes : goal.returns-then-field-ne1-clause-takes
returns-then-field-ne1-clause-takes c =
    read_refuses c.pop.ensures.reads (protocol_several c.in_ok-place.ensures.pops c.requires (cc) (let e : at c.args.trees.now.ws.now c.in_ok-place.place 2 ≡ c.field.result = cc in rw e (ne_eqb _ _ c.if-field-ne1.true)))

pub returns-then-kind-3-clause-takes : goal.returns-then-kind-3-clause-takes
returns-then-kind-3-clause-takes c =
    let e : at c.args.trees.now.ws.now c.in_ok-place.place 0 ≡ c.field-kind.result = cc in
    read_refuses c.pop.ensures.reads (protocol_other c.in_ok-place.ensures.pops c.requires (rw e (ne_eqb _ _ c.if-kind.false)) (rw e (ne_eqb _ _ c.if-kind-2.false)) (rw e (ne_eqb _ _ c.if-kind-3.true)))
