use Rattle.std.proofs.Common.{refl}
use Rattle.definition.specs.Shape as C
use Rattle.definition.specs.Enums.{number}
use Rattle.definition.specs.declared.Refusal.TheVariants.{Spelling}
use Rattle.check_entries.proofs.Steps.{refuses, stops, held_after, took_is, at_true, at_false}
use Rattle.check_takes.specs.Takes.{take_step}
use Rattle.check_takes.proofs.OneTake.{exits, unchanged, added, counted, signed_by, not_signed, signed_wraps, signed_refuses, unsigned, ahead, qualified, labelled, labels_refuse, adds_on, elements_all, members_all, arguments_all, requirements_all, none_elements, none_members}
use Rattle.check_takes.proofs.take_one.Goals as goal

pub returns-in_err-wrap-in-Wraps : goal.returns-in_err-wrap-in-Wraps
unfolding take_step
returns-in_err-wrap-in-Wraps c =
    rw c.in-Wraps.is (exits C.wraps _ _ c.args.taken _ c.from_residual.ensures.1 (refuses _ c.in_err-wrap-in-Wraps.ensures))

pub returns-in_ok-wrap-in-Wraps : goal.returns-in_ok-wrap-in-Wraps
unfolding take_step
returns-in_ok-wrap-in-Wraps c =
    rw c.in-Wraps.is (unchanged c.args.taken c.in_ok-wrap-in-Wraps.ensures _ refl)

pub returns-in_err-pop_if-in-Node : goal.returns-in_err-pop_if-in-Node
unfolding take_step
returns-in_err-pop_if-in-Node c =
    rw c.in-Node.is (exits (C.a_node _) _ _ c.args.taken _ c.from_residual-in_err-pop_if-in-Node.ensures.1 (refuses _ c.in_err-pop_if-in-Node.ensures))

pub returns-in_ok-pop_if-in-Node : goal.returns-in_ok-pop_if-in-Node
unfolding take_step
returns-in_ok-pop_if-in-Node c =
    rw c.in-Node.is (added c.args.taken c.in_ok-pop_if-in-Node.ensures c.add.ensures)

pub returns-in_err-pop_name-in-Name : goal.returns-in_err-pop_name-in-Name
unfolding take_step
returns-in_err-pop_name-in-Name c =
    rw c.in-Name.is (exits C.a_name _ _ c.args.taken _ c.from_residual-in_err-pop_name-in-Name.ensures.1 (refuses _ c.in_err-pop_name-in-Name.ensures))

pub returns-in_ok-pop_name-in-Name : goal.returns-in_ok-pop_name-in-Name
unfolding take_step
returns-in_ok-pop_name-in-Name c =
    rw c.in-Name.is (unchanged c.args.taken c.in_ok-pop_name-in-Name.ensures _ refl)

pub returns-in_err-context-in-Context : goal.returns-in_err-context-in-Context
unfolding take_step
returns-in_err-context-in-Context c =
    rw c.in-Context.is (exits C.a_context _ _ c.args.taken _ c.from_residual-in_err-context-in-Context.ensures.1 (refuses _ c.in_err-context-in-Context.ensures))

pub returns-in_ok-context-in-Context : goal.returns-in_ok-context-in-Context
unfolding take_step
returns-in_ok-context-in-Context c =
    rw c.in-Context.is (added c.args.taken c.in_ok-context-in-Context.ensures c.add-in-Context.ensures)

pub returns-in_err-protocol-in-Protocol : goal.returns-in_err-protocol-in-Protocol
unfolding take_step
returns-in_err-protocol-in-Protocol c =
    rw c.in-Protocol.is (exits C.a_protocol _ _ c.args.taken _ c.from_residual-in_err-protocol-in-Protocol.ensures.1 (refuses _ c.in_err-protocol-in-Protocol.ensures))

pub returns-in_ok-protocol-in-Protocol : goal.returns-in_ok-protocol-in-Protocol
unfolding take_step
returns-in_ok-protocol-in-Protocol c =
    rw c.in-Protocol.is (added c.args.taken c.in_ok-protocol-in-Protocol.ensures c.add-in-Protocol.ensures)

pub returns-in_err-side-in-Params : goal.returns-in_err-side-in-Params
unfolding take_step
returns-in_err-side-in-Params c =
    rw c.in-Params.is (exits C.params _ _ c.args.taken _ c.from_residual-in_err-side-in-Params.ensures.1 (refuses _ c.in_err-side-in-Params.ensures))

pub returns-in_ok-side-in-Params : goal.returns-in_ok-side-in-Params
unfolding take_step C.add_params
returns-in_ok-side-in-Params c =
    rw c.in-Params.is (counted c.args.taken c.in_ok-side-in-Params.ensures C.add_params refl c.add_params.ensures)

pub returns-in_err-side-in-Result : goal.returns-in_err-side-in-Result
unfolding take_step
returns-in_err-side-in-Result c =
    rw c.in-Result.is (exits C.result _ _ c.args.taken _ c.from_residual-in_err-side-in-Result.ensures.1 (refuses _ c.in_err-side-in-Result.ensures))

pub returns-in_ok-side-in-Result : goal.returns-in_ok-side-in-Result
unfolding take_step
returns-in_ok-side-in-Result c =
    rw c.in-Result.is (added c.args.taken c.in_ok-side-in-Result.ensures c.add-in-Result.ensures)

pub returns-in_err-pop_if-in-LabelledType : goal.returns-in_err-pop_if-in-LabelledType
unfolding take_step
returns-in_err-pop_if-in-LabelledType c =
    rw c.in-LabelledType.is (exits C.a_labelled_type _ _ c.args.taken _ c.from_residual-in_err-pop_if-in-LabelledType.ensures.1 (refuses _ c.in_err-pop_if-in-LabelledType.ensures))

pub returns-in_ok-pop_if-in-LabelledType : goal.returns-in_ok-pop_if-in-LabelledType
unfolding take_step C.add_labelled
returns-in_ok-pop_if-in-LabelledType c =
    rw c.in-LabelledType.is (counted c.args.taken c.in_ok-pop_if-in-LabelledType.ensures C.add_labelled refl c.add_labelled.ensures)

pub returns-in-Marker : goal.returns-in-Marker
unfolding take_step
returns-in-Marker c =
    rw c.in-Marker.is (unchanged c.args.taken (took_is _ c.took.ensures) _ refl)

pub returns-in-Qualifier : goal.returns-in-Qualifier
returns-in-Qualifier c =
    rw c.in-Qualifier.is (qualified c.args.taken c.took-in-Qualifier.ensures)

pub returns-then-took : goal.returns-then-took
unfolding take_step
returns-then-took c =
    rw c.in-Labels.is (unchanged c.args.taken (took_is 30 (at_true c.if-took.true c.took-in-Labels.ensures)) _ refl)

pub labels-requires : goal.labels-requires
labels-requires c = held_after c.took-in-Labels.ensures c.requires.held

pub returns-in_err-labels-in-Labels : goal.returns-in_err-labels-in-Labels
returns-in_err-labels-in-Labels c =
    rw c.in-Labels.is (exits C.labels _ _ c.args.taken _ c.from_residual-in_err-labels-in-Labels.ensures.1 (labels_refuse c.args.taken (took_is 30 (at_false c.if-took.false c.took-in-Labels.ensures)) c.in_err-labels-in-Labels.ensures))

pub returns-in_ok-labels-in-Labels : goal.returns-in_ok-labels-in-Labels
returns-in_ok-labels-in-Labels c =
    rw c.in-Labels.is (labelled c.args.taken (took_is 30 (at_false c.if-took.false c.took-in-Labels.ensures)) c.in_ok-labels-in-Labels.ensures)

pub returns-in-Some : goal.returns-in-Some
returns-in-Some c =
    rw c.in-Signature.is (signed_by c.args.taken c.in-Some.ensures c.sign.ensures)

pub returns-in-None : goal.returns-in-None
returns-in-None c = rw c.in-Signature.is (not_signed c.args.taken c.in-None.ensures)

pub returns-then-not-taken : goal.returns-then-not-taken
returns-then-not-taken c = rw c.in-UnderSignature.is (unsigned c.args.taken c.if-not-taken.true)

pub returns-in_err-wrap-in-UnderSignature : goal.returns-in_err-wrap-in-UnderSignature
returns-in_err-wrap-in-UnderSignature c =
    rw c.in-UnderSignature.is (exits C.under_signature _ _ c.args.taken _ c.from_residual-in_err-wrap-in-UnderSignature.ensures.1 (signed_refuses c.args.taken c.if-not-taken.false c.in_err-wrap-in-UnderSignature.ensures))

pub returns-in_ok-wrap-in-UnderSignature : goal.returns-in_ok-wrap-in-UnderSignature
returns-in_ok-wrap-in-UnderSignature c =
    rw c.in-UnderSignature.is (signed_wraps c.args.taken c.if-not-taken.false c.in_ok-wrap-in-UnderSignature.ensures)

pub returns-then-took-2 : goal.returns-then-took-2
returns-then-took-2 c =
    rw c.in-Elements.is (none_elements c.args.taken (took_is 30 (at_true c.if-took-2.true c.took-in-Elements.ensures)))

pub gather-requires : goal.gather-requires
gather-requires c =
    let h = rw c.in-Elements.is at c.requires in adds_on h c.took-in-Elements.ensures

pub returns-else-took-2 : goal.returns-else-took-2
returns-else-took-2 c =
    let h = rw c.in-Elements.is at c.requires in
    rw c.in-Elements.is (elements_all _ c.args.taken h (took_is 30 (at_false c.if-took-2.false c.took-in-Elements.ensures)) c.gather.result c.gather.ensures)

pub returns-then-took-3 : goal.returns-then-took-3
returns-then-took-3 c =
    rw c.in-Members.is (none_members c.args.taken (took_is 30 (at_true c.if-took-3.true c.took-in-Members.ensures)))

pub gather-requires-in-Members : goal.gather-requires-in-Members
gather-requires-in-Members c =
    let h = rw c.in-Members.is at c.requires in adds_on h c.took-in-Members.ensures

pub returns-else-took-3 : goal.returns-else-took-3
returns-else-took-3 c =
    let h = rw c.in-Members.is at c.requires in
    rw c.in-Members.is (members_all _ c.args.taken h (took_is 30 (at_false c.if-took-3.false c.took-in-Members.ensures)) c.gather-in-Members.result c.gather-in-Members.ensures)

pub returns-in-Arguments : goal.returns-in-Arguments
returns-in-Arguments c =
    let h = rw c.in-Arguments.is at c.requires in
    rw c.in-Arguments.is (arguments_all _ c.args.taken h c.gather-in-Arguments.result c.gather-in-Arguments.ensures)

pub returns-in-Requirements : goal.returns-in-Requirements
returns-in-Requirements c =
    let h = rw c.in-Requirements.is at c.requires in
    rw c.in-Requirements.is (requirements_all _ c.args.taken h c.gather-in-Requirements.result c.gather-in-Requirements.ensures)

pub returns-in-Refuses : goal.returns-in-Refuses
unfolding take_step number
returns-in-Refuses c = rw c.in-Refuses.is (stops Spelling)

pub returns-in-PrintedAhead : goal.returns-in-PrintedAhead
returns-in-PrintedAhead c = rw c.in-PrintedAhead.is (ahead c.args.taken c.printed_ahead.ensures)
