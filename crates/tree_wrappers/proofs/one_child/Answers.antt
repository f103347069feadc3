use Rattle.std.proofs.Common.{refl, arith}
use Rattle.machine.specs.Kinds.{kind_of}
use Rattle.machine.specs.Wanted.{want_of}
use Rattle.tree_records.proofs.Exits.{failed}
use Rattle.tree_nodes.proofs.Ready.{ready_none}
use Rattle.tree_nodes.proofs.Steps.{refuses_first, fails}
use Rattle.tree_nodes.proofs.Trees.{stays_read, has_taken, record_at, place_at, room_at}
use Rattle.tree_wrappers.proofs.Over.{one_child}
use Rattle.tree_wrappers.proofs.one_child.Goals as goal

pub pop_if-requires : goal.pop_if-requires
pop_if-requires c = ready_none c.requires

pub returns-in_err-place-clause-operates : goal.returns-in_err-place-clause-operates
returns-in_err-place-clause-operates c = λ f o. rw (failed c.from_residual.ensures.1) (fails (λ _. refuses_first _ c.in_err-place.ensures.takes))

pub field-size-requires : goal.field-size-requires
field-size-requires c = (record_at (has_taken (stays_read c.pop_if.ensures.reads) c.in_ok-place.ensures.takes c.requires) _ c.in_ok-place.ensures.takes.below, omega arith)

pub overflow_cast-place : goal.overflow_cast-place
overflow_cast-place c = place_at (has_taken (stays_read c.pop_if.ensures.reads) c.in_ok-place.ensures.takes c.requires) _ c.in_ok-place.ensures.takes.below

pub push_new-requires : goal.push_new-requires
push_new-requires c = room_at (has_taken (stays_read c.pop_if.ensures.reads) c.in_ok-place.ensures.takes c.requires) (omega arith) (omega arith) (omega arith)

pub returns-clause-operates : goal.returns-clause-operates
returns-clause-operates c = λ f o.
    let r = c.pop_if.ensures.reads in
    one_child (want_of c.args.want) f (kind_of c.args.kind) _ _ o (cc) refl c.in_ok-place.ensures.takes (rw r.ceiling at c.push_new.ensures.left)
