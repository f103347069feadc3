use Rattle.std.proofs.Common.{refl, arith}
use Rattle.definition.specs.Enums as E
use Rattle.definition.specs.Perform as R
use Rattle.tree_records.proofs.Exits.{failed}
use Rattle.tree_nodes.proofs.Ready.{ready_none}
use Rattle.tree_nodes.proofs.Steps.{refuses_first, refuses_after, moves_named, fails}
use Rattle.tree_nodes.proofs.Trees.{has_taken, has_named, record_at, place_at, room_at}
use Rattle.tree_types.proofs.Nominals.{nominal_done}
use Rattle.tree_types.proofs.nominal.Goals as goal

pub pop_name-requires : goal.pop_name-requires
pop_name-requires c = ready_none c.requires

pub returns-in_err-name-clause-operates : goal.returns-in_err-name-clause-operates
unfolding R.nominal
returns-in_err-name-clause-operates c = rw (failed c.from_residual.ensures.1) (fails (λ _. refuses_first _ c.in_err-name.ensures.takes))

pub context-requires : goal.context-requires
context-requires c = ready_none (has_named c.pop_name.ensures.reads c.in_ok-name.ensures.takes c.requires)

pub returns-in_err-home-clause-operates : goal.returns-in_err-home-clause-operates
unfolding R.nominal
returns-in_err-home-clause-operates c = rw (failed c.from_residual-in_err-home.ensures.1) (fails (λ _. refuses_after _ c.requires (moves_named c.pop_name.ensures.reads c.in_ok-name.ensures.takes) (λ _ _ _ h0. refuses_first _ c.in_err-home.ensures.takes)))

pub field-size-requires : goal.field-size-requires
field-size-requires c = (record_at (has_taken c.context.ensures.stays c.in_ok-home.ensures.takes (has_named c.pop_name.ensures.reads c.in_ok-name.ensures.takes c.requires)) _ c.in_ok-home.ensures.takes.below, omega arith)

pub overflow_cast-home : goal.overflow_cast-home
overflow_cast-home c = place_at (has_taken c.context.ensures.stays c.in_ok-home.ensures.takes (has_named c.pop_name.ensures.reads c.in_ok-name.ensures.takes c.requires)) _ c.in_ok-home.ensures.takes.below

pub push_kept-requires : goal.push_kept-requires
push_kept-requires c = room_at (has_taken c.context.ensures.stays c.in_ok-home.ensures.takes (has_named c.pop_name.ensures.reads c.in_ok-name.ensures.takes c.requires)) (omega arith) (omega arith) (omega arith)

pub returns-clause-operates : goal.returns-clause-operates
returns-clause-operates c = nominal_done (E.nominal_kind c.args.kind) _ _ _ _ _ c.from.ensures (cc) refl c.in_ok-name.ensures.takes (rw (c.pop_name.ensures.reads.slice, c.pop_name.ensures.reads.ceiling) at c.in_ok-home.ensures.takes) (rw (c.context.ensures.stays.ceiling, c.pop_name.ensures.reads.ceiling) at c.push_kept.ensures.kept)
