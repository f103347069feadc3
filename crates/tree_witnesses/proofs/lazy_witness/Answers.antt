use Rattle.std.proofs.Common.{arith}
use Rattle.definition.specs.Perform as R
use Rattle.tree_records.proofs.Exits.{failed}
use Rattle.tree_nodes.proofs.Ready.{ready_none}
use Rattle.tree_nodes.proofs.Steps.{refuses_first, fails}
use Rattle.tree_nodes.proofs.Trees.{stays_read, has_taken, place_at, room_at}
use Rattle.tree_witnesses.proofs.Recording.{but_one, ready_one, has_built}
use Rattle.tree_witnesses.proofs.Witnessing.{lazy_left, lazy_second}
use Rattle.tree_witnesses.proofs.lazy_witness.Goals as goal

pub conformance-requires : goal.conformance-requires
conformance-requires c = ready_one (omega arith) c.requires

pub returns-in_err-whole-clause-operates : goal.returns-in_err-whole-clause-operates
unfolding R.lazy_witness
returns-in_err-whole-clause-operates c = rw (failed c.from_residual.ensures.1) (fails (λ _. refuses_first _ c.in_err-whole.ensures.builds))

pub pop_if-requires : goal.pop_if-requires
pop_if-requires c = ready_none (has_built but_one c.conformance.ensures.stays c.in_ok-whole.ensures.builds c.requires)

pub returns-in_err-ty-clause-operates : goal.returns-in_err-ty-clause-operates
returns-in_err-ty-clause-operates c = rw (failed c.from_residual-in_err-ty.ensures.1) (lazy_second c.args.name c.conformance.ensures.stays c.in_ok-whole.ensures.builds c.in_err-ty.ensures.takes)

pub overflow_cast-ty : goal.overflow_cast-ty
overflow_cast-ty c = place_at (has_taken (stays_read c.pop_if.ensures.reads) c.in_ok-ty.ensures.takes (has_built but_one c.conformance.ensures.stays c.in_ok-whole.ensures.builds c.requires)) _ c.in_ok-ty.ensures.takes.below

pub overflow_cast-whole : goal.overflow_cast-whole
overflow_cast-whole c = place_at (has_taken (stays_read c.pop_if.ensures.reads) c.in_ok-ty.ensures.takes (has_built but_one c.conformance.ensures.stays c.in_ok-whole.ensures.builds c.requires)) _ (omega (arith, c.in_ok-whole.ensures.builds.below, c.in_ok-ty.ensures.takes.rising))

pub push_new-requires : goal.push_new-requires
push_new-requires c = room_at (has_taken (stays_read c.pop_if.ensures.reads) c.in_ok-ty.ensures.takes (has_built but_one c.conformance.ensures.stays c.in_ok-whole.ensures.builds c.requires)) (omega arith) (omega arith) (omega arith)

pub returns-clause-operates : goal.returns-clause-operates
returns-clause-operates c = lazy_left c.args.name _ c.fixed_number.ensures c.in_ok-whole.ensures.builds (rw (c.pop_if.ensures.reads.slice, c.conformance.ensures.stays.ceiling) at c.in_ok-ty.ensures.takes) (rw (c.pop_if.ensures.reads.slice, c.pop_if.ensures.reads.ceiling, c.conformance.ensures.stays.ceiling) at c.push_new.ensures.left)
