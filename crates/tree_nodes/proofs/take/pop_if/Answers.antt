use Rattle.std.proofs.Common.{arith}
use Rattle.machine.specs.Wanted.{want_of}
use Rattle.tree_records.proofs.Exits.{failed}
use Rattle.tree_nodes.proofs.Taking.{pop_if_empty, pop_if_gives, pop_if_refused, try_empty, try_gives, try_leaves}
use Rattle.tree_nodes.proofs.Trees.{bare_refuses, read_refuses, popped_in}
use Rattle.tree_nodes.proofs.take.pop_if.Goals as goal

pub returns-in_err-place-clause-takes : goal.returns-in_err-place-clause-takes
returns-in_err-place-clause-takes c = rw (failed c.from_residual.ensures.1) (bare_refuses (pop_if_empty (want_of c.args.want)) c.in_err-place.ensures.pops)

pub field-requires : goal.field-requires
field-requires c = (popped_in c.pop.ensures.reads c.in_ok-place.ensures.pops c.requires, omega arith)

pub returns-then-not-wanted-clause-takes : goal.returns-then-not-wanted-clause-takes
returns-then-not-wanted-clause-takes c = read_refuses c.pop.ensures.reads (pop_if_refused (want_of c.args.want) c.in_ok-place.ensures.pops (cc))

pub returns-clause-takes : goal.returns-clause-takes
returns-clause-takes c = rw c.pop.ensures.reads.slice (pop_if_gives (want_of c.args.want) c.in_ok-place.ensures.pops c.requires (cc))

pub returns-in_err-place-clause-tries : goal.returns-in_err-place-clause-tries
returns-in_err-place-clause-tries c = rw (failed c.from_residual.ensures.1) (λ nm sp m h. try_empty (want_of c.args.want) m (c.in_err-place.ensures.pops.0 nm sp m h))

pub returns-then-not-wanted-clause-tries : goal.returns-then-not-wanted-clause-tries
returns-then-not-wanted-clause-tries c = try_leaves (want_of c.args.want) c.in_ok-place.ensures.pops (cc)

pub returns-clause-tries : goal.returns-clause-tries
returns-clause-tries c = try_gives (want_of c.args.want) c.in_ok-place.ensures.pops c.requires (cc)
