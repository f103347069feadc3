use Rattle.std.proofs.Common.{refl, arith}
use Rattle.machine.specs.Wanted.{want_of}
use Rattle.tree_nodes.proofs.Taking.{place_inside, took_below, try_empty, try_gives, try_leaves}
use Rattle.tree_nodes.proofs.take.try_pop.Goals as goal

pub returns-in_err-place-clause-tries : goal.returns-in_err-place-clause-tries
returns-in_err-place-clause-tries c = rw c.from_residual.ensures (record { same = refl; leaves = λ nm sp m h. try_empty (want_of c.args.want) m (c.in_err-place.ensures nm sp m h) })

pub field-requires : goal.field-requires
field-requires c = (place_inside _ (took_below c.in_ok-place.ensures c.requires) c.requires, omega arith)

pub returns-then-not-wanted-clause-tries : goal.returns-then-not-wanted-clause-tries
returns-then-not-wanted-clause-tries c = record { same = refl; leaves = try_leaves (want_of c.args.want) c.in_ok-place.ensures (cc) }

pub returns-clause-tries : goal.returns-clause-tries
returns-clause-tries c = try_gives (want_of c.args.want) c.in_ok-place.ensures c.requires (cc)
