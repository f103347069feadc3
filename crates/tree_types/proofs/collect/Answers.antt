use Rattle.std.proofs.Common.{refl}
use Rattle.tree_records.proofs.Exits.{failed}
use Rattle.tree_nodes.proofs.Trees.{stays_then}
use Rattle.tree_types.specs.TypeLists.{loop_of}
use Rattle.tree_types.proofs.Collecting.{going_start, going_more, going_last, going_refused}
use Rattle.tree_types.proofs.collect.Goals as goal

pub rounds-init : goal.rounds-init
rounds-init c = record { stays = record { slice = refl; ceiling = refl }; going = going_start (loop_of c.args.of) c.requires }

pub returns-in_err-last-clause-collects : goal.returns-in_err-last-clause-collects
returns-in_err-last-clause-collects c = rw (failed c.from_residual.ensures.1) (going_refused (loop_of c.args.of) c.rounds.invariant.going (rw c.rounds.invariant.stays.ceiling at c.in_err-last.ensures.rounds))

pub returns-then-last-clause-collects : goal.returns-then-last-clause-collects
returns-then-last-clause-collects c = going_last (loop_of c.args.of) c.rounds.invariant.going (rw (c.rounds.invariant.stays.ceiling, c.if-last.true) at c.in_ok-last.ensures.rounds.0)

pub rounds-preserved : goal.rounds-preserved
rounds-preserved c =
    let i = c.rounds.invariant in
    let t = c.in_ok-last.ensures.rounds in
    record { stays = stays_then i.stays c.one_round.ensures.stays; going = going_more (loop_of c.args.of) i.going (rw (i.stays.ceiling, c.if-last.false) at t.0, t.1 c.if-last.false) }
