use Rattle.std.proofs.Common.{◌≡◌, ◌+◌, ◌-◌, refl, arith}
use Rattle.tree_records.proofs.Exits.{failed}
use Rattle.tree_nodes.proofs.Trees.{stays_then}
use Rattle.tree_entities.proofs.labels.LabelLists.{labels_start, labels_ready, labels_more, labels_fail, labels_end, cell_place}
use Rattle.tree_entities.proofs.labels.labels_from.Goals as goal

pub loop-i-init : goal.loop-i-init
loop-i-init c = let e : c.args.many - 0 ≡ c.args.many = omega arith in record { stays = record { slice = refl; ceiling = refl }; labels = rw e (labels_start _ _ _ _ _) }

pub label-requires : goal.label-requires
label-requires c = rw c.loop-i.invariant.stays.ceiling (labels_ready c.loop-i.invariant.labels c.requires)

pub returns-in_err-first-clause-takes : goal.returns-in_err-first-clause-takes
returns-in_err-first-clause-takes c = let k = rw c.loop-i.invariant.stays.ceiling at c.in_err-first.ensures.takes in λ nm. rw (failed c.from_residual.ensures.1) (labels_fail c.loop-i.invariant.labels (omega arith) k nm)

pub overflow_cast-first : goal.overflow_cast-first
overflow_cast-first c = record { fits = cell_place (rw c.loop-i.invariant.stays.ceiling at c.in_ok-first.ensures.takes) (labels_ready c.loop-i.invariant.labels c.requires) }

pub loop-i-preserved : goal.loop-i-preserved
loop-i-preserved c =
    let s = c.loop-i.invariant.stays in
    let q : c.args.many - (c.loop-i._i + 1) ≡ c.args.many - c.loop-i._i - 1 = omega arith in
    record { stays = stays_then s c.label.ensures.stays; labels = rw q (labels_more c.loop-i.invariant.labels _ refl (omega arith) (rw s.ceiling at c.in_ok-first.ensures.takes)) }

pub returns-clause-takes : goal.returns-clause-takes
returns-clause-takes c = let z : c.args.many - c.loop-i._i ≡ 0 = omega arith in labels_end c.loop-i.invariant.labels z
