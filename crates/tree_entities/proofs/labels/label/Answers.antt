use Rattle.std.proofs.Common.{◌≡◌, ◌∙◌, refl, sym, arith}
use Rattle.tree_records.specs.Lies.{at}
use Rattle.tree_records.proofs.Exits.{failed}
use Rattle.tree_nodes.proofs.Trees.{bare_refuses, read_refuses, popped_in}
use Rattle.tree_entities.specs.LabelsOf.{one_label}
use Rattle.tree_entities.proofs.labels.LabelLists.{cell_named, cell_bare, no_label, label_empty}
use Rattle.tree_entities.proofs.labels.label.Goals as goal

pub returns-in_err-place-clause-takes : goal.returns-in_err-place-clause-takes
returns-in_err-place-clause-takes c = let k = bare_refuses {f = one_label} label_empty c.in_err-place.ensures.pops in rw (failed c.from_residual.ensures.1) (k.refuses, k.beyond)

pub field-kind-requires : goal.field-kind-requires
field-kind-requires c = (popped_in c.pop.ensures.reads c.in_ok-place.ensures.pops c.requires, omega arith)

pub field-name-requires : goal.field-name-requires
field-name-requires c = (popped_in c.pop.ensures.reads c.in_ok-place.ensures.pops c.requires, omega arith)

pub returns-then-kind-clause-takes : goal.returns-then-kind-clause-takes
returns-then-kind-clause-takes c = let r = c.pop.ensures.reads in rw c.grow.ensures.place (cell_named c.in_ok-place.ensures.pops (rw (r.slice, r.ceiling) at c.grow.ensures.grew) (cc) (cc))

pub returns-then-kind-2-clause-takes : goal.returns-then-kind-2-clause-takes
returns-then-kind-2-clause-takes c = let e : at c.args.trees.now.ws.now c.in_ok-place.place 0 ≡ c.field-kind.result = cc in let k = read_refuses {f = one_label} c.pop.ensures.reads (no_label c.in_ok-place.ensures.pops (λ q. c.if-kind.false (sym e ∙ q)) (λ q. c.if-kind-2.true (sym e ∙ q))) in (k.refuses, k.beyond)

pub returns-clause-takes : goal.returns-clause-takes
returns-clause-takes c = let r = c.pop.ensures.reads in let e : at c.args.trees.now.ws.now c.in_ok-place.place 0 ≡ c.field-kind.result = cc in rw c.grow-2.ensures.place (cell_bare c.in_ok-place.ensures.pops (rw (r.slice, r.ceiling) at c.grow-2.ensures.grew) refl (λ q. c.if-kind.false (sym e ∙ q)) (cc))
