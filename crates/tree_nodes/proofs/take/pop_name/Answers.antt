use Rattle.std.proofs.Common.{◌≡◌, ne_eqb, eq-eqb, arith}
use Rattle.definition.specs.Kind as K
use Rattle.tree_records.specs.Lies.{at}
use Rattle.tree_records.proofs.Exits.{failed}
use Rattle.tree_nodes.proofs.Taking.{name_empty, name_gives, name_refused}
use Rattle.tree_nodes.proofs.Trees.{bare_refuses, read_refuses, popped_in}
use Rattle.tree_nodes.proofs.take.pop_name.Goals as goal

pub returns-in_err-place-clause-takes : goal.returns-in_err-place-clause-takes
returns-in_err-place-clause-takes c = rw (failed c.from_residual.ensures.1) (bare_refuses name_empty c.in_err-place.ensures.pops)

pub field-requires : goal.field-requires
field-requires c = (popped_in c.pop.ensures.reads c.in_ok-place.ensures.pops c.requires, omega arith)

pub returns-then-field-clause-takes : goal.returns-then-field-clause-takes
returns-then-field-clause-takes c = read_refuses c.pop.ensures.reads (name_refused K.is_identifier c.in_ok-place.ensures.pops (let e : at c.args.trees.now.ws.now c.in_ok-place.place 0 ≡ c.field.result = cc in rw e (ne_eqb _ _ c.if-field.true)))

pub field-requires-2 : goal.field-requires-2
field-requires-2 c = (popped_in c.pop.ensures.reads c.in_ok-place.ensures.pops c.requires, omega arith)

pub returns-clause-takes : goal.returns-clause-takes
returns-clause-takes c = name_gives K.is_identifier c.in_ok-place.ensures.pops (cc) (let e : at c.args.trees.now.ws.now c.in_ok-place.place 0 ≡ c.field.result = cc in rw e (eq-eqb _ _ c.if-field.false))
