use Rattle.std.proofs.Common.{◌≡◌, arith, ne_eqb, eq-eqb}
use Rattle.tree_records.specs.Lies.{at}
use Rattle.tree_records.proofs.Exits.{failed}
use Rattle.tree_nodes.proofs.Contexts.{context_direct, context_refused, context_module, context_empty}
use Rattle.tree_nodes.proofs.Trees.{bare_refuses, read_refuses, popped_in}
use Rattle.tree_nodes.proofs.take.context.Goals as goal

pub returns-in_err-place-clause-takes : goal.returns-in_err-place-clause-takes
returns-in_err-place-clause-takes c = rw (failed c.from_residual.ensures.1) (bare_refuses context_empty c.in_err-place.ensures.pops)

pub field-kind-requires : goal.field-kind-requires
field-kind-requires c = (popped_in c.pop.ensures.reads c.in_ok-place.ensures.pops c.requires, omega arith)

pub field-name-requires : goal.field-name-requires
field-name-requires c = (popped_in c.pop.ensures.reads c.in_ok-place.ensures.pops c.requires, omega arith)

pub returns-then-kind-clause-takes : goal.returns-then-kind-clause-takes
returns-then-kind-clause-takes c =
    let r = c.pop.ensures.reads in
    rw c.grow.ensures.place (context_module c.in_ok-place.ensures.pops _ (cc) c.requires (let e : at c.args.trees.now.ws.now c.in_ok-place.place 0 ≡ c.field-kind.result = cc in rw e (eq-eqb _ _ c.if-kind.true)) (rw (r.slice, r.ceiling) at c.grow.ensures.grew))

pub returns-then-not-is_context-clause-takes : goal.returns-then-not-is_context-clause-takes
returns-then-not-is_context-clause-takes c = read_refuses c.pop.ensures.reads (context_refused c.in_ok-place.ensures.pops (let e : at c.args.trees.now.ws.now c.in_ok-place.place 0 ≡ c.field-kind.result = cc in rw e (ne_eqb _ _ c.if-kind.false)) (cc))

pub returns-clause-takes : goal.returns-clause-takes
returns-clause-takes c = rw c.pop.ensures.reads.slice (context_direct c.in_ok-place.ensures.pops c.requires (let e : at c.args.trees.now.ws.now c.in_ok-place.place 0 ≡ c.field-kind.result = cc in rw e (ne_eqb _ _ c.if-kind.false)) (cc))
