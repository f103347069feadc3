use Rattle.std.proofs.Common.{◌∙◌}
use Rattle.tree_entities.proofs.labels.Arities.{arity_inner, arity_itself, inner_inside}
use Rattle.tree_entities.proofs.labels.arity.Goals as goal

pub arity_of-requires : goal.arity_of-requires
arity_of-requires c = rw c.child.ensures.0 (inner_inside c.requires.treed c.requires.ty_in_bounds (cc))

pub returns-then-field : goal.returns-then-field
returns-then-field c = λ nm x l. arity_inner nm c.args.trees.now.ws.now c.args.ty x l _ (cc) (λ nm₁ y h. c.arity_of.ensures nm₁ y (rw c.child.ensures.0 h))

pub returns : goal.returns
returns c = λ nm x l. arity_itself nm c.args.trees.now.ws.now c.args.ty x l _ (λ e. c.if-field.false (c.field.ensures ∙ e)) (c.arity_of-2.ensures nm x l)
