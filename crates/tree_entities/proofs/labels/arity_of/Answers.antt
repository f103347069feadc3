use Rattle.std.proofs.Common.{◌∙◌}
use Rattle.tree_entities.proofs.labels.Arities.{arity_counted, arity_none}
use Rattle.tree_entities.proofs.labels.arity_of.Goals as goal

pub returns-then-field : goal.returns-then-field
returns-then-field c = λ nm x l. c.field-then-field.ensures ∙ arity_counted nm c.args.trees.now.ws.now c.args.place x l (cc)

pub returns : goal.returns
returns c = λ nm x l. arity_none nm c.args.trees.now.ws.now c.args.place x l (λ e. c.if-field.false (c.field.ensures ∙ e))
