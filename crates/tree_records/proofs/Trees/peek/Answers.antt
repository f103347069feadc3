use Rattle.tree_records.proofs.Tops.{empty_stack}
use Rattle.tree_records.proofs.Trees.peek.Goals as goal

pub returns-then-self-eq0 : goal.returns-then-self-eq0
returns-then-self-eq0 c = λ nm sp m h. empty_stack h c.if-self-eq0.true
