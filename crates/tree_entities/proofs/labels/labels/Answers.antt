use Rattle.std.proofs.Common.{◌∙◌, sym}
use Rattle.tree_nodes.proofs.Trees.{has_marked}
use Rattle.tree_entities.proofs.labels.Arities.{treed_itself}
use Rattle.tree_entities.proofs.labels.LabelLists.{labels_empty, labels_none, labels_many}
use Rattle.tree_entities.proofs.labels.labels.Goals as goal

pub returns-then-took-clause-takes : goal.returns-then-took-clause-takes
returns-then-took-clause-takes c = λ nm x l. rw c.took.ensures.reads.slice (labels_empty nm c.took.ensures.marks x c.if-took.true)

pub arity-many-requires-clause-treed : goal.arity-many-requires-clause-treed
arity-many-requires-clause-treed c = rw c.took.ensures.reads.slice (treed_itself c.requires.treed)

pub returns-then-many-eq0-clause-takes : goal.returns-then-many-eq0-clause-takes
returns-then-many-eq0-clause-takes c = λ nm x l. rw c.took.ensures.reads.slice (labels_none nm c.took.ensures.marks x c.if-took.false (sym (c.arity-many.ensures nm x (rw c.took.ensures.reads.slice l)) ∙ c.if-many-eq0.true))

pub labels_from-requires : goal.labels_from-requires
labels_from-requires c = has_marked c.took.ensures.reads c.took.ensures.marks c.requires.ready

pub returns-clause-takes : goal.returns-clause-takes
returns-clause-takes c = λ nm x l. labels_many nm c.took.ensures.marks x c.labels_from.new.trees.ws.now c.labels_from.new.trees.state _ c.labels_from.result c.if-took.false (c.arity-many.ensures nm x (rw c.took.ensures.reads.slice l)) c.if-many-eq0.false (rw (c.took.ensures.reads.slice, c.took.ensures.reads.ceiling) at (c.labels_from.ensures.takes nm))
