use Rattle.definition.specs.Enums as E
use Rattle.tree_requirements.proofs.Requirements.{layout_broken, layout_entity, layout_room, layout_done}
use Rattle.tree_requirements.proofs.layout.Goals as goal

pub returns-then-not-reads-clause-constrains : goal.returns-then-not-reads-clause-constrains
returns-then-not-reads-clause-constrains c = layout_broken c.requires _ c.if-not-reads.true

pub push_pair-requires-clause-entity : goal.push_pair-requires-clause-entity
unfolding E.nominal_kind
push_pair-requires-clause-entity c = rw c.standard_nominal-q.ensures.stays.ceiling (layout_entity c.requires c.standard_nominal-q.ensures.makes)

pub push_pair-requires-clause-inside : goal.push_pair-requires-clause-inside
unfolding E.nominal_kind
push_pair-requires-clause-inside c = rw c.standard_nominal-q.ensures.stays.ceiling (layout_room c.requires c.standard_nominal-q.ensures.makes)

pub returns-clause-constrains : goal.returns-clause-constrains
unfolding E.nominal_kind
returns-clause-constrains c = layout_done c.requires c.standard_nominal-q.ensures.makes _ c.if-not-reads.false (rw c.standard_nominal-q.ensures.stays.ceiling at c.push_pair.ensures.left)
