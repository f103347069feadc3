use Rattle.tree_records.proofs.Exits.{failed}
use Rattle.tree_nodes.proofs.Ready.{ready_none}
use Rattle.tree_requirements.proofs.Requirements.{pair_entity, pair_room, conforms, superclass, same_type, conforms_not, superclass_not, same_type_not, constrains_at}
use Rattle.tree_requirements.proofs.constrain.Goals as goal

pub protocol-requires : goal.protocol-requires
protocol-requires c = ready_none c.requires.ready

pub returns-in_err-q-in-Conforms-clause-constrains : goal.returns-in_err-q-in-Conforms-clause-constrains
returns-in_err-q-in-Conforms-clause-constrains c = let k = c.in_err-q-in-Conforms.ensures.takes in rw (failed c.from_residual.ensures.1) (conforms_not c.requires c.args.constraint c.in-Conforms.is (k.refuses, k.beyond))

pub push_pair-requires-clause-entity : goal.push_pair-requires-clause-entity
push_pair-requires-clause-entity c = rw c.protocol.ensures.stays.ceiling (pair_entity c.requires c.in_ok-q-in-Conforms.ensures.takes)

pub push_pair-requires-clause-inside : goal.push_pair-requires-clause-inside
push_pair-requires-clause-inside c = rw c.protocol.ensures.stays.ceiling (pair_room c.requires c.in_ok-q-in-Conforms.ensures.takes)

pub returns-in_ok-q-in-Conforms-clause-constrains : goal.returns-in_ok-q-in-Conforms-clause-constrains
returns-in_ok-q-in-Conforms-clause-constrains c = conforms c.requires c.args.constraint c.in-Conforms.is c.in_ok-q-in-Conforms.ensures.takes (rw c.protocol.ensures.stays.ceiling at c.push_pair.ensures.left)

pub pop_if-requires : goal.pop_if-requires
pop_if-requires c = ready_none c.requires.ready

pub returns-in_err-q-in-Superclass-clause-constrains : goal.returns-in_err-q-in-Superclass-clause-constrains
returns-in_err-q-in-Superclass-clause-constrains c = let k = c.in_err-q-in-Superclass.ensures.takes in rw (failed c.from_residual-in_err-q-in-Superclass.ensures.1) (superclass_not c.requires c.args.constraint c.in-Superclass.is (k.refuses, k.beyond))

pub push_pair-requires-in-Superclass-clause-entity : goal.push_pair-requires-in-Superclass-clause-entity
push_pair-requires-in-Superclass-clause-entity c = rw c.pop_if.ensures.reads.ceiling (pair_entity c.requires c.in_ok-q-in-Superclass.ensures.takes)

pub push_pair-requires-in-Superclass-clause-inside : goal.push_pair-requires-in-Superclass-clause-inside
push_pair-requires-in-Superclass-clause-inside c = rw c.pop_if.ensures.reads.ceiling (pair_room c.requires c.in_ok-q-in-Superclass.ensures.takes)

pub returns-in_ok-q-in-Superclass-clause-constrains : goal.returns-in_ok-q-in-Superclass-clause-constrains
returns-in_ok-q-in-Superclass-clause-constrains c = superclass c.requires c.args.constraint c.in-Superclass.is c.in_ok-q-in-Superclass.ensures.takes (rw c.pop_if.ensures.reads.ceiling at c.push_pair-in-Superclass.ensures.left)

pub pop_if-requires-in-SameType : goal.pop_if-requires-in-SameType
pop_if-requires-in-SameType c = ready_none c.requires.ready

pub returns-in_err-q-in-SameType-clause-constrains : goal.returns-in_err-q-in-SameType-clause-constrains
returns-in_err-q-in-SameType-clause-constrains c = let k = c.in_err-q-in-SameType.ensures.takes in rw (failed c.from_residual-in_err-q-in-SameType.ensures.1) (same_type_not c.requires c.args.constraint c.in-SameType.is (k.refuses, k.beyond))

pub push_pair-requires-in-SameType-clause-entity : goal.push_pair-requires-in-SameType-clause-entity
push_pair-requires-in-SameType-clause-entity c = rw c.pop_if-in-SameType.ensures.reads.ceiling (pair_entity c.requires c.in_ok-q-in-SameType.ensures.takes)

pub push_pair-requires-in-SameType-clause-inside : goal.push_pair-requires-in-SameType-clause-inside
push_pair-requires-in-SameType-clause-inside c = rw c.pop_if-in-SameType.ensures.reads.ceiling (pair_room c.requires c.in_ok-q-in-SameType.ensures.takes)

pub returns-in_ok-q-in-SameType-clause-constrains : goal.returns-in_ok-q-in-SameType-clause-constrains
returns-in_ok-q-in-SameType-clause-constrains c = same_type c.requires c.args.constraint c.in-SameType.is c.in_ok-q-in-SameType.ensures.takes (rw c.pop_if-in-SameType.ensures.reads.ceiling at c.push_pair-in-SameType.ensures.left)

pub returns-in-Layout-clause-constrains : goal.returns-in-Layout-clause-constrains
returns-in-Layout-clause-constrains c = constrains_at c.args.constraint _ c.in-Layout.is c.layout.ensures.constrains
