use Rattle.tree_types.proofs.one_round.Goals as goal

pub returns-in-Elements-clause-rounds : goal.returns-in-Elements-clause-rounds
returns-in-Elements-clause-rounds c = rw c.in-Elements.is c.element.ensures.rounds

pub returns-in-Arguments-clause-rounds : goal.returns-in-Arguments-clause-rounds
returns-in-Arguments-clause-rounds c = rw c.in-Arguments.is c.argument.ensures.rounds

pub returns-in-Requirements-clause-rounds : goal.returns-in-Requirements-clause-rounds
returns-in-Requirements-clause-rounds c = rw c.in-Requirements.is c.one_requirement.ensures.rounds

pub returns-in-Members-clause-rounds : goal.returns-in-Members-clause-rounds
returns-in-Members-clause-rounds c = rw c.in-Members.is c.member.ensures.rounds
