use Rattle.check_takes.proofs.Rounds.{requirement_more, requirement_last}
use Rattle.check_takes.proofs.lists.RequirementsList.round.Goals as goal

pub returns-in-Some : goal.returns-in-Some
returns-in-Some c = requirement_more c.add_counted.ensures c.in-Some.ensures

pub returns-in-None : goal.returns-in-None
returns-in-None c = requirement_last c.in-None.ensures c.args.taken
