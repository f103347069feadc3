use Rattle.text_spelling.proofs.Loops.{plain_put, plain_none}
use Rattle.text_spelling.proofs.put_name.Goals as goal

pub returns-in-Some : goal.returns-in-Some
returns-in-Some c = plain_put (record { text = c.args.text; at = c.args.p }) c.args.known c.requires c.if-next_if.ensures c.in-Some.ensures c.put.ensures

pub returns-in_default : goal.returns-in_default
returns-in_default c = plain_none (record { text = c.args.text; at = c.args.p }) c.args.known c.requires c.if-next_if.ensures c.in_default.ensures c.args.out.now
