use Rattle.std.proofs.Common.{arith}
use Rattle.print_tree.proofs.LeafLaws.{list_32, list_33, list_34, list_35, list_36, list_37}
use Rattle.print_tree.proofs.list_form.Goals as goal

pub returns-in-32 : goal.returns-in-32
returns-in-32 c = (list_32 c.args.from.now.ws.now c.args.place c.in-32.is c.field.ensures.0, c.field.ensures.1)

pub returns-in-33 : goal.returns-in-33
returns-in-33 c = (list_33 c.args.from.now.ws.now c.args.place c.in-33.is c.field-in-33.ensures.0, c.field-in-33.ensures.1)

pub returns-in-34 : goal.returns-in-34
returns-in-34 c = (list_34 c.args.from.now.ws.now c.args.place c.in-34.is c.field-in-34.ensures.0, c.field-in-34.ensures.1)

pub returns-in-36 : goal.returns-in-36
returns-in-36 c = (list_36 c.args.from.now.ws.now c.args.place c.in-36.is c.field-in-36.ensures.0, c.field-in-36.ensures.1)

pub returns-in-35 : goal.returns-in-35
returns-in-35 c = (list_35 c.args.from.now.ws.now c.args.place c.in-35.is, omega arith)

pub returns-in_default : goal.returns-in_default
returns-in_default c = (list_37 c.args.from.now.ws.now c.args.place (omega (arith, c.requires.le_code)) c.field-in_default.ensures.0, c.field-in_default.ensures.1)
