use Rattle.print_names.specs.Naming.{naming_of}
use Rattle.print_labels.proofs.LabelLaws.{own_label_of, label_own, label_missing, first_is_named, puts_marker, puts_first}
use Rattle.print_labels.proofs.put_label.Goals as goal

pub put_named_label-requires : goal.put_named_label-requires
put_named_label-requires c = let n = own_label_of (naming_of c.args.from.now) c.args.from.now.ws.now c.args.own c.args.l c.if-l-eq0.true c.if-own-ne-ABSENT.true c.requires.some.is in record { some = record { text = n.name; is = n.named } }

pub returns-then-own-ne-ABSENT : goal.returns-then-own-ne-ABSENT
returns-then-own-ne-ABSENT c = label_own (naming_of c.args.from.now) c.args.from.now.ws.now c.args.own c.args.l c.if-l-eq0.true c.if-own-ne-ABSENT.true c.put_named_label.ensures

pub returns-else-own-ne-ABSENT : goal.returns-else-own-ne-ABSENT
returns-else-own-ne-ABSENT c = label_missing (naming_of c.args.from.now) c.args.from.now.ws.now c.args.own c.args.l c.args.out.now c.if-l-eq0.true c.if-own-ne-ABSENT.false

pub returns-then-label-eq-ABSENT : goal.returns-then-label-eq-ABSENT
returns-then-label-eq-ABSENT c = puts_marker (naming_of c.args.from.now) c.args.from.now.ws.now c.args.own c.args.l c.field-cell.ensures.0 c.field-label.ensures.0 c.if-l-eq0.false c.if-label-eq-ABSENT.true c.put_text.ensures c.put_text-then-label-eq-ABSENT.ensures

pub put_named_label-requires-2 : goal.put_named_label-requires-2
put_named_label-requires-2 c = let n = first_is_named (naming_of c.args.from.now) c.args.from.now.ws.now c.args.own c.args.l c.field-cell.ensures.0 c.field-label.ensures.0 c.if-l-eq0.false c.if-label-eq-ABSENT.false c.requires.some.is in record { some = record { text = n.name; is = n.named } }

pub returns : goal.returns
returns c = puts_first (naming_of c.args.from.now) c.args.from.now.ws.now c.args.own c.args.l c.field-cell.ensures.0 c.field-label.ensures.0 c.if-l-eq0.false c.if-label-eq-ABSENT.false c.put_named_label-2.ensures
