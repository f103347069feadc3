use Rattle.std.proofs.Common.{arith}
use Rattle.definition.specs.Base.{bytes}
use Rattle.print_names.specs.Naming.{naming_of}
use Rattle.print_names.proofs.Numbers.{optional_alone, array_alone, dictionary_alone}
use Rattle.print_forms.proofs.FormLaws.{base_some, sugar_optional, sugar_array, sugar_dictionary, sugar_no_single, sugar_no_pair, sugar_no_count, standard_so}
use Rattle.print_forms.proofs.sugar_of.Goals as goal

pub standard-requires : goal.standard-requires
unfolding bytes
standard-requires c = let b = base_some (naming_of c.args.from.now) c.args.from.now.ws.now c.args.place c.requires.bound c.field-base.ensures.0 c.requires.some in record { inside = omega (arith, c.field-base.ensures.0, c.requires.inside, b.0); some = b.1; alone = optional_alone }

pub returns-then-standard : goal.returns-then-standard
unfolding bytes
returns-then-standard c = sugar_optional (naming_of c.args.from.now) c.args.from.now.ws.now c.args.place c.field-base.ensures.0 c.field-count.ensures.0 c.if-count-eq1.true (standard_so c.if-standard.true c.standard.ensures)

pub standard-requires-then-count-eq1 : goal.standard-requires-then-count-eq1
unfolding bytes
standard-requires-then-count-eq1 c = let b = base_some (naming_of c.args.from.now) c.args.from.now.ws.now c.args.place c.requires.bound c.field-base.ensures.0 c.requires.some in record { inside = omega (arith, c.field-base.ensures.0, c.requires.inside, b.0); some = b.1; alone = array_alone }

pub returns-then-standard-2 : goal.returns-then-standard-2
unfolding bytes
returns-then-standard-2 c = sugar_array (naming_of c.args.from.now) c.args.from.now.ws.now c.args.place c.field-base.ensures.0 c.field-count.ensures.0 c.if-count-eq1.true (standard_so c.if-standard-2.true c.standard-then-count-eq1.ensures)

pub returns-then-count-eq1 : goal.returns-then-count-eq1
unfolding bytes
returns-then-count-eq1 c = sugar_no_single (naming_of c.args.from.now) c.args.from.now.ws.now c.args.place c.field-base.ensures.0 c.field-count.ensures.0 c.if-count-eq1.true (standard_so c.if-standard.false c.standard.ensures) (standard_so c.if-standard-2.false c.standard-then-count-eq1.ensures)

pub standard-requires-then-count-eq2 : goal.standard-requires-then-count-eq2
unfolding bytes
standard-requires-then-count-eq2 c = let b = base_some (naming_of c.args.from.now) c.args.from.now.ws.now c.args.place c.requires.bound c.field-base.ensures.0 c.requires.some in record { inside = omega (arith, c.field-base.ensures.0, c.requires.inside, b.0); some = b.1; alone = dictionary_alone }

pub returns-then-standard-3 : goal.returns-then-standard-3
unfolding bytes
returns-then-standard-3 c = sugar_dictionary (naming_of c.args.from.now) c.args.from.now.ws.now c.args.place c.field-base.ensures.0 c.field-count.ensures.0 c.if-count-eq2.true (standard_so c.if-standard-3.true c.standard-then-count-eq2.ensures)

pub returns-then-count-eq2 : goal.returns-then-count-eq2
unfolding bytes
returns-then-count-eq2 c = sugar_no_pair (naming_of c.args.from.now) c.args.from.now.ws.now c.args.place c.field-base.ensures.0 c.field-count.ensures.0 c.if-count-eq2.true (standard_so c.if-standard-3.false c.standard-then-count-eq2.ensures)

pub returns : goal.returns
returns c = sugar_no_count (naming_of c.args.from.now) c.args.from.now.ws.now c.args.place c.field-base.ensures.0 c.field-count.ensures.0 c.if-count-eq1.false c.if-count-eq2.false
