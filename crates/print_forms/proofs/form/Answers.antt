use Rattle.std.proofs.Common.{refl, arith}
use Rattle.print_names.specs.Naming.{naming_of}
use Rattle.print_forms.specs.Forms.{Sugars}
use Rattle.print_forms.proofs.FormLaws.{form_signature, form_protocols, form_deinitializer, form_record, form_bound, form_accessor, form_other_accessor, form_low, form_kind, variable_below}
use Rattle.print_forms.proofs.form.Goals as goal

pub returns-then-kind : goal.returns-then-kind
returns-then-kind c = form_low (naming_of c.args.from.now) c.args.from.now.ws.now c.args.place c.field-kind.ensures.0 c.if-kind.true

pub returns-then-kind-2 : goal.returns-then-kind-2
returns-then-kind-2 c = form_signature (naming_of c.args.from.now) c.args.from.now.ws.now c.args.place c.field-kind.ensures.0 c.if-kind-2.true c.field-requirements.ensures.0 c.zero_or.ensures

pub returns-then-kind-3 : goal.returns-then-kind-3
returns-then-kind-3 c = form_protocols (naming_of c.args.from.now) c.args.from.now.ws.now c.args.place c.field-kind.ensures.0 c.if-kind-3.true c.field-members.ensures.0 c.zero_or-then-kind-3.ensures

pub returns-in-None : goal.returns-in-None
returns-in-None c =
    let s : Sugars (naming_of c.args.from.now) c.args.from.now.ws.now c.args.place 0 = c.in-None.ensures in
    form_bound (naming_of c.args.from.now) c.args.from.now.ws.now c.args.place c.field-kind.ensures.0 c.if-kind-4.true refl s (omega arith)

pub returns-in-Some-Optional : goal.returns-in-Some-Optional
returns-in-Some-Optional c =
    let s : Sugars (naming_of c.args.from.now) c.args.from.now.ws.now c.args.place 1 = rw c.in-Some-Optional.field-0-is at c.in-Some-Optional.ensures in
    form_bound (naming_of c.args.from.now) c.args.from.now.ws.now c.args.place c.field-kind.ensures.0 c.if-kind-4.true refl s (omega arith)

pub returns-in-Some-Array : goal.returns-in-Some-Array
returns-in-Some-Array c =
    let s : Sugars (naming_of c.args.from.now) c.args.from.now.ws.now c.args.place 2 = rw c.in-Some-Array.field-0-is at c.in-Some-Array.ensures in
    form_bound (naming_of c.args.from.now) c.args.from.now.ws.now c.args.place c.field-kind.ensures.0 c.if-kind-4.true refl s (omega arith)

pub returns-in-Some-Dictionary : goal.returns-in-Some-Dictionary
returns-in-Some-Dictionary c =
    let s : Sugars (naming_of c.args.from.now) c.args.from.now.ws.now c.args.place 3 = rw c.in-Some-Dictionary.field-0-is at c.in-Some-Dictionary.ensures in
    form_bound (naming_of c.args.from.now) c.args.from.now.ws.now c.args.place c.field-kind.ensures.0 c.if-kind-4.true refl s (omega arith)

pub field-below-requires : goal.field-below-requires
field-below-requires c =
    let b = variable_below (naming_of c.args.from.now) c.args.from.now.ws.now c.args.place c.field-kind.ensures.0 c.if-kind-5.true c.requires.some in
    (omega (arith, b, c.field-variable.ensures.0, c.requires.inside), omega arith)

pub returns-then-below : goal.returns-then-below
returns-then-below c = form_accessor (naming_of c.args.from.now) c.args.from.now.ws.now c.args.place c.field-kind.ensures.0 c.field-variable.ensures.0 c.field-below.ensures.0 c.if-kind-5.true c.if-below.true

pub returns-then-kind-5 : goal.returns-then-kind-5
returns-then-kind-5 c = form_other_accessor (naming_of c.args.from.now) c.args.from.now.ws.now c.args.place c.field-kind.ensures.0 c.field-variable.ensures.0 c.field-below.ensures.0 c.if-kind-5.true c.if-below.false

pub returns-then-kind-6 : goal.returns-then-kind-6
returns-then-kind-6 c = form_deinitializer (naming_of c.args.from.now) c.args.from.now.ws.now c.args.place c.field-kind.ensures.0 c.if-kind-6.true c.field-deallocating.ensures.0 c.zero_or-then-kind-6.ensures

pub returns-then-kind-7 : goal.returns-then-kind-7
returns-then-kind-7 c = form_record (naming_of c.args.from.now) c.args.from.now.ws.now c.args.place c.field-kind.ensures.0 c.if-kind-7.true c.field-words.ensures.0 c.record_form.ensures

pub returns : goal.returns
returns c = form_kind (naming_of c.args.from.now) c.args.from.now.ws.now c.args.place c.field-kind.ensures.0 c.requires.some c.if-kind-2.false c.if-kind-3.false c.if-kind-4.false c.if-kind-5.false c.if-kind-6.false c.if-kind-7.false
