use Rattle.std.proofs.Common.{sym, ◌∙◌, arith}
use Rattle.definition.specs.Base.{bytes}
use Rattle.print_names.specs.Naming.{naming_of}
use Rattle.print_names.proofs.Numbers.{swift_alone}
use Rattle.print_forms.proofs.FormLaws.{standard_other, own_some, context_below, standard_unnamed, standard_elsewhere, module_some, standard_swift}
use Rattle.print_forms.proofs.standard.Goals as goal

pub returns-then-not-is_nominal : goal.returns-then-not-is_nominal
returns-then-not-is_nominal c = standard_other (naming_of c.args.from.now) c.args.from.now.ws.now c.args.place c.field-kind.ensures.0 (sym c.is_nominal.ensures ∙ c.if-not-is_nominal.true)

pub named_is-requires-clause-some : goal.named_is-requires-clause-some
named_is-requires-clause-some c = own_some (naming_of c.args.from.now) c.args.from.now.ws.now c.args.place c.field-kind.ensures.0 (sym c.is_nominal.ensures ∙ c.if-not-is_nominal.false) c.requires.some c.field-own.ensures.0

pub returns-then-not-named_is : goal.returns-then-not-named_is
returns-then-not-named_is c = standard_unnamed (naming_of c.args.from.now) c.args.from.now.ws.now c.args.place c.field-kind.ensures.0 (sym c.is_nominal.ensures ∙ c.if-not-is_nominal.false) c.field-own.ensures.0 c.named_is.ensures c.if-not-named_is.true

pub field-outer-requires : goal.field-outer-requires
field-outer-requires c =
    let b = context_below (naming_of c.args.from.now) c.args.from.now.ws.now c.args.place c.field-kind.ensures.0 (sym c.is_nominal.ensures ∙ c.if-not-is_nominal.false) c.requires.some in
    (omega (arith, c.field-context.ensures.0, c.requires.inside), omega arith)

pub returns-then-outer : goal.returns-then-outer
returns-then-outer c = standard_elsewhere (naming_of c.args.from.now) c.args.from.now.ws.now c.args.place c.field-kind.ensures.0 (sym c.is_nominal.ensures ∙ c.if-not-is_nominal.false) c.field-own.ensures.0 c.named_is.ensures c.if-not-named_is.false c.field-context.ensures.0 c.field-outer.ensures.0 c.if-outer.true

pub field-module-requires : goal.field-module-requires
field-module-requires c =
    let b = context_below (naming_of c.args.from.now) c.args.from.now.ws.now c.args.place c.field-kind.ensures.0 (sym c.is_nominal.ensures ∙ c.if-not-is_nominal.false) c.requires.some in
    (omega (arith, c.field-context.ensures.0, c.requires.inside), omega arith)

pub named_is-requires-2-clause-some : goal.named_is-requires-2-clause-some
named_is-requires-2-clause-some c = module_some (naming_of c.args.from.now) c.args.from.now.ws.now c.args.place c.field-kind.ensures.0 (sym c.is_nominal.ensures ∙ c.if-not-is_nominal.false) c.field-own.ensures.0 c.named_is.ensures c.if-not-named_is.false c.field-context.ensures.0 c.field-outer.ensures.0 c.if-outer.false c.requires.some c.field-module.ensures.0

pub named_is-requires-2-clause-alone : goal.named_is-requires-2-clause-alone
unfolding bytes
named_is-requires-2-clause-alone c = swift_alone

pub returns : goal.returns
unfolding bytes
returns c = standard_swift (naming_of c.args.from.now) c.args.from.now.ws.now c.args.place c.field-kind.ensures.0 (sym c.is_nominal.ensures ∙ c.if-not-is_nominal.false) c.field-own.ensures.0 c.named_is.ensures c.if-not-named_is.false c.field-context.ensures.0 c.field-outer.ensures.0 c.if-outer.false c.field-module.ensures.0 c.named_is-2.ensures
