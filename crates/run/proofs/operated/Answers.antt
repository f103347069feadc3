use Rattle.std.proofs.lemmas.Result.{err_from_is_err_and}
use Rattle.definition.specs.Enums as Enums
use Rattle.operator_names.specs.Fixed.{fixed}
use Rattle.run.proofs.OneOperator.{is_chain, is_operator, is_refused}
use Rattle.run.proofs.operated.Goals as goal

pub substitutions-requires : goal.substitutions-requires
substitutions-requires g c = g.met.M.Machine.laws.less_ready _ c.requires.0

pub returns-then-next_if : goal.returns-then-next_if
returns-then-next_if g c =
    let a = rw c.if-next_if.true at c.next_if.ensures in
    is_chain g.M.Machine.meaning g.met.M.Machine.laws c.args.text.now c.args.machine.now a c.substitutions.new.text c.substitutions.new.machine c.substitutions.result c.substitutions.ensures

pub returns-in_err-op : goal.returns-in_err-op
returns-in_err-op g c =
    let p = err_from_is_err_and c.from_residual.result c.from_residual.ensures.1 in
    let a = rw c.if-next_if.false at c.next_if.ensures in
    rw (p.1, p.2)
    (is_refused g.M.Machine.meaning g.met.M.Machine.laws c.args.text.now c.args.machine.now c.requires.1 c.requires.2 a c.in_err-op.ensures)

pub perform-requires : goal.perform-requires
perform-requires g c = c.requires.0

pub returns : goal.returns
returns g c =
    let a = rw c.if-next_if.false at c.next_if.ensures in
    is_operator g.M.Machine.meaning g.met.M.Machine.laws c.args.text.now c.args.machine.now c.requires.1 c.requires.2 a c.other_operator.new.text (Enums.operator fixed c.in_ok-op.op) c.in_ok-op.ensures c.perform.new.self c.perform.result c.perform.ensures
