use Rattle.std.proofs.Common.{ℕ, List, Bor, length, sym, ap, arith}
use borrow.Author.Tests.{ne_eqb}
use Rattle.std.proofs.lemmas.Result.{err_from_is_err_and}
use Rattle.run.proofs.RunLoop.{step_not, step_on, step_named, step_plain}
use Rattle.run.proofs.step.Goals as goal

pub turn-requires : goal.turn-requires
turn-requires g c = (c.requires.0, c.requires.1, sym c.if-not-is_ascii_digit.ensures.value)

pub returns-then-not-is_ascii_digit : goal.returns-then-not-is_ascii_digit
returns-then-not-is_ascii_digit g c = step_on g.M.Machine.meaning c.args.text.now c.args.machine.now c.turn.new.machine c.args.waiting.now c.turn.new.text c.requires.5 c.turn.result c.turn.ensures

pub name_turn-requires : goal.name_turn-requires
name_turn-requires g c = (
  record { ready = c.requires.0; inside = c.requires.1; begins = sym c.if-not-is_ascii_digit.ensures.value; formed = c.requires.3 },
  c.requires.2,
  c.requires.4,
  c.requires.5,
)

pub returns-then-b-eq48 : goal.returns-then-b-eq48
returns-then-b-eq48 g c = step_named g.M.Machine.meaning c.args.text.now c.args.machine.now c.name_turn.new.machine c.args.waiting.now c.name_turn.new.text c.name_turn.new.waiting c.name_turn.result c.name_turn.ensures

pub plain_turn-requires : goal.plain_turn-requires
plain_turn-requires g c = (
  record { ready = c.requires.0; inside = c.requires.1; begins = sym c.if-not-is_ascii_digit.ensures.value; formed = c.requires.3 },
  g.met.M.Machine.laws.begins _ (omega (arith, c.requires.1, c.requires.2)),
  ne_eqb _ 48 c.if-b-eq48.false,
)

pub returns-in_err-from : goal.returns-in_err-from
returns-in_err-from g c =
    let p = err_from_is_err_and c.from_residual.result c.from_residual.ensures.1 in
    rw (p.1, p.2) (step_not g.M.Machine.meaning c.args.text.now c.args.machine.now c.plain_turn.new.machine c.args.waiting.now c.in_err-from.ensures)

pub returns : goal.returns
returns g c =
    let h = c.in_ok-from.ensures in
    let text : Bor (List ℕ) → ℕ = λ b. length b.now in
    step_plain g.M.Machine.meaning c.args.text.now c.args.machine.now c.plain_turn.new.machine c.args.waiting.now c.plain_turn.new.text c.wait.new.q h (c.wait.ensures c.args.text.now.text.now (omega (arith, h.inside, ap text h.text)) c.requires.5)
