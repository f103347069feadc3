use Rattle.std.proofs.Common.{eq-eqb, arith, sym, ◌∙◌}
use borrow.Author.Tests.{ne_eqb}
use Rattle.machine.specs.Kinds.{kind_of}
use Rattle.check_takes.proofs.Rounds.{recounted}
use Rattle.check_takes.proofs.sums.Taken.add_counted_as.Goals.{then-e-code, else-e-code}
use Rattle.check_takes.proofs.sums.Taken.add_counted_as.Goals as goal

pub returns : goal.returns
returns c =
    elim c.if-e-code.branch [
      | then-e-code w ↦ record { same = rw (eq-eqb c.args.e.kind (kind_of c.args.kind) (w.if-e-code.true ∙ c.code.ensures)) (recounted c.add.ensures w.count-is); small = omega arith }
      | else-e-code w ↦ record { same = rw (ne_eqb c.args.e.kind (kind_of c.args.kind) (λ q. w.if-e-code.false (q ∙ sym c.code.ensures))) (recounted c.add.ensures w.count-is); small = omega (arith, c.requires.1) }
    ]
