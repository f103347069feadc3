use Rattle.std.proofs.Common.{ℕ, ◌+◌, ◌-◌, ◌≡◌, suc, arith, ap, ◌∙◌, ◌<◌, ◌≤◌}
use Rattle.definition.specs.Enums as Enums
use Rattle.text_cursor.specs.Reads.{rest}
use Rattle.definition.specs.Base.{ok}
use Rattle.definition.specs.Text.{Text}
use Rattle.definition.specs.Budget.{most_wraps}
use Rattle.definition.specs.Operators.{counts}
use Rattle.text_cursor.proofs.Steps.{then_ok, then_refused}
use Rattle.text_cursor.proofs.ReaderSteps.{refused_on}
use Rattle.operator_operands.specs.Counts.{count_if_any}
use Rattle.operator_operands.proofs.signatures.CountSteps.{signed, counts_closed, counts_more, counts_refused, counts_last, counts_deep}
use Rattle.operator_operands.proofs.signatures.generic_signature.Goals as goal

-- what is left to count, in a turn and after the last
turn : (p n : ℕ) (t : Text) → n < most_wraps → counts (most_wraps - n) p t ≡ counts (suc (most_wraps - n - 1)) p t
turn p n t h = let e : most_wraps - n ≡ suc (most_wraps - n - 1) = omega arith in ap (λ (k : ℕ). counts k p t) e

past : (p n : ℕ) (t : Text) → most_wraps ≤ n → counts (most_wraps - n) p t ≡ counts 0 p t
past p n t h = let e : most_wraps - n ≡ 0 = omega arith in ap (λ (k : ℕ). counts k p t) e

pub returns-in_err-n : goal.returns-in_err-n
returns-in_err-n c =
    refused_on c.in_err-n.was
    (then_refused signed (c.loop.invariant.same ∙ turn c.loop.params c.loop.counter _ (omega arith) ∙ counts_refused (most_wraps - c.loop.counter - 1) c.loop.params _ c.in_err-n.ensures.says))
    (c.in_err-n.ensures.text ∙ c.loop.invariant.text)
    c.from_residual.ensures.1

pub returns-in_default : goal.returns-in_default
unfolding Enums.operator
returns-in_default c =
    let n = c.in_ok-n.ensures.says in
    record { says = record { is = then_ok signed (c.loop.invariant.same ∙ turn c.loop.params c.loop.counter _ (omega arith) ∙ counts_closed (most_wraps - c.loop.counter - 1) c.loop.params _ (n.is ∙ ap (λ o. ok (count_if_any o) (rest c.count.new.text)) c.in_default.is)); text = n.text ∙ c.loop.invariant.text; inside = n.inside; onward = omega arith }; text = n.text ∙ c.loop.invariant.text }

pub loop-preserved : goal.loop-preserved
loop-preserved c =
    let n = c.in_ok-n.ensures.says in
    let i = c.loop.invariant in
    let e : most_wraps - c.loop.counter - 1 ≡ most_wraps - (c.loop.counter + 1) = omega arith in
    record {
      text = n.text ∙ i.text;
      onward = omega arith;
      same = i.same ∙ turn c.loop.params c.loop.counter _ (omega arith) ∙ counts_more (most_wraps - c.loop.counter - 1) c.loop.params _ (n.is ∙ ap (λ o. ok (count_if_any o) (rest c.count.new.text)) c.in-Some.is) ∙ ap (λ (k : ℕ). counts k c.in-Some.n (rest c.count.new.text)) e;
    }

pub returns-then-next_if : goal.returns-then-next_if
unfolding Enums.operator
returns-then-next_if c =
    let l = c.if-next_if.ensures in
    record { says = record { is = then_ok signed (c.loop.invariant.same ∙ past c.loop.params c.loop.counter _ (omega arith) ∙ counts_last c.loop.params _ l.is); text = l.text ∙ c.loop.invariant.text; inside = l.inside; onward = omega arith }; text = l.text ∙ c.loop.invariant.text }

pub returns : goal.returns
unfolding Enums.number
returns c =
    let l = c.if-next_if.ensures in
    record { says = then_refused signed (c.loop.invariant.same ∙ past c.loop.params c.loop.counter _ (omega arith) ∙ counts_deep c.loop.params _ l.is); text = l.text ∙ c.loop.invariant.text }
