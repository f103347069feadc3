use Rattle.std.proofs.Common.{ap, sym, ◌∙◌, ◌≡◌, ◌-◌, ◌+◌, arith}
use Rattle.definition.specs.Text.{tails}
use Rattle.text_cursor.specs.Reads.{rest}
use Rattle.text_utf8.proofs.Characters.{tails_step}
use Rattle.text_utf8.proofs.tails.Goals as goal

pub loop-preserved : goal.loop-preserved
loop-preserved c =
    let h = c.in_ok-next_if_any.ensures in
    let k : c.args.n - c.loop.counter - 1 ≡ c.args.n - (c.loop.counter + 1) = omega arith in
    record {
      text = h.text ∙ c.loop.invariant.text;
      onward = omega (arith, h.onward, c.loop.invariant.onward);
      inside = λ _. rw (← c.loop.invariant.text, ← h.text) h.inside;
      same = c.loop.invariant.same ∙ tails_step (c.args.n - c.loop.counter) (omega arith) h.is (sym c.is_tail.ensures ∙ c.if-not-is_tail.false) ∙ ap (λ m. tails m (rest c.next_if_any.new.self)) k;
    }
