use Rattle.std.proofs.Common.{sym, ◌∙◌, subst, ℕ, ◌+◌, arith}
use borrow.Author.Tests.{eq-eqb, ne_eqb}
use Rattle.definition.specs.Base.{upper}
use Rattle.text_words.specs.Table.{Ends, Grows}
use Rattle.text_words.proofs.Noting.{opens, skips, ends, splits, grows, after_capital, both, no_capital, past_capitals}
use Rattle.text_words.proofs.next_word.Goals as goal
use Rattle.text_words.proofs.next_word.Goals.{else-not-is_upper-via-then-not-is_upper+else-is_upper, else-not-is_upper-via-else-not-is_upper}

pub returns-then-starts_word : goal.returns-then-starts_word
returns-then-starts_word c =
    let a = c.args in
    subst (λ (s : ℕ). Grows s a.at a.previous a.b) (sym c.if-start-at.true) (opens a.at a.previous a.b (sym c.starts_word.ensures ∙ c.if-starts_word.true))

pub returns-else-starts_word : goal.returns-else-starts_word
returns-else-starts_word c =
    let a = c.args in
    subst (λ (s : ℕ). Ends s a.at a.previous a.b (a.at + 1)) (sym c.if-start-at.true) (skips a.at a.previous a.b (sym c.starts_word.ensures ∙ c.if-starts_word.false))

pub returns-then-b-gt95 : goal.returns-then-b-gt95
returns-then-b-gt95 c =
    let a = c.args in
    grows a.at a.previous a.b a.start (omega arith) (ne_eqb a.b 95 (λ e. omega (arith, e))) (no_capital (upper a.previous) _ (past_capitals a.b c.if-b-gt95.true))

pub returns-then-b-eq95 : goal.returns-then-b-eq95
returns-then-b-eq95 c = let a = c.args in ends a.at a.previous a.b a.start (omega arith) (eq-eqb a.b 95 c.if-b-eq95.true)

pub returns-then-is_upper : goal.returns-then-is_upper
returns-then-is_upper c =
    let a = c.args in
    splits a.at a.previous a.b a.start (omega arith) (ne_eqb a.b 95 c.if-b-eq95.false) (both _ _ (sym c.is_upper.ensures ∙ c.if-not-is_upper.true) (sym c.is_upper-then-not-is_upper.ensures ∙ c.if-is_upper.true))

pub returns : goal.returns
returns c =
    let a = c.args in
    grows a.at a.previous a.b a.start (omega arith) (ne_eqb a.b 95 c.if-b-eq95.false) (elim c.else-not-is_upper.branch [
      | else-not-is_upper-via-then-not-is_upper+else-is_upper w ↦ no_capital (upper a.previous) _ (sym w.is_upper-then-not-is_upper.ensures ∙ w.if-is_upper.false)
      | else-not-is_upper-via-else-not-is_upper w ↦ after_capital _ _ (sym c.is_upper.ensures ∙ w.if-not-is_upper.false)
    ])
