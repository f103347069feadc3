-- `operator_substitutions::substitution`: after a number, and without one. Assumes nothing.
use Rattle.std.proofs.Common.{arith, refl, sym, inl}
use mathlib.Core.Option.{some, none}
use Rattle.text_cursor.proofs.ReaderSteps.{shorter}
use Rattle.operator_substitutions.proofs.ChainLaws.{number_rest, copied_on, chain_number, saturated}
use Rattle.operator_substitutions.proofs.substitution.Goals as goal

pub returns-then-not-peek_is_digit : goal.returns-then-not-peek_is_digit
returns-then-not-peek_is_digit c = c.item_letter.ensures none refl (inl refl) (omega arith)

pub item_letter-requires-2 : goal.item_letter-requires-2
item_letter-requires-2 c = number_rest _ c.in_ok-n.ensures.says.is

pub returns : goal.returns
returns c =
    let n = c.in_ok-n.ensures.says in
    copied_on (chain_number _ (sym c.if-not-peek_is_digit.ensures) (shorter n (omega arith)) n.is) n.text (omega arith)
    (c.item_letter-2.ensures (some c.in_ok-n.n) c.max.ensures (saturated c.in_ok-n.n c.saturating_add.ensures) (omega (arith, c.max.ensures)))
