use Rattle.std.proofs.Common.{◌≡◌, sym, ◌∙◌, true, false}
use Rattle.definition.specs.Base.{digit}
use Rattle.definition.specs.Words.{starts}
use Rattle.text_words.proofs.starts_word.Goals as goal

pub returns-then-not-is_digit : goal.returns-then-not-is_digit
unfolding starts
returns-then-not-is_digit c = let e : digit c.args.b ≡ false = sym c.is_digit.ensures ∙ c.if-not-is_digit.true in rw e

pub returns-else-not-is_digit : goal.returns-else-not-is_digit
unfolding starts
returns-else-not-is_digit c = let e : digit c.args.b ≡ true = sym c.is_digit.ensures ∙ c.if-not-is_digit.false in rw (e, c.if-not-is_digit.false)
