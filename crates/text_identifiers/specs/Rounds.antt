-- The loop of an identifier, over words that are known as a table or as a count. Both of the
-- definition's loops are this one (proofs/Alike.antt). The contracts of the functions inside this
-- crate use it; those of `identifier` and `identifier_count` do not.
use Rattle.std.specs.Prelude.{Bool, true, false, ◌&&◌, not, ℕ, zero, suc, length, if◌then◌else◌}
use Rattle.definition.specs.Base.{Name, is, ret, refuse, unless, ◌>>=◌, ◌>>◌}
use Rattle.definition.specs.Text.{Text, Lex, next_if, well_formed}
use Rattle.definition.specs.Words.{take_bytes, literal, is_empty}
use Rattle.definition.specs.Check.{Spelled, spelled, word_letters}

-- What one round finds after its letters: the closing `0`, or a literal; whether the name before it
-- is empty, and whether letters may follow
pub data Round : Type 0 where
  closes : Bool → Round
  takes : (empty more : Bool) → Name → Round

abbrev pub letters : ℕ → (subs empty : Bool) → Lex Spelled
letters known subs empty = if subs then word_letters known empty else ret (spelled empty false)

abbrev pub closing : (punycoded empty more : Bool) → Lex Round
closing punycoded empty more = do
  closed ← next_if (is "0")
  if closed then ret (closes empty) else do
    slice ← literal punycoded
    ret (takes empty more slice)

abbrev pub round : ℕ → (subs punycoded empty : Bool) → Lex Round
round known subs punycoded empty = do
  s ← letters known subs empty
  closing punycoded s.empty s.more

-- the rest of `literal`, after its count and the `_`
abbrev pub whole_slice : ℕ → Lex Name
whole_slice n = do
  slice ← take_bytes n
  unless 9 (well_formed slice)
  ret slice

-- whether the identifier is empty, and the words known after it
pub record Got (S : Type 0) : Type 0 where
  pub empty : Bool
  pub words : S

abbrev pub got : {S : Type 0} → Bool → S → Got S
got e s = record { empty = e; words = s }

-- an identifier is not empty
abbrev pub finish : {S : Type 0} → Got S → Lex (Got S)
finish r = unless 9 (not r.empty) >> ret r

-- the words known after a literal: punycode has none
abbrev pub known_after : {S : Type 0} → (Text → S → S) → Bool → Name → S → S
known_after note punycoded slice words = if punycoded then words else note slice words

module _ {S : Type 0} (count : S → ℕ) (note : Text → S → S) where
  abbrev pub after : (punycoded : Bool) → S → (S → Bool → Lex (Got S)) → Round → Lex (Got S)
  after punycoded words again (closes empty) = ret (got empty words)
  after punycoded words again (takes empty more slice) =
      if more then again (known_after note punycoded slice words) (empty && is_empty slice) else ret (got (empty && is_empty slice) (known_after note punycoded slice words))

  unfoldable pub rounds : ℕ → (subs punycoded : Bool) → S → Bool → Lex (Got S)
  rounds zero subs punycoded words empty = refuse 9
  rounds (suc f) subs punycoded words empty = round (count words) subs punycoded empty >>= after punycoded words (rounds f true punycoded)

  -- the loop, and the test of its name
  abbrev pub named : ℕ → (subs punycoded : Bool) → S → Bool → Lex (Got S)
  named f subs punycoded words empty = rounds f subs punycoded words empty >>= finish

  unfoldable pub identifier_of : S → Lex (Got S)
  identifier_of words t = (do
    zero₁ ← next_if (is "0")
    punycoded ← if zero₁ then next_if (is "0") else ret false
    named (suc (length t)) (zero₁ && not punycoded) punycoded words true) t
