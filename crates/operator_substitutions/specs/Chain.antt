-- The letters after `A`, item by item (lines 880 to 900). Assumes nothing.
use Rattle.std.specs.Prelude.{◌≡◌, Bool, true, false, List, [], ◌∷◌, ◌⊎◌, ℕ, zero, suc, ◌+◌, ◌-◌, ◌^◌, ◌≤◌, ◌<◌, max, length, Result, MatchResult}
use Rattle.std.proofs.Math.Option.{Option, some, none}
use Rattle.definition.specs.Base.{given, is, lower, upper, Out, ok, refused, Done, Late, good, bad}
use Rattle.definition.specs.Text.{Text, natural}
use Rattle.definition.specs.Operators.{Operator, Substitution, substitution, substitutions}
use Rattle.definition.specs.Enums.{number}
use Rattle.definition.specs.declared.Refusal.{Refusal}
use Rattle.text_cursor.specs.Reads.{rest}
use Rattle.text_cursor.specs.declared.Reader.{Reader}
use Rattle.operator_substitutions.specs.declared.Copies.{Copies}

-- the items, how the letters ended, and the text after them
pub record Chain : Type 0 where
  pub items : List Substitution
  pub late : Late Done
  pub rest : Text

abbrev pub ended : Late Done → Text → Chain
ended l u = record { items = []; late = l; rest = u }

abbrev pub more : Substitution → Chain → Chain
more x ch = record { items = x ∷ ch.items; late = ch.late; rest = ch.rest }

-- the last item
abbrev pub last : Substitution → Text → Chain
last x u = more x (ended (good tt) u)

-- the copies that a repeat count asks for, and the index of `_` after it
abbrev pub times_of : Option ℕ → ℕ
times_of repeat = given repeat 1 (λ n. max n 1)

abbrev pub past_of : Option ℕ → ℕ
past_of repeat = given repeat 26 (λ n. n + 27)

-- one letter c, followed by t, and how to continue: whether it is lower case, a capital, or `_`;
-- otherwise the number that begins there
unfoldable pub item : (Option ℕ → Text → Chain) → Option ℕ → ℕ → Text → Bool → Bool → Bool → Out Text ℕ → Chain
item go repeat c t true u d o = more (substitution (times_of repeat) (c - 97)) (go none t)
item go repeat c t false true d o = last (substitution (times_of repeat) (c - 65)) t
item go repeat c t false false true o = last (substitution 1 (past_of repeat)) t
item go repeat c t false false false (ok n v) = go (some n) v
item go repeat c t false false false (refused r) = ended (bad r) t

-- f bounds the letters
unfoldable pub chain_from : ℕ → Option ℕ → Text → Chain
chain_from zero repeat t = ended (bad 9) t
chain_from (suc f) repeat [] = ended (bad 9) []
chain_from (suc f) repeat (c ∷ t) = item (chain_from f) repeat c t (lower c) (upper c) (is "_" c) (natural (c ∷ t))

-- after a repeat count, and after `A` or a letter in lower case
abbrev pub chain_after : Option ℕ → Text → Chain
chain_after repeat t = chain_from (length t) repeat t

abbrev pub chain : Text → Chain
chain t = chain_after none t

-- the operator with these letters
abbrev pub outcome : Chain → Out Text Operator
outcome ch = ok (substitutions ch.items ch.late) ch.rest

-- two indices are equal, or are past every node that can be remembered
abbrev pub Same : ℕ → ℕ → Type 0
Same i j = (i ≡ j) ⊎ ((2 ^ 32 ≤ i) × (2 ^ 32 ≤ j))

-- the chain ch begins with t copies of i, and continues at `new`
pub record Begins (ch : Chain) (t i : ℕ) (old new : Reader) : Type 0 where
  pub is : ch ≡ more (substitution t i) (chain (rest new))
  pub some : 0 < t
  pub text : new.text ≡ old.text
  pub inside : new.at ≤ length new.text.now
  pub onward : old.at < new.at

-- it is t copies of i, and what follows the chain is at `new`
pub record Ends (ch : Chain) (t i : ℕ) (old new : Reader) : Type 0 where
  pub index : ℕ
  pub same : Same i index
  pub is : ch ≡ last (substitution t index) (rest new)
  pub some : 0 < t
  pub text : new.text ≡ old.text
  pub inside : new.at ≤ length new.text.now
  pub onward : old.at < new.at

-- it has no item
pub record Breaks (ch : Chain) (n : ℕ) : Type 0 where
  pub rest : Text
  pub is : ch ≡ ended (bad n) rest

abbrev pub Item : Chain → Reader → Reader → ℕ → ℕ → Bool → Type 0
Item ch old new t i false = Begins ch t i old new
Item ch old new t i true = Ends ch t i old new

-- the next item of the letters at `old`, of which `go` makes a chain. If there is none, the reader
-- keeps its text too
pub record Copied (go : Text → Chain) (old new : Reader) (r : Result Copies Refusal) : Type 0 where
  pub says : MatchResult r (λ x. Item (go (rest old)) old new x.times x.index x.last) (λ f. Breaks (go (rest old)) (number f))
  pub text : new.text ≡ old.text
