-- 01, "Text and cursor": numbers and indices, UTF-8, prefixes, `split`.
use Rattle.std.specs.Prelude.{Bool, true, false, List, [], ◌∷◌, ◌++◌, ℕ, zero, suc, ◌+◌, ◌*◌, ◌-◌, ◌^◌, ltb, length, take, drop}
use Rattle.std.proofs.Math.Option.{Option, some, none}
use Prim.Native.String.{String}
use Rattle.definition.specs.Base.{opened as opened₀}
use Rattle.definition.specs.Base.{bytes, same, is, between, digit, ok, refused, Step, ret, unless, ◌>>=◌, ◌>>◌}

-- The text from the cursor on. The Rust's cursor is `text` and `pos`
abbrev pub Text : Type 0
Text = List ℕ

abbrev pub Lex : Type 0 → Type 0
Lex A = Step Text A

-- THE CURSOR (lines 619 to 640)
unfoldable pub peek : (ℕ → Bool) → Text → Bool
peek p [] = false
peek p (b ∷ t) = p b

unfoldable pub next : Lex ℕ
next [] = refused 9
next (b ∷ t) = ok b t

unfoldable pub next_if : (ℕ → Bool) → Lex Bool
next_if p [] = ok false []
next_if p (b ∷ t) = elim (p b) [ true ↦ ok true t | false ↦ ok false (b ∷ t) ]

-- NUMBERS
-- checked_add and checked_mul: a number below 2^64, or 9
abbrev pub checked : ℕ → Lex ℕ
checked n = unless 9 (ltb n (2 ^ 64)) >> ret n

-- the loop of `natural`, with the value so far
unfoldable pub digits : ℕ → Lex ℕ
digits value [] = ok value []
digits value (c ∷ t) = elim (digit c) [
  | true ↦ elim (ltb (value * 10 + (c - 48)) (2 ^ 64)) [ true ↦ digits (value * 10 + (c - 48)) t | false ↦ refused 9 ]
  | false ↦ ok value (c ∷ t)
]

-- lines 702 to 711: one or more digits, below 2^64
unfoldable pub natural : Lex ℕ
natural t = (unless 9 (peek digit t) >> digits 0) t

-- lines 713 to 723: `_` is 0, n followed by `_` is n + 1
unfoldable pub index : Lex ℕ
index = do
  first ← next_if (is "_")
  elim first [
    | true ↦ ret 0
    | false ↦ do
      n ← natural
      closed ← next_if (is "_")
      unless 9 closed
      checked (n + 1)
  ]

-- an index plus 1, as in lines 1073, 1079, 1089, 1091 and 1285
unfoldable pub index_plus_one : Lex ℕ
index_plus_one = do
  i ← index
  checked (i + 1)

-- the depth and the index of a generic parameter
pub record Param : Type 0 where
  pub depth : ℕ
  pub index : ℕ

abbrev pub param : ℕ → ℕ → Param
param d i = record { depth = d; index = i }

-- `d`, in lines 1073 to 1075 and 1090 to 1093
unfoldable pub depth_and_index : Lex Param
depth_and_index = do
  d ← index_plus_one
  i ← index
  ret (param d i)

-- lines 1069 to 1082
unfoldable pub generic_param_index : Lex Param
generic_param_index = do
  d ← next_if (is "d")
  elim d [
    | true ↦ depth_and_index
    | false ↦ do
      z ← next_if (is "z")
      elim z [ true ↦ ret (param 0 0) | false ↦ (index_plus_one >>= λ i. ret (param 0 i)) ]
  ]

-- UTF-8 (RFC 3629, section 4): a row for each line of UTF8-2, UTF8-3 and UTF8-4
-- the first byte is between first and last, the second is between low and high, followed by that
-- many bytes of 80 to BF
pub record Utf8Row : Type 0 where
  pub first : ℕ
  pub last : ℕ
  pub low : ℕ
  pub high : ℕ
  pub more : ℕ

abbrev pub utf8_row : ℕ → ℕ → ℕ → ℕ → ℕ → Utf8Row
utf8_row a b c d n = record { first = a; last = b; low = c; high = d; more = n }

unfoldable pub utf8_rows : List Utf8Row
utf8_rows =
    utf8_row 0xC2 0xDF 0x80 0xBF 0 ∷
    utf8_row 0xE0 0xE0 0xA0 0xBF 1 ∷
    utf8_row 0xE1 0xEC 0x80 0xBF 1 ∷
    utf8_row 0xED 0xED 0x80 0x9F 1 ∷
    utf8_row 0xEE 0xEF 0x80 0xBF 1 ∷
    utf8_row 0xF0 0xF0 0x90 0xBF 2 ∷
    utf8_row 0xF1 0xF3 0x80 0xBF 2 ∷
    utf8_row 0xF4 0xF4 0x80 0x8F 2 ∷ []

-- n bytes of 80 to BF, and what follows them
unfoldable pub tails : ℕ → Text → Option Text
tails zero t = some t
tails (suc n) [] = none
tails (suc n) (b ∷ t) = elim (between 0x80 0xBF b) [ true ↦ tails n t | false ↦ none ]

-- what follows the first byte by a row
unfoldable pub second : Utf8Row → Text → Option Text
second r [] = none
second r (b ∷ t) = elim (between r.low r.high b) [ true ↦ tails r.more t | false ↦ none ]

unfoldable pub by_row : ℕ → List Utf8Row → Text → Option Text
by_row b [] t = none
by_row b (r ∷ rs) t = elim (between r.first r.last b) [ true ↦ second r t | false ↦ by_row b rs t ]

-- the text after a character that begins with b; none if there is no such character
unfoldable pub character : ℕ → Text → Option Text
character b t = elim (ltb b 0x80) [ true ↦ some t | false ↦ by_row b utf8_rows t ]

-- The place of the first ill-formed sequence in a text of n bytes, where t is the rest. f bounds
-- the characters and is reached only if no text is left: each takes a byte (proofs/Bounds
-- `characters_bound`, `ill_formed_any`)
unfoldable pub ill_formed_from : ℕ → ℕ → Text → Option ℕ
ill_formed_from zero n t = none
ill_formed_from (suc f) n [] = none
ill_formed_from (suc f) n (b ∷ t) = elim (character b t) [ none ↦ some (n - length (b ∷ t)) | some u ↦ ill_formed_from f n u ]

unfoldable pub ill_formed : Text → Option ℕ
ill_formed t = ill_formed_from (length t) (length t) t

unfoldable pub well_formed : Text → Bool
well_formed t = elim (ill_formed t) [ none ↦ true | some i ↦ false ]

-- PREFIX AND SUFFIX (lines 63 to 79)
unfoldable pub prefixes : List String
prefixes = "_$s" ∷ "$s" ∷ "_$S" ∷ "$S" ∷ []

-- strip_prefix with the first prefix that fits: its length
unfoldable pub prefix_of : List String → Text → Option ℕ
prefix_of [] t = none
prefix_of (p ∷ ps) t = elim (same (bytes p) (take (length (bytes p)) t)) [ true ↦ some (length (bytes p)) | false ↦ prefix_of ps t ]

-- the text before the first dot
unfoldable pub before_dot : Text → Text
before_dot [] = []
before_dot (b ∷ t) = elim (is "." b) [ true ↦ [] | false ↦ b ∷ before_dot t ]

-- the parts of a symbol: where its body begins, the body, and the suffix with its dot (empty: there
-- is none)
pub record Symbol : Type 0 where
  pub start : ℕ
  pub body : Text
  pub suffix : Text

unfoldable pub split_at : ℕ → Text → Option Symbol
split_at start [] = none
split_at start (b ∷ rest) =
    let body : Text = before_dot (b ∷ rest) in some (record { start = start; body = body; suffix = drop (length body) (b ∷ rest) })

unfoldable pub split : Text → Option Symbol
split symbol = elim (prefix_of prefixes symbol) [ none ↦ none | some p ↦ split_at p (drop p symbol) ]

-- lines 31 to 33
unfoldable pub suffix_text : Text → Text
suffix_text [] = []
suffix_text (b ∷ t) = bytes " with unmangled suffix \"" ++ ((b ∷ t) ++ bytes "\"")

-- FOR PROOFS ONLY: this name on an `unfolding` line opens every definition up to here
unfoldable pub opened : ℕ
unfolding opened₀ peek next next_if digits natural index index_plus_one depth_and_index generic_param_index utf8_rows tails second by_row character ill_formed_from ill_formed well_formed prefixes prefix_of before_dot split_at split suffix_text
opened = 0
