-- 01, "Words": the words of identifiers, and identifiers that use them again.
use Rattle.std.specs.Prelude.{Bool, true, false, ◌&&◌, not, List, [], ◌∷◌, ◌++◌, ℕ, zero, suc, ◌-◌, ltb, leb, length, take, drop, if◌then◌else◌}
use Rattle.std.proofs.Math.Option.{some, none}
use Prim.Native.Char.{code}
use Rattle.std.proofs.Math.ListN.{get_elem?}
use Rattle.definition.specs.Text.{opened as opened₀}
use Rattle.definition.specs.Base.{Name, is, digit, lower, upper, ok, refused, ret, refuse, unless, ◌>>=◌, ◌>>◌}
use Rattle.definition.specs.Text.{Text, Lex, next_if, natural, well_formed}

-- line 603
abbrev pub most_words : ℕ
most_words = 26

-- A word that has ended is kept if it has 2 bytes or more and fewer than 26 are known (lines 858 to
-- 860)
unfoldable pub keep : Name → List Name → List Name
keep word words = if leb 2 (length word) && ltb (length words) most_words then words ++ (word ∷ []) else words

-- a word starts at a byte that is neither digit nor `_` (lines 864 to 870)
unfoldable pub starts : ℕ → Bool
starts c = not (digit c) && not (is "_" c)

-- The loop of `note_words` (lines 849 to 871): the open word ([]: none), the byte before, the rest
-- of the text, the words kept
unfoldable pub note_words_from : Name → ℕ → Text → List Name → List Name
note_words_from [] previous [] words = words
note_words_from (x ∷ word) previous [] words = keep (x ∷ word) words
note_words_from [] previous (c ∷ t) words = elim (starts c) [
  | true ↦ note_words_from (c ∷ []) c t words
  | false ↦ note_words_from [] c t words
]
note_words_from (x ∷ word) previous (c ∷ t) words = elim (is "_" c) [
  | true ↦ note_words_from [] c t (keep (x ∷ word) words)
  | false ↦ elim (not (upper previous) && upper c) [
    | true ↦ note_words_from (c ∷ []) c t (keep (x ∷ word) words)
    | false ↦ note_words_from ((x ∷ word) ++ (c ∷ [])) c t words
  ]
]

unfoldable pub note_words : Text → List Name → List Name
note_words text words = note_words_from [] 0 text words

-- an identifier so far, and whether word letters may follow
pub record Spelled : Type 0 where
  pub name : Name
  pub more : Bool

abbrev pub spelled : Name → Bool → Spelled
spelled n m = record { name = n; more = m }

-- Word letters (lines 804 to 813): lower case letters, and a capital as the last
unfoldable pub word_letters : List Name → Name → Lex Spelled
word_letters words name [] = ok (spelled name true) []
word_letters words name (c ∷ t) = elim (lower c) [
  | true ↦ elim (get_elem? words (c - code "a")) [ none ↦ refused 9 | some w ↦ word_letters words (name ++ w) t ]
  | false ↦ elim (upper c) [
    | true ↦ elim (get_elem? words (c - code "A")) [ none ↦ refused 9 | some w ↦ ok (spelled (name ++ w) false) t ]
    | false ↦ ok (spelled name true) (c ∷ t)
  ]
]

unfoldable pub take_bytes : ℕ → Lex Name
take_bytes n t = elim (leb n (length t)) [ true ↦ ok (take n t) (drop n t) | false ↦ refused 9 ]

-- A length and that many bytes, whole UTF-8 (lines 817 to 826). After the length of a punycode name
-- one `_` is skipped
unfoldable pub literal : Bool → Lex Name
literal punycoded = do
  count ← natural
  unless 9 (ltb 0 count)
  _ ← if punycoded then next_if (is "_") else ret false
  slice ← take_bytes count
  unless 9 (well_formed slice)
  ret slice

-- an identifier, and the words known after it
pub record Identified : Type 0 where
  pub name : Name
  pub words : List Name

abbrev pub identified : Name → List Name → Identified
identified n ws = record { name = n; words = ws }

-- The loop of `identifier` (lines 803 to 836). f bounds its rounds and is never reached: each round
-- that continues takes a literal (proofs/Bounds `identifier_bound`, `identifier_any`)
unfoldable pub identifier_from : ℕ → (has_word_substitutions punycoded : Bool) → List Name → Name → Lex Identified
identifier_from zero subs punycoded words name = refuse 9
identifier_from (suc f) subs punycoded words name = do
  s ← if subs then word_letters words name else ret (spelled name false)
  closed ← next_if (is "0")
  if closed then ret (identified s.name words) else do
    slice ← literal punycoded
    let known = if punycoded then words else note_words slice words
    if s.more then identifier_from f true punycoded known (s.name ++ slice) else ret (identified (s.name ++ slice) known)

unfoldable pub is_empty : Name → Bool
is_empty [] = true
is_empty (x ∷ xs) = false

-- lines 788 to 843, given the words known: leading `00` marks punycode, leading `0` alone allows
-- words
unfoldable pub identifier : List Name → Lex Identified
identifier words t = (do
  zero₁ ← next_if (is "0")
  punycoded ← if zero₁ then next_if (is "0") else ret false
  r ← identifier_from (suc (length t)) (zero₁ && not punycoded) punycoded words []
  unless 9 (not (is_empty r.name))
  ret r) t

-- FOR PROOFS ONLY: this name on an `unfolding` line opens every definition up to here
unfoldable pub opened : ℕ
unfolding opened₀ keep starts note_words_from note_words word_letters take_bytes literal identifier_from is_empty identifier
opened = 0
