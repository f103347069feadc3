-- The shape check: words as a count, one turn by the table, and the four calls.
use Rattle.std.specs.Prelude.{Bool, true, false, ◌&&◌, not, [], ◌∷◌, reverse, ℕ, zero, suc, ◌-◌, ltb, leb, length, if◌then◌else◌}
use Prim.Native.Char.{code}
use Rattle.definition.specs.Shape.{opened as opened₀}
use Rattle.definition.specs.Calls.{opened as opened₁}
use Rattle.definition.specs.Base.{is, digit, lower, upper, ok, refused, Done, ret, refuse, unless, ◌>>=◌, ◌>>◌}
use Rattle.definition.specs.Text.{Text, Lex, Symbol, next_if}
use Rattle.definition.specs.Words.{most_words, starts, literal, is_empty}
use Rattle.definition.specs.Kind as K
use Rattle.definition.specs.Operators.{operator}
use Rattle.definition.specs.Machine.{fresh, know, remember, push}
use Rattle.definition.specs.Shape.{Check, kind_of, row, run_row}
use Rattle.definition.specs.Calls.{Answer, accepted, within, admit, check_needs, symbol, whole_text, then_run, turn, turns, ended, all_turns, symbol_kind, finished, entry_numbers}

-- WORDS, AS A COUNT (01, "Shape entries")
-- a word of that many bytes has ended
unfoldable pub keep_count : ℕ → ℕ → ℕ
keep_count n words = if leb 2 n && ltb words most_words then suc words else words

-- the number of bytes of the open word (0: none), the byte before, the rest of the text, the number
-- of known words
unfoldable pub count_words_from : ℕ → ℕ → Text → ℕ → ℕ
count_words_from zero previous [] words = words
count_words_from (suc n) previous [] words = keep_count (suc n) words
count_words_from zero previous (c ∷ t) words = elim (starts c) [
  | true ↦ count_words_from 1 c t words
  | false ↦ count_words_from 0 c t words
]
count_words_from (suc n) previous (c ∷ t) words = elim (is "_" c) [
  | true ↦ count_words_from 0 c t (keep_count (suc n) words)
  | false ↦ elim (not (upper previous) && upper c) [
    | true ↦ count_words_from 1 c t (keep_count (suc n) words)
    | false ↦ count_words_from (suc (suc n)) c t words
  ]
]

-- an identifier so far: whether it is empty, and whether word letters may follow
pub record Spelled : Type 0 where
  pub empty : Bool
  pub more : Bool

abbrev pub spelled : Bool → Bool → Spelled
spelled e m = record { empty = e; more = m }

unfoldable pub word_letters : ℕ → Bool → Lex Spelled
word_letters words empty [] = ok (spelled empty true) []
word_letters words empty (c ∷ t) = elim (lower c) [
  | true ↦ elim (ltb (c - code "a") words) [ false ↦ refused 9 | true ↦ word_letters words false t ]
  | false ↦ elim (upper c) [
    | true ↦ elim (ltb (c - code "A") words) [ false ↦ refused 9 | true ↦ ok (spelled false false) t ]
    | false ↦ ok (spelled empty true) (c ∷ t)
  ]
]

-- an identifier: whether it is empty, and how many words are known after it
pub record Identified : Type 0 where
  pub empty : Bool
  pub words : ℕ

abbrev pub identified : Bool → ℕ → Identified
identified e n = record { empty = e; words = n }

-- f is never reached (proofs/Bounds `identifier_count_bound`, `identifier_count_any`)
unfoldable pub identifier_from : ℕ → (has_word_substitutions punycoded : Bool) → ℕ → Bool → Lex Identified
identifier_from zero subs punycoded words empty = refuse 9
identifier_from (suc f) subs punycoded words empty = do
  s ← if subs then word_letters words empty else ret (spelled empty false)
  closed ← next_if (is "0")
  if closed then ret (identified s.empty words) else do
    slice ← literal punycoded
    let known = if punycoded then words else count_words_from 0 0 slice words
    let empty₁ = s.empty && is_empty slice
    if s.more then identifier_from f true punycoded known empty₁ else ret (identified empty₁ known)

unfoldable pub identifier : ℕ → Lex Identified
identifier words t = (do
  zero₁ ← next_if (is "0")
  punycoded ← if zero₁ then next_if (is "0") else ret false
  r ← identifier_from (suc (length t)) (zero₁ && not punycoded) punycoded words true
  unless 9 (not r.empty)
  ret r) t

-- TURNS
module _ (N : ℕ) where
  unfoldable pub name : ℕ → Check Done
  name words = do
    know words
    remember (K.entry K.identifier 1 0)
    push (K.entry K.identifier 1 0)

  unfoldable pub one : Text → Check Text
  one [] = refuse 9
  one (c ∷ t) = elim (digit c) [
    | true ↦ λ m. then_run (identifier m.words (c ∷ t)) (λ r. name r.words) m
    | false ↦ then_run (operator c t) (λ op. run_row N (row op))
  ]

  -- a whole check writes nothing
  unfoldable pub whole : (ℕ → Bool) → Symbol → Answer
  whole takes s = ended s (turns (turn N one) all_turns s.body (fresh 0)) (finished kind_of takes (λ e. []) s)

  unfoldable pub stopped_after : ℕ → Symbol → Answer
  stopped_after k s = ended s (turns (turn N one) k s.body (fresh 0)) (λ m. accepted m.budget (entry_numbers (reverse m.stack)))

-- THE CALLS: a text, the ceiling, the number of turns if stopped, the size of the workspace in
-- numbers, the length of the output slice
unfoldable pub shape : Text → (N workspace : ℕ) → Answer
shape t N workspace = let r : Answer = symbol t (whole N symbol_kind) in admit check_needs N workspace t r

unfoldable pub shape_type : Text → (N workspace : ℕ) → Answer
shape_type t N workspace = let r : Answer = whole N K.is_type (whole_text t) in admit check_needs N workspace t r

unfoldable pub shape_stopped : Text → (N k workspace out : ℕ) → Answer
shape_stopped t N k workspace out = let r : Answer = symbol t (stopped_after N k) in within out (admit check_needs N workspace t r)

unfoldable pub shape_type_stopped : Text → (N k workspace out : ℕ) → Answer
shape_type_stopped t N k workspace out = let r : Answer = stopped_after N k (whole_text t) in within out (admit check_needs N workspace t r)

-- FOR PROOFS ONLY: this name on an `unfolding` line opens every definition up to here
unfoldable pub opened : ℕ
unfolding opened₀ opened₁ keep_count count_words_from word_letters identifier_from identifier name one whole stopped_after shape shape_type shape_stopped shape_type_stopped
opened = 0
