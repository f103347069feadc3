-- The segments of an identifier, one after another, using a table of words that does not change.
-- Assumes nothing. No words are noted, UTF-8 is not checked, and the name ends where something
-- cannot be read.
use Rattle.std.specs.Prelude.{Bool, true, false, ◌&&◌, not, List, [], ◌∷◌, ◌++◌, ℕ, ◌-◌, ltb, if◌then◌else◌}
use Rattle.std.proofs.Math.Option.{Option, some, none}
use Prim.Native.Char.{code}
use Rattle.std.proofs.Math.ListN.{get_elem?}
use Rattle.definition.specs.Base.{Name, is, lower, upper, Out, ok, refused, ret, unless, ◌>>=◌, ◌>>◌}
use Rattle.definition.specs.Text.{Text, Lex, next_if, natural}
use Rattle.definition.specs.Words.{take_bytes}

-- What is at the cursor of an identifier: the bytes of a segment, whether word letters may follow
-- it, and the text after it; or the end
pub data Segment : Type 0 where
  segment : Name → (more : Bool) → Text → Segment
  end : Segment

-- the `_` that may follow the length of a punycode name
abbrev pub mark : (punycoded : Bool) → Lex Bool
mark punycoded = if punycoded then next_if (is "_") else ret false

-- the bytes after a length (lines 817 to 826, except UTF-8)
unfoldable pub counted : (punycoded : Bool) → ℕ → Lex Name
counted punycoded n = unless 9 (ltb 0 n) >> (mark punycoded >>= λ _. take_bytes n)

-- If no word letters may follow, these bytes are the last segment: no text is left
abbrev pub of_bytes : (more : Bool) → Out Text Name → Segment
of_bytes more (ok s u) = segment s more (if more then u else [])
of_bytes more (refused r) = end

abbrev pub of_length : (more punycoded : Bool) → Out Text ℕ → Segment
of_length more punycoded (ok n u) = of_bytes more (counted punycoded n u)
of_length more punycoded (refused r) = end

abbrev pub unless_closed : (more punycoded : Bool) → Out Text Bool → Segment
unless_closed more punycoded (ok true u) = end
unless_closed more punycoded (ok false u) = of_length more punycoded (natural u)
unless_closed more punycoded (refused r) = end

-- a length and its bytes, unless a `0` ends the name
unfoldable pub literal_segment : (more punycoded : Bool) → Text → Segment
literal_segment more punycoded t = unless_closed more punycoded (next_if (is "0") t)

-- the word that a letter represents
abbrev pub of_word : Option Name → (more : Bool) → Text → Segment
of_word none more t = end
of_word (some w) more t = segment w more t

-- The segment at the cursor (a turn of the loops of lines 803 to 836): a small letter is a word,
-- and so is a capital, after which no further letter may follow
unfoldable pub segment_of : List Name → (more punycoded : Bool) → Text → Segment
segment_of words false punycoded t = literal_segment false punycoded t
segment_of words true punycoded [] = literal_segment true punycoded []
segment_of words true punycoded (c ∷ t) = elim (lower c) [
  | true ↦ of_word (get_elem? words (c - code "a")) true t
  | false ↦ elim (upper c) [
    | true ↦ of_word (get_elem? words (c - code "A")) false t
    | false ↦ literal_segment true punycoded (c ∷ t)
  ]
]

-- How an identifier begins: leading `00` marks punycode, leading `0` alone allows words
pub record Lead : Type 0 where
  pub more : Bool
  pub punycoded : Bool

abbrev pub lead : Bool → Bool → Lead
lead m p = record { more = m; punycoded = p }

-- after a first `0`, or none
abbrev pub second_zero : Bool → Lex Lead
second_zero zero₁ = do
  punycoded ← if zero₁ then next_if (is "0") else ret false
  ret (lead (zero₁ && not punycoded) punycoded)

unfoldable pub start : Lex Lead
start = next_if (is "0") >>= second_zero

-- the bytes of a segment and of all that follow it
pub data Follows (words : List Name) (punycoded : Bool) : Segment → Name → Type 0 where
  nothing : Follows words punycoded end []
  after : {w n : Name} {more : Bool} {t : Text} → Follows words punycoded (segment_of words more punycoded t) n → Follows words punycoded (segment w more t) (w ++ n)
