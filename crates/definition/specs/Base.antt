-- The terms of the definition: bytes, tables of letters, and steps that can be refused. Names are
-- those of swift_demangle.rs; "lines" in a comment are lines of that file, "01"
-- is document 01.
use Rattle.std.specs.Prelude.{Bool, true, false, ◌&&◌, List, [], ◌∷◌, ℕ, zero, suc, ◌+◌, ◌/◌, ◌%◌, eqb, ltb, leb}
use Rattle.std.proofs.Math.Option.{Option, some, none}
use Prim.Native.Char.{Char, code}
use Prim.Native.String.{String, [] as []ˢ, ◌∷◌ as ◌∷ˢ◌}

-- BYTES
-- what the Rust holds in a String
abbrev pub Name : Type 0
Name = List ℕ

-- an ASCII text as its bytes
unfoldable pub bytes : String → Name
bytes []ˢ = []
bytes (c ∷ˢ s) = code c ∷ bytes s

-- the byte b is the letter c
abbrev pub is : Char → ℕ → Bool
is c b = eqb b (code c)

-- b is between lo and hi, both included
abbrev pub between : ℕ → ℕ → ℕ → Bool
between lo hi b = leb lo b && leb b hi

-- is_ascii_digit, is_ascii_lowercase, is_ascii_uppercase
abbrev pub digit : ℕ → Bool
digit b = between (code "0") (code "9") b

abbrev pub lower : ℕ → Bool
lower b = between (code "a") (code "z") b

abbrev pub upper : ℕ → Bool
upper b = between (code "A") (code "Z") b

-- two texts are the same
abbrev pub same : Name → Name → Bool
same [] [] = true
same [] (y ∷ ys) = false
same (x ∷ xs) [] = false
same (x ∷ xs) (y ∷ ys) = eqb x y && same xs ys

-- The decimal digits of n, followed by the given text. f bounds their number and is never reached
-- (proofs/Bounds `digits_bound`, `decimal_any`)
unfoldable pub decimal_before : ℕ → ℕ → Name → Name
decimal_before zero n tail = tail
decimal_before (suc f) n tail = elim (ltb n 10) [
  | true ↦ (48 + n) ∷ tail
  | false ↦ decimal_before f (n / 10) ((48 + n % 10) ∷ tail)
]

unfoldable pub decimal : ℕ → Name
decimal n = decimal_before (suc n) n []

-- CHOICES
-- what to do with a value that may be missing
abbrev pub given : {A B : Type 0} → Option A → B → (A → B) → B
given none b f = b
given (some a) b f = f a

unfoldable pub is_some : {A : Type 0} → Option A → Bool
is_some none = false
is_some (some a) = true

-- the entry of a table of letters: the arms of one `match` of the source
unfoldable pub pick : {A : Type 0} → ℕ → List (Char × A) → Option A
pick b [] = none
pick b (e ∷ es) = elim (is e.0 b) [ true ↦ some e.1 | false ↦ pick b es ]

-- STEPS
-- The result of a step over a state S: a value and the next state; or the number (01, "How each
-- operation refuses") of the first check at which the Rust gives None
pub data Out (S A : Type 0) : Type 0 where
  ok : A → S → Out S A
  refused : ℕ → Out S A

abbrev pub Step : Type 0 → Type 0 → Type 0
Step S A = S → Out S A

-- a step that only changes the state
abbrev pub Done : Type 0
Done = Unit {0}

module _ {S A : Type 0} where
  abbrev pub ret : A → Step S A
  ret a s = ok a s

  abbrev pub refuse : ℕ → Step S A
  refuse r s = refused r

  -- a value, or the refusal r where it is missing
  abbrev pub or_refuse : ℕ → Option A → Step S A
  or_refuse r none s = refused r
  or_refuse r (some a) s = ok a s

module _ {S A B : Type 0} where
  abbrev pub and_then : Out S A → (A → Step S B) → Out S B
  and_then (ok a s) f = f a s
  and_then (refused r) f = refused r

  -- the Rust's `?`
  infixl 20 ◌>>=◌
  abbrev pub ◌>>=◌ : Step S A → (A → Step S B) → Step S B
  ◌>>=◌ m f s = and_then (m s) f

  infixl 20 ◌>>◌
  abbrev pub ◌>>◌ : Step S A → Step S B → Step S B
  ◌>>◌ m k s = and_then (m s) (λ a. k)

-- the refusal r, unless b holds
abbrev pub unless : {S : Type 0} → ℕ → Bool → Step S Done
unless r true s = ok tt s
unless r false s = refused r

-- a letter that the Rust reads after it has taken nodes, and judges only then
pub data Late (A : Type 0) : Type 0 where
  good : A → Late A
  bad : ℕ → Late A

abbrev pub judge : {S A : Type 0} → Late A → Step S A
judge (good a) s = ok a s
judge (bad r) s = refused r

-- FOR PROOFS ONLY: this name on an `unfolding` line opens every definition up to here
unfoldable pub opened : ℕ
unfolding bytes decimal_before decimal is_some pick
opened = 0
