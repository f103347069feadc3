-- A slice into which a part of a text was copied. Assumes nothing.
use Rattle.std.specs.Prelude.{List, ◌++◌, ℕ, ◌+◌, ◌-◌, take, drop}

-- the bytes from one place to another, as `part` of text_cursor, which this crate does not use
abbrev pub part : List ℕ → ℕ → ℕ → List ℕ
part text from to = take (to - from) (drop from text)

-- o, with text[from..to] in place of as many bytes from `at` on
abbrev pub copied : List ℕ → ℕ → List ℕ → ℕ → ℕ → List ℕ
copied o at text from to = take at o ++ part text from to ++ drop (at + (to - from)) o
