-- A part of a text. Assumes nothing.
use Rattle.std.specs.Prelude.{List, ℕ, ◌-◌, take, drop}

-- the bytes from one place to another
abbrev pub part : List ℕ → ℕ → ℕ → List ℕ
part text from to = take (to - from) (drop from text)
