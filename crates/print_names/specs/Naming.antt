-- What the number of a name represents, and what the functions that append say. Assumes nothing.
use Rattle.std.specs.Prelude.{◌≡◌, ℕ, eqb, length}
use Rattle.definition.specs.Base.{Name, bytes, same}
use Rattle.operator_names.specs.Fixed.{fixed}
use Rattle.text_output.specs.Appends.{Appended}
use Rattle.text_output.specs.declared.Sink.{Sink}
use Rattle.tree_records.specs.Holds.{Names}
use Rattle.tree_records.specs.NamesOf.{naming}
use Rattle.print_names.specs.declared.source.Source.{Source}

-- what the numbers of names represent
abbrev pub naming_of : Source → Names
naming_of s = naming s.text.now s.words.now

-- Is holds for the texts that may be meant. Whichever it is, that text is appended to the sink
pub record Puts (Is : Name → Type 0) (o o' : Sink) : Type 0 where
  pub same : o'.out.ghost_name ≡ o.out.ghost_name
  pub room : o'.room ≡ o.room
  pub len : length o'.out.now ≡ length o.out.now
  pub each : (s : Name) → Is s → Appended o o' s

-- some text is meant
pub record Some (Is : Name → Type 0) : Type 0 where
  pub text : Name
  pub is : Is text

-- the fixed name with number n is this one, and no other number has it
pub record Alone (n : ℕ) (name : Name) : Type 0 where
  pub is : bytes (fixed n) ≡ name
  pub only : (m : ℕ) → same (bytes (fixed m)) name ≡ eqb m n
