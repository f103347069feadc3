-- What was taken, as in the definition.
use Rattle.std.specs.Prelude.{◌≡◌, ◌^◌, ◌<◌}
use Rattle.definition.specs.Shape as C
use Rattle.check_takes.specs.declared.sums.Taken.{Taken}

abbrev pub taken_of : Taken → C.Taken
taken_of a = C.taken a.size a.count a.signed

-- a count of an entry
pub record Sets (is : C.Taken) (b : Taken) : Type 0 where
  pub same : taken_of b ≡ is
  pub small : b.count < 2 ^ 32
