-- What the code of records and witnesses says about the definition's steps.
use Rattle.std.specs.Prelude.{ℕ}
use Prim.Native.String.{String}
use Rattle.definition.specs.Base.{Name, ◌>>=◌}
use Rattle.definition.specs.Machine.{push}
use Rattle.definition.specs.Node.{Record}
use Rattle.definition.specs.Operators.{About}
use Rattle.definition.specs.Perform.{about}
use Rattle.tree_nodes.specs.Gives.{Performed}

-- a record of words over its subject; the words are given by the fixed names
abbrev pub record_over : About → ((ℕ → String) → Name) → Performed
record_over a what fixed = about a >>= λ x. push (Record (what fixed) x)
