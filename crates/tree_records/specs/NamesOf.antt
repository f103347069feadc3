-- How names are known by their numbers: the text, the words, and the fixed names. Assumes nothing.
use Rattle.std.specs.Prelude.{List}
use Rattle.definition.specs.Base.{Name}
use Rattle.definition.specs.Text.{Text}
use Rattle.text_words.specs.Table.{table}
use Rattle.text_words.specs.Table.{Words}
use Rattle.operator_names.specs.Fixed.{fixed}
use Rattle.operator_names.proofs.FixedNames.{fixed_swift, fixed_any_object, fixed_optional, fixed_associated_type, fixed_past}
use Rattle.tree_records.specs.Holds.{Fixed, Names}

-- the fixed names that operators use are among the fixed names
pub known : Fixed fixed
known = record { swift = fixed_swift; any_object = fixed_any_object; optional = fixed_optional; associated_type = fixed_associated_type; past = fixed_past }

-- the words that identifiers may use, and all that are noted so far
pub record Noted : Type 0 where
  pub words : List Name
  pub all : List Name

abbrev pub noted : (words all : List Name) → Noted
noted words all = record { words = words; all = all }

-- names come from the text, the words, and the fixed names
abbrev pub names_of : Text → Noted → Names
names_of text ws = record { text = text; words = ws.words; noted = ws.all; fixed = fixed; known = known }

-- the words are those of a table, and no others are noted
abbrev pub naming : Text → Words → Names
naming text w = names_of text (noted (table text w) (table text w))
