-- The form of a record, and its row of pieces. Assumes nothing.
use Rattle.std.specs.Prelude.{◌≡◌, Bool, not, List, ℕ, ◌<◌, T, Option, Some, None}
use Prim.Native.String.{String}
use Rattle.definition.specs.Base.{Name, bytes}
use Rattle.definition.specs.Node.{Node, Nodes, BoundGeneric, many}
use Rattle.definition.proofs.PrintEquations.{standard, sugared}
use Rattle.tree_records.specs.Lies.{at, Lies}
use Rattle.tree_records.specs.Holds.{Names, Named}
use Rattle.print_labels.specs.RowTexts.{Prints, Pieces, form_of}
use Rattle.print_forms.specs.declared.Sugar.{Sugar}
use Rattle.print_forms.specs.declared.Sugar.TheVariants.{Optional, Array, Dictionary}

-- whether the base at p is the standard type of a name
pub record Standard (nm : Names) (ws : List ℕ) (p : ℕ) (name : Name) (r : Bool) : Type 0 where
  pub each : (b : Node) (s : String) → Lies (Named nm) b ws p → bytes s ≡ name → r ≡ standard b s

-- the numbers of the sugar: 0 none, 1 Optional, 2 Array, 3 Dictionary
abbrev pub sugar_number : Option Sugar → ℕ
sugar_number None = 0
sugar_number (Some Optional) = 1
sugar_number (Some Array) = 2
sugar_number (Some Dictionary) = 3

-- the sugar of a generic type
pub record SugarIs (b : Node) (args : Nodes) (r : ℕ) : Type 0 where
  pub few : r < 4
  pub no_sugar : r ≡ 0 → T (not (sugared b args))
  pub optional : r ≡ 1 → (many args ≡ 1) × T (standard b "Optional")
  pub array : r ≡ 2 → (many args ≡ 1) × T (standard b "Array")
  pub dictionary : r ≡ 3 → (many args ≡ 2) × T (standard b "Dictionary")

pub record Sugars (nm : Names) (ws : List ℕ) (p r : ℕ) : Type 0 where
  pub each : (b : Node) (args : Nodes) → Lies (Named nm) (BoundGeneric b args) ws p → SugarIs b args r

-- the form of the record at p
pub record FormIs (nm : Names) (ws : List ℕ) (p r : ℕ) : Type 0 where
  pub sugar : ℕ
  pub sugars : Sugars nm ws p sugar
  pub is : r ≡ form_of (at ws p 0) (at ws p) (at ws (at ws p 4) 0) sugar
  pub small : r < 46

-- the row of the record at p has the text of every tree that is stored there
pub record Rowed (nm : Names) (ws : List ℕ) (p row : ℕ) : Type 0 where
  pub each : (s : Name) → Prints nm ws p s → Pieces nm ws p row s
