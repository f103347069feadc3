-- Rows of the code, as in the definition.
use Rattle.std.specs.Prelude.{◌≡◌, List, [], ◌++◌, ℕ, map, Option, Some, None}
use Rattle.std.proofs.Math.Option.{Option as Maybe, some, none}
use Prim.Native.String.{String}
use Rattle.definition.specs.Shape.{opened as opened₀}
use Rattle.definition.specs.Node.{nominal_kind}
use Rattle.definition.specs.Operators as Op
use Rattle.definition.specs.Shape as C
use Rattle.definition.specs.Enums as Enums
use Rattle.definition.specs.declared.NominalKind.{NominalKind}
use Rattle.definition.specs.declared.Leaf.{Leaf}
use Rattle.definition.specs.declared.Subject.{Subject}
use Rattle.definition.specs.declared.Constraint.{Constraint}
use Rattle.definition.specs.declared.About.{About}
use Rattle.definition.specs.declared.Operator.{Operator}
use Rattle.check_entries.specs.Means.{take_of}
use Rattle.check_entries.specs.declared.Take.{Take}
use Rattle.machine.specs.Kinds.{kind_of}
use Rattle.check_rows.specs.declared.Row.{Row}

abbrev pub nominal : NominalKind → ℕ
nominal k = nominal_kind (Enums.nominal_kind k)

abbrev pub maybe : Option ℕ → Maybe ℕ
maybe (Some n) = some n
maybe None = none

abbrev pub leaves_of : Row → C.Leaves
leaves_of r = record { kind = kind_of r.kind; own = r.own; counted = r.counted; remembered = r.remembered; copies = maybe r.copies }

abbrev pub rule_of : Row → C.Row
rule_of r = C.rule (map take_of r.takes.now) (leaves_of r)

-- the row of the operator in the definition's table, for any fixed names
abbrev pub RowOf : Operator → Row → Type 0
RowOf op r = (fixed : ℕ → String) → C.row (Enums.operator fixed op) ≡ rule_of r

abbrev pub LeafRow : Leaf → Option ℕ → Row → Type 0
LeafRow l copies r = (fixed : ℕ → String) → C.rule [] (C.leaf_leaves (Enums.leaf fixed l) (maybe copies)) ≡ rule_of r

abbrev pub AboutRow : About → Row → Type 0
AboutRow a r = C.about_row (Enums.about a) ≡ rule_of r

abbrev pub RequirementRow : Subject → Constraint → Row → Type 0
RequirementRow s c r = C.row (Op.requirement (Enums.subject s) (Enums.constraint c)) ≡ rule_of r

abbrev pub Requires : Subject → Constraint → List Take → Type 0
Requires s c takes = C.subject_takes (Enums.subject s) ++ C.constraint_takes (Enums.constraint c) ≡ map take_of takes

-- FOR PROOFS ONLY: this name on an `unfolding` line opens the definition's table, and the meaning of
-- the code's operators
unfoldable pub opened : ℕ
unfolding opened₀ nominal_kind Enums.nominal_kind Enums.about Enums.subject Enums.constraint Enums.leaf Enums.operator
opened = 0
