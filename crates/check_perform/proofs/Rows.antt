-- The rows of the table: they have ten takes at most, and a list never continues from the count of an
-- entry. Assumes nothing.
use Rattle.std.specs.Prelude.{map}
use mathlib.Core.Path.{◌≡◌, refl, sym, ap, ◌∙◌}
use mathlib.Core.Bool.{Bool, true, false, ◌&&◌}
use Prim.Native.Nat.{ℕ}
use Prim.Native.String.{String, [] as []ˢ}
use borrow.Author.Tests.{leb-true}
use lib.Dec.{leb}
use lib.ListN.{length}
use Rattle.definition.specs.Shape as C
use Rattle.definition.specs.Enums as Enums
use Rattle.definition.specs.declared.Leaf.{Leaf}
use Rattle.definition.specs.declared.Subject.{Subject}
use Rattle.definition.specs.declared.Constraint.{Constraint}
use Rattle.definition.specs.declared.Accessor.TheVariants as Accessor
use Rattle.definition.specs.declared.About.TheVariants as About
use Rattle.definition.specs.declared.Operator.{Operator}
use Rattle.check_entries.specs.Means.{take_of}
use Rattle.check_rows.specs.Table.{opened, rule_of, RowOf}
use Rattle.check_rows.specs.declared.Row.{Row}
use Rattle.check_perform.proofs.RowTakes.{both}
use Rattle.check_perform.specs.Performs.{good, any_grows, ShortTakes, Owns}

fine : C.Row → Bool
fine (C.recalls cs l) = true
fine (C.rule ts l) = good ts && (leb (length ts) 10 && (leb 1 l.own && leb l.own 5))

none : ℕ → String
none n = []ˢ

all_fine : (op : Operator) → fine (C.row (Enums.operator none op)) ≡ true
unfolding opened good any_grows fine
all_fine (Operator.Nominal k) = refl
all_fine (Operator.Leaf (Leaf.Module n)) = refl
all_fine (Operator.Leaf (Leaf.StandardNominal k n)) = refl
all_fine (Operator.Leaf (Leaf.GenericParam p)) = refl
all_fine (Operator.Leaf Leaf.EmptyList) = refl
all_fine (Operator.Leaf Leaf.FirstElementMarker) = refl
all_fine (Operator.Leaf Leaf.VariadicMarker) = refl
all_fine (Operator.Leaf Leaf.Throws) = refl
all_fine (Operator.Leaf Leaf.Async) = refl
all_fine (Operator.Standard m (Leaf.Module n)) = refl
all_fine (Operator.Standard m (Leaf.StandardNominal k n)) = refl
all_fine (Operator.Standard m (Leaf.GenericParam p)) = refl
all_fine (Operator.Standard m Leaf.EmptyList) = refl
all_fine (Operator.Standard m Leaf.FirstElementMarker) = refl
all_fine (Operator.Standard m Leaf.VariadicMarker) = refl
all_fine (Operator.Standard m Leaf.Throws) = refl
all_fine (Operator.Standard m Leaf.Async) = refl
all_fine (Operator.Optional n) = refl
all_fine Operator.Tuple = refl
all_fine Operator.FunctionType = refl
all_fine Operator.ProtocolList = refl
all_fine Operator.BoundGeneric = refl
all_fine Operator.InOut = refl
all_fine Operator.Metatype = refl
all_fine (Operator.Archetype p) = refl
all_fine (Operator.Requirement s c) = subject s c
  where
    subject : (s : Subject) (c : Constraint) → fine (C.row (Enums.operator none (Operator.Requirement s c))) ≡ true
    subject (Subject.OfParam p) Constraint.Conforms = refl
    subject (Subject.OfParam p) Constraint.Superclass = refl
    subject (Subject.OfParam p) Constraint.SameType = refl
    subject (Subject.OfParam p) (Constraint.Layout true) = refl
    subject (Subject.OfParam p) (Constraint.Layout false) = refl
    subject Subject.OfStack Constraint.Conforms = refl
    subject Subject.OfStack Constraint.Superclass = refl
    subject Subject.OfStack Constraint.SameType = refl
    subject Subject.OfStack (Constraint.Layout true) = refl
    subject Subject.OfStack (Constraint.Layout false) = refl
    subject (Subject.OfMember p) Constraint.Conforms = refl
    subject (Subject.OfMember p) Constraint.Superclass = refl
    subject (Subject.OfMember p) Constraint.SameType = refl
    subject (Subject.OfMember p) (Constraint.Layout true) = refl
    subject (Subject.OfMember p) (Constraint.Layout false) = refl
all_fine (Operator.GenericSignature n) = refl
all_fine Operator.PlainFunction = refl
all_fine (Operator.Variable Accessor.Itself) = refl
all_fine (Operator.Variable (Accessor.Named n)) = refl
all_fine (Operator.Variable Accessor.Broken) = refl
all_fine (Operator.Initializer b) = refl
all_fine (Operator.Deinitializer b) = refl
all_fine Operator.VariableInitializer = refl
all_fine Operator.Static = refl
all_fine (Operator.Record About.Type n) = refl
all_fine (Operator.Record About.Entity n) = refl
all_fine (Operator.Record About.Context n) = refl
all_fine (Operator.Record About.Protocol n) = refl
all_fine (Operator.Record About.Conformance n) = refl
all_fine (Operator.Record About.Anything n) = refl
all_fine (Operator.SuspendResume n) = refl
all_fine (Operator.LazyWitness n) = refl
all_fine (Operator.ValueWitness n) = refl
all_fine Operator.ProtocolWitness = refl
all_fine Operator.AssociatedType = refl
all_fine Operator.AssociatedConformance = refl

module _ (op : Operator) (r : Row) (q : RowOf op r) where
  row_fine : fine (rule_of r) ≡ true
  row_fine = sym (ap fine (q none)) ∙ all_fine op

  pub row_short : ShortTakes (map take_of r.takes.now)
  unfolding fine
  row_short =
      let p = both (good (map take_of r.takes.now)) _ row_fine in
      record { good = p.0; short = leb-true _ 10 (both (leb (length (map take_of r.takes.now)) 10) _ p.1).0 }

  pub row_owns : Owns r
  unfolding fine
  row_owns =
      let p = both (leb (length (map take_of r.takes.now)) 10) _ (both (good (map take_of r.takes.now)) _ row_fine).1 in
      let o = both (leb 1 r.own) _ p.1 in
      record { one = leb-true 1 r.own o.0; few = leb-true r.own 5 o.1 }
