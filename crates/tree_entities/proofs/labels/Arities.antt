-- The number of labels that a type requires.
use mathlib.Core.Path.{◌≡◌, refl, sym, ◌∙◌, subst}
use mathlib.Core.Bool.{Bool, true, false}
use mathlib.Core.List.{List}
use Prim.Native.Nat.{ℕ, ◌+◌, ◌*◌, ◌≤◌}
use native.Mathlib.Omega.{arith}
use lib.Dec.{T, eqb}
use lib.ListN.{length}
use borrow.Author.Tests.{eq-eqb, ne_eqb}
use Rattle.definition.specs.Kind as K
use Rattle.definition.specs.Node as N
use Rattle.definition.proofs.Matches.{the_inner, arity_is}
use Rattle.definition.specs.Node.{Node, Identifier, Module, Nominal, GenericParam, DependentMember, Tuple, FunctionType, GenericType, GenericSignature, ConformanceRequirement, SameTypeRequirement, ProtocolList, Metatype, InOut, BoundGeneric, Function, Variable, Accessor, Initializer, Deinitializer, VariableInitializer, Static, Record, Conformance, ProtocolWitness, ValueWitness, EmptyList, FirstElementMarker, VariadicMarker, Throws, Async, LazyWitness, AssociatedConformance, kind, nominal_kind, view, inner_of}
use Rattle.definition.specs.Perform as R
use Rattle.tree_records.specs.Lies.{at, Child, Body, Lies}
use Rattle.tree_records.specs.Holds.{Names, Named}
use Rattle.tree_entities.specs.LabelsOf.{Treed}

-- the type under a signature is in field 4
inner_child : (nm : Names) (f : ℕ → ℕ) (w : List ℕ) (p : ℕ) (x : Node) → T (eqb (kind x) K.generic_type) → Body (Named nm) x f w p → Child f p 4 (λ q. Lies (Named nm) (the_inner x) w q)
unfolding kind nominal_kind view inner_of the_inner
inner_child nm g ws z (Identifier n) h body = absurd h
inner_child nm g ws z (Module n) h body = absurd h
inner_child nm g ws z (Nominal N.Class c n) h body = absurd h
inner_child nm g ws z (Nominal N.Struct c n) h body = absurd h
inner_child nm g ws z (Nominal N.Enum c n) h body = absurd h
inner_child nm g ws z (Nominal N.Protocol c n) h body = absurd h
inner_child nm g ws z (Nominal N.TypeAlias c n) h body = absurd h
inner_child nm g ws z (GenericParam d i) h body = absurd h
inner_child nm g ws z (DependentMember b n) h body = absurd h
inner_child nm g ws z (Tuple es) h body = absurd h
inner_child nm g ws z (FunctionType a r t y) h body = absurd h
inner_child nm g ws z (GenericType s i) h body = body.1
inner_child nm g ws z (GenericSignature k rs) h body = absurd h
inner_child nm g ws z (ConformanceRequirement a q) h body = absurd h
inner_child nm g ws z (SameTypeRequirement a o) h body = absurd h
inner_child nm g ws z (ProtocolList ps) h body = absurd h
inner_child nm g ws z (Metatype n) h body = absurd h
inner_child nm g ws z (InOut n) h body = absurd h
inner_child nm g ws z (BoundGeneric b args) h body = absurd h
inner_child nm g ws z (Function c n l t) h body = absurd h
inner_child nm g ws z (Variable c n t) h body = absurd h
inner_child nm g ws z (Accessor k v) h body = absurd h
inner_child nm g ws z (Initializer a c l t) h body = absurd h
inner_child nm g ws z (Deinitializer d c) h body = absurd h
inner_child nm g ws z (VariableInitializer v) h body = absurd h
inner_child nm g ws z (Static e) h body = absurd h
inner_child nm g ws z (Record what n) h body = absurd h
inner_child nm g ws z (Conformance t q m) h body = absurd h
inner_child nm g ws z (ProtocolWitness e c) h body = absurd h
inner_child nm g ws z (ValueWitness k t) h body = absurd h
inner_child nm g ws z EmptyList h body = absurd h
inner_child nm g ws z FirstElementMarker h body = absurd h
inner_child nm g ws z VariadicMarker h body = absurd h
inner_child nm g ws z Throws h body = absurd h
inner_child nm g ws z Async h body = absurd h
inner_child nm g ws z (LazyWitness what t c) h body = absurd h
inner_child nm g ws z (AssociatedConformance a q n r) h body = absurd h

module _ (nm : Names) (w : List ℕ) (p : ℕ) (x : Node) (l : Lies (Named nm) x w p) where
  is_kind : (k : ℕ) → at w p 0 ≡ k → eqb (kind x) k ≡ true
  is_kind k e = eq-eqb (kind x) k (sym l.kind_is ∙ e)

  no_kind : (k : ℕ) → (at w p 0 ≡ k → ⊥) → eqb (kind x) k ≡ false
  no_kind k e = ne_eqb (kind x) k (λ q. e (l.kind_is ∙ q))

  pub arity_counted : at w p 0 ≡ 10 → at w p 2 ≡ R.arity_of x
  unfolding R.arity_of
  arity_counted e = rw (is_kind 10 e) l.count_is

  pub arity_none : (at w p 0 ≡ 10 → ⊥) → 0 ≡ R.arity_of x
  unfolding R.arity_of
  arity_none e = rw (no_kind 10 e) refl

  pub inner : at w p 0 ≡ 11 → Child (at w p) p 4 (λ q. Lies (Named nm) (the_inner x) w q)
  inner e = inner_child nm (at w p) w p x (subst (λ (b : Bool). T b) (sym (is_kind 11 e)) tt) l.body

  pub arity_inner : (n : ℕ) → at w p 0 ≡ 11 → ((nm' : Names) (y : Node) → Lies (Named nm') y w (at w p 4) → n ≡ R.arity_of y) → n ≡ R.arity x
  arity_inner n e h =
      let c = inner e in
      rw (arity_is x, is_kind 11 e) (h nm (the_inner x) (subst (λ (q : ℕ). Lies (Named nm) (the_inner x) w q) (sym c.is) c.holds))

  pub arity_itself : (n : ℕ) → (at w p 0 ≡ 11 → ⊥) → n ≡ R.arity_of x → n ≡ R.arity x
  arity_itself n e h = rw (arity_is x, no_kind 11 e) h

pub inner_inside : {w : List ℕ} {p top : ℕ} → Treed w p top → 8 * p + 8 ≤ length w → at w p 0 ≡ 11 → 8 * at w p 4 + 8 ≤ length w
inner_inside {w} {p} t i e = let c = inner t.names w p t.tree t.lies e in omega (arith, c.is, c.below)

-- the tree is considered alone
pub treed_itself : {w : List ℕ} {p top : ℕ} → Treed w p top → Treed w p (p + 1)
treed_itself t = record { names = t.names; tree = t.tree; lies = t.lies; below = omega arith }
