-- Nodes that are made of nothing: generic parameters and the types of the module Swift.
use mathlib.Core.Path.{◌≡◌, refl, ap, ◌∙◌}
use mathlib.Core.List.{List, [], ◌∷◌}
use Prim.Native.Nat.{ℕ, ◌+◌, ◌*◌, ◌^◌, ◌<◌}
use native.Mathlib.Omega.{arith}
use Rattle.definition.specs.Base.{bytes}
use Rattle.definition.specs.Enums as Enums
use Rattle.definition.specs.Node.{NominalKind, Module, Nominal, GenericParam, kind, size, count, view, nominal_kind}
use Rattle.definition.specs.Perform as R
use Rattle.definition.specs.declared.Param.{Param}
use Rattle.tree_records.specs.Lies.{Lies}
use Rattle.tree_records.specs.Holds.{Fixed, Names, Named, fixed, Grew, for_record}
use Rattle.tree_records.specs.declared.State.{State}
use Rattle.tree_nodes.specs.Gives.{low_half, high_half, Makes}
use Rattle.tree_nodes.proofs.Taking.{less_spare}
use Rattle.tree_nodes.proofs.Leaving.{keeps_then}

-- a number is made of its halves
pub halves : (x : ℕ) → x ≡ low_half x + 2 ^ 32 * high_half x
halves x = omega arith

-- a fixed name by its number
pub fixed_name : (nm : Names) (n r : ℕ) → n < 134 → r ≡ 65536 + n → Named nm r (bytes (nm.fixed n))
fixed_name nm n r l e = fixed (omega arith) (omega arith) (ap (λ (i : ℕ). bytes (nm.fixed i)) (omega arith))

pub generic_made : {w w₁ : List ℕ} {N : ℕ} {st u : State} (p : Param) (a b c d : ℕ) → a ≡ low_half p.depth → b ≡ high_half p.depth → c ≡ low_half p.index → d ≡ high_half p.index →
    Grew w w₁ N st u (7 ∷ 1 ∷ 0 ∷ a ∷ b ∷ c ∷ d ∷ 0 ∷ []) → Makes (λ _. R.generic_param (Enums.param p)) 2 w w₁ N st (record { place = st.top; next = u })
unfolding R.generic_param kind size count view
generic_made {w} {w₁} {N} {st} {u} p a b c d ea eb ec ed g = record {
  below = omega (arith, ap (λ (s : State). s.top) g.state);
  rising = omega (arith, ap (λ (s : State). s.top) g.state);
  depth = ap (λ (s : State). s.depth) g.state;
  seen = ap (λ (s : State). s.seen) g.state;
  budget = ap (λ (s : State). s.budget) g.state;
  keeps = g.keeps;
  some = omega (arith, g.fields 1 (omega arith));
  lies = λ nm f. g.made nm (GenericParam p.depth p.index) (record { kind_is = refl; size_is = refl; count_is = refl; body = (omega (arith, halves p.depth, ea, eb), omega (arith, halves p.index, ec, ed)) });
  holds = λ nm sp m h. g.holds nm sp m h;
}

pub standard_made : {w w₁ w₂ : List ℕ} {N : ℕ} {st u v : State} (k : NominalKind) (name kn a m : ℕ) → kn ≡ nominal_kind k → ((nm : Names) → Fixed nm.fixed → Named nm a (bytes (nm.fixed name))) → m ≡ st.top →
    Grew w w₁ N st u (1 ∷ 1 ∷ 0 ∷ 65536 ∷ 0 ∷ 0 ∷ 0 ∷ 0 ∷ []) → Grew w₁ w₂ N u v (kn ∷ 2 ∷ 0 ∷ a ∷ m ∷ 0 ∷ 0 ∷ 0 ∷ []) →
    Makes (λ fixed. Nominal k (Module (bytes "Swift")) (bytes (fixed name))) 4 w w₂ N st (record { place = u.top; next = v })
unfolding kind size count view
standard_made {w} {w₁} {w₂} {N} {st} {u} {v} k name kn a m ek en em g h =
    let up : u.top ≡ st.top + 1 = ap (λ (s : State). s.top) g.state in
    record {
      below = omega (arith, ap (λ (s : State). s.top) h.state);
      rising = omega (arith, up, ap (λ (s : State). s.top) h.state);
      depth = ap (λ (s : State). s.depth) h.state ∙ ap (λ (s : State). s.depth) g.state;
      seen = ap (λ (s : State). s.seen) h.state ∙ ap (λ (s : State). s.seen) g.state;
      budget = ap (λ (s : State). s.budget) h.state ∙ ap (λ (s : State). s.budget) g.state;
      keeps = keeps_then st.top u.top (omega (arith, up)) g.keeps h.keeps;
      some = omega (arith, h.fields 1 (omega arith));
      lies = λ nm f.
          let swift : Named nm 65536 (bytes "Swift") = fixed (omega arith) (omega arith) (ap bytes f.swift) in
          let inner : Lies (Named nm) (Module (bytes "Swift")) w₁ st.top = g.made nm (Module (bytes "Swift")) (record { kind_is = refl; size_is = refl; count_is = refl; body = swift }) in
          h.made nm (Nominal k (Module (bytes "Swift")) (bytes (nm.fixed name)))
          (record { kind_is = ek; size_is = refl; count_is = refl; body = (en nm f, record { place = st.top; is = em; below = omega (arith, up); holds = inner }, tt) });
      holds = λ nm sp d i. h.holds nm sp d (g.holds nm (for_record sp) d (less_spare _ (for_record (for_record sp)) (omega arith) (omega arith) (omega arith) (omega arith) i));
    }
