-- The context on top.
use Rattle.std.specs.Prelude.{if◌then◌else◌}
use mathlib.Core.Path.{◌≡◌, refl, sym, ap, ◌∙◌, subst}
use mathlib.Core.Bool.{Bool, true, false}
use mathlib.Core.List.{List, [], ◌∷◌}
use Prim.Native.Nat.{ℕ, ◌<◌}
use native.Mathlib.Omega.{arith}
use lib.Dec.{T}
use Rattle.definition.specs.Base.{Out, ok, refused, and_then, ret, refuse}
use Rattle.definition.specs.Kind as K
use Rattle.definition.proofs.Matches.{the_name, context_in_is}
use Rattle.definition.specs.Node.{Node, Identifier, Module, kind, size, count, view}
use Rattle.definition.specs.Machine as M
use Rattle.definition.specs.Machine.{restack}
use Rattle.definition.specs.Perform as R
use Rattle.definition.specs.Perform.{Demangler, Run}
use Rattle.tree_records.specs.Lies.{at, Lies}
use Rattle.tree_records.specs.Holds.{Names, Named, Spare, Inside, Holds, Ready, TopIs, Took, Keeps, Grew, for_record, for_push}
use Rattle.tree_records.specs.declared.State.{State}
use Rattle.tree_nodes.specs.Gives.{nothing_spare, taken, Gives}
use Rattle.tree_nodes.proofs.ByKind.{identifier_of}
use Rattle.tree_nodes.proofs.Taking.{took_below, took_small, keeps_itself, less_spare}

module _ {w : List ℕ} {N : ℕ} {st u : State} {p : ℕ} (t : Took w N st p u) where
  -- the state after a pop has room for a record
  pub took_room : Ready w N st nothing_spare → Inside w N u 2 0 0
  took_room r =
      let h = (t.gives r.names nothing_spare r.machine r.holds).holds in
      record { small = h.small; long = h.long; charged = h.charged; room = omega (arith, h.room); deep = omega (arith, h.deep); kept = h.kept }

  context_from : (m : Demangler) (x : Node) (xs : List Node) → m.stack ≡ x ∷ xs →
      R.context m ≡ (if K.is_identifier (kind x) then ret (Module (the_name x)) else if K.is_context (kind x) then ret x else refuse 10) (restack xs m)
  unfolding R.context M.pop M.pop_if M.pop_from
  context_from m x xs e = rw (e, context_in_is x) refl

  -- a context as it is
  pub context_direct : Ready w N st nothing_spare → K.is_identifier (at w p 0) ≡ false → K.is_context (at w p 0) ≡ true → Gives R.context 1 w w N st p u
  context_direct r a b = record {
    below = subst (λ (n : ℕ). p < n) (sym t.top) (took_below t r);
    deep = omega (arith, t.deep);
    rising = omega (arith, t.top);
    small = took_small t r;
    keeps = keeps_itself w N st.top;
    gives = λ nm sp m h.
        let g : TopIs nm w N st.top p u sp m = t.gives nm sp m h in
        let k : at w p 0 ≡ kind g.tree = g.lies.kind_is in
        record {
          tree = g.tree;
          machine = restack g.rest m;
          is = context_from m g.tree g.rest g.is ∙ rw (ap K.is_identifier (sym k) ∙ a, ap K.is_context (sym k) ∙ b) refl;
          lies = g.lies;
          holds = less_spare (for_push (size g.tree) sp) (taken 1 (size g.tree) sp) (omega arith) (omega arith) (omega arith) (omega arith) g.holds;
        };
  }

  pub context_refused : K.is_identifier (at w p 0) ≡ false → K.is_context (at w p 0) ≡ false → (nm : Names) (sp : Spare) (m : Demangler) → Holds nm w N st sp m → R.context m ≡ refused 10
  context_refused a b nm sp m h =
      let g : TopIs nm w N st.top p u sp m = t.gives nm sp m h in
      let k : at w p 0 ≡ kind g.tree = g.lies.kind_is in
      context_from m g.tree g.rest g.is ∙ rw (ap K.is_identifier (sym k) ∙ a, ap K.is_context (sym k) ∙ b) refl

  -- an identifier represents a module of its name: one more record
  pub context_module : {w' : List ℕ} {v : State} (name : ℕ) → name ≡ at w p 3 → Ready w N st nothing_spare → K.is_identifier (at w p 0) ≡ true →
      Grew w w' N u v (1 ∷ 1 ∷ 0 ∷ name ∷ 0 ∷ 0 ∷ 0 ∷ 0 ∷ []) → Gives R.context 1 w w' N st u.top v
  unfolding kind size count view
  context_module {w'} {v} name q r a g = record {
    below = omega (arith, ap (λ (s : State). s.top) g.state);
    deep = omega (arith, t.deep, ap (λ (s : State). s.depth) g.state);
    rising = omega (arith, t.top, ap (λ (s : State). s.top) g.state);
    small = omega (arith, g.fields 1 (omega arith));
    keeps = subst (λ (n : ℕ). Keeps w w' N n) t.top g.keeps;
    gives = λ nm sp m h.
        let o : TopIs nm w N st.top p u sp m = t.gives nm sp m h in
        let k : K.is_identifier (kind o.tree) ≡ true = ap K.is_identifier (sym o.lies.kind_is) ∙ a in
        let e : o.tree ≡ Identifier (the_name o.tree) = identifier_of o.tree (subst (λ (b : Bool). T b) (sym k) tt) in
        let one : size o.tree ≡ 1 = ap size e in
        let named : Named nm (at w p 3) (the_name o.tree) = (subst (λ (x : Node). Lies (Named nm) x w p) e o.lies).body in
        record {
          tree = Module (the_name o.tree);
          machine = restack o.rest m;
          is = context_from m o.tree o.rest o.is ∙ rw k refl;
          lies = g.made nm (Module (the_name o.tree)) (record { kind_is = refl; size_is = refl; count_is = refl; body = subst (λ (i : ℕ). Named nm i (the_name o.tree)) (sym q) named });
          holds = g.holds nm (taken 1 1 sp) (restack o.rest m)
              (less_spare (for_push (size o.tree) sp) (for_record (taken 1 1 sp)) (omega arith) (omega arith) (omega (arith, one)) (omega arith) o.holds);
        };
  }

pub context_empty : (m : Demangler) → m.stack ≡ [] → R.context m ≡ refused 10
unfolding R.context M.pop M.pop_if M.pop_from
context_empty m e = rw e refl

-- what is taken as a context has the kind of a context
pub context_kind : (m m₁ : Demangler) (x : Node) → R.context m ≡ ok x m₁ → T (K.is_context (kind x))
unfolding R.context M.pop M.pop_if M.pop_from kind
context_kind m m₁ x = of m.stack
  where
    go : (n : Node) (m₂ : Demangler) (a b : Bool) → K.is_context (kind n) ≡ b → ◌≡◌ {A = Out Demangler Node} ((if◌then◌else◌ {A = Run Node} a (ret (Module (the_name n))) (if◌then◌else◌ {A = Run Node} b (ret n) (refuse 10))) m₂) (ok x m₁) → T (K.is_context (kind x))
    go n m₂ true b q e = let i : Module (the_name n) ≡ x = cc in subst (λ (y : Node). T (K.is_context (kind y))) i tt
    go n m₂ false true q e = let i : n ≡ x = cc in subst (λ (y : Node). T (K.is_context (kind y))) i (subst (λ (b : Bool). T b) (sym q) tt)
    go n m₂ false false q e = let z : ◌≡◌ {A = ℕ} 0 1 = cc in absurd (omega arith)

    of : (s : List Node) → and_then (M.pop_from kind (λ k. true) s m) R.context_in ≡ ok x m₁ → T (K.is_context (kind x))
    of [] e = let z : ◌≡◌ {A = ℕ} 0 1 = cc in absurd (omega arith)
    of (n ∷ s) e = go n (restack s m) (K.is_identifier (kind n)) (K.is_context (kind n)) refl (ap (λ (f : Run Node). f (restack s m)) (sym (context_in_is n)) ∙ e)
