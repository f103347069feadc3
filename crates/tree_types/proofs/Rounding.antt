-- One round of each list.
use mathlib.Core.Path.{◌≡◌, refl, subst}
use mathlib.Core.Bool.{Bool, true, false}
use mathlib.Core.List.{List}
use mathlib.Core.Option.{Option, some, none}
use Prim.Native.Nat.{ℕ, suc, ◌≤◌, ◌<◌}
use native.Mathlib.Omega.{arith}
use lib.Dec.{eqb}
use Rattle.definition.specs.Base.{Name, ok, refused, ret}
use Rattle.definition.specs.Kind as K
use Rattle.definition.specs.Node.{Node, Nodes, cons, size}
use Rattle.definition.specs.Perform as R
use Rattle.definition.specs.Perform.{Demangler, Run}
use Rattle.tree_records.specs.Lies.{absent}
use Rattle.tree_records.specs.Holds.{Names, Spare, Holds, Keeps}
use Rattle.tree_records.specs.declared.State.{State}
use Rattle.machine.specs.Beyond.{Beyond, beyond_itself}
use Rattle.tree_nodes.specs.Gives.{taken, Gives, GivesIf, Marks}
use Rattle.tree_nodes.specs.Results.{Marked}
use Rattle.tree_nodes.proofs.Leaving.{keeps_then}
use Rattle.tree_nodes.proofs.Taking.{less_spare, keeps_itself}
use Rattle.tree_types.specs.Cells.{Added, LabelTaken, grown, Listed, Adds, Labels}
use Rattle.tree_types.specs.TypeLists.{Loop, Went, Turns, next_of}
use Rattle.tree_types.specs.declared.cells.Chain.{Chain}
use Rattle.tree_types.proofs.cells.Cells.{listed_moves}

-- a tree that was taken, and its cell
module _ {w w' : List ℕ} {N : ℕ} {u : State} {l : Chain} {label p : ℕ} {r : Added} (a : Adds w w' N u l label p r) where
  pub went : {step : Run Nodes} {next : Nodes → Run Nodes} (nm : Names) (sp : Spare) (m m₁ : Demangler) (o : Option Name) (x : Node) (ns : Nodes) (gain : ℕ) → 2 ≤ gain → Listed nm (cons o x ns) w' r.next.top r.list → Holds nm w N u (taken gain (size x) (grown ns sp)) m₁ → step m ≡ next (cons o x ns) m₁ →
      Went step next nm w' N r.next r.list sp m
  went nm sp m m₁ o x ns gain q c h e = record {
    list = cons o x ns;
    machine = m₁;
    is = e;
    listed = c;
    holds = a.holds nm sp m₁ o x ns (less_spare (taken gain (size x) (grown ns sp)) (taken 2 (size x) (grown ns sp)) (omega arith) (omega arith) (omega arith) (omega arith) h);
  }

module _ {w w' : List ℕ} {N : ℕ} {st : State} {first variadic : Marked} {named : LabelTaken} {u : State} {l : Chain} {p : ℕ} {r : Added} where
  pub element_turns : (last : Bool) → first.taken ≡ last → Marks (R.took K.first_element_marker) w N st first → Marks (R.took K.variadic_marker) w N first.next variadic → Labels w N variadic.next named → Gives (R.pop_if K.is_type) 3 w w N named.next p u → Adds w w' N u l named.label p r →
      Turns R.elements (next_of last R.elements) w w' N st l r.list r.next × (r.next.depth < st.depth)
  unfolding R.elements
  element_turns last e a b c d q = (
    record {
      rising = omega (arith, a.top, b.top, c.top, d.rising, q.top);
      keeps = keeps_then st.top u.top (omega (arith, a.top, b.top, c.top, d.rising)) (keeps_itself w N st.top) q.keeps;
      gives = λ nm sp m ns f h ls.
          let t₁ = a.gives nm (grown ns sp) m h in
          let t₂ = b.gives nm (grown ns sp) t₁.0 t₁.2 in
          let t₃ = c.gives nm (grown ns sp) t₂.0 t₂.2 in
          let t₄ = d.gives nm (grown ns sp) t₃.machine t₃.holds in
          let o = R.label_of t₃.label in
          went q nm sp m t₄.machine o t₄.tree ns 3 (omega arith)
          (q.listed nm o t₄.tree ns (listed_moves u.top (keeps_itself w N st.top) (omega (arith, a.top, b.top, c.top, d.rising)) ls) t₃.labelled t₄.lies)
          t₄.holds
          (rw (t₁.1, t₂.1, t₃.is, t₄.is, e) refl);
    },
    omega (arith, a.deep, b.deep, c.deep, d.deep, q.depth),
  )

module _ {w : List ℕ} {N : ℕ} {st : State} {first variadic : Marked} {named : LabelTaken} where
  pub element_refused : {k : ℕ} → Marks (R.took K.first_element_marker) w N st first → Marks (R.took K.variadic_marker) w N first.next variadic → Labels w N variadic.next named → ((nm : Names) (sp : Spare) (m : Demangler) → Holds nm w N named.next sp m → R.pop_if K.is_type m ≡ refused k) →
      ((nm : Names) (sp : Spare) (m : Demangler) (ns : Nodes) (f : ℕ) → Holds nm w N st sp m → R.elements (suc f) ns m ≡ refused k) × Beyond 64 N w w
  unfolding R.elements
  element_refused a b c d = (
    λ nm sp m ns f h.
        let t₁ = a.gives nm sp m h in
        let t₂ = b.gives nm sp t₁.0 t₁.2 in
        let t₃ = c.gives nm sp t₂.0 t₂.2 in
        rw (t₁.1, t₂.1, t₃.is, d nm sp t₃.machine t₃.holds) refl,
    beyond_itself w N,
  )

-- MEMBERS
module _ {w w₁ : List ℕ} {N : ℕ} {st : State} {first : Marked} where
  pub member_turns : {w' : List ℕ} {u : State} {l : Chain} {p : ℕ} {r : Added} (last : Bool) → first.taken ≡ last → Marks (R.took K.first_element_marker) w N st first → Gives R.protocol 2 w w₁ N first.next p u → Adds w₁ w' N u l absent p r →
      Turns R.members (next_of last R.members) w w' N st l r.list r.next × (r.next.depth < st.depth)
  unfolding R.members
  member_turns {w'} {u} {l} {p} {r} last e a d q =
      let keeps : Keeps w w₁ N st.top = subst (λ (i : ℕ). Keeps w w₁ N i) a.top d.keeps in (
        record {
          rising = omega (arith, a.top, d.rising, q.top);
          keeps = keeps_then st.top u.top (omega (arith, a.top, d.rising)) keeps q.keeps;
          gives = λ nm sp m ns f h ls.
              let t₁ = a.gives nm (grown ns sp) m h in
              let t₂ = d.gives nm (grown ns sp) t₁.0 t₁.2 in
              went q nm sp m t₂.machine none t₂.tree ns 2 (omega arith)
              (q.listed nm none t₂.tree ns (listed_moves u.top keeps (omega (arith, a.top, d.rising)) ls) refl t₂.lies)
              t₂.holds
              (rw (t₁.1, t₂.is, e) refl);
        },
        omega (arith, a.deep, d.deep, q.depth),
      )

  pub member_refused : {k : ℕ} → Marks (R.took K.first_element_marker) w N st first → ((nm : Names) (sp : Spare) (m : Demangler) → Holds nm w N first.next sp m → R.protocol m ≡ refused k) × Beyond 64 N w w₁ →
      ((nm : Names) (sp : Spare) (m : Demangler) (ns : Nodes) (f : ℕ) → Holds nm w N st sp m → R.members (suc f) ns m ≡ refused k) × Beyond 64 N w w₁
  unfolding R.members
  member_refused a d = (
    λ nm sp m ns f h.
        let t₁ = a.gives nm sp m h in
        rw (t₁.1, d.0 nm sp t₁.0 t₁.2) refl,
    d.1,
  )

-- ARGUMENTS
module _ {w w' : List ℕ} {N : ℕ} {st u : State} {l : Chain} {p : ℕ} {r : Added} where
  -- a node that was tried for, and its cell: the loop continues, as `step` says
  tried_turns : (loop : Loop) (want : ℕ → Bool) → ((f : ℕ) (ns : Nodes) (m m₁ : Demangler) (x : Node) → R.try want m ≡ ok (some x) m₁ → loop (suc f) ns m ≡ loop f (cons none x ns) m₁) → GivesIf (R.try want) w N st p u → Adds w w' N u l absent p r →
      Turns loop loop w w' N st l r.list r.next × (r.next.depth < st.depth)
  tried_turns loop want step d q = (
    record {
      rising = omega (arith, d.top, q.top);
      keeps = subst (λ (i : ℕ). Keeps w w' N i) d.top q.keeps;
      gives = λ nm sp m ns f h ls.
          let t = d.gives nm (grown ns sp) m h in
          went q nm sp m t.machine none t.tree ns 3 (omega arith)
          (q.listed nm none t.tree ns (listed_moves u.top (keeps_itself w N st.top) (omega (arith, d.top)) ls) refl t.lies)
          t.holds
          (step f ns m t.machine t.tree t.is);
    },
    omega (arith, d.deep, q.depth),
  )

  pub argument_turns : GivesIf (R.try K.is_type) w N st p u → Adds w w' N u l absent p r → Turns R.arguments R.arguments w w' N st l r.list r.next × (r.next.depth < st.depth)
  unfolding R.arguments
  argument_turns = tried_turns R.arguments K.is_type (λ f ns m m₁ x e. rw e refl)

  pub requirement_turns : GivesIf (R.try K.is_requirement) w N st p u → Adds w w' N u l absent p r → Turns R.requirements R.requirements w w' N st l r.list r.next × (r.next.depth < st.depth)
  unfolding R.requirements
  requirement_turns = tried_turns R.requirements K.is_requirement (λ f ns m m₁ x e. rw e refl)

-- a node that is not there
abbrev pub Missing : (ℕ → Bool) → (w : List ℕ) (N : ℕ) (st : State) → Type 0
Missing want w N st = (nm : Names) (sp : Spare) (m : Demangler) → Holds nm w N st sp m → R.try want m ≡ ok none m

pub requirements_end : {w : List ℕ} {N : ℕ} {st : State} (l : Chain) → Missing K.is_requirement w N st → Turns R.requirements (λ f. ret) w w N st l l st
unfolding R.requirements
requirements_end {w} {N} {st} l d = record {
  rising = omega arith;
  keeps = keeps_itself w N st.top;
  gives = λ nm sp m ns f h ls. record { list = ns; machine = m; is = rw (d nm (grown ns sp) m h) refl; listed = ls; holds = h };
}

module _ {w : List ℕ} {N : ℕ} {st : State} {opened : Marked} (none_there : Missing K.is_type w N st) (a : Marks (R.took K.empty_list) w N st opened) where
  -- the beginning of the list
  pub arguments_end : (l : Chain) → opened.taken ≡ true → Turns R.arguments (λ f. ret) w w N st l l opened.next
  unfolding R.arguments
  arguments_end l e = record {
    rising = omega (arith, a.top);
    keeps = keeps_itself w N st.top;
    gives = λ nm sp m ns f h ls.
        let t = a.gives nm (grown ns sp) m h in
        record { list = ns; machine = t.0; is = rw (none_there nm (grown ns sp) m h, t.1, e) refl; listed = listed_moves opened.next.top (keeps_itself w N st.top) (omega (arith, a.top)) ls; holds = t.2 };
  }

  -- a marker between two levels
  pub arguments_pass : {u : State} {p : ℕ} (l : Chain) → opened.taken ≡ false → Gives (R.pop_if (eqb K.first_element_marker)) 3 w w N opened.next p u → Turns R.arguments R.arguments w w N st l l u × (u.depth < st.depth)
  unfolding R.arguments
  arguments_pass {u} l e d = (
    record {
      rising = omega (arith, a.top, d.rising);
      keeps = keeps_itself w N st.top;
      gives = λ nm sp m ns f h ls.
          let t = a.gives nm (grown ns sp) m h in
          let s = d.gives nm (grown ns sp) t.0 t.2 in
          record {
            list = ns;
            machine = s.machine;
            is = rw (none_there nm (grown ns sp) m h, t.1, e, s.is) refl;
            listed = listed_moves u.top (keeps_itself w N st.top) (omega (arith, a.top, d.rising)) ls;
            holds = less_spare (taken 3 (size s.tree) (grown ns sp)) (grown ns sp) (omega arith) (omega arith) (omega arith) (omega arith) s.holds;
          };
    },
    omega (arith, a.deep, d.deep),
  )

  pub argument_refused : {k : ℕ} → opened.taken ≡ false → ((nm : Names) (sp : Spare) (m : Demangler) → Holds nm w N opened.next sp m → R.pop_if (eqb K.first_element_marker) m ≡ refused k) →
      ((nm : Names) (sp : Spare) (m : Demangler) (ns : Nodes) (f : ℕ) → Holds nm w N st sp m → R.arguments (suc f) ns m ≡ refused k) × Beyond 64 N w w
  unfolding R.arguments
  argument_refused e d = (
    λ nm sp m ns f h.
        let t = a.gives nm sp m h in
        rw (none_there nm sp m h, t.1, e, d nm sp t.0 t.2) refl,
    beyond_itself w N,
  )
