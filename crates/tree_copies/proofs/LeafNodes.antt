-- The nodes of leaves, and what is done with them.
use mathlib.Core.Path.{◌≡◌, refl, sym, ap, ◌∙◌, subst}
use mathlib.Core.List.{List, [], ◌∷◌, ◌++◌}
use Prim.Native.Nat.{ℕ, ◌+◌, ◌≤◌, ◌<◌}
use Prim.Native.String.{String}
use native.Mathlib.Omega.{arith}
use lib.ListN.{get_or}
use Rattle.definition.specs.Base.{bytes}
use Rattle.definition.specs.Enums as Enums
use Rattle.definition.specs.Enums.{number}
use Rattle.definition.specs.Node as Nodes
use Rattle.definition.specs.Node.{NominalKind, Node, Module, Nominal, EmptyList, FirstElementMarker, VariadicMarker, Throws, Async, kind, nominal_kind, size, sizes, many, count, view}
use Rattle.definition.specs.Machine as M
use Rattle.definition.specs.Machine.{machine, restack}
use Rattle.definition.specs.Perform as R
use Rattle.definition.specs.Perform.{Demangler}
use Rattle.definition.specs.Kind as K
use Rattle.definition.specs.declared.Leaf.{Leaf}
use Rattle.definition.specs.declared.NominalKind as NK
use Rattle.definition.specs.declared.NominalKind.TheVariants as NKs
use Rattle.definition.specs.declared.Param.{Param}
use Rattle.tree_records.specs.Lies.{at, Lies, Would}
use Rattle.tree_records.specs.Holds.{Fixed, Names, Named, Spare, Holds, Ready, Keeps, Grew, Pushed, Remembered, for_record, for_push, for_keeping}
use Rattle.tree_records.specs.declared.State.{State}
use Rattle.tree_nodes.specs.Gives.{spare, nothing_spare, full_spare, taken, Makes, Given, Gives, Operates, WrapsTo}
use Rattle.tree_nodes.specs.Results.{Placed}
use Rattle.tree_nodes.specs.Results.{Step}
use Rattle.tree_records.specs.Trees.{Stays}
use Rattle.tree_records.specs.declared.Trees.{Trees}
use Rattle.tree_nodes.proofs.Taking.{less_spare}
use Rattle.tree_nodes.proofs.Leaving.{keeps_then, beyond_then}
use Rattle.tree_copies.specs.Copies.{for_optional, optional_copies, ReadyTree, Went, Copied, Optioned}

-- LEAVES
-- one record, whatever node it is
pub lone_made : {w w₁ : List ℕ} {N : ℕ} {st : State} {r : Placed} (x : (ℕ → String) → Node) (k a : ℕ) →
    ((nm : Names) (p : ℕ) → Fixed nm.fixed → Would (Named nm) (x nm.fixed) (λ i. get_or (k ∷ 1 ∷ 0 ∷ a ∷ 0 ∷ 0 ∷ 0 ∷ 0 ∷ []) i 0) w p) →
    Grew w w₁ N st r.next (k ∷ 1 ∷ 0 ∷ a ∷ 0 ∷ 0 ∷ 0 ∷ 0 ∷ []) × (r.place ≡ st.top) → Makes x 4 w w₁ N st r
lone_made {w} {w₁} {N} {st} {r} x k a body g =
    let up : r.next.top ≡ st.top + 1 = ap (λ (s : State). s.top) g.0.state in
    record {
      below = omega (arith, up, g.1);
      rising = omega (arith, up);
      depth = ap (λ (s : State). s.depth) g.0.state;
      seen = ap (λ (s : State). s.seen) g.0.state;
      budget = ap (λ (s : State). s.budget) g.0.state;
      keeps = g.0.keeps;
      some = subst (λ (p : ℕ). 1 ≤ at w₁ p 1) (sym g.1) (omega (arith, g.0.fields 1 (omega arith)));
      lies = λ nm f. subst (λ (p : ℕ). Lies (Named nm) (x nm.fixed) w₁ p) (sym g.1) (g.0.made nm (x nm.fixed) (body nm st.top f));
      holds = λ nm sp m h. g.0.holds nm sp m (less_spare _ (for_record sp) (omega arith) (omega arith) (omega arith) (omega arith) h);
    }

-- a node that costs less
pub makes_more : {w w₁ : List ℕ} {N : ℕ} {st : State} {r : Placed} {x : (ℕ → String) → Node} → Makes x 2 w w₁ N st r → Makes x 4 w w₁ N st r
makes_more m = record { below = m.below; rising = m.rising; depth = m.depth; seen = m.seen; budget = m.budget; keeps = m.keeps; some = m.some; lies = m.lies; holds = λ nm sp d h. m.holds nm sp d (less_spare _ (spare (sp.makes + 2) sp.pushes sp.nodes sp.keeps) (omega arith) (omega arith) (omega arith) (omega arith) h) }

-- the node of a leaf, given the fixed names
abbrev pub leaf_of : Leaf → (ℕ → String) → Node
leaf_of l fixed = R.leaf_node (Enums.leaf fixed l)

-- a match arm
pub leaf_is : {w w₁ : List ℕ} {N : ℕ} {st : State} {r : Placed} {l : Leaf} (k : Leaf) → l ≡ k → Makes (leaf_of k) 4 w w₁ N st r → Makes (leaf_of l) 4 w w₁ N st r
leaf_is {w} {w₁} {N} {st} {r} k e m = subst (λ (x : Leaf). Makes (leaf_of x) 4 w w₁ N st r) (sym e) m

module _ {w w₁ : List ℕ} {N : ℕ} {st : State} {r : Placed} where
  pub module_leaf : (name a : ℕ) → ((nm : Names) → Fixed nm.fixed → Named nm a (bytes (nm.fixed name))) → Grew w w₁ N st r.next (1 ∷ 1 ∷ 0 ∷ a ∷ 0 ∷ 0 ∷ 0 ∷ 0 ∷ []) × (r.place ≡ st.top) → Makes (leaf_of (Leaf.Module name)) 4 w w₁ N st r
  unfolding R.leaf_node Enums.leaf kind size count view
  module_leaf name a n g = lone_made _ 1 a (λ nm p f. record { kind_is = refl; size_is = refl; count_is = refl; body = n nm f }) g

  pub standard_leaf : (k : NK.NominalKind) (name : ℕ) → Makes (λ fixed. Nominal (Enums.nominal_kind k) (Module (bytes "Swift")) (bytes (fixed name))) 4 w w₁ N st r → Makes (leaf_of (Leaf.StandardNominal k name)) 4 w w₁ N st r
  unfolding R.leaf_node R.standard_nominal Enums.leaf
  standard_leaf k name m = m

  pub param_leaf : (p : Param) → Makes (λ _. R.generic_param (Enums.param p)) 2 w w₁ N st r → Makes (leaf_of (Leaf.GenericParam p)) 4 w w₁ N st r
  unfolding R.leaf_node Enums.leaf
  param_leaf p m = makes_more m

  pub empty_leaf : Grew w w₁ N st r.next (30 ∷ 1 ∷ 0 ∷ 0 ∷ 0 ∷ 0 ∷ 0 ∷ 0 ∷ []) × (r.place ≡ st.top) → Makes (leaf_of Leaf.EmptyList) 4 w w₁ N st r
  unfolding R.leaf_node Enums.leaf kind size count view
  empty_leaf g = lone_made _ 30 0 (λ nm p f. record { kind_is = refl; size_is = refl; count_is = refl; body = tt }) g

  pub first_leaf : Grew w w₁ N st r.next (31 ∷ 1 ∷ 0 ∷ 0 ∷ 0 ∷ 0 ∷ 0 ∷ 0 ∷ []) × (r.place ≡ st.top) → Makes (leaf_of Leaf.FirstElementMarker) 4 w w₁ N st r
  unfolding R.leaf_node Enums.leaf kind size count view
  first_leaf g = lone_made _ 31 0 (λ nm p f. record { kind_is = refl; size_is = refl; count_is = refl; body = tt }) g

  pub variadic_leaf : Grew w w₁ N st r.next (32 ∷ 1 ∷ 0 ∷ 0 ∷ 0 ∷ 0 ∷ 0 ∷ 0 ∷ []) × (r.place ≡ st.top) → Makes (leaf_of Leaf.VariadicMarker) 4 w w₁ N st r
  unfolding R.leaf_node Enums.leaf kind size count view
  variadic_leaf g = lone_made _ 32 0 (λ nm p f. record { kind_is = refl; size_is = refl; count_is = refl; body = tt }) g

  pub throws_leaf : Grew w w₁ N st r.next (33 ∷ 1 ∷ 0 ∷ 0 ∷ 0 ∷ 0 ∷ 0 ∷ 0 ∷ []) × (r.place ≡ st.top) → Makes (leaf_of Leaf.Throws) 4 w w₁ N st r
  unfolding R.leaf_node Enums.leaf kind size count view
  throws_leaf g = lone_made _ 33 0 (λ nm p f. record { kind_is = refl; size_is = refl; count_is = refl; body = tt }) g

  pub async_leaf : Grew w w₁ N st r.next (34 ∷ 1 ∷ 0 ∷ 0 ∷ 0 ∷ 0 ∷ 0 ∷ 0 ∷ []) × (r.place ≡ st.top) → Makes (leaf_of Leaf.Async) 4 w w₁ N st r
  unfolding R.leaf_node Enums.leaf kind size count view
  async_leaf g = lone_made _ 34 0 (λ nm p f. record { kind_is = refl; size_is = refl; count_is = refl; body = tt }) g

-- no leaf is larger than two nodes
leaf_size : (fixed : ℕ → String) (l : Leaf) → size (leaf_of l fixed) ≤ 2
unfolding R.leaf_node R.standard_nominal R.generic_param Enums.leaf size
leaf_size fixed (Leaf.Module n) = omega arith
leaf_size fixed (Leaf.StandardNominal k n) = omega arith
leaf_size fixed (Leaf.GenericParam p) = omega arith
leaf_size fixed Leaf.EmptyList = omega arith
leaf_size fixed Leaf.FirstElementMarker = omega arith
leaf_size fixed Leaf.VariadicMarker = omega arith
leaf_size fixed Leaf.Throws = omega arith
leaf_size fixed Leaf.Async = omega arith

-- what there is to spare after a node was made
pub made_ready : {x : (ℕ → String) → Node} {cost : ℕ} {w w₁ : List ℕ} {N : ℕ} {st : State} {r : Placed} {sp : Spare} (sp₁ : Spare) → sp₁.makes + cost ≤ sp.makes → sp₁.pushes ≤ sp.pushes → sp₁.nodes ≤ sp.nodes → sp₁.keeps ≤ sp.keeps →
    Makes x cost w w₁ N st r → Ready w N st sp → Ready w₁ N r.next sp₁
made_ready {x} {cost} {w} {w₁} {N} {st} {r} {sp} sp₁ a b c d m q =
    record { names = q.names; machine = q.machine; holds = m.holds q.names sp₁ q.machine (less_spare sp (spare (sp₁.makes + cost) sp₁.pushes sp₁.nodes sp₁.keeps) a b c d q.holds) }

-- on top of the stack
pub leaf_pushed : {w w₁ w₂ : List ℕ} {N : ℕ} {st u : State} {r : Placed} (l : Leaf) → Makes (leaf_of l) 4 w w₁ N st r → Pushed w₁ w₂ N r.next u r.place → Operates (λ fixed. M.push (leaf_of l fixed)) w w₂ N st (Step.Done u)
unfolding M.push
leaf_pushed {w} {w₁} {w₂} {N} {st} {u} {r} l m p = record {
  runs = λ nm d f h.
      let x : Node = leaf_of l nm.fixed in
      record {
        machine = restack (x ∷ d.stack) d;
        is = refl;
        holds = p.holds nm nothing_spare d x
            (m.holds nm (for_push (size x) nothing_spare) d (less_spare full_spare (spare (3 + 4) 1 (0 + size x) 0) (omega arith) (omega arith) (omega (arith, leaf_size nm.fixed l)) (omega arith) h)) m.below (m.lies nm f);
      };
  past = λ i h. p.keeps.past i h ∙ m.keeps.past i h;
  long = p.keeps.long ∙ m.keeps.long;
}

-- `S`: that many copies
pub leaf_copied : {w w₁ w₂ : List ℕ} {N : ℕ} {st : State} {p : Placed} (l : Leaf) (times : ℕ) (r : Step) → Makes (leaf_of l) 4 w w₁ N st p → Copied w₁ w₂ N p.next times p.place r → Operates (λ names. R.copied N times (leaf_of l names)) w w₂ N st r
leaf_copied {w} {w₁} {w₂} {N} {st} {p} l times (Step.Done u) m c = record {
  runs = λ nm d f h.
      let o : Went (R.copied N times (leaf_of l nm.fixed)) nm w₂ N u nothing_spare d = c.runs nm nothing_spare d (leaf_of l nm.fixed) (m.holds nm nothing_spare d (less_spare full_spare (spare 4 0 0 0) (omega arith) (omega arith) (omega arith) (omega arith) h)) (m.lies nm f) in
      record { machine = o.machine; is = o.is; holds = o.holds };
  past = λ i h. c.beyond.past i h ∙ m.keeps.past i h;
  long = c.beyond.long ∙ m.keeps.long;
}
leaf_copied {w} {w₁} {w₂} {N} {st} {p} l times (Step.Refused e) m c = record {
  runs = λ nm d f h. c.runs nm nothing_spare d (leaf_of l nm.fixed) (m.holds nm nothing_spare d (less_spare full_spare (spare 4 0 0 0) (omega arith) (omega arith) (omega arith) (omega arith) h)) (m.lies nm f);
  past = λ i h. c.beyond.past i h ∙ m.keeps.past i h;
  long = c.beyond.long ∙ m.keeps.long;
}

pub enum_made : {w w₁ : List ℕ} {N : ℕ} {st : State} {r : Placed} → Makes (λ names. Nominal (Enums.nominal_kind NKs.Enum) (Module (bytes "Swift")) (bytes (names 28))) 4 w w₁ N st r →
    Makes (λ names. Nominal Nodes.Enum (Module (bytes "Swift")) (bytes (names 28))) 4 w w₁ N st r
unfolding Enums.nominal_kind
enum_made m = m

-- w holds some machine
pub tree_ready : {w : List ℕ} {N : ℕ} {st : State} {sp : Spare} {p : ℕ} → ReadyTree w N st sp p → Ready w N st sp
tree_ready q = record { names = q.names; machine = q.machine; holds = q.holds }

pub given_tree : {w w₁ : List ℕ} {N : ℕ} {st u : State} {p : ℕ} → Gives (R.pop_if K.is_type) 3 w w₁ N st p u → Ready w N st full_spare → ReadyTree w₁ N u (spare 8 0 0 1) p
given_tree g q =
    let o = g.gives q.names full_spare q.machine q.holds in
    record { names = q.names; machine = o.machine; tree = o.tree; holds = less_spare (taken 3 (size o.tree) full_spare) (spare 8 0 0 1) (omega arith) (omega arith) (omega arith) (omega arith) o.holds; lies = o.lies }

-- `Sg`: the four records of `Optional` of the type at place p, and its place remembered
pub record Option (w w₁ w₂ w₃ w₄ : List ℕ) (N : ℕ) (st v x y : State) (r : Placed) (p z cell cp cb : ℕ) : Type 0 where
  pub low : p < st.top
  pub size_is : z ≡ at w₂ p 1 + 3
  pub child : cp ≡ p
  pub base : cb ≡ r.place
  pub first : cell ≡ r.next.top
  pub nominal : Makes (λ names. Nominal Nodes.Enum (Module (bytes "Swift")) (bytes (names 28))) 4 w w₁ N st r
  pub cell_made : Grew w₁ w₂ N r.next v (0 ∷ 0 ∷ 0 ∷ 4294967295 ∷ cp ∷ 0 ∷ 0 ∷ 0 ∷ [])
  pub made : Grew w₂ w₃ N v x (18 ∷ z ∷ 0 ∷ cb ∷ 1 ∷ cell ∷ 0 ∷ 0 ∷ [])
  pub kept : Remembered w₃ w₄ N x y v.top

module _ {w w₁ w₂ w₃ w₄ : List ℕ} {N : ℕ} {st v x y : State} {r : Placed} {p z cell cp cb : ℕ} (o : Option w w₁ w₂ w₃ w₄ N st v x y r p z cell cp cb) where
  up : v.top ≡ r.next.top + 1
  up = ap (λ (s : State). s.top) o.cell_made.state

  upper : x.top ≡ v.top + 1
  upper = ap (λ (s : State). s.top) o.made.state

  highest : y.top ≡ x.top
  highest = ap (λ (s : State). s.top) o.kept.state

  option_keeps : Keeps w w₄ N st.top
  option_keeps =
      keeps_then st.top r.next.top o.nominal.rising o.nominal.keeps
      (keeps_then r.next.top v.top (omega (arith, up)) o.cell_made.keeps (keeps_then v.top x.top (omega (arith, upper)) o.made.keeps o.kept.keeps))

  lay : (nm : Names) (n : Node) → Lies (Named nm) n w p → Lies (Named nm) (R.optional_of n) w₃ v.top
  unfolding R.optional_of R.standard_nominal kind size sizes many count view
  lay nm n l =
      let b : Node = Nominal Nodes.Enum (Module (bytes "Swift")) (bytes "Optional") in
      let b₁ : Lies (Named nm) b w₁ r.place = subst (λ (s : String). Lies (Named nm) (Nominal Nodes.Enum (Module (bytes "Swift")) (bytes s)) w₁ r.place) nm.known.optional (o.nominal.lies nm nm.known) in
      let b₂ : Lies (Named nm) b w₂ r.place = o.cell_made.keeps.trees nm b r.place o.nominal.below b₁ in
      let n₁ : Lies (Named nm) n w₁ p = o.nominal.keeps.trees nm n p o.low l in
      let n₂ : Lies (Named nm) n w₂ p = o.cell_made.keeps.trees nm n p (omega (arith, o.low, o.nominal.rising)) n₁ in
      o.made.made nm (R.optional_of n) (record {
        kind_is = refl;
        size_is = o.size_is ∙ omega (arith, n₂.size_is);
        count_is = refl;
        body = (
          record { place = r.place; is = o.base; below = omega (arith, up, o.nominal.below); holds = b₂ },
          refl,
          record {
            place = r.next.top;
            is = o.first;
            below = omega (arith, up);
            holds = (o.cell_made.fields 3 (omega arith), record { place = p; is = o.cell_made.fields 4 (omega arith) ∙ o.child; below = omega (arith, o.low, o.nominal.rising); holds = n₂ }, tt);
          },
        );
      })

  -- the machine that remembers it
  behind : (nm : Names) (sp : Spare) (d : Demangler) (n : Node) → Holds nm w N st (for_optional sp) d → Lies (Named nm) n w p → Holds nm w₄ N y sp (machine d.budget d.stack (d.substitutions ++ (R.optional_of n ∷ [])) d.words)
  behind nm sp d n i l =
      let h₁ : Holds nm w₁ N r.next (for_record (for_record (for_keeping sp))) d = o.nominal.holds nm (for_record (for_record (for_keeping sp))) d (less_spare (for_optional sp) _ (omega arith) (omega arith) (omega arith) (omega arith) i) in
      o.kept.holds nm sp d (R.optional_of n) (o.made.holds nm (for_keeping sp) d (o.cell_made.holds nm (for_record (for_keeping sp)) d h₁)) (omega (arith, upper)) (lay nm n l)

  there : (nm : Names) (n : Node) → Lies (Named nm) n w p → Lies (Named nm) (R.optional_of n) w₄ v.top
  there nm n l = o.kept.keeps.trees nm (R.optional_of n) v.top (omega (arith, upper)) (lay nm n l)

  pub option_copies : ReadyTree w N st (spare 8 0 0 1) p → Ready w₄ N y nothing_spare × ((v.top < y.top) × (1 ≤ at w₄ v.top 1))
  option_copies q = (
    record { names = q.names; machine = _; holds = behind q.names nothing_spare q.machine q.tree q.holds q.lies },
    (omega (arith, upper, highest), omega (arith, o.kept.keeps.fields v.top 1 (omega (arith, upper)) (omega arith), o.made.fields 1 (omega arith), o.size_is)),
  )

  pub optioned : {w₅ : List ℕ} (times : ℕ) (s : Step) → Copied w₄ w₅ N y times v.top s → Optioned w w₅ N st times p s
  unfolding M.remember
  optioned {w₅} times (Step.Done u) c = record {
    runs = λ nm sp d n f i l.
        let a : Went (R.copied N times (R.optional_of n)) nm w₅ N u sp _ = c.runs nm sp _ (R.optional_of n) (behind nm sp d n i l) (there nm n l) in
        record { machine = a.machine; is = a.is; holds = a.holds };
    beyond = beyond_then option_keeps c.beyond;
  }
  optioned {w₅} times (Step.Refused e) c = record { runs = λ nm sp d n f i l. c.runs nm sp _ (R.optional_of n) (behind nm sp d n i l) (there nm n l); beyond = beyond_then option_keeps c.beyond }

-- after a wrap and a type
pub optional_done : {w w₁ w₂ : List ℕ} {N : ℕ} {st u v : State} {p : ℕ} (times : ℕ) (s : Step) → WrapsTo w N st u → Gives (R.pop_if K.is_type) 3 w w₁ N u p v → Optioned w₁ w₂ N v times p s → Operates (λ _. R.optional N times) w w₂ N st s
unfolding R.optional
optional_done {w} {w₁} {w₂} {N} {st} {u} {v} {p} times (Step.Done x) a b c = record {
  runs = λ nm m f h.
      let i = a.gives nm full_spare m h in
      let j : Given (R.pop_if K.is_type) 3 nm w₁ N p v full_spare i.0 = b.gives nm full_spare i.0 i.2 in
      let o : Went (optional_copies N times j.tree) nm w₂ N x nothing_spare j.machine = c.runs nm nothing_spare j.machine j.tree f (less_spare (taken 3 (size j.tree) full_spare) (for_optional nothing_spare) (omega arith) (omega arith) (omega arith) (omega arith) j.holds) j.lies in
      record { machine = o.machine; is = rw (i.1, j.is) o.is; holds = o.holds };
  past = λ i h. c.beyond.past i h ∙ b.keeps.past i h;
  long = c.beyond.long ∙ b.keeps.long;
}
optional_done {w} {w₁} {w₂} {N} {st} {u} {v} {p} times (Step.Refused e) a b c = record {
  runs = λ nm m f h.
      let i = a.gives nm full_spare m h in
      let j : Given (R.pop_if K.is_type) 3 nm w₁ N p v full_spare i.0 = b.gives nm full_spare i.0 i.2 in
      rw (i.1, j.is) (c.runs nm nothing_spare j.machine j.tree f (less_spare (taken 3 (size j.tree) full_spare) (for_optional nothing_spare) (omega arith) (omega arith) (omega arith) (omega arith) j.holds) j.lies);
  past = λ i h. c.beyond.past i h ∙ b.keeps.past i h;
  long = c.beyond.long ∙ b.keeps.long;
}

-- the four records on `Trees`
pub option_of : {t t₁ t₂ t₃ t₄ : Trees} {p base cell whole z : ℕ} → p < t.state.top → z ≡ at t₂.ws.now p 1 + 3 →
    Stays t t₁ → Makes (λ names. Nominal (Enums.nominal_kind NKs.Enum) (Module (bytes "Swift")) (bytes (names 28))) 4 t.ws.now t₁.ws.now t.n t.state (record { place = base; next = t₁.state }) →
    Stays t₁ t₂ → Grew t₁.ws.now t₂.ws.now t₁.n t₁.state t₂.state (0 ∷ 0 ∷ 0 ∷ 4294967295 ∷ p ∷ 0 ∷ 0 ∷ 0 ∷ []) → cell ≡ t₁.state.top →
    Stays t₂ t₃ → Grew t₂.ws.now t₃.ws.now t₂.n t₂.state t₃.state (18 ∷ z ∷ 0 ∷ base ∷ 1 ∷ cell ∷ 0 ∷ 0 ∷ []) → whole ≡ t₂.state.top →
    Stays t₃ t₄ → Remembered t₃.ws.now t₄.ws.now t₃.n t₃.state t₄.state whole →
    Option t.ws.now t₁.ws.now t₂.ws.now t₃.ws.now t₄.ws.now t.n t.state t₂.state t₃.state t₄.state (record { place = base; next = t₁.state }) p z cell p base
option_of l ez s₁ m s₂ g₁ e₁ s₃ g₂ e₂ s₄ k = record {
  low = l;
  size_is = ez;
  child = refl;
  base = refl;
  first = e₁;
  nominal = enum_made m;
  cell_made = rw s₁.ceiling at g₁;
  made = rw (s₂.ceiling, s₁.ceiling) at g₂;
  kept = rw (s₃.ceiling, s₂.ceiling, s₁.ceiling, e₂) at k;
}
