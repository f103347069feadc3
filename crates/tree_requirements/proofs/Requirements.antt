-- Requirements: a subject, and the constraint on it.
use Rattle.std.specs.Prelude.{if◌then◌else◌}
use mathlib.Core.Path.{◌≡◌, refl, sym, ap, ◌∙◌, subst}
use mathlib.Core.Bool.{Bool, true, false}
use mathlib.Core.List.{List, [], ◌∷◌}
use Prim.Native.Nat.{ℕ, ◌+◌, ◌^◌, ◌<◌}
use Prim.Native.String.{String}
use native.Mathlib.Omega.{arith}
use lib.Dec.{eqb}
use borrow.Author.Tests.{ne_eqb}
use Rattle.definition.specs.Base.{bytes, refused, ◌>>=◌}
use Rattle.definition.specs.Kind as K
use Rattle.definition.specs.Enums as E
use Rattle.definition.specs.Enums.{number}
use Rattle.definition.specs.Node.{Node, Module, Nominal, DependentMember, ConformanceRequirement, SameTypeRequirement, kind, size, count, view}
use Rattle.definition.specs.Node as Nd
use Rattle.definition.specs.Machine.{restack, push}
use Rattle.definition.specs.Perform as R
use Rattle.definition.specs.Perform.{Demangler, Run}
use Rattle.definition.specs.declared.Constraint.{Constraint}
use Rattle.definition.specs.declared.Subject.{Subject}
use Rattle.definition.specs.declared.Param.{Param}
use Rattle.tree_records.specs.Lies.{at, Lies}
use Rattle.tree_records.specs.Holds.{Fixed, Names, Named, Spare, Inside, Holds, Ready, Keeps, Grew, for_record, for_push}
use Rattle.std.specs.Prelude.{Result, Ok, Err}
use Rattle.definition.specs.declared.Refusal.{Refusal}
use Rattle.tree_records.specs.Trees.{Reads}
use Rattle.tree_records.specs.declared.Trees.{Trees}
use Rattle.tree_nodes.specs.Trees.{Refuses, Takes as Takes-in}
use Rattle.tree_nodes.proofs.Steps.{refuses_first}
use Rattle.tree_records.specs.declared.State.{State}
use Rattle.tree_nodes.specs.Results.{Placed}
use Rattle.tree_nodes.specs.Results.{Step}
use Rattle.machine.specs.Beyond.{Beyond, beyond_itself}
use Rattle.tree_nodes.specs.Gives.{spare, nothing_spare, full_spare, for_nodes, taken, Gives, GivesName, Makes, Operates, Left}
use Rattle.tree_nodes.proofs.Taking.{less_spare}
use Rattle.tree_nodes.proofs.Leaving.{keeps_then}
use Rattle.tree_nodes.proofs.Ready.{after_given, room}
use Rattle.tree_parts.specs.Leaves.{Entity, Ends}
use Rattle.tree_requirements.specs.Required.{GivesSubject, TakesSubject, MakesMember, TwoOver, Constrains, Constraining, required}

-- SIZES OF WHAT IS MADE, for any names
some_fixed : ℕ → String
some_fixed n = if eqb n 0 then "Swift" else if eqb n 3 then "AnyObject" else if eqb n 28 then "Optional" else if eqb n 133 then "associated type descriptor for " else ""

are_fixed : Fixed some_fixed
unfolding some_fixed
are_fixed = record {
  swift = refl;
  any_object = refl;
  optional = refl;
  associated_type = refl;
  past = λ n l. rw (ne_eqb n 0 (λ e. omega arith), ne_eqb n 3 (λ e. omega arith), ne_eqb n 28 (λ e. omega arith), ne_eqb n 133 (λ e. omega arith)) refl;
}

some_names : Names
some_names = record { text = []; words = []; noted = []; fixed = some_fixed; known = are_fixed }

made_size : {x : (ℕ → String) → Node} {cost : ℕ} {w w' : List ℕ} {N : ℕ} {st : State} {r : Placed} → Makes x cost w w' N st r → at w' r.place 1 ≡ size (x some_fixed)
unfolding some_names
made_size g = (g.lies some_names are_fixed).size_is

param_size : (p : Param) → size (R.generic_param (E.param p)) ≡ 1
unfolding R.generic_param size
param_size p = refl

-- SUBJECTS
pub member_made : {w w₁ w₂ : List ℕ} {N : ℕ} {st v : State} {p : Param} {r : Placed} {name a : ℕ} → Makes (λ _. R.generic_param (E.param p)) 2 w w₁ N st r → a ≡ r.place → Grew w₁ w₂ N r.next v (8 ∷ 2 ∷ 0 ∷ name ∷ a ∷ 0 ∷ 0 ∷ 0 ∷ []) → MakesMember p name w w₂ N st (record { place = r.next.top; next = v })
unfolding kind size count view
member_made {w} {w₁} {w₂} {N} {st} {v} {p} {r} {name} {a} g e h = record {
  below = omega (arith, ap (λ (s : State). s.top) h.state);
  small = omega (arith, h.fields 1 (omega arith));
  keeps = keeps_then st.top r.next.top g.rising g.keeps h.keeps;
  lies = λ nm k f n. h.made nm (DependentMember (R.generic_param (E.param p)) k) (record {
    kind_is = refl;
    size_is = omega (arith, param_size p);
    count_is = refl;
    body = (n, record { place = r.place; is = e; below = g.below; holds = g.lies nm f });
  });
  holds = λ nm sp m q. h.holds nm sp m (g.holds nm (for_record sp) m q);
}

-- the state after a node was made has room for another, and its place fits
module _ {x : (ℕ → String) → Node} {w w₁ : List ℕ} {N : ℕ} {st : State} {r : Placed} (q : Ready w N st (spare 4 0 0 0)) (g : Makes x 2 w w₁ N st r) where
  pub made_room : Inside w₁ N r.next 2 0 0
  made_room = let h = g.holds q.names (spare 2 0 0 0) q.machine q.holds in record { small = h.small; long = h.long; charged = h.charged; room = h.room; deep = h.deep; kept = h.kept }

  pub made_place : r.place < 2 ^ 32
  made_place = let i = made_room in omega (arith, g.below, i.room, i.charged, i.small)

module _ {w : List ℕ} {N : ℕ} {st : State} (on : Subject) where
  pub subject_param : {w' : List ℕ} {p : Param} {r : Placed} → on ≡ Subject.OfParam p → Makes (λ _. R.generic_param (E.param p)) 2 w w' N st r → GivesSubject (R.subject (E.subject on)) w w' N st r.place r.next
  unfolding R.subject E.subject
  subject_param {w'} {p} {r} e g = subst (λ (s : Subject). GivesSubject (R.subject (E.subject s)) w w' N st r.place r.next) (sym e) (record {
    below = g.below;
    small = omega (arith, made_size g, param_size p);
    keeps = g.keeps;
    readies = λ nm sp m h. (m, less_spare (for_nodes 1 sp) sp (omega arith) (omega arith) (omega arith) (omega arith) (g.holds nm (for_nodes 1 sp) m h));
    gives = λ nm sp m f h. record {
      tree = R.generic_param (E.param p);
      machine = m;
      is = refl;
      lies = g.lies nm f;
      holds = less_spare (for_nodes 1 sp) (for_nodes (size (R.generic_param (E.param p))) sp) (omega arith) (omega arith) (omega (arith, param_size p)) (omega arith) (g.holds nm (for_nodes 1 sp) m h);
    };
  })

  pub subject_stack : {p : ℕ} {u : State} → on ≡ Subject.OfStack → Gives (R.pop_if K.is_type) 3 w w N st p u → GivesSubject (R.subject (E.subject on)) w w N st p u
  unfolding R.subject E.subject
  subject_stack {p} {u} e g = subst (λ (s : Subject). GivesSubject (R.subject (E.subject s)) w w N st p u) (sym e) (record {
    below = g.below;
    small = g.small;
    keeps = g.keeps;
    readies = λ nm sp m h.
        let o = g.gives nm (for_record (for_nodes 1 sp)) m h in
        (o.machine, less_spare (taken 3 (size o.tree) (for_record (for_nodes 1 sp))) sp (omega arith) (omega arith) (omega arith) (omega arith) o.holds);
    gives = λ nm sp m f h.
        let o = g.gives nm (for_record (for_nodes 1 sp)) m h in
        record {
          tree = o.tree;
          machine = o.machine;
          is = o.is;
          lies = o.lies;
          holds = less_spare (taken 3 (size o.tree) (for_record (for_nodes 1 sp))) (for_nodes (size o.tree) sp) (omega arith) (omega arith) (omega arith) (omega arith) o.holds;
        };
  })

  pub subject_member : {w' : List ℕ} {p : Param} {name : ℕ} {u : State} {r : Placed} → on ≡ Subject.OfMember p → GivesName R.assoc_type_name w N st name u → MakesMember p name w w' N u r → GivesSubject (R.subject (E.subject on)) w w' N st r.place r.next
  unfolding R.subject E.subject size
  subject_member {w'} {p} {name} {u} {r} e g k = subst (λ (s : Subject). GivesSubject (R.subject (E.subject s)) w w' N st r.place r.next) (sym e) (record {
    below = k.below;
    small = k.small;
    keeps = subst (λ (n : ℕ). Keeps w w' N n) g.top k.keeps;
    readies = λ nm sp m h.
        let o = g.gives nm (for_record (for_nodes 1 sp)) m h in
        (o.machine, k.holds nm sp o.machine (less_spare (taken 3 1 (for_record (for_nodes 1 sp))) (for_record (for_record sp)) (omega arith) (omega arith) (omega arith) (omega arith) o.holds));
    gives = λ nm sp m f h.
        let o = g.gives nm (for_record (for_nodes 1 sp)) m h in
        record {
          tree = DependentMember (R.generic_param (E.param p)) o.name;
          machine = o.machine;
          is = rw o.is refl;
          lies = k.lies nm o.name f o.named;
          holds = k.holds nm (for_nodes (1 + size (R.generic_param (E.param p))) sp) o.machine
              (less_spare (taken 3 1 (for_record (for_nodes 1 sp))) (for_record (for_record (for_nodes (1 + size (R.generic_param (E.param p))) sp))) (omega arith) (omega arith) (omega (arith, param_size p)) (omega arith) o.holds);
        };
  })

-- CONSTRAINTS
pub conformance_two : TwoOver 13 ConformanceRequirement
unfolding kind size count view
conformance_two = record { kind_is = λ x y. refl; size_is = λ x y. refl; count_is = λ x y. refl; body = λ nm x y f w p a b. (a, b) }

pub same_type_two : TwoOver 14 SameTypeRequirement
unfolding kind size count view
same_type_two = record { kind_is = λ x y. refl; size_is = λ x y. refl; count_is = λ x y. refl; body = λ nm x y f w p a b. (a, b) }

abbrev pub pair_record : (w : List ℕ) (kind p q : ℕ) → List ℕ
pair_record w kind p q = kind ∷ (at w p 1 + at w q 1 + 1) ∷ 0 ∷ p ∷ q ∷ 0 ∷ 0 ∷ 0 ∷ []

-- the sizes that were read
pub left_pair : {w w' : List ℕ} {N : ℕ} {st u : State} {k a b a' b' : ℕ} {vs : List ℕ} → a ≡ a' → b ≡ b' → Left w w' N st u (k ∷ (a + b + 1) ∷ vs) → Left w w' N st u (k ∷ (a' + b' + 1) ∷ vs)
left_pair p q g = rw (← p, ← q) g

-- the record over two trees that w holds
pair_left : {k : ℕ} {c : Node → Node → Node} → TwoOver k c → (nm : Names) (x y : Node) {w w' : List ℕ} {N : ℕ} {st u : State} {p q : ℕ} (m : Demangler) → p < st.top → q < st.top → Lies (Named nm) x w p → Lies (Named nm) y w q → Left w w' N st u (pair_record w k p q) → Holds nm w N st (for_record (for_push (1 + (size x + size y)) nothing_spare)) m → Holds nm w' N u nothing_spare (restack (c x y ∷ m.stack) m)
pair_left {k} {c} o nm x y {w} {w'} {N} {st} {u} {p} {q} m lp lq a b l h =
    l.holds nm nothing_spare m (c x y) (subst (λ (z : ℕ). Holds nm w N st (for_record (for_push z nothing_spare)) m) (sym (o.size_is x y)) h)
    (record {
      kind_is = sym (o.kind_is x y);
      size_is = omega (arith, a.size_is, b.size_is) ∙ sym (o.size_is x y);
      count_is = sym (o.count_is x y);
      body = o.body nm x y _ w st.top (record { place = p; is = refl; below = lp; holds = a }) (record { place = q; is = refl; below = lq; holds = b });
    })

module _ {w : List ℕ} {N : ℕ} {st : State} {p : ℕ} (on : Constraining w N st p) where
  module _ {f : Run Node} {gain : ℕ} {w₁ : List ℕ} {u : State} {q : ℕ} (g : Gives f gain w w₁ N st q u) where
    pub pair_entity : Entity w₁ N u p q
    pair_entity = record { c_below = omega (arith, on.below, g.rising); ty_below = g.below; c_small = omega (arith, on.small, g.keeps.fields p 1 on.below (omega arith)); ty_small = g.small }

    pub pair_room : Inside w₁ N u 5 1 0
    pair_room = room (omega arith) (omega arith) (omega arith) (after_given g on.ready)

    pair_ends : {k : ℕ} {c : Node → Node → Node} {w₂ : List ℕ} {v : State} → TwoOver k c → Left w₁ w₂ N u v (pair_record w₁ k p q) → (nm : Names) (s : Node) → Lies (Named nm) s w p → Ends (f >>= λ y. push (c s y)) nm (spare 13 1 (size s + 3) 0) w w₂ N st (Step.Done v)
    unfolding push
    pair_ends {k} {c} o l nm s a m h =
        let t = g.gives nm (spare 13 1 (size s + 3) 0) m h in
        record {
          machine = restack (c s t.tree ∷ t.machine.stack) t.machine;
          is = rw t.is refl;
          holds = pair_left o nm s t.tree t.machine (omega (arith, on.below, g.rising)) g.below (g.keeps.trees nm s p on.below a) t.lies l
              (less_spare (taken gain (size t.tree) (spare 13 1 (size s + 3) 0)) (for_record (for_push (1 + (size s + size t.tree)) nothing_spare)) (omega arith) (omega arith) (omega arith) (omega arith) t.holds);
        }

    pair_beyond : {vs : List ℕ} {w₂ : List ℕ} {v : State} → Left w₁ w₂ N u v vs → Beyond 64 N w w₂
    pair_beyond l = record { past = λ i j. l.keeps.past i j ∙ g.keeps.past i j; long = l.keeps.long ∙ g.keeps.long }

  pub conforms : {w₁ w₂ : List ℕ} {u v : State} {q : ℕ} (c : Constraint) → c ≡ Constraint.Conforms → Gives R.protocol 2 w w₁ N st q u → Left w₁ w₂ N u v (pair_record w₁ 13 p q) → Constrains c w w₂ N st p (Step.Done v)
  unfolding R.requirement E.constraint
  conforms {w₁} {w₂} {u} {v} c e g l = subst (λ (y : Constraint). Constrains y w w₂ N st p (Step.Done v)) (sym e) (record { ends = λ nm s f a. pair_ends g conformance_two l nm s a; beyond = pair_beyond g l })

  pub superclass : {w₁ w₂ : List ℕ} {u v : State} {q : ℕ} (c : Constraint) → c ≡ Constraint.Superclass → Gives (R.pop_if K.is_type) 3 w w₁ N st q u → Left w₁ w₂ N u v (pair_record w₁ 13 p q) → Constrains c w w₂ N st p (Step.Done v)
  unfolding R.requirement E.constraint
  superclass {w₁} {w₂} {u} {v} c e g l = subst (λ (y : Constraint). Constrains y w w₂ N st p (Step.Done v)) (sym e) (record { ends = λ nm s f a. pair_ends g conformance_two l nm s a; beyond = pair_beyond g l })

  pub same_type : {w₁ w₂ : List ℕ} {u v : State} {q : ℕ} (c : Constraint) → c ≡ Constraint.SameType → Gives (R.pop_if K.is_type) 3 w w₁ N st q u → Left w₁ w₂ N u v (pair_record w₁ 14 p q) → Constrains c w w₂ N st p (Step.Done v)
  unfolding R.requirement E.constraint
  same_type {w₁} {w₂} {u} {v} c e g l = subst (λ (y : Constraint). Constrains y w w₂ N st p (Step.Done v)) (sym e) (record { ends = λ nm s f a. pair_ends g same_type_two l nm s a; beyond = pair_beyond g l })

  -- nothing wanted is on top
  pub conforms_not : {w₁ : List ℕ} {r : Refusal} (c : Constraint) → c ≡ Constraint.Conforms → ((nm : Names) (sp : Spare) (m : Demangler) → Holds nm w N st sp m → R.protocol m ≡ refused (number r)) × Beyond 64 N w w₁ → Constrains c w w₁ N st p (Step.Refused r)
  unfolding R.requirement E.constraint
  conforms_not {w₁} {r} c e g = subst (λ (y : Constraint). Constrains y w w₁ N st p (Step.Refused r)) (sym e) (record { ends = λ nm s f a m h. rw (g.0 nm _ m h) refl; beyond = g.1 })

  pub superclass_not : {w₁ : List ℕ} {r : Refusal} (c : Constraint) → c ≡ Constraint.Superclass → ((nm : Names) (sp : Spare) (m : Demangler) → Holds nm w N st sp m → R.pop_if K.is_type m ≡ refused (number r)) × Beyond 64 N w w₁ → Constrains c w w₁ N st p (Step.Refused r)
  unfolding R.requirement E.constraint
  superclass_not {w₁} {r} c e g = subst (λ (y : Constraint). Constrains y w w₁ N st p (Step.Refused r)) (sym e) (record { ends = λ nm s f a m h. rw (g.0 nm _ m h) refl; beyond = g.1 })

  pub same_type_not : {w₁ : List ℕ} {r : Refusal} (c : Constraint) → c ≡ Constraint.SameType → ((nm : Names) (sp : Spare) (m : Demangler) → Holds nm w N st sp m → R.pop_if K.is_type m ≡ refused (number r)) × Beyond 64 N w w₁ → Constrains c w w₁ N st p (Step.Refused r)
  unfolding R.requirement E.constraint
  same_type_not {w₁} {r} c e g = subst (λ (y : Constraint). Constrains y w w₁ N st p (Step.Refused r)) (sym e) (record { ends = λ nm s f a m h. rw (g.0 nm _ m h) refl; beyond = g.1 })

  -- layouts
  pub layout_broken : (b : Bool) → b ≡ false → Constrains (Constraint.Layout b) w w N st p (Step.Refused Refusal.Spelling)
  unfolding R.requirement E.constraint number
  layout_broken b e = subst (λ (y : Bool). Constrains (Constraint.Layout y) w w N st p (Step.Refused Refusal.Spelling)) (sym e) (record { ends = λ nm s f a m h. refl; beyond = beyond_itself w N })

  module _ {w₁ : List ℕ} {r : Placed} (g : Makes (λ fixed. Nominal Nd.Protocol (Module (bytes "Swift")) (bytes (fixed 3))) 4 w w₁ N st r) where
    any_size : (fixed : ℕ → String) → size (Nominal Nd.Protocol (Module (bytes "Swift")) (bytes (fixed 3))) ≡ 2
    unfolding size
    any_size fixed = refl

    pub layout_entity : Entity w₁ N r.next p r.place
    layout_entity = record { c_below = omega (arith, on.below, g.rising); ty_below = g.below; c_small = omega (arith, on.small, g.keeps.fields p 1 on.below (omega arith)); ty_small = omega (arith, made_size g, any_size some_fixed) }

    pub layout_room : Inside w₁ N r.next 5 1 0
    layout_room =
        let q = on.ready in
        let h = g.holds q.names (spare 9 1 3 0) q.machine q.holds in
        record { small = h.small; long = h.long; charged = h.charged; room = omega (arith, h.room); deep = h.deep; kept = h.kept }

    pub layout_done : {w₂ : List ℕ} {v : State} (b : Bool) → b ≡ true → Left w₁ w₂ N r.next v (pair_record w₁ 13 p r.place) → Constrains (Constraint.Layout b) w w₂ N st p (Step.Done v)
    unfolding R.requirement E.constraint R.any_object R.standard_nominal push
    layout_done {w₂} {v} b e l = subst (λ (y : Bool). Constrains (Constraint.Layout y) w w₂ N st p (Step.Done v)) (sym e) (record {
      ends = λ nm s f a m h.
          let x : Node = Nominal Nd.Protocol (Module (bytes "Swift")) (bytes "AnyObject") in
          let lies : Lies (Named nm) x w₁ r.place = subst (λ (t : String). Lies (Named nm) (Nominal Nd.Protocol (Module (bytes "Swift")) (bytes t)) w₁ r.place) f.any_object (g.lies nm f) in
          record {
            machine = restack (ConformanceRequirement s x ∷ m.stack) m;
            is = refl;
            holds = pair_left conformance_two nm s x m (omega (arith, on.below, g.rising)) g.below (g.keeps.trees nm s p on.below a) lies l
                (less_spare (spare 9 1 (size s + 3) 0) (for_record (for_push (1 + (size s + size x)) nothing_spare)) (omega arith) (omega arith) (omega (arith, any_size (λ _. "AnyObject"))) (omega arith) (g.holds nm (spare 9 1 (size s + 3) 0) m h));
          };
      beyond = record { past = λ i j. l.keeps.past i j ∙ g.keeps.past i j; long = l.keeps.long ∙ g.keeps.long };
    })

-- THE OPERATOR
module _ (on : Subject) (c : Constraint) {w w₁ : List ℕ} {N : ℕ} {st : State} where
  module _ {p : ℕ} {u : State} (g : GivesSubject (R.subject (E.subject on)) w w₁ N st p u) where
    pub constraining : Ready w N st full_spare → Constraining w₁ N u p
    constraining q =
        let o = g.readies q.names (spare 13 1 3 0) q.machine (less_spare full_spare (for_record (for_nodes 1 (spare 13 1 3 0))) (omega arith) (omega arith) (omega arith) (omega arith) q.holds) in
        record { ready = record { names = q.names; machine = o.0; holds = o.1 }; below = g.below; small = g.small }

    pub required_done : (w₂ : List ℕ) (r : Step) → Constrains c w₁ w₂ N u p r → Operates (required on c) w w₂ N st r
    required_done w₂ (Step.Done v) z = record {
      runs = λ nm m i h.
          let t = g.gives nm (spare 13 1 3 0) m i (less_spare full_spare (for_record (for_nodes 1 (spare 13 1 3 0))) (omega arith) (omega arith) (omega arith) (omega arith) h) in
          let o = z.ends nm t.tree i t.lies t.machine (less_spare (for_nodes (size t.tree) (spare 13 1 3 0)) (spare 13 1 (size t.tree + 3) 0) (omega arith) (omega arith) (omega arith) (omega arith) t.holds) in
          record { machine = o.machine; is = rw t.is o.is; holds = o.holds };
      past = λ i l. z.beyond.past i l ∙ g.keeps.past i l;
      long = z.beyond.long ∙ g.keeps.long;
    }
    required_done w₂ (Step.Refused e) z = record {
      runs = λ nm m i h.
          let t = g.gives nm (spare 13 1 3 0) m i (less_spare full_spare (for_record (for_nodes 1 (spare 13 1 3 0))) (omega arith) (omega arith) (omega arith) (omega arith) h) in
          let o = z.ends nm t.tree i t.lies t.machine (less_spare (for_nodes (size t.tree) (spare 13 1 3 0)) (spare 13 1 (size t.tree + 3) 0) (omega arith) (omega arith) (omega arith) (omega arith) t.holds) in
          rw t.is o;
      past = λ i l. z.beyond.past i l ∙ g.keeps.past i l;
      long = z.beyond.long ∙ g.keeps.long;
    }

-- the subject on the stack, and a name over a parameter
pub subject_popped : (on : Subject) (t t' : Trees) (r : Result ℕ Refusal) → on ≡ Subject.OfStack → Reads t t' → Takes-in (R.pop_if K.is_type) 3 t t' r → TakesSubject (R.subject (E.subject on)) t t' r
unfolding R.subject E.subject
subject_popped on t t' (Ok p) e s g = rw s.slice (subject_stack on e (rw s.slice at g))
subject_popped on t t' (Err r) e s g = subst (λ (y : Subject). Refuses (R.subject (E.subject y)) t t' r) (sym e) g

pub subject_no_name : (on : Subject) (t t' : Trees) {p : Param} {r : Refusal} → on ≡ Subject.OfMember p → Refuses R.assoc_type_name t t' r → Refuses (R.subject (E.subject on)) t t' r
unfolding R.subject E.subject
subject_no_name on t t' {p} {r} e g = subst (λ (y : Subject). Refuses (R.subject (E.subject y)) t t' r) (sym e) (refuses_first _ g)

-- the result for the constraint that was matched
pub constrains_at : (c c' : Constraint) {w w' : List ℕ} {N : ℕ} {st : State} {p : ℕ} {r : Step} → c ≡ c' → Constrains c' w w' N st p r → Constrains c w w' N st p r
constrains_at c c' {w} {w'} {N} {st} {p} {r} e h = subst (λ (y : Constraint). Constrains y w w' N st p r) (sym e) h
