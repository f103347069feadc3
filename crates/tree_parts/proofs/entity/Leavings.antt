-- Records of entities: those with a context and a type.
use mathlib.Core.Path.{◌≡◌, refl, sym, ap, ◌∙◌, subst}
use mathlib.Core.List.{List, [], ◌∷◌}
use Prim.Native.Nat.{ℕ, ◌+◌, ◌<◌}
use native.Mathlib.Omega.{arith}
use lib.ListN.{get_or}
use Rattle.definition.specs.Base.{Name, bytes}
use Rattle.definition.specs.Enums.{number}
use Rattle.definition.specs.Node.{Node, Variable, Accessor, kind, size, count, view}
use Rattle.definition.specs.Machine.{restack, push}
use Rattle.definition.specs.Perform as R
use Rattle.definition.specs.Perform.{Demangler}
use Rattle.definition.specs.declared.Accessor as A
use Rattle.definition.specs.declared.Accessor.TheVariants as Letter
use Rattle.definition.specs.declared.Refusal.TheVariants as Refusal
use Rattle.tree_records.specs.Lies.{at, Child, Lies, Would}
use Rattle.tree_records.specs.Holds.{Fixed, Names, Named, Inside, Grew, for_record, for_push}
use Rattle.tree_records.specs.declared.State.{State}
use Rattle.tree_nodes.specs.Results.{Step}
use Rattle.tree_nodes.specs.Gives.{spare, nothing_spare, Under, Left}
use Rattle.machine.specs.Beyond.{beyond_itself}
use Rattle.tree_nodes.proofs.Taking.{less_spare}
use Rattle.tree_parts.specs.Leaves.{Entity, LeavesVariable}

-- the sizes that were read
pub grew_sized : {w w' : List ℕ} {N : ℕ} {st u : State} {k a b a' b' : ℕ} {vs : List ℕ} → a ≡ a' → b ≡ b' → Grew w w' N st u (k ∷ (a + b + 1) ∷ vs) → Grew w w' N st u (k ∷ (a' + b' + 1) ∷ vs)
grew_sized p q g = rw (← p, ← q) g

abbrev pub entity_record : (w : List ℕ) (kind c ty a d e : ℕ) → List ℕ
entity_record w kind c ty a d e = kind ∷ (at w c 1 + at w ty 1 + 1) ∷ 0 ∷ a ∷ c ∷ ty ∷ d ∷ e ∷ []

-- the children of such a record
pub record Kids (nm : Names) (w : List ℕ) (top c ty : ℕ) (x t : Node) : Type 0 where
  pub c_below : c < top
  pub ty_below : ty < top
  pub c_lies : Lies (Named nm) x w c
  pub ty_lies : Lies (Named nm) t w ty

module _ {nm : Names} {w : List ℕ} {top c ty : ℕ} {x t : Node} (k : Kids nm w top c ty x t) where
  pub in_field_4 : (f : ℕ → ℕ) → f 4 ≡ c → Child f top 4 (λ q. Lies (Named nm) x w q)
  in_field_4 f e = record { place = c; is = e; below = k.c_below; holds = k.c_lies }

  pub in_field_5 : (f : ℕ → ℕ) → f 5 ≡ ty → Child f top 5 (λ q. Lies (Named nm) t w q)
  in_field_5 f e = record { place = ty; is = e; below = k.ty_below; holds = k.ty_lies }

  pub entity_size : at w c 1 + at w ty 1 + 1 ≡ 1 + (size x + size t)
  entity_size = omega (arith, k.c_lies.size_is, k.ty_lies.size_is)

  would_variable : (a : ℕ) (n : Name) → Named nm a n → Would (Named nm) (Variable x n t) (λ i. get_or (entity_record w 20 c ty a 0 0) i 0) w top
  unfolding kind size count view
  would_variable a n h = record { kind_is = refl; size_is = entity_size; count_is = refl; body = (h, in_field_4 _ refl, in_field_5 _ refl) }

module _ {w : List ℕ} {N : ℕ} {st : State} {c ty : ℕ} (q : Entity w N st c ty) where
  kids : {nm : Names} {x t : Node} → Lies (Named nm) x w c → Lies (Named nm) t w ty → Kids nm w st.top c ty x t
  kids a b = record { c_below = q.c_below; ty_below = q.ty_below; c_lies = a; ty_lies = b }

  pub leaves_itself : {name : ℕ} {w' : List ℕ} {u : State} (l : A.Accessor) → l ≡ Letter.Itself → Left w w' N st u (entity_record w 20 c ty name 0 0) → LeavesVariable l w w' N st name c ty (Step.Done u)
  unfolding R.accessed push size
  leaves_itself {name} {w'} {u} l e g = subst (λ (y : A.Accessor). LeavesVariable y w w' N st name c ty (Step.Done u)) (sym e) (record {
    ends = λ nm n x t fx a b d m h. record {
      machine = restack (Variable x n t ∷ m.stack) m;
      is = refl;
      holds = g.holds nm nothing_spare m (Variable x n t) (less_spare (spare 7 1 (size x + size t + 2) 0) (for_record (for_push (size (Variable x n t)) nothing_spare)) (omega arith) (omega arith) (omega arith) (omega arith) h) (would_variable (kids b d) name n a);
    };
    beyond = record { past = g.keeps.past; long = g.keeps.long };
  })

  pub leaves_accessor : {name : ℕ} {w₁ w' : List ℕ} {u v : State} (l : A.Accessor) (k a : ℕ) → l ≡ Letter.Named k → ((nm : Names) → Fixed nm.fixed → Named nm a (bytes (nm.fixed k))) → Grew w w₁ N st u (entity_record w 20 c ty name 0 0) → Left w₁ w' N u v (21 ∷ (at w₁ st.top 1 + 1) ∷ 0 ∷ a ∷ st.top ∷ 0 ∷ 0 ∷ 0 ∷ []) → LeavesVariable l w w' N st name c ty (Step.Done v)
  unfolding R.accessed push size kind count view
  leaves_accessor {name} {w₁} {w'} {u} {v} l k i e ei f g = subst (λ (y : A.Accessor). LeavesVariable y w w' N st name c ty (Step.Done v)) (sym e) (record {
    ends = λ nm n x t fx a b d m h.
        let y : Node = Accessor (bytes (nm.fixed k)) (Variable x n t) in
        let ks : Kids nm w st.top c ty x t = kids {nm = nm} {x = x} {t = t} b d in
        let made : Lies (Named nm) (Variable x n t) w₁ st.top = f.made nm (Variable x n t) (would_variable ks name n a) in
        record {
          machine = restack (y ∷ m.stack) m;
          is = refl;
          holds = g.holds nm nothing_spare m y
              (less_spare (spare 5 1 (size x + size t + 2) 0) (for_record (for_push (size y) nothing_spare)) (omega arith) (omega arith) (omega arith) (omega arith)
              (f.holds nm (spare 5 1 (size x + size t + 2) 0) m h))
              (record {
                kind_is = refl;
                size_is = omega (arith, made.size_is);
                count_is = refl;
                body = (ei nm fx, record { place = st.top; is = refl; below = omega (arith, ap (λ (s : State). s.top) f.state); holds = made });
              });
        };
    beyond = record { past = λ j p. g.keeps.past j p ∙ f.keeps.past j p; long = g.keeps.long ∙ f.keeps.long };
  })

  pub leaves_broken : {name : ℕ} (l : A.Accessor) → l ≡ Letter.Broken → LeavesVariable l w w N st name c ty (Step.Refused Refusal.Spelling)
  unfolding number
  leaves_broken {name} l e = subst (λ (y : A.Accessor). LeavesVariable y w w N st name c ty (Step.Refused Refusal.Spelling)) (sym e) (record { ends = λ nm n x t fx a b d m h. refl; beyond = beyond_itself w N })

  -- the record may be a child
  pub accessor_under : {w₁ : List ℕ} {u : State} {k a d e : ℕ} → Inside w N st 7 1 0 → Grew w w₁ N st u (entity_record w k c ty a d e) → Under w₁ N u st.top
  accessor_under {w₁} {u} i g = record {
    inside = subst (λ (s : State). Inside w₁ N s 5 1 0) (sym g.state) (record { small = i.small; long = omega (arith, i.long, g.keeps.long); charged = i.charged; room = omega (arith, i.room); deep = i.deep; kept = i.kept });
    below = omega (arith, ap (λ (s : State). s.top) g.state);
    fits = omega (arith, g.fields 1 (omega arith), q.c_small, q.ty_small);
  }

-- the size that was read
pub left_sized : {w w' : List ℕ} {N : ℕ} {st u : State} {k z y : ℕ} {vs : List ℕ} → z ≡ y → Left w w' N st u (k ∷ (z + 1) ∷ vs) → Left w w' N st u (k ∷ (y + 1) ∷ vs)
left_sized {w} {w'} {N} {st} {u} {k} {z} {y} {vs} e l = subst (λ (i : ℕ). Left w w' N st u (k ∷ (i + 1) ∷ vs)) e l
