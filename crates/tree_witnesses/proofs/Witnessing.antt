-- Witnesses and associated conformances.
use mathlib.Core.Path.{◌≡◌, refl, ◌∙◌, subst}
use mathlib.Core.List.{List, [], ◌∷◌}
use Prim.Native.Nat.{ℕ, ◌+◌, ◌≤◌, ◌<◌}
use native.Mathlib.Omega.{arith}
use Rattle.definition.specs.Base.{bytes}
use Rattle.definition.specs.Kind as K
use Rattle.definition.specs.Node.{Node, LazyWitness, ProtocolWitness, AssociatedConformance, kind, size, count, view}
use Rattle.definition.specs.Machine.{restack, push}
use Rattle.definition.specs.Perform as R
use Rattle.definition.specs.Perform.{Demangler, Run}
use Rattle.definition.specs.declared.Refusal.{Refusal}
use Rattle.tree_records.specs.Lies.{at, Lies}
use Rattle.tree_records.specs.Holds.{Fixed, Names, Named, Spare, Holds, Ready, Keeps, for_record, for_push}
use Rattle.tree_records.specs.declared.State.{State}
use Rattle.tree_nodes.specs.Results.{Marked}
use Rattle.tree_nodes.specs.Results as Step
use Rattle.tree_nodes.specs.Gives.{nothing_spare, full_spare, taken, for_nodes, Given, Gives, GivenName, GivesName, Marks, Building, Left, Operates}
use Rattle.tree_nodes.proofs.Taking.{less_spare}
use Rattle.tree_nodes.proofs.Leaving.{keeps_then, beyond_then}
use Rattle.tree_parts.specs.Parts.{Qualifier, Qualifies}
use Rattle.tree_parts.specs.declared.record.Qualified.{Qualified}
use Rattle.std.specs.Prelude.{Err}
use Rattle.tree_records.specs.Trees.{Stays, Has}
use Rattle.tree_records.specs.declared.Trees.{Trees}
use Rattle.tree_nodes.specs.Trees.{Refuses, Operates as Operates-in}
use Rattle.tree_nodes.proofs.Steps.{Moves}
use Rattle.tree_witnesses.proofs.Recording.{but_one}

-- `Wl`, `WL`
module _ {w w₁ w₂ : List ℕ} {N : ℕ} {st u v x : State} {c ty : ℕ} where
  pub lazy_left : (name a : ℕ) → ((nm : Names) → Fixed nm.fixed → Named nm a (bytes (nm.fixed name))) → Building R.conformance 1 4 w w₁ N st c u → Gives (R.pop_if K.is_type) 3 w₁ w₁ N u ty v →
      Left w₁ w₂ N v x (26 ∷ 2 ∷ 0 ∷ 1 ∷ a ∷ ty ∷ c ∷ 0 ∷ []) → Operates (λ s. R.lazy_witness (bytes (s name))) w w₂ N st (Step.Done x)
  unfolding R.lazy_witness push kind size count view
  lazy_left name a en g t l = record {
    runs = λ nm m i h.
        let d : Given R.conformance 4 nm w₁ N c u but_one m = g.gives nm but_one m h in
        let sp₁ : Spare = taken 4 (size d.tree) but_one in
        let e : Given (R.pop_if K.is_type) 3 nm w₁ N ty v sp₁ d.machine = t.gives nm sp₁ d.machine d.holds in
        let y : Node = LazyWitness (bytes (nm.fixed name)) e.tree d.tree in
        record {
          machine = restack (y ∷ e.machine.stack) e.machine;
          is = rw (d.is, e.is) refl;
          holds = l.holds nm nothing_spare e.machine y
              (less_spare (taken 3 (size e.tree) sp₁) (for_record (for_push (size y) nothing_spare)) (omega arith) (omega arith) (omega arith) (omega arith) e.holds)
              (record { kind_is = refl; size_is = refl; count_is = refl; body = (refl, en nm i, record { place = ty; is = refl; below = t.below; holds = e.lies }, record { place = c; is = refl; below = omega (arith, g.below, t.rising); holds = d.lies }) });
        };
    past = λ i h. l.keeps.past i h ∙ g.keeps.past i h;
    long = l.keeps.long ∙ g.keeps.long;
  }

-- no type above the conformance
pub lazy_second : {t t₁ t₂ : Trees} {c : ℕ} (name : ℕ) {r : Refusal} → Stays t t₁ → Building R.conformance 1 4 t.ws.now t₁.ws.now t.n t.state c t₁.state → Refuses (R.pop_if K.is_type) t₁ t₂ r → Operates-in (λ s. R.lazy_witness (bytes (s name))) t t₂ (Err r)
unfolding R.lazy_witness
lazy_second name s a b =
    let e = beyond_then a.keeps (rw s.ceiling at b.beyond) in
    record { runs = λ nm m i h. let c = a.gives nm but_one m h in rw (c.is, b.refuses nm (taken 4 (size c.tree) but_one) c.machine (rw s.ceiling c.holds)) refl; past = e.past; long = e.long }

-- `TW`
module _ {w w₁ w₂ : List ℕ} {N : ℕ} {st u v x : State} {entity c : ℕ} where
  pub witness_left : (z : ℕ) → Gives (R.pop_if K.is_entity) 3 w w N st entity u → Building R.conformance 1 4 w w₁ N u c v → z ≡ at w₁ entity 1 + at w₁ c 1 + 1 →
      Left w₁ w₂ N v x (28 ∷ z ∷ 0 ∷ entity ∷ c ∷ 0 ∷ 0 ∷ 0 ∷ []) → Operates (λ _. R.protocol_witness) w w₂ N st (Step.Done x)
  unfolding R.protocol_witness push kind size count view
  witness_left z a b ez l = record {
    runs = λ nm m i h.
        let d : Given (R.pop_if K.is_entity) 3 nm w N entity u full_spare m = a.gives nm full_spare m h in
        let sp₁ : Spare = taken 3 (size d.tree) but_one in
        let less : Holds nm w N u (for_nodes 1 sp₁) d.machine = less_spare (taken 3 (size d.tree) full_spare) (for_nodes 1 sp₁) (omega arith) (omega arith) (omega arith) (omega arith) d.holds in
        let e : Given R.conformance 4 nm w₁ N c v sp₁ d.machine = b.gives nm sp₁ d.machine less in
        let k : Lies (Named nm) d.tree w₁ entity = b.keeps.trees nm d.tree entity a.below d.lies in
        let y : Node = ProtocolWitness d.tree e.tree in
        record {
          machine = restack (y ∷ e.machine.stack) e.machine;
          is = rw (d.is, e.is) refl;
          holds = l.holds nm nothing_spare e.machine y
              (less_spare (taken 4 (size e.tree) sp₁) (for_record (for_push (size y) nothing_spare)) (omega arith) (omega arith) (omega arith) (omega arith) e.holds)
              (record {
                kind_is = refl;
                size_is = ez ∙ omega (arith, k.size_is, e.lies.size_is);
                count_is = refl;
                body = (record { place = entity; is = refl; below = omega (arith, a.below, b.rising); holds = k }, record { place = c; is = refl; below = b.below; holds = e.lies });
              });
        };
    past = λ i h. l.keeps.past i h ∙ b.keeps.past i h;
    long = l.keeps.long ∙ b.keeps.long;
  }

-- the size of the entity, after the conformance
pub entity_small : {f g : Run Node} {a b : ℕ} {w w₁ w₂ : List ℕ} {N : ℕ} {st u v : State} {p q : ℕ} → Gives f a w w₁ N st p u → Building g 1 b w₁ w₂ N u q v → at w₂ p 1 ≤ 262144
entity_small {p = p} x y = omega (arith, x.small, y.keeps.fields p 1 x.below (omega arith))

pub after_qualifier : {w w₁ : List ℕ} {N : ℕ} {st u : State} {q : Qualified} {sp : Spare} → Qualifies w w₁ N st u q → Ready w N st sp → Ready w₁ N u sp
after_qualifier a r = let g = a.gives r.names _ r.machine r.holds in record { names = r.names; machine = g.machine; holds = g.holds }

-- `Tn`
module _ {w w₁ w₂ : List ℕ} {N : ℕ} {st u : State} {z : State} {required : ℕ} {k : Marked} {q : Qualified} (a : Gives R.protocol 2 w w₁ N st required u) (b : Marks (R.took 31) w₁ N u k) (c : Qualifies w₁ w₂ N k.next z q) where
  -- what was required is below
  pub required_below : required < z.top
  required_below = omega (arith, a.below, b.top, c.rising)

  required_keeps : Keeps w w₂ N st.top
  required_keeps = keeps_then st.top u.top a.rising a.keeps (subst (λ (n : ℕ). Keeps w₁ w₂ N n) b.top c.keeps)

  module _ {v : State} {name : ℕ} (d : GivesName R.pop_name w₂ N z name v) where
    pub conforming_left : {w₃ : List ℕ} {x y : State} {p : ℕ} → Gives (R.pop_if K.is_type) 3 w₂ w₂ N v p x → Left w₂ w₃ N x y (26 ∷ 2 ∷ 0 ∷ q.form ∷ name ∷ p ∷ q.cell ∷ required ∷ []) → Operates (λ _. R.associated_conformance) w w₃ N st (Step.Done y)
    unfolding R.associated_conformance push kind size count view
    conforming_left {w₃} {x} {y} {p} e l = record {
      runs = λ nm m i h.
          let f₁ : Given R.protocol 2 nm w₁ N required u full_spare m = a.gives nm full_spare m h in
          let sp₁ : Spare = taken 2 (size f₁.tree) full_spare in
          let f₂ = b.gives nm sp₁ f₁.machine f₁.holds in
          let f₃ : Qualifier nm w₂ N q z sp₁ f₂.0 = c.gives nm sp₁ f₂.0 f₂.2 in
          let f₄ : GivenName R.pop_name nm w₂ N name v sp₁ f₃.machine = d.gives nm sp₁ f₃.machine f₃.holds in
          let sp₂ : Spare = taken 3 1 sp₁ in
          let f₅ : Given (R.pop_if K.is_type) 3 nm w₂ N p x sp₂ f₄.machine = e.gives nm sp₂ f₄.machine f₄.holds in
          let kept : Lies (Named nm) f₁.tree w₂ required = c.keeps.trees nm f₁.tree required (omega (arith, a.below, b.top)) f₁.lies in
          let o : Node = AssociatedConformance f₅.tree (R.one_or_none f₃.protocol) f₄.name f₁.tree in
          record {
            machine = restack (o ∷ f₅.machine.stack) f₅.machine;
            is = rw (f₁.is, f₂.1, f₃.is, f₄.is, f₅.is) refl;
            holds = l.holds nm nothing_spare f₅.machine o
                (less_spare (taken 3 (size f₅.tree) sp₂) (for_record (for_push (size o) nothing_spare)) (omega arith) (omega arith) (omega arith) (omega arith) f₅.holds)
                (record {
                  kind_is = refl;
                  size_is = refl;
                  count_is = refl;
                  body = (
                    f₃.form,
                    f₄.named,
                    record { place = p; is = refl; below = e.below; holds = f₅.lies },
                    f₃.lies _ x.top refl (omega (arith, d.top, e.rising)),
                    record { place = required; is = refl; below = omega (arith, required_below, d.top, e.rising); holds = kept },
                  );
                });
          };
      past = λ i h. l.keeps.past i h ∙ required_keeps.past i h;
      long = l.keeps.long ∙ required_keeps.long;
    }

pub moves_qualified : {t t' : Trees} {q : Qualified} → Stays t t' → Qualifies t.ws.now t'.ws.now t.n t.state t'.state q → Moves (R.try K.is_protocol) (λ _. Unit) t t'
moves_qualified s k = record {
  stays = s;
  beyond = record { past = k.keeps.past; long = k.keeps.long };
  moves = λ nm sp m h. let o = k.gives nm sp m h in record { value = o.protocol; spare = sp; machine = o.machine; is = o.is; so = tt; holds = rw s.ceiling o.holds };
}

pub has_qualified : {t t' : Trees} {q : Qualified} {sp : Spare} → Stays t t' → Qualifies t.ws.now t'.ws.now t.n t.state t'.state q → Has t sp → Has t' sp
has_qualified s k r = rw s.ceiling (after_qualifier k r)
