-- The subject of a record, and the records of words over it.
use mathlib.Core.Path.{◌≡◌, refl, ap, ◌∙◌, subst}
use mathlib.Core.List.{List, [], ◌∷◌}
use Prim.Native.Nat.{ℕ, ◌+◌, ◌-◌, ◌≤◌, ◌<◌}
use Prim.Native.String.{String}
use native.Mathlib.Omega.{arith}
use lib.ListN.{get_or}
use Rattle.definition.specs.Base.{Name, bytes, ◌>>=◌}
use Rattle.definition.specs.Node.{Node, Record, DependentMember, kind, size, count, view}
use Rattle.definition.specs.Machine.{restack, push}
use Rattle.definition.specs.Operators as Op
use Rattle.definition.specs.Perform as R
use Rattle.definition.specs.Perform.{Demangler, Run}
use Rattle.tree_records.specs.Lies.{at, Lies, WordsOf, fixed, numbered}
use Rattle.tree_records.specs.Holds.{Fixed, Names, Named, Spare, Ready, Grew, for_record, for_push}
use Rattle.tree_records.specs.declared.State.{State}
use Rattle.tree_nodes.specs.Results as Step
use Rattle.tree_nodes.specs.Gives.{spare, nothing_spare, full_spare, taken, for_nodes, low_half, high_half, Given, Gives, Under, GivenName, GivesName, Building, Left, Operates}
use Rattle.tree_nodes.proofs.Taking.{less_spare}
use Rattle.tree_nodes.proofs.Making.{halves, fixed_name}
use Rattle.tree_records.specs.Trees.{Stays, Has}
use Rattle.tree_records.specs.declared.Trees.{Trees}
use Rattle.tree_nodes.proofs.Ready.{ready_less, after_grew}

-- WHAT IS LEFT TO SPARE
-- what an operator has to spare, without one node
abbrev pub but_one : Spare
but_one = spare 15 1 3 1

module _ {f : Run Node} {gain : ℕ} {w w₁ : List ℕ} {N : ℕ} {st u : State} {p : ℕ} (sp : Spare) (g : Building f 1 gain w w₁ N st p u) (r : Ready w N st (for_nodes 1 sp)) where
  pub after_built : Ready w₁ N u (taken gain 0 sp)
  after_built =
      let t : Given f gain r.names w₁ N p u sp r.machine = g.gives r.names sp r.machine r.holds in
      record { names = r.names; machine = t.machine; holds = less_spare (taken gain (size t.tree) sp) (taken gain 0 sp) (omega arith) (omega arith) (omega arith) (omega arith) t.holds }

-- the tree at place p may be the child of a record
pub under : {w : List ℕ} {N : ℕ} {st : State} {p : ℕ} (sp : Spare) → 5 ≤ sp.makes → 1 ≤ sp.pushes → p < st.top → at w p 1 ≤ 262145 → Ready w N st sp → Under w N st p
under sp a b l z r =
    let h = r.holds in
    record {
      inside = record { small = h.small; long = h.long; charged = h.charged; room = omega (arith, h.room); deep = omega (arith, h.deep); kept = omega (arith, h.kept) };
      below = l;
      fits = omega arith;
    }

-- RECORDS OF WORDS
-- the words, given by the numbers of the record
pub fixed_words : {nm : Names} {k z p c : ℕ} {what : Name} → Named nm c what → WordsOf (Named nm) what (λ i. get_or (k ∷ z ∷ 0 ∷ 0 ∷ p ∷ c ∷ 0 ∷ 0 ∷ []) i 0)
fixed_words h = fixed refl h

pub numbered_words : {nm : Names} {k z p c d : ℕ} (i : ℕ) → c ≡ low_half i → d ≡ high_half i → WordsOf (Named nm) (Op.suspend_resume_text i) (λ i. get_or (k ∷ z ∷ 0 ∷ 3 ∷ p ∷ c ∷ d ∷ 0 ∷ []) i 0)
numbered_words i ec ed = numbered i refl refl (omega (arith, halves i, ec, ed))

module _ (f : Run Node) {w w₁ w₂ : List ℕ} {N : ℕ} {st u v : State} {p : ℕ} where
  pub recorded : (what : (ℕ → String) → Name) (form c d : ℕ) → Building f 1 1 w w₁ N st p u →
      ((nm : Names) → Fixed nm.fixed → WordsOf (Named nm) (what nm.fixed) (λ i. get_or (26 ∷ (at w₁ p 1 + 1) ∷ 0 ∷ form ∷ p ∷ c ∷ d ∷ 0 ∷ []) i 0)) →
      Left w₁ w₂ N u v (26 ∷ (at w₁ p 1 + 1) ∷ 0 ∷ form ∷ p ∷ c ∷ d ∷ 0 ∷ []) → Operates (λ s. f >>= λ x. push (Record (what s) x)) w w₂ N st (Step.Done v)
  unfolding push kind size count view
  recorded what form c d g o l = record {
    runs = λ nm m i h.
        let t : Given f 1 nm w₁ N p u but_one m = g.gives nm but_one m h in
        let x : Node = t.tree in
        let y : Node = Record (what nm.fixed) x in
        record {
          machine = restack (y ∷ t.machine.stack) t.machine;
          is = rw t.is refl;
          holds = l.holds nm nothing_spare t.machine y
              (less_spare (taken 1 (size x) but_one) (for_record (for_push (size y) nothing_spare)) (omega arith) (omega arith) (omega arith) (omega arith) t.holds)
              (record { kind_is = refl; size_is = omega (arith, t.lies.size_is); count_is = refl; body = (o nm i, record { place = p; is = refl; below = g.below; holds = t.lies }) });
        };
    past = λ i h. l.keeps.past i h ∙ g.keeps.past i h;
    long = l.keeps.long ∙ g.keeps.long;
  }

-- `Tl`: TWO RECORDS
module _ {w w₁ w₂ w₃ : List ℕ} {N : ℕ} {st u v x y : State} {p name : ℕ} where
  pub associated_type_left : (z : ℕ) → Gives R.protocol 2 w w₁ N st p u → GivesName R.pop_name w₁ N u name v → z ≡ at w₁ p 1 + 1 → Grew w₁ w₂ N v x (8 ∷ z ∷ 0 ∷ name ∷ p ∷ 0 ∷ 0 ∷ 0 ∷ []) →
      Left w₂ w₃ N x y (26 ∷ (at w₂ v.top 1 + 1) ∷ 0 ∷ 0 ∷ v.top ∷ 65669 ∷ 0 ∷ 0 ∷ []) → Operates (λ _. R.associated_type) w w₃ N st (Step.Done y)
  unfolding R.associated_type push kind size count view
  associated_type_left z a b ez g l = record {
    runs = λ nm m i h.
        let c : Given R.protocol 2 nm w₁ N p u full_spare m = a.gives nm full_spare m h in
        let sp₁ : Spare = taken 2 (size c.tree) full_spare in
        let d : GivenName R.pop_name nm w₁ N name v sp₁ c.machine = b.gives nm sp₁ c.machine c.holds in
        let n : Node = DependentMember c.tree d.name in
        let o : Node = Record (bytes "associated type descriptor for ") n in
        let inner : Lies (Named nm) n w₂ v.top = g.made nm n (record { kind_is = refl; size_is = ez ∙ omega (arith, c.lies.size_is); count_is = refl; body = (d.named, record { place = p; is = refl; below = omega (arith, a.below, b.top); holds = c.lies }) }) in
        let words : Named nm 65669 (bytes "associated type descriptor for ") = subst (λ (s : String). Named nm 65669 (bytes s)) i.associated_type (fixed_name nm 133 65669 (omega arith) refl) in
        let sp₂ : Spare = for_push (size o) nothing_spare in
        record {
          machine = restack (o ∷ d.machine.stack) d.machine;
          is = rw (c.is, d.is) refl;
          holds = l.holds nm nothing_spare d.machine o
              (g.holds nm (for_record sp₂) d.machine (less_spare (taken 3 1 sp₁) (for_record (for_record sp₂)) (omega arith) (omega arith) (omega arith) (omega arith) d.holds))
              (record { kind_is = refl; size_is = omega (arith, inner.size_is); count_is = refl; body = (fixed_words words, record { place = v.top; is = refl; below = omega (arith, ap (λ (s : State). s.top) g.state); holds = inner }) });
        };
    past = λ i h. l.keeps.past i h ∙ g.keeps.past i h ∙ a.keeps.past i h;
    long = l.keeps.long ∙ g.keeps.long ∙ a.keeps.long;
  }

-- one node to spare
pub ready_one : {w : List ℕ} {N : ℕ} {st : State} {sp : Spare} → 1 ≤ sp.nodes → Ready w N st sp → Ready w N st (spare 0 0 1 0)
ready_one l r = ready_less (spare 0 0 1 0) (omega arith) (omega arith) (omega arith) (omega arith) r

pub under_built : {f : Run Node} {w w₁ : List ℕ} {N : ℕ} {st u : State} {p : ℕ} → Building f 1 1 w w₁ N st p u → Ready w N st full_spare → Under w₁ N u p
under_built g r = under (taken 1 0 but_one) (omega arith) (omega arith) g.below (omega (arith, g.small)) (after_built but_one g r)

-- the record that was just made may be a child
pub under_grown : {w w₁ : List ℕ} {N : ℕ} {st u : State} {k z : ℕ} {vs : List ℕ} {sp : Spare} → 7 ≤ sp.makes → 1 ≤ sp.pushes → z ≤ 262145 → Grew w w₁ N st u (k ∷ z ∷ vs) → Ready w N st sp → Under w₁ N u st.top
under_grown {w} {w₁} {N} {st} {u} {k} {z} {vs} {sp} a b e g r =
    under (spare (sp.makes - 2) sp.pushes sp.nodes sp.keeps) (omega arith) (omega arith) (omega (arith, ap (λ (s : State). s.top) g.state)) (omega (arith, g.fields 1 (omega arith))) (after_grew g (omega arith) r)

-- on `Trees`, after a tree that was made
pub has_built : {t t' : Trees} {f : Run Node} {gain p : ℕ} (sp : Spare) → Stays t t' → Building f 1 gain t.ws.now t'.ws.now t.n t.state p t'.state → Has t (for_nodes 1 sp) → Has t' (taken gain 0 sp)
has_built sp s g r = rw s.ceiling (after_built sp g r)

pub under_in : {t t' : Trees} {f : Run Node} {p : ℕ} → Stays t t' → Building f 1 1 t.ws.now t'.ws.now t.n t.state p t'.state → Has t full_spare → Under t'.ws.now t'.n t'.state p
under_in s g r = rw s.ceiling (under_built g r)
