-- The protocol on top.
use mathlib.Core.Path.{◌≡◌, refl, sym, ap, ◌∙◌, subst}
use mathlib.Core.Bool.{false}
use mathlib.Core.List.{List, [], ◌∷◌}
use Prim.Native.Nat.{ℕ, ◌+◌, ◌≤◌, ◌<◌}
use native.Mathlib.Omega.{arith}
use lib.Dec.{T, eqb}
use Rattle.definition.specs.Base.{ok, refused, and_then, ret}
use Rattle.definition.specs.Kind as K
use Rattle.definition.specs.Node as Node·
use Rattle.definition.proofs.Matches.{the_name, the_member, protocol_in_is}
use Rattle.definition.specs.Node.{Node, Nodes, nil, cons, Identifier, Nominal, ProtocolList, kind, nominal_kind, size, sizes, many, count, view, member_of, only_of}
use Rattle.definition.specs.Machine as M
use Rattle.definition.specs.Machine.{restack}
use Rattle.definition.specs.Perform as R
use Rattle.definition.specs.Perform.{Demangler}
use Rattle.tree_records.specs.Lies.{at, Lies}
use Rattle.tree_records.specs.Holds.{Names, Named, Spare, Holds, Ready, TopIs, Took, Keeps, Grew, for_record, for_push}
use Rattle.tree_records.specs.declared.State.{State}
use Rattle.tree_nodes.specs.Gives.{spare, nothing_spare, taken, Given, Gives}
use Rattle.tree_nodes.proofs.ByKind.{identifier_of, list_of}
use Rattle.tree_nodes.proofs.Taking.{took_below, took_small, keeps_itself, less_spare}
use Rattle.tree_nodes.proofs.Leaving.{keeps_then}
use Rattle.tree_nodes.proofs.Contexts.{context_kind}

protocol_from : (m : Demangler) (x : Node) (xs : List Node) → m.stack ≡ x ∷ xs → R.protocol m ≡ R.protocol_in x (restack xs m)
unfolding R.protocol M.pop M.pop_if M.pop_from
protocol_from m x xs e = rw e refl

pub protocol_empty : (m : Demangler) → m.stack ≡ [] → R.protocol m ≡ refused 10
unfolding R.protocol M.pop M.pop_if M.pop_from
protocol_empty m e = rw e refl

-- a tree of a kind, and what is done with it by that kind
in_direct : (x : Node) (m : Demangler) → kind x ≡ 5 → R.protocol_in x m ≡ ok x m
in_direct x m e = rw (protocol_in_is x, e) refl

in_list : (x : Node) (m : Demangler) → kind x ≡ 15 → count x ≡ 1 → R.protocol_in x m ≡ ok (the_member x) m
in_list x m e c = rw (protocol_in_is x, e, c) refl

in_several : (x : Node) (m : Demangler) → kind x ≡ 15 → eqb (count x) 1 ≡ false → R.protocol_in x m ≡ refused 10
in_several x m e c = rw (protocol_in_is x, e, c) refl

in_name : (x : Node) (m : Demangler) → kind x ≡ 0 → R.protocol_in x m ≡ and_then (R.context m) (λ c. ret (Nominal Node·.Protocol c (the_name x)))
in_name x m e = rw (protocol_in_is x, e) refl

in_other : (x : Node) (m : Demangler) → K.is_protocol (kind x) ≡ false → eqb (kind x) 15 ≡ false → K.is_identifier (kind x) ≡ false → R.protocol_in x m ≡ refused 10
in_other x m a b c = rw (protocol_in_is x, a, b, c) refl

-- the only member of a list
pub record Member (x y : Node) : Type 0 where
  pub is : the_member x ≡ y
  pub smaller : size y < size x
  pub lies : (nm : Names) (w : List ℕ) (p : ℕ) → Lies (Named nm) x w p → (at w p 3 < p) × (at w (at w p 3) 4 < at w p 3) × Lies (Named nm) y w (at w (at w p 3) 4)

member : (ps : Nodes) → many ps ≡ 1 → (y : Node) × Member (ProtocolList ps) y
unfolding many size sizes member_of only_of the_member view
member nil e = absurd (omega arith)
member (cons l n (cons l₁ n₁ ns)) e = absurd (omega arith)
member (cons l n nil) e = (
  n,
  record {
    is = refl;
    smaller = omega arith;
    lies = λ nm w p h.
        let c = h.body in
        let k = c.holds.1 in
        let ec : at w p 3 ≡ c.place = c.is in
        rw ec (c.below, rw k.is k.below, rw k.is k.holds);
  },
)

module _ {w : List ℕ} {N : ℕ} {st u : State} {p : ℕ} (t : Took w N st p u) (r : Ready w N st nothing_spare) where
  -- as it is
  pub protocol_direct : at w p 0 ≡ 5 → Gives R.protocol 2 w w N st p u
  protocol_direct a = record {
    below = subst (λ (n : ℕ). p < n) (sym t.top) (took_below t r);
    deep = omega (arith, t.deep);
    rising = omega (arith, t.top);
    small = took_small t r;
    keeps = keeps_itself w N st.top;
    gives = λ nm sp m h.
        let g : TopIs nm w N st.top p u sp m = t.gives nm sp m h in
        record {
          tree = g.tree;
          machine = restack g.rest m;
          is = protocol_from m g.tree g.rest g.is ∙ in_direct g.tree (restack g.rest m) (sym g.lies.kind_is ∙ a);
          lies = g.lies;
          holds = less_spare (for_push (size g.tree) sp) (taken 2 (size g.tree) sp) (omega arith) (omega arith) (omega arith) (omega arith) g.holds;
        };
  }

  -- the member of a list of one
  one_member : at w p 0 ≡ 15 → at w p 2 ≡ 1 → (nm : Names) (sp : Spare) (m : Demangler) → Holds nm w N st sp m → (x : Node) → Lies (Named nm) x w p → (y : Node) × Member x y
  unfolding count view
  one_member a b nm sp m h x l =
      let s = list_of x (subst (λ (i : ℕ). T (eqb i 15)) (sym (sym l.kind_is ∙ a)) tt) in
      let c : count x ≡ 1 = sym l.count_is ∙ b in
      subst (λ (n : Node). (y : Node) × Member n y) (sym s.1) (member s.0 (ap count (sym s.1) ∙ c))

  member_lies : at w p 0 ≡ 15 → at w p 2 ≡ 1 → (at w p 3 < p) × (at w (at w p 3) 4 < p) × (at w (at w p 3) 4 < u.top) × (at w (at w (at w p 3) 4) 1 ≤ 262144)
  member_lies a b =
      let g = t.gives r.names nothing_spare r.machine r.holds in
      let y = one_member a b r.names nothing_spare r.machine r.holds g.tree g.lies in
      let l = y.1.lies r.names w p g.lies in
      let q : p < u.top = subst (λ (n : ℕ). p < n) (sym t.top) g.below in
      let h = g.holds in
      (l.0, omega (arith, l.0, l.1), omega (arith, l.0, l.1, q), omega (arith, l.2.size_is, y.1.smaller, h.small, h.charged, h.light))

  pub member_inside : at w p 0 ≡ 15 → at w p 2 ≡ 1 → at w p 3 < p
  member_inside a b = (member_lies a b).0

  pub protocol_member : (q : ℕ) → q ≡ at w (at w p 3) 4 → at w p 0 ≡ 15 → at w p 2 ≡ 1 → Gives R.protocol 2 w w N st q u
  protocol_member q e a b = subst (λ (i : ℕ). Gives R.protocol 2 w w N st i u) (sym e) (record {
    below = (member_lies a b).2;
    deep = omega (arith, t.deep);
    rising = omega (arith, t.top);
    small = (member_lies a b).3;
    keeps = keeps_itself w N st.top;
    gives = λ nm sp m h.
        let g : TopIs nm w N st.top p u sp m = t.gives nm sp m h in
        let y = one_member a b nm sp m h g.tree g.lies in
        record {
          tree = y.0;
          machine = restack g.rest m;
          is = protocol_from m g.tree g.rest g.is ∙ in_list g.tree (restack g.rest m) (sym g.lies.kind_is ∙ a) (sym g.lies.count_is ∙ b) ∙ ap (λ (n : Node). ok n (restack g.rest m)) y.1.is;
          lies = (y.1.lies nm w p g.lies).2;
          holds = less_spare (for_push (size g.tree) sp) (taken 2 (size y.0) sp) (omega arith) (omega arith) (omega (arith, y.1.smaller)) (omega arith) g.holds;
        };
  })

  pub protocol_several : at w p 0 ≡ 15 → eqb (at w p 2) 1 ≡ false → (nm : Names) (sp : Spare) (m : Demangler) → Holds nm w N st sp m → R.protocol m ≡ refused 10
  protocol_several a b nm sp m h =
      let g : TopIs nm w N st.top p u sp m = t.gives nm sp m h in
      protocol_from m g.tree g.rest g.is ∙ in_several g.tree (restack g.rest m) (sym g.lies.kind_is ∙ a) (ap (λ (i : ℕ). eqb i 1) (sym g.lies.count_is) ∙ b)

  pub protocol_other : eqb (at w p 0) 5 ≡ false → eqb (at w p 0) 15 ≡ false → eqb (at w p 0) 0 ≡ false → (nm : Names) (sp : Spare) (m : Demangler) → Holds nm w N st sp m → R.protocol m ≡ refused 10
  protocol_other a b c nm sp m h =
      let g : TopIs nm w N st.top p u sp m = t.gives nm sp m h in
      let k : at w p 0 ≡ kind g.tree = g.lies.kind_is in
      protocol_from m g.tree g.rest g.is ∙ in_other g.tree (restack g.rest m) (ap (λ (i : ℕ). eqb i 5) (sym k) ∙ a) (ap (λ (i : ℕ). eqb i 15) (sym k) ∙ b) (ap (λ (i : ℕ). eqb i 0) (sym k) ∙ c)

  -- a name over a context: one more record
  pub protocol_named : {w₁ w₂ : List ℕ} {v v₁ : State} {q : ℕ} (name z c : ℕ) → name ≡ at w p 3 → z ≡ at w₁ q 1 + 1 → c ≡ q → at w p 0 ≡ 0 → Gives R.context 1 w w₁ N u q v →
      Grew w₁ w₂ N v v₁ (5 ∷ z ∷ 0 ∷ name ∷ c ∷ 0 ∷ 0 ∷ 0 ∷ []) → Gives R.protocol 2 w w₂ N st v.top v₁
  unfolding kind nominal_kind size count view
  protocol_named {w₁} {w₂} {v} {v₁} {q} name z c en ez ec a b g = record {
    below = omega (arith, ap (λ (s : State). s.top) g.state);
    deep = omega (arith, t.deep, b.deep, ap (λ (s : State). s.depth) g.state);
    rising = omega (arith, t.top, b.rising, ap (λ (s : State). s.top) g.state);
    small = omega (arith, g.fields 1 (omega arith), ez, the_size);
    keeps = keeps_then st.top v.top (omega (arith, t.top, b.rising)) (subst (λ (n : ℕ). Keeps w w₁ N n) t.top b.keeps) g.keeps;
    gives = given;
  }
    where
      given : (nm : Names) (sp : Spare) (m : Demangler) → Holds nm w N st sp m → Given R.protocol 2 nm w₂ N v.top v₁ sp m
      given nm sp m h =
          let o : TopIs nm w N st.top p u sp m = t.gives nm sp m h in
          let k : kind o.tree ≡ 0 = sym o.lies.kind_is ∙ a in
          let e : o.tree ≡ Identifier (the_name o.tree) = identifier_of o.tree (subst (λ (i : ℕ). T (eqb i 0)) (sym k) tt) in
          let one : size o.tree ≡ 1 = ap size e in
          let named : Named nm (at w p 3) (the_name o.tree) = (subst (λ (x : Node). Lies (Named nm) x w p) e o.lies).body in
          let sp₁ : Spare = spare (sp.makes + 3) (sp.pushes + 1) (sp.nodes + 1) sp.keeps in
          let d : Given R.context 1 nm w₁ N q v sp₁ (restack o.rest m) = b.gives nm sp₁ (restack o.rest m)
          (less_spare (for_push (size o.tree) sp) sp₁ (omega arith) (omega arith) (omega (arith, one)) (omega arith) o.holds) in
          let x : Node = Nominal Node·.Protocol d.tree (the_name o.tree) in
          record {
            tree = x;
            machine = d.machine;
            is = protocol_from m o.tree o.rest o.is ∙ in_name o.tree (restack o.rest m) k ∙ rw d.is refl;
            lies = g.made nm x (record {
              kind_is = refl;
              size_is = ez ∙ omega (arith, d.lies.size_is);
              count_is = refl;
              body = (subst (λ (i : ℕ). Named nm i (the_name o.tree)) (sym en) named, record { place = q; is = ec; below = b.below; holds = d.lies }, context_kind (restack o.rest m) d.machine d.tree d.is);
            });
            holds = g.holds nm (taken 2 (size x) sp) d.machine (less_spare (taken 1 (size d.tree) sp₁) (for_record (taken 2 (size x) sp)) (omega arith) (omega arith) (omega arith) (omega arith) d.holds);
          }

      the_size : at w₁ q 1 + 1 ≤ 262144
      the_size =
          let o = given r.names nothing_spare r.machine r.holds in
          let h = o.holds in
          omega (arith, h.small, h.charged, h.light, o.lies.size_is, g.fields 1 (omega arith), ez)

  pub protocol_not_named : {k : ℕ} → at w p 0 ≡ 0 → ((nm : Names) (sp : Spare) (m : Demangler) → Holds nm w N u sp m → R.context m ≡ refused k) → (nm : Names) (sp : Spare) (m : Demangler) → Holds nm w N st sp m → R.protocol m ≡ refused k
  protocol_not_named {k} a b nm sp m h =
      let o : TopIs nm w N st.top p u sp m = t.gives nm sp m h in
      protocol_from m o.tree o.rest o.is ∙ in_name o.tree (restack o.rest m) (sym o.lies.kind_is ∙ a) ∙ rw (b nm (for_push (size o.tree) sp) (restack o.rest m) o.holds) refl
