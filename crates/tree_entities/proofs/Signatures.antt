-- A type under a signature.
use mathlib.Core.Path.{◌≡◌, refl, sym, ap, ◌∙◌, subst}
use mathlib.Core.List.{List, [], ◌∷◌}
use mathlib.Core.Option.{Option, some, none}
use Prim.Native.Nat.{ℕ, ◌+◌, ◌≤◌, ◌<◌}
use native.Mathlib.Omega.{arith}
use lib.Dec.{eqb}
use Rattle.definition.specs.Base.{ok, refused}
use Rattle.definition.specs.Kind as K
use Rattle.definition.specs.Enums.{number}
use Rattle.definition.specs.Node.{Node, GenericType, kind, size, count, view}
use Rattle.definition.specs.Machine as M
use Rattle.definition.specs.Perform as R
use Rattle.definition.specs.Perform.{Demangler, Run}
use Rattle.definition.specs.declared.Refusal.{Refusal}
use Rattle.tree_records.specs.Lies.{at, Lies}
use Rattle.tree_records.specs.Holds.{Names, Named, Spare, Inside, Holds, Ready, Keeps, Grew}
use Rattle.tree_records.specs.declared.State.{State}
use Rattle.machine.specs.Beyond.{Beyond, beyond_itself}
use Rattle.tree_nodes.specs.Gives.{nothing_spare, full_spare, for_nodes, taken, most, Given, Gives, GivesIf, WrapsTo, Building}
use Rattle.tree_nodes.proofs.Taking.{less_spare, keeps_itself}
use Rattle.tree_nodes.proofs.Leaving.{keeps_then}
use Rattle.tree_records.specs.Trees.{Reads, Has}
use Rattle.tree_records.specs.declared.Trees.{Trees}
use Rattle.tree_nodes.specs.Trees.{Tries}
use Rattle.tree_entities.specs.Entities.{Signed, Signs, signed, weight_of, GivesSigned, GivesType, TakesType, GivenUnder, GivesUnder, TakesUnder, Signing, variable_type, signed_type}
use Rattle.std.specs.Prelude.{Option as Maybe, Some, None, Result, Ok, Err}

-- TAKEN OR NOT
pub signed_at : {w : List ℕ} {N : ℕ} {st u : State} {p : ℕ} → GivesIf (R.try (eqb 12)) w N st p u → GivesSigned w N st (record { signature = Some p; next = u })
unfolding R.try_signature
signed_at g = record {
  deep = omega (arith, g.deep);
  top = g.top;
  gives = λ nm sp m h.
      let o = g.gives nm sp m h in
      record {
        signature = some o.tree;
        machine = o.machine;
        is = o.is;
        signs = (g.below, o.lies);
        holds = less_spare (taken 3 (size o.tree) sp) (signed (some o.tree) sp) (omega arith) (omega arith) (omega arith) (omega arith) o.holds;
      };
}

pub unsigned : {w : List ℕ} {N : ℕ} {st : State} → ((nm : Names) (sp : Spare) (m : Demangler) → Holds nm w N st sp m → R.try (eqb 12) m ≡ ok none m) → GivesSigned w N st (record { signature = None; next = st })
unfolding R.try_signature
unsigned f = record {
  deep = omega arith;
  top = refl;
  gives = λ nm sp m h. record { signature = none; machine = m; is = f nm sp m h; signs = tt; holds = h };
}

-- a signature is unchanged where the records below top are unchanged
signs_stay : (nm : Names) {w w' : List ℕ} {N top : ℕ} (top' : ℕ) → top ≤ top' → Keeps w w' N top → (g : Maybe ℕ) (s : Option Node) → Signs nm w top g s → Signs nm w' top' g s
signs_stay nm top' l k (Some p) (some s) h = (omega (arith, h.0), k.trees nm s p h.0 h.1)
signs_stay nm top' l k (Some p) none h = h
signs_stay nm top' l k None (some s) h = h
signs_stay nm top' l k None none h = h

-- UNDER ONE
pub signing : {w : List ℕ} {N : ℕ} {st : State} {g g' : Maybe ℕ} {ty : ℕ} → g ≡ g' → Signing w N st g ty → Signing w N st g' ty
signing {w} {N} {st} {g} {g'} {ty} e h = subst (λ (x : Maybe ℕ). Signing w N st x ty) e h

-- only the numbers
pub record SigningAt (w : List ℕ) (N : ℕ) (st : State) (p ty : ℕ) : Type 0 where
  pub p_below : p < st.top
  pub p_small : at w p 1 ≤ most
  pub ty_below : ty < st.top
  pub ty_small : at w ty 1 ≤ most
  pub inside : Inside w N st 2 0 0

pub signing_at : {w : List ℕ} {N : ℕ} {st : State} {p ty : ℕ} → Signing w N st (Some p) ty → SigningAt w N st p ty
signing_at {w} {N} {st} {p} {ty} g = go g.signed_by g.signs g.holds
  where
    go : (s : Option Node) → Signs g.names w st.top (Some p) s → Holds g.names w N st (signed s nothing_spare) g.machine → SigningAt w N st p ty
    go none h q = absurd h
    go (some s) h q = record {
      p_below = h.0;
      p_small = omega (arith, q.light, q.charged, q.small, h.1.size_is);
      ty_below = g.below;
      ty_small = g.small;
      inside = record { small = q.small; long = q.long; charged = q.charged; room = q.room; deep = omega (arith, q.deep); kept = omega (arith, q.kept) };
    }

-- after the wrap, which changes only the budget
pub wrapped_inside : {w : List ℕ} {N : ℕ} {st u : State} {makes pushes keeps : ℕ} → WrapsTo w N st u → Inside w N st makes pushes keeps → Inside w N u makes pushes keeps
wrapped_inside t i = record {
  small = i.small;
  long = i.long;
  charged = omega (arith, t.total, i.charged);
  room = omega (arith, t.total, t.top, t.depth, i.room);
  deep = omega (arith, t.total, t.depth, i.deep);
  kept = omega (arith, t.total, t.seen, i.kept);
}

pub under_some : {w w' : List ℕ} {N : ℕ} {st u v : State} {p ty z : ℕ} → SigningAt w N st p ty → WrapsTo w N st u → z ≡ at w p 1 + at w ty 1 → Grew w w' N u v (11 ∷ (z + 1) ∷ 0 ∷ p ∷ ty ∷ 0 ∷ 0 ∷ 0 ∷ []) → GivesUnder w w' N st (Some p) ty u.top v
unfolding R.under_signature kind size count view
under_some {w} {w'} {N} {st} {u} {v} {p} {ty} {z} i t ez g = record {
  below = omega (arith, ap (λ (s : State). s.top) g.state);
  deep = ap (λ (s : State). s.depth) g.state ∙ t.depth;
  rising = omega (arith, t.top, ap (λ (s : State). s.top) g.state);
  keeps = subst (λ (n : ℕ). Keeps w w' N n) t.top g.keeps;
  gives = go;
}
  where
    go : (nm : Names) (s : Option Node) (x : Node) (sp : Spare) (m : Demangler) → Signs nm w st.top (Some p) s → Lies (Named nm) x w ty → Holds nm w N st (signed s sp) m → GivenUnder nm s x w' N u.top v sp m
    go nm none x sp m h l q = absurd h
    go nm (some s) x sp m h l q =
        let o = t.gives nm (signed (some s) sp) m q in
        record {
          tree = GenericType s x;
          machine = o.0;
          is = rw o.1 refl;
          lies = g.made nm (GenericType s x) (record {
            kind_is = refl;
            size_is = omega (arith, ez, h.1.size_is, l.size_is);
            count_is = refl;
            body = (record { place = p; is = refl; below = omega (arith, h.0, t.top); holds = h.1 }, record { place = ty; is = refl; below = omega (arith, i.ty_below, t.top); holds = l });
          });
          weighs = omega arith;
          holds = g.holds nm (for_nodes (size s) sp) o.0 o.2;
        }

pub under_none : {w : List ℕ} {N : ℕ} {st : State} {ty : ℕ} → ty < st.top → GivesUnder w w N st None ty ty st
unfolding R.under_signature
under_none {w} {N} {st} {ty} b = record { below = b; deep = refl; rising = omega arith; keeps = keeps_itself w N st.top; gives = go }
  where
    go : (nm : Names) (s : Option Node) (x : Node) (sp : Spare) (m : Demangler) → Signs nm w st.top None s → Lies (Named nm) x w ty → Holds nm w N st (signed s sp) m → GivenUnder nm s x w N ty st sp m
    go nm (some s) x sp m h l q = absurd h
    go nm none x sp m h l q = record { tree = x; machine = m; is = refl; lies = l; weighs = omega arith; holds = less_spare sp (for_nodes 0 sp) (omega arith) (omega arith) (omega arith) (omega arith) q }

pub under_refused : {w : List ℕ} {N : ℕ} {st : State} (u : State) (g : Maybe ℕ) (p ty : ℕ) (r : Refusal) → g ≡ Some p → ((nm : Names) (sp : Spare) (m : Demangler) → Holds nm w N st sp m → M.wrap m ≡ refused (number r)) → TakesUnder w w N st u g ty (Err r)
unfolding R.under_signature
under_refused {w} {N} {st} u g p ty r e f = subst (λ (y : Maybe ℕ). TakesUnder w w N st u y ty (Err r)) (sym e) (go, beyond_itself w N)
  where
    go : (nm : Names) (s : Option Node) (x : Node) (sp : Spare) (m : Demangler) → Signs nm w st.top (Some p) s → Holds nm w N st sp m → R.under_signature s x m ≡ refused (number r)
    go nm none x sp m h q = absurd h
    go nm (some s) x sp m h q = rw (f nm sp m q) refl

-- the result for the signature that was matched
pub under_at : {w w' : List ℕ} {N : ℕ} {st : State} {g g' : Maybe ℕ} {ty p : ℕ} {u : State} → g ≡ g' → GivesUnder w w' N st g' ty p u → GivesUnder w w' N st g ty p u
under_at {w} {w'} {N} {st} {g} {g'} {ty} {p} {u} e h = subst (λ (x : Maybe ℕ). GivesUnder w w' N st x ty p u) (sym e) h

-- TYPES
module _ {nm : Names} {w w' : List ℕ} {N : ℕ} {r u : State} {signature : Maybe ℕ} {t p : ℕ} (y : GivesUnder w w' N r signature t p u) where
  -- what was taken, and the type under the signature
  under_given : (f : Run Node) (gain : ℕ) (sp : Spare) (m m₁ : Demangler) (s : Option Node) (x : Node) → f m ≡ R.under_signature s x m₁ → Signs nm w r.top signature s → Lies (Named nm) x w t → Holds nm w N r (signed s (taken gain (size x) (for_nodes 1 sp))) m₁ → Given f gain nm w' N p u sp m
  under_given f gain sp m m₁ s x e q l h =
      let o = y.gives nm s x (taken gain (size x) (for_nodes 1 sp)) m₁ q l h in
      record {
        tree = o.tree;
        machine = o.machine;
        is = e ∙ o.is;
        lies = o.lies;
        holds = less_spare (for_nodes (weight_of s) (taken gain (size x) (for_nodes 1 sp))) (taken gain (size o.tree) sp) (omega arith) (omega arith) (omega (arith, o.weighs)) (omega arith) o.holds;
      }

-- the type first
module _ {w : List ℕ} {N : ℕ} {st u : State} {t : ℕ} {r : Signed} (a : Gives (R.pop_if K.is_type) 3 w w N st t u) (b : GivesSigned w N u r) where
  pub type_signing : Ready w N st full_spare → Signing w N r.next r.signature t
  type_signing q =
      let g = a.gives q.names full_spare q.machine q.holds in
      let s = b.gives q.names nothing_spare g.machine (less_spare (taken 3 (size g.tree) full_spare) nothing_spare (omega arith) (omega arith) (omega arith) (omega arith) g.holds) in
      record { names = q.names; machine = s.machine; signed_by = s.signature; signs = s.signs; below = omega (arith, a.below, b.top); small = a.small; holds = s.holds }

  pub variable_typed : (w' : List ℕ) (v : State) (y : Result ℕ Refusal) → TakesUnder w w' N r.next v r.signature t y → TakesType variable_type 1 3 w w' N st v y
  variable_typed w' v (Ok p) c = record {
    below = c.below;
    deep = omega (arith, a.deep, b.deep, c.deep);
    rising = omega (arith, a.rising, b.top, c.rising);
    keeps = keeps_then st.top r.next.top (omega (arith, a.rising, b.top)) (keeps_itself w N st.top) c.keeps;
    gives = λ nm sp m h.
        let g = a.gives nm (for_nodes 1 sp) m h in
        let s = b.gives nm (taken 3 (size g.tree) (for_nodes 1 sp)) g.machine g.holds in
        under_given c variable_type 3 sp m s.machine s.signature g.tree (rw (g.is, s.is) refl) s.signs g.lies s.holds;
  }
  variable_typed w' v (Err e) c = (
    λ nm sp m h.
        let g = a.gives nm (for_nodes 1 sp) m h in
        let s = b.gives nm (taken 3 (size g.tree) (for_nodes 1 sp)) g.machine g.holds in
        rw (g.is, s.is) (c.0 nm s.signature g.tree _ s.machine s.signs s.holds),
    c.1,
  )

pub variable_untyped : {w w' : List ℕ} {N : ℕ} {st : State} (u : State) (r : Refusal) → ((nm : Names) (sp : Spare) (m : Demangler) → Holds nm w N st sp m → R.pop_if K.is_type m ≡ refused (number r)) × Beyond 64 N w w' → TakesType variable_type 1 3 w w' N st u (Err r)
variable_untyped u r f = (λ nm sp m h. rw (f.0 nm (for_nodes 1 sp) m h) refl, f.1)

-- the signature first
module _ {f : Run Node} {own gain : ℕ} {w w₁ : List ℕ} {N : ℕ} {st u : State} {t : ℕ} {r : Signed} (b : GivesSigned w N st r) (a : GivesType f own gain w w₁ N r.next t u) where
  pub signed_signing : own ≤ 4 → Ready w N st full_spare → Signing w₁ N u r.signature t
  signed_signing l q =
      let s = b.gives q.names full_spare q.machine q.holds in
      go s.signature s.signs s.machine s.holds
    where
      go : (s : Option Node) → Signs q.names w r.next.top r.signature s → (m : Demangler) → Holds q.names w N r.next (signed s full_spare) m → Signing w₁ N u r.signature t
      go none k m h =
          let g = a.gives q.names nothing_spare m (less_spare full_spare (for_nodes own nothing_spare) (omega arith) (omega arith) (omega arith) (omega arith) h) in
          record { names = q.names; machine = g.machine; signed_by = none; signs = signs_stay q.names u.top a.rising a.keeps r.signature none k; below = a.below; small = omega (arith, g.holds.light, g.holds.charged, g.holds.small, g.lies.size_is); holds = less_spare (taken gain (size g.tree) nothing_spare) nothing_spare (omega arith) (omega arith) (omega arith) (omega arith) g.holds }
      go (some x) k m h =
          let g = a.gives q.names (signed (some x) nothing_spare) m (less_spare (signed (some x) full_spare) (for_nodes own (signed (some x) nothing_spare)) (omega arith) (omega arith) (omega arith) (omega arith) h) in
          record { names = q.names; machine = g.machine; signed_by = some x; signs = signs_stay q.names u.top a.rising a.keeps r.signature (some x) k; below = a.below; small = omega (arith, g.holds.light, g.holds.charged, g.holds.small, g.lies.size_is); holds = less_spare (taken gain (size g.tree) (signed (some x) nothing_spare)) (signed (some x) nothing_spare) (omega arith) (omega arith) (omega arith) (omega arith) g.holds }

  -- what the signature gave back is still available after the step between
  past_type : (nm : Names) (sp : Spare) (s : Option Node) (m : Demangler) → Holds nm w N r.next (signed s (for_nodes (own + 1) sp)) m → (x : Node) × (m₁ : Demangler) × (f m ≡ ok x m₁) × Lies (Named nm) x w₁ t × Holds nm w₁ N u (signed s (taken gain (size x) (for_nodes 1 sp))) m₁
  past_type nm sp none m h =
      let g = a.gives nm (for_nodes 1 sp) m (less_spare (for_nodes (own + 1) sp) (for_nodes own (for_nodes 1 sp)) (omega arith) (omega arith) (omega arith) (omega arith) h) in
      (g.tree, g.machine, g.is, g.lies, g.holds)
  past_type nm sp (some s) m h =
      let g = a.gives nm (signed (some s) (for_nodes 1 sp)) m (less_spare (signed (some s) (for_nodes (own + 1) sp)) (for_nodes own (signed (some s) (for_nodes 1 sp))) (omega arith) (omega arith) (omega arith) (omega arith) h) in
      (g.tree, g.machine, g.is, g.lies, less_spare (taken gain (size g.tree) (signed (some s) (for_nodes 1 sp))) (signed (some s) (taken gain (size g.tree) (for_nodes 1 sp))) (omega arith) (omega arith) (omega arith) (omega arith) g.holds)

  pub signed_typed : (w' : List ℕ) (v : State) (y : Result ℕ Refusal) → TakesUnder w₁ w' N u v r.signature t y → TakesType (signed_type f) (own + 1) gain w w' N st v y
  signed_typed w' v (Ok p) c = record {
    below = c.below;
    deep = omega (arith, a.deep, b.deep, c.deep);
    rising = omega (arith, a.rising, b.top, c.rising);
    keeps = keeps_then st.top u.top (omega (arith, a.rising, b.top)) (subst (λ (n : ℕ). Keeps w w₁ N n) b.top a.keeps) c.keeps;
    gives = λ nm sp m h.
        let s = b.gives nm (for_nodes (own + 1) sp) m h in
        let g = past_type nm sp s.signature s.machine s.holds in
        under_given c (signed_type f) gain sp m g.1 s.signature g.0 (rw (s.is, g.2) refl) (signs_stay nm u.top a.rising a.keeps r.signature s.signature s.signs) g.3 g.4;
  }
  signed_typed w' v (Err e) c = (
    λ nm sp m h.
        let s = b.gives nm (for_nodes (own + 1) sp) m h in
        let g = past_type nm sp s.signature s.machine s.holds in
        rw (s.is, g.2) (c.0 nm s.signature g.0 _ g.1 (signs_stay nm u.top a.rising a.keeps r.signature s.signature s.signs) g.4),
    record { past = λ i l. c.1.past i l ∙ a.keeps.past i l; long = c.1.long ∙ a.keeps.long },
  )

-- a type that is taken as it is
pub as_type : {f : Run Node} {gain : ℕ} {w w' : List ℕ} {N : ℕ} {st u : State} {p : ℕ} → Gives f gain w w' N st p u → GivesType f 0 gain w w' N st p u
as_type g = record {
  below = g.below;
  deep = g.deep;
  rising = g.rising;
  keeps = g.keeps;
  gives = λ nm sp m h. g.gives nm sp m (less_spare (for_nodes 0 sp) sp (omega arith) (omega arith) (omega arith) (omega arith) h);
}

signed_least : {nm : Names} {w : List ℕ} {N : ℕ} {u : State} {m : Demangler} (s : Option Node) (sp : Spare) → Holds nm w N u (signed s sp) m → Holds nm w N u sp m
signed_least none sp h = h
signed_least (some s) sp h = less_spare (signed (some s) sp) sp (omega arith) (omega arith) (omega arith) (omega arith) h

pub signed_untyped : (f : Run Node) (own gain : ℕ) {w w' : List ℕ} {N : ℕ} {st : State} (v : State) {r : Signed} (e : Refusal) → GivesSigned w N st r → ((nm : Names) (sp : Spare) (m : Demangler) → Holds nm w N r.next (for_nodes own sp) m → f m ≡ refused (number e)) × Beyond 64 N w w' → TakesType (signed_type f) (own + 1) gain w w' N st v (Err e)
signed_untyped f own gain v e b c = (
  λ nm sp m h.
      let s = b.gives nm (for_nodes (own + 1) sp) m h in
      let k = signed_least s.signature (for_nodes (own + 1) sp) s.holds in
      rw (s.is, c.0 nm sp s.machine (less_spare (for_nodes (own + 1) sp) (for_nodes own sp) (omega arith) (omega arith) (omega arith) (omega arith) k)) refl,
  c.1,
)

-- refused whatever there is to spare
pub untyped : {f : Run Node} (own : ℕ) {w w' : List ℕ} {N : ℕ} {st : State} {k : ℕ} → ((nm : Names) (sp : Spare) (m : Demangler) → Holds nm w N st sp m → f m ≡ refused k) × Beyond 64 N w w' → ((nm : Names) (sp : Spare) (m : Demangler) → Holds nm w N st (for_nodes own sp) m → f m ≡ refused k) × Beyond 64 N w w'
untyped own c = (λ nm sp m h. c.0 nm (for_nodes own sp) m h, c.1)

pub after_signed : {w : List ℕ} {N : ℕ} {st : State} {r : Signed} → GivesSigned w N st r → Ready w N st full_spare → Ready w N r.next full_spare
after_signed b q =
    let s = b.gives q.names full_spare q.machine q.holds in
    record { names = q.names; machine = s.machine; holds = signed_least s.signature full_spare s.holds }

-- a function type
pub built_type : {f : Run Node} {own gain : ℕ} {w w' : List ℕ} {N : ℕ} {st u : State} {p : ℕ} → Building f own gain w w' N st p u → GivesType f own gain w w' N st p u
built_type g = record { below = g.below; deep = g.deep; rising = g.rising; keeps = g.keeps; gives = g.gives }

-- ON `Trees`
pub signs_of : (t t' : Trees) (o : Maybe ℕ) → Tries (R.try (eqb 12)) t t' o → GivesSigned t.ws.now t.n t.state (record { signature = o; next = t'.state })
signs_of t t' (Some p) h = signed_at h
signs_of t t' None h = rw h.same (unsigned h.leaves)

pub has_signed : {t t' : Trees} {o : Maybe ℕ} → Reads t t' → GivesSigned t.ws.now t.n t.state (record { signature = o; next = t'.state }) → Has t full_spare → Has t' full_spare
has_signed s b r = rw (s.slice, s.ceiling) (after_signed b r)
