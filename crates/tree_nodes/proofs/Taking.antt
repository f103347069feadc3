-- Taking a tree of a kind from the stack.
use Rattle.std.specs.Prelude.{if◌then◌else◌, Result, Ok, Err}
use mathlib.Core.Path.{◌≡◌, refl, sym, ap, ◌∙◌, subst}
use mathlib.Core.Bool.{Bool, true, false}
use mathlib.Core.List.{List, [], ◌∷◌}
use mathlib.Core.Option.{some, none}
use lib.Dec.{T, eqb}
use Prim.Native.Nat.{ℕ, ◌+◌, ◌*◌, ◌≤◌, ◌<◌}
use native.Mathlib.Omega.{arith}
use lib.ListN.{length}
use Rattle.definition.specs.Base.{ok, refused, is_some}
use Rattle.definition.specs.Kind as K
use Rattle.definition.proofs.Matches.{the_name, name_in_is}
use Rattle.definition.specs.Node.{Node, Identifier, kind, size, view}
use Rattle.definition.specs.Machine as M
use Rattle.definition.specs.Machine.{restack}
use Rattle.definition.specs.Perform as R
use Rattle.definition.specs.Perform.{Demangler, Run}
use Rattle.definition.specs.declared.Refusal.{Refusal}
use Rattle.tree_records.specs.Lies.{at, Lies}
use Rattle.tree_records.specs.Holds.{Names, Named, Spare, Holds, Ready, TopIs, Took, Keeps}
use Rattle.tree_records.specs.Trees.{Pops}
use Rattle.tree_records.specs.declared.State.{State}
use Rattle.tree_records.specs.declared.Trees.{Trees}
use Rattle.tree_nodes.specs.Gives.{nothing_spare, taken, Gives, GivesIf, Marks, GivesName}
use Rattle.tree_nodes.proofs.ByKind.{identifier_of}

-- a place below top is a record inside the workspace
pub place_inside : {w : List ℕ} {N : ℕ} {st : State} {sp : Spare} (p : ℕ) → p < st.top → Ready w N st sp → 8 * p + 8 ≤ length w
place_inside p l r = let h = r.holds in omega (arith, h.long, h.charged, h.room)

pub took_below : {w : List ℕ} {N : ℕ} {st u : State} {sp : Spare} {p : ℕ} → Took w N st p u → Ready w N st sp → p < st.top
took_below t r = (t.gives r.names _ r.machine r.holds).below

pub took_small : {w : List ℕ} {N : ℕ} {st u : State} {sp : Spare} {p : ℕ} → Took w N st p u → Ready w N st sp → at w p 1 ≤ 262144
took_small t r =
    let g = t.gives r.names _ r.machine r.holds in
    let h = g.holds in
    omega (arith, h.small, h.charged, h.light, g.lies.size_is)

-- what is left of a machine with less to spare
pub less_spare : {nm : Names} {w : List ℕ} {N : ℕ} {st : State} {m : Demangler} (sp sp' : Spare) → sp'.makes ≤ sp.makes → sp'.pushes ≤ sp.pushes → sp'.nodes ≤ sp.nodes → sp'.keeps ≤ sp.keeps → Holds nm w N st sp m → Holds nm w N st sp' m
less_spare sp sp' a b c d h = record {
  small = h.small;
  long = h.long;
  charged = h.charged;
  budget = h.budget;
  room = omega (arith, h.room);
  deep = omega (arith, h.deep);
  light = omega (arith, h.light);
  kept = omega (arith, h.kept);
  stack = h.stack;
  substitutions = h.substitutions;
  words = h.words;
}

-- nothing was written
pub keeps_itself : (w : List ℕ) (N top : ℕ) → Keeps w w N top
keeps_itself w N top = record { trees = λ nm x p l h. h; fields = λ p k l h. refl; past = λ i l. refl; long = refl }

module _ {w : List ℕ} {N : ℕ} {st u : State} {p : ℕ} (want : ℕ → Bool) (t : Took w N st p u) where
  pop_from_top : (m : Demangler) (x : Node) (xs : List Node) (b : Bool) → m.stack ≡ x ∷ xs → want (kind x) ≡ b → R.pop_if want m ≡ (if b then ok x (restack xs m) else refused 10)
  unfolding M.pop_if M.pop_from
  pop_from_top m x xs b e k = rw (e, k) refl

  pub pop_if_gives : Ready w N st nothing_spare → want (at w p 0) ≡ true → Gives (R.pop_if want) 3 w w N st p u
  pop_if_gives r k = record {
    below = subst (λ (n : ℕ). p < n) (sym t.top) (took_below t r);
    deep = omega (arith, t.deep);
    rising = omega (arith, t.top);
    small = took_small t r;
    keeps = keeps_itself w N st.top;
    gives = λ nm sp m h.
        let g : TopIs nm w N st.top p u sp m = t.gives nm sp m h in
        record {
          tree = g.tree;
          machine = restack g.rest m;
          is = pop_from_top m g.tree g.rest true g.is (ap want (sym g.lies.kind_is) ∙ k);
          lies = g.lies;
          holds = g.holds;
        };
  }

  pub pop_if_refused : want (at w p 0) ≡ false → (nm : Names) (sp : Spare) (m : Demangler) → Holds nm w N st sp m → R.pop_if want m ≡ refused 10
  pop_if_refused k nm sp m h = let g : TopIs nm w N st.top p u sp m = t.gives nm sp m h in pop_from_top m g.tree g.rest false g.is (ap want (sym g.lies.kind_is) ∙ k)

pub pop_if_empty : (want : ℕ → Bool) (m : Demangler) → m.stack ≡ [] → R.pop_if want m ≡ refused 10
unfolding M.pop_if M.pop_from
pop_if_empty want m e = rw e refl

-- the result of an arm of `pop`
pub popped : (t t' : Trees) {r : Result ℕ Refusal} (p : ℕ) → r ≡ Ok p → Pops t t' r → Took t.ws.now t.n t.state p t'.state
popped t t' p e h = subst (λ (x : Result ℕ Refusal). Pops t t' x) e h

pub popped_nothing : (t t' : Trees) {r : Result ℕ Refusal} (x : Refusal) → r ≡ Err x → Pops t t' r → (nm : Names) (sp : Spare) (m : Demangler) → Holds nm t.ws.now t.n t.state sp m → m.stack ≡ []
popped_nothing t t' x e h = (subst (λ (y : Result ℕ Refusal). Pops t t' y) e h).0

-- with no refusal
module _ {w : List ℕ} {N : ℕ} {st u : State} {p : ℕ} (want : ℕ → Bool) (t : Took w N st p u) where
  try_from_top : (m : Demangler) (x : Node) (xs : List Node) (b : Bool) → m.stack ≡ x ∷ xs → want (kind x) ≡ b → R.try want m ≡ (if b then ok (some x) (restack xs m) else ok none m)
  unfolding M.try M.try_from
  try_from_top m x xs b e k = rw (e, k) refl

  pub try_gives : Ready w N st nothing_spare → want (at w p 0) ≡ true → GivesIf (R.try want) w N st p u
  try_gives r k = record {
    below = subst (λ (n : ℕ). p < n) (sym t.top) (took_below t r);
    deep = omega (arith, t.deep);
    top = t.top;
    small = took_small t r;
    gives = λ nm sp m h.
        let g : TopIs nm w N st.top p u sp m = t.gives nm sp m h in
        record {
          tree = g.tree;
          machine = restack g.rest m;
          is = try_from_top m g.tree g.rest true g.is (ap want (sym g.lies.kind_is) ∙ k);
          lies = g.lies;
          holds = g.holds;
        };
  }

  pub try_leaves : want (at w p 0) ≡ false → (nm : Names) (sp : Spare) (m : Demangler) → Holds nm w N st sp m → R.try want m ≡ ok none m
  try_leaves k nm sp m h = let g : TopIs nm w N st.top p u sp m = t.gives nm sp m h in try_from_top m g.tree g.rest false g.is (ap want (sym g.lies.kind_is) ∙ k)

  -- a name
  name_from : (m : Demangler) (x : Node) (xs : List Node) (b : Bool) → m.stack ≡ x ∷ xs → K.is_identifier (kind x) ≡ b → R.pop_name m ≡ (if b then ok (the_name x) (restack xs m) else refused 10)
  unfolding R.pop_name M.pop M.pop_if M.pop_from
  name_from m x xs true e k = rw (e, name_in_is x, k) refl
  name_from m x xs false e k = rw (e, name_in_is x, k) refl

  pub name_gives : {name : ℕ} → name ≡ at w p 3 → K.is_identifier (at w p 0) ≡ true → GivesName R.pop_name w N st name u
  unfolding kind size view
  name_gives q a = record {
    deep = omega (arith, t.deep);
    top = t.top;
    gives = λ nm sp m h.
        let o : TopIs nm w N st.top p u sp m = t.gives nm sp m h in
        let k : K.is_identifier (kind o.tree) ≡ true = ap K.is_identifier (sym o.lies.kind_is) ∙ a in
        let e : o.tree ≡ Identifier (the_name o.tree) = identifier_of o.tree (subst (λ (b : Bool). T b) (sym k) tt) in
        record {
          name = the_name o.tree;
          machine = restack o.rest m;
          is = name_from m o.tree o.rest true o.is k;
          named = subst (λ (i : ℕ). Named nm i (the_name o.tree)) (sym q) (subst (λ (x : Node). Lies (Named nm) x w p) e o.lies).body;
          holds = subst (λ (z : ℕ). Holds nm w N u (taken 3 z sp) (restack o.rest m)) (ap size e) o.holds;
        };
  }

  pub name_refused : K.is_identifier (at w p 0) ≡ false → (nm : Names) (sp : Spare) (m : Demangler) → Holds nm w N st sp m → R.pop_name m ≡ refused 10
  name_refused a nm sp m h =
      let o : TopIs nm w N st.top p u sp m = t.gives nm sp m h in
      let k : K.is_identifier (kind o.tree) ≡ false = ap K.is_identifier (sym o.lies.kind_is) ∙ a in
      name_from m o.tree o.rest false o.is k

pub try_empty : (want : ℕ → Bool) (m : Demangler) → m.stack ≡ [] → R.try want m ≡ ok none m
unfolding M.try M.try_from
try_empty want m e = rw e refl

pub name_empty : (m : Demangler) → m.stack ≡ [] → R.pop_name m ≡ refused 10
unfolding R.pop_name M.pop M.pop_if M.pop_from
name_empty m e = rw e refl

-- a marker was there, or not
pub marked : {w : List ℕ} {N : ℕ} {st u : State} {p : ℕ} (k : ℕ) → GivesIf (R.try (eqb k)) w N st p u → Marks (R.took k) w N st (record { taken = true; next = u })
unfolding M.took is_some
marked k g = record {
  deep = omega (arith, g.deep);
  top = g.top;
  gives = λ nm sp m h.
      let o = g.gives nm sp m h in
      (o.machine, rw o.is refl, less_spare (taken 3 (size o.tree) sp) sp (omega arith) (omega arith) (omega arith) (omega arith) o.holds);
}

pub unmarked : {w : List ℕ} {N : ℕ} {st : State} (k : ℕ) → ((nm : Names) (sp : Spare) (m : Demangler) → Holds nm w N st sp m → R.try (eqb k) m ≡ ok none m) → Marks (R.took k) w N st (record { taken = false; next = st })
unfolding M.took is_some
unmarked k g = record { deep = omega arith; top = refl; gives = λ nm sp m h. (m, rw (g nm sp m h) refl, h) }
