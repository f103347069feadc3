-- A whole list: the definition's loop over the whole is its loop over the rest from here.
use mathlib.Core.Path.{◌≡◌, refl, ap, ◌∙◌}
use mathlib.Core.List.{List}
use Prim.Native.Nat.{ℕ, suc, ◌-◌, ◌≤◌, ◌<◌}
use native.Mathlib.Omega.{arith}
use Rattle.definition.specs.Base.{refused, ret}
use Rattle.definition.specs.Node.{Nodes, nil, sizes, many}
use Rattle.definition.specs.Perform.{Demangler}
use Rattle.tree_records.specs.Holds.{Names, Spare, Holds, Ready, Keeps}
use Rattle.tree_records.specs.declared.State.{State}
use Rattle.machine.specs.Beyond.{Beyond}
use Rattle.tree_nodes.specs.Gives.{nothing_spare}
use Rattle.tree_nodes.proofs.Leaving.{keeps_then}
use Rattle.tree_nodes.proofs.Taking.{less_spare, keeps_itself}
use Rattle.tree_types.specs.Cells.{grown, Listed, Gathering}
use Rattle.tree_types.specs.TypeLists.{Loop, Went, Turns, Collected}
use Rattle.tree_types.specs.declared.cells.Chain.{Chain}
use Rattle.tree_types.proofs.cells.Cells.{listed_nil}
use Rattle.tree_types.proofs.cells.Gatherings.{gathering_none}

-- the loop with f rounds from the machine m on is at this list, with as many rounds as it may still
-- need
pub record Gone (loop : Loop) (nm : Names) (w : List ℕ) (N : ℕ) (st : State) (l : Chain) (sp : Spare) (f : ℕ) (m : Demangler) : Type 0 where
  pub list : Nodes
  pub machine : Demangler
  pub left : ℕ
  pub enough : st.depth < left
  pub listed : Listed nm list w st.top l
  pub holds : Holds nm w N st (grown list sp) machine
  pub is : loop f nil m ≡ loop left list machine

pub record Going (loop : Loop) (w₀ w : List ℕ) (N : ℕ) (st₀ st : State) (l : Chain) : Type 0 where
  pub gathering : Gathering w N st nothing_spare l
  pub rising : st₀.top ≤ st.top
  pub keeps : Keeps w₀ w N st₀.top
  pub gone : (nm : Names) (sp : Spare) (m : Demangler) (f : ℕ) → st₀.depth < f → Holds nm w₀ N st₀ sp m → Gone loop nm w N st l sp f m

pub going_start : {w : List ℕ} {N : ℕ} {st : State} (loop : Loop) → Ready w N st nothing_spare → Going loop w w N st st (record { count = 0; sum = 0; first = 0 })
unfolding many sizes
going_start {w} {N} {st} loop r = record {
  gathering = gathering_none r;
  rising = omega arith;
  keeps = keeps_itself w N st.top;
  gone = λ nm sp m f q h. record {
    list = nil;
    machine = m;
    left = f;
    enough = q;
    listed = listed_nil nm w st.top 0;
    holds = less_spare sp (grown nil sp) (omega arith) (omega arith) (omega arith) (omega arith) h;
    is = refl;
  };
}

module _ (loop : Loop) {w₀ w w' : List ℕ} {N : ℕ} {st₀ st : State} {l : Chain} (g : Going loop w₀ w N st₀ st l) where
  -- one more round
  round_then : {next : Loop} {l' : Chain} {u : State} → Turns loop next w w' N st l l' u → (nm : Names) (sp : Spare) (m : Demangler) (f : ℕ) → st₀.depth < f → Holds nm w₀ N st₀ sp m →
      (left : ℕ) × (st.depth ≤ left) × Went (loop f nil) (next left) nm w' N u l' sp m
  round_then t nm sp m f q h =
      let a : Gone loop nm w N st l sp f m = g.gone nm sp m f q h in
      let e : a.left ≡ suc (a.left - 1) = omega (arith, a.enough) in
      let b = t.gives nm sp a.machine a.list (a.left - 1) a.holds a.listed in
      (a.left - 1, omega (arith, a.enough), record { list = b.list; machine = b.machine; is = a.is ∙ ap (λ (i : ℕ). loop i a.list a.machine) e ∙ b.is; listed = b.listed; holds = b.holds })

  pub going_more : {l' : Chain} {u : State} → Turns loop loop w w' N st l l' u × (u.depth < st.depth) → Going loop w₀ w' N st₀ u l'
  going_more t =
      let b = g.gathering in
      let s = t.0.gives b.names nothing_spare b.machine b.list 0 b.holds b.listed in
      record {
        gathering = record { names = b.names; machine = s.machine; list = s.list; holds = s.holds; listed = s.listed };
        rising = omega (arith, g.rising, t.0.rising);
        keeps = keeps_then st₀.top st.top g.rising g.keeps t.0.keeps;
        gone = λ nm sp m f q h.
            let a = round_then t.0 nm sp m f q h in
            record { list = a.2.list; machine = a.2.machine; left = a.0; enough = omega (arith, a.1, t.1); listed = a.2.listed; holds = a.2.holds; is = a.2.is };
      }

  pub going_last : {l' : Chain} {u : State} → Turns loop (λ f. ret) w w' N st l l' u → Collected loop w₀ w' N st₀ l' u
  going_last t = record {
    rising = omega (arith, g.rising, t.rising);
    keeps = keeps_then st₀.top st.top g.rising g.keeps t.keeps;
    gives = λ nm sp m f q h. (round_then t nm sp m f q h).2;
  }

  pub going_refused : {k : ℕ} → ((nm : Names) (sp : Spare) (m : Demangler) (ns : Nodes) (f : ℕ) → Holds nm w N st sp m → loop (suc f) ns m ≡ refused k) × Beyond 64 N w w' →
      ((nm : Names) (sp : Spare) (m : Demangler) (f : ℕ) → st₀.depth < f → Holds nm w₀ N st₀ sp m → loop f nil m ≡ refused k) × Beyond 64 N w₀ w'
  going_refused t = (
    λ nm sp m f q h.
        let a : Gone loop nm w N st l sp f m = g.gone nm sp m f q h in
        let e : a.left ≡ suc (a.left - 1) = omega (arith, a.enough) in
        a.is ∙ ap (λ (i : ℕ). loop i a.list a.machine) e ∙ t.0 nm (grown a.list sp) a.machine a.list (a.left - 1) a.holds,
    record { past = λ i k. t.1.past i k ∙ g.keeps.past i k; long = t.1.long ∙ g.keeps.long },
  )
