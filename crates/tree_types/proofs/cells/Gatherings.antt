-- What there is to spare while a list is taken.
use mathlib.Core.Bool.{Bool}
use mathlib.Core.List.{List}
use mathlib.Core.Option.{Option}
use Prim.Native.Nat.{ℕ, ◌+◌, ◌≤◌}
use native.Mathlib.Omega.{arith}
use Rattle.definition.specs.Node.{Node, nil, size, sizes, many}
use Rattle.definition.specs.Perform.{Run}
use Rattle.tree_records.specs.Lies.{at}
use Rattle.tree_records.specs.Holds.{Spare, Ready}
use Rattle.tree_records.specs.declared.State.{State}
use Rattle.tree_nodes.specs.Gives.{taken, Gives, GivesIf, Marks}
use Rattle.tree_nodes.specs.Results.{Marked}
use Rattle.tree_nodes.proofs.Taking.{less_spare, keeps_itself}
use Rattle.tree_nodes.proofs.Ready.{room}
use Rattle.tree_records.specs.Trees.{Reads}
use Rattle.tree_records.specs.declared.Trees.{Trees}
use Rattle.tree_nodes.specs.Trees.{Marks as Marks-in}
use Rattle.tree_types.specs.Cells.{LabelTaken, grown, Gathering, CellFits, Labels}
use Rattle.tree_types.specs.declared.cells.Chain.{Chain}
use Rattle.tree_types.proofs.cells.Cells.{listed_moves, listed_nil}

module _ {w : List ℕ} {N : ℕ} {st : State} {sp : Spare} {l : Chain} where
  pub gathering_ready : Gathering w N st sp l → Ready w N st sp
  gathering_ready b = record { names = b.names; machine = b.machine; holds = less_spare (grown b.list sp) sp (omega arith) (omega arith) (omega arith) (omega arith) b.holds }

  -- the sizes and the number of nodes are small
  pub gathering_sum : Gathering w N st sp l → l.sum + sp.nodes ≤ 262144
  gathering_sum b = let h = b.holds in omega (arith, h.small, h.charged, h.light, b.listed.sizes_is)

  pub gathering_count : Gathering w N st sp l → l.count ≤ 65536
  gathering_count b = let h = b.holds in omega (arith, h.small, h.charged, h.deep, b.listed.many_is)

  pub gathering_marked : {f : Run Bool} {r : Marked} → Marks f w N st r → Gathering w N st sp l → Gathering w N r.next sp l
  gathering_marked {f} {r} g b =
      let t = g.gives b.names (grown b.list sp) b.machine b.holds in
      record { names = b.names; machine = t.0; list = b.list; holds = t.2; listed = listed_moves r.next.top (keeps_itself w N st.top) (omega (arith, g.top)) b.listed }

  pub gathering_labelled : {r : LabelTaken} → Labels w N st r → Gathering w N st sp l → Gathering w N r.next sp l
  gathering_labelled {r} g b =
      let t = g.gives b.names (grown b.list sp) b.machine b.holds in
      record { names = b.names; machine = t.machine; list = b.list; holds = t.holds; listed = listed_moves r.next.top (keeps_itself w N st.top) (omega (arith, g.top)) b.listed }

-- no list yet
pub gathering_none : {w : List ℕ} {N : ℕ} {st : State} {sp : Spare} → Ready w N st sp → Gathering w N st sp (record { count = 0; sum = 0; first = 0 })
unfolding many sizes
gathering_none {w} {N} {st} {sp} r = record {
  names = r.names;
  machine = r.machine;
  list = nil;
  holds = less_spare sp (grown nil sp) (omega arith) (omega arith) (omega arith) (omega arith) r.holds;
  listed = listed_nil r.names w st.top 0;
}

module _ {f : Run Node} {gain : ℕ} {w w' : List ℕ} {N : ℕ} {st u : State} {p : ℕ} {sp : Spare} {l : Chain} (g : Gives f gain w w' N st p u) (b : Gathering w N st sp l) where
  pub gathering_taken : Gathering w' N u (taken gain 0 sp) l
  gathering_taken =
      let t = g.gives b.names (grown b.list sp) b.machine b.holds in
      record {
        names = b.names;
        machine = t.machine;
        list = b.list;
        holds = less_spare (taken gain (size t.tree) (grown b.list sp)) (grown b.list (taken gain 0 sp)) (omega arith) (omega arith) (omega arith) (omega arith) t.holds;
        listed = listed_moves u.top g.keeps g.rising b.listed;
      }

  -- the sum of the sizes of the list and of the tree
  pub taken_sum : l.sum + at w' p 1 ≤ 262144
  taken_sum =
      let t = g.gives b.names (grown b.list sp) b.machine b.holds in
      let h = t.holds in
      omega (arith, h.small, h.charged, h.light, t.lies.size_is, b.listed.sizes_is)

  pub cell_fits : 2 ≤ gain → CellFits w' N u l p
  cell_fits q = record {
    inside = room (omega arith) (omega arith) (omega arith) (gathering_ready gathering_taken);
    below = g.below;
    sum = omega (arith, taken_sum);
    count = omega (arith, gathering_count b);
  }

-- after a tree that was tried for
pub tried_fits : {f : Run (Option Node)} {w : List ℕ} {N : ℕ} {st u : State} {p : ℕ} {sp : Spare} {l : Chain} → GivesIf f w N st p u → Gathering w N st sp l → CellFits w N u l p
tried_fits {f} {w} {N} {st} {u} {p} {sp} g b =
    let t = g.gives b.names (grown b.list sp) b.machine b.holds in
    let h = t.holds in
    record {
      inside = record { small = h.small; long = h.long; charged = h.charged; room = omega (arith, h.room); deep = omega (arith, h.deep); kept = omega (arith, h.kept) };
      below = g.below;
      sum = omega (arith, h.small, h.charged, h.light, t.lies.size_is, b.listed.sizes_is);
      count = omega (arith, gathering_count b);
    }

-- ON `Trees`
pub chain_marked : {t t' : Trees} {f : Run Bool} {b : Bool} {sp : Spare} {l : Chain} → Reads t t' → Marks-in f t t' b → Gathering t.ws.now t.n t.state sp l → Gathering t'.ws.now t'.n t'.state sp l
chain_marked s k g = rw (s.slice, s.ceiling) (gathering_marked k g)

pub chain_labelled : {t t' : Trees} {k : ℕ} {sp : Spare} {l : Chain} → Reads t t' → Labels t.ws.now t.n t.state (record { label = k; next = t'.state }) → Gathering t.ws.now t.n t.state sp l → Gathering t'.ws.now t'.n t'.state sp l
chain_labelled s k g = rw (s.slice, s.ceiling) (gathering_labelled k g)
