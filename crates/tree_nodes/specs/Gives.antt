-- What code that takes a tree from the stack says, and what the code of an operator says, about the
-- definition's steps.
use Rattle.std.specs.Prelude.{◌≡◌, Bool, List, [], ◌∷◌, ◌++◌, ℕ, ◌+◌, ◌*◌, ◌^◌, ◌≤◌, ◌<◌, ◌/◌, ◌%◌, length, get_or}
use Rattle.std.proofs.Math.Option.{Option, some}
use Prim.Native.String.{String}
use Rattle.definition.specs.Base.{Name, ok, refused, Done, ret, ◌>>=◌}
use Rattle.definition.specs.Node.{Node, FunctionType, kind, size, count}
use Rattle.definition.specs.Perform.{Demangler, Run, pop_if, function_params}
use Rattle.definition.specs.Machine.{machine, restack, push, wrap}
use Rattle.definition.specs.Enums.{number}
use Rattle.tree_records.specs.Lies.{at, Child, Body, Lies, Would}
use Rattle.tree_records.specs.Holds.{Fixed, Names, Named, Spare, Inside, Holds, Keeps, for_record, for_push, for_keeping}
use Rattle.tree_records.specs.declared.State.{State}
use Rattle.tree_nodes.specs.Results.{Placed}
use Rattle.tree_nodes.specs.Results.{Marked}
use Rattle.tree_nodes.specs.Results.{Step}

abbrev pub spare : (makes pushes nodes keeps : ℕ) → Spare
spare a b c d = record { makes = a; pushes = b; nodes = c; keeps = d }

abbrev pub nothing_spare : Spare
nothing_spare = spare 0 0 0 0

-- what there is to spare after a tree of size z was taken, which gave back `gain` half records
abbrev pub taken : (gain z : ℕ) → Spare → Spare
taken gain z sp = spare (sp.makes + gain) (sp.pushes + 1) (sp.nodes + z) sp.keeps

-- the step f took the tree that is stored at p, and w holds the machine after it with u
pub record Given (f : Run Node) (gain : ℕ) (nm : Names) (w : List ℕ) (N p : ℕ) (u : State) (sp : Spare) (m : Demangler) : Type 0 where
  pub tree : Node
  pub machine : Demangler
  pub is : f m ≡ ok tree machine
  pub lies : Lies (Named nm) tree w p
  pub holds : Holds nm w N u (taken gain (size tree) sp) machine

-- no tree on the stack is larger
abbrev pub most : ℕ
most = 262144

-- for any machine that w held
pub record Gives (f : Run Node) (gain : ℕ) (w w' : List ℕ) (N : ℕ) (st : State) (p : ℕ) (u : State) : Type 0 where
  pub below : p < u.top
  pub deep : u.depth < st.depth
  pub rising : st.top ≤ u.top
  pub small : at w' p 1 ≤ most
  pub keeps : Keeps w w' N st.top
  pub gives : (nm : Names) (sp : Spare) (m : Demangler) → Holds nm w N st sp m → Given f gain nm w' N p u sp m

-- the tree at place p may be a child of a record that is pushed
pub record Under (w : List ℕ) (N : ℕ) (st : State) (p : ℕ) : Type 0 where
  pub inside : Inside w N st 5 1 0
  pub below : p < st.top
  pub fits : at w p 1 + 1 < 2 ^ 32

-- a tree that is made of what is taken: that many more nodes than were taken
abbrev pub for_nodes : ℕ → Spare → Spare
for_nodes z sp = spare sp.makes sp.pushes (sp.nodes + z) sp.keeps

pub record Building (f : Run Node) (own gain : ℕ) (w w' : List ℕ) (N : ℕ) (st : State) (p : ℕ) (u : State) : Type 0 where
  pub below : p < u.top
  pub deep : u.depth < st.depth
  pub rising : st.top ≤ u.top
  pub small : at w' p 1 ≤ most
  pub keeps : Keeps w w' N st.top
  pub gives : (nm : Names) (sp : Spare) (m : Demangler) → Holds nm w N st (for_nodes own sp) m → Given f gain nm w' N p u sp m

-- a tree that may be missing: f takes it, or leaves the machine unchanged
pub record GivenIf (f : Run (Option Node)) (nm : Names) (w : List ℕ) (N p : ℕ) (u : State) (sp : Spare) (m : Demangler) : Type 0 where
  pub tree : Node
  pub machine : Demangler
  pub is : f m ≡ ok (some tree) machine
  pub lies : Lies (Named nm) tree w p
  pub holds : Holds nm w N u (taken 3 (size tree) sp) machine

pub record GivesIf (f : Run (Option Node)) (w : List ℕ) (N : ℕ) (st : State) (p : ℕ) (u : State) : Type 0 where
  pub below : p < u.top
  pub deep : u.depth < st.depth
  pub top : u.top ≡ st.top
  pub small : at w p 1 ≤ most
  pub gives : (nm : Names) (sp : Spare) (m : Demangler) → Holds nm w N st sp m → GivenIf f nm w N p u sp m

-- a marker: whether it was there, and the state without it
pub record Marks (f : Run Bool) (w : List ℕ) (N : ℕ) (st : State) (r : Marked) : Type 0 where
  pub deep : r.next.depth ≤ st.depth
  pub top : r.next.top ≡ st.top
  pub gives : (nm : Names) (sp : Spare) (m : Demangler) → Holds nm w N st sp m → (m' : Demangler) × (f m ≡ ok r.taken m') × Holds nm w N r.next sp m'

-- a name: its number represents what the step f gives
pub record GivenName (f : Run Name) (nm : Names) (w : List ℕ) (N k : ℕ) (u : State) (sp : Spare) (m : Demangler) : Type 0 where
  pub name : Name
  pub machine : Demangler
  pub is : f m ≡ ok name machine
  pub named : Named nm k name
  pub holds : Holds nm w N u (taken 3 1 sp) machine

pub record GivesName (f : Run Name) (w : List ℕ) (N : ℕ) (st : State) (k : ℕ) (u : State) : Type 0 where
  pub deep : u.depth < st.depth
  pub top : u.top ≡ st.top
  pub gives : (nm : Names) (sp : Spare) (m : Demangler) → Holds nm w N st sp m → GivenName f nm w N k u sp m

-- what an operator may spend: its turn was charged 1
abbrev pub full_spare : Spare
full_spare = spare 15 1 4 1

-- an operator, given the fixed names
abbrev pub Performed : Type 0
Performed = (ℕ → String) → Run Done

-- the operator f ended with the machine that w holds with u
pub record Ran (f : Run Done) (nm : Names) (w : List ℕ) (N : ℕ) (u : State) (m : Demangler) : Type 0 where
  pub machine : Demangler
  pub is : f m ≡ ok tt machine
  pub holds : Holds nm w N u nothing_spare machine

-- what the code of an operator does, for any machine that w held: w' holds the machine that f
-- gives, or f is refused with the same number
abbrev pub Runs : Performed → (w w' : List ℕ) (N : ℕ) (st : State) → Step → Type 0
Runs f w w' N st (Step.Done u) = (nm : Names) (m : Demangler) → Fixed nm.fixed → Holds nm w N st full_spare m → Ran (f nm.fixed) nm w' N u m
Runs f w w' N st (Step.Refused r) = (nm : Names) (m : Demangler) → Fixed nm.fixed → Holds nm w N st full_spare m → f nm.fixed m ≡ refused (number r)

-- and nothing past 64 × N changes
pub record Operates (f : Performed) (w w' : List ℕ) (N : ℕ) (st : State) (r : Step) : Type 0 where
  pub runs : Runs f w w' N st r
  pub past : (i : ℕ) → 64 * N ≤ i → get_or w' i 0 ≡ get_or w i 0
  pub long : length w' ≡ length w

-- the halves of a number of 64 bits
abbrev pub low_half : ℕ → ℕ
low_half x = x % 4294967296

abbrev pub high_half : ℕ → ℕ
high_half x = x / 4294967296

-- a node was made, which costs `cost` half records; x is the node, given the fixed names
pub record Makes (x : (ℕ → String) → Node) (cost : ℕ) (w w' : List ℕ) (N : ℕ) (st : State) (r : Placed) : Type 0 where
  pub below : r.place < r.next.top
  pub rising : st.top ≤ r.next.top
  pub depth : r.next.depth ≡ st.depth
  pub seen : r.next.seen ≡ st.seen
  pub budget : r.next.budget ≡ st.budget
  pub keeps : Keeps w w' N st.top
  pub some : 1 ≤ at w' r.place 1
  pub lies : (nm : Names) → Fixed nm.fixed → Lies (Named nm) (x nm.fixed) w' r.place
  pub holds : (nm : Names) (sp : Spare) (m : Demangler) → Holds nm w N st (spare (sp.makes + cost) sp.pushes sp.nodes sp.keeps) m → Holds nm w' N r.next sp m

-- a new record was pushed: for any tree x that it is
pub record Left (w w' : List ℕ) (N : ℕ) (st u : State) (vs : List ℕ) : Type 0 where
  pub holds : (nm : Names) (sp : Spare) (m : Demangler) (x : Node) → Holds nm w N st (for_record (for_push (size x) sp)) m → Would (Named nm) x (λ i. get_or vs i 0) w st.top → Holds nm w' N u sp (restack (x ∷ m.stack) m)
  pub made : (nm : Names) (x : Node) → Would (Named nm) x (λ i. get_or vs i 0) w st.top → Lies (Named nm) x w' st.top
  pub state : u ≡ record { budget = st.budget; top = st.top + 1; depth = st.depth + 1; seen = st.seen }
  pub keeps : Keeps w w' N st.top

-- a new record was pushed and is remembered: for any tree x that it is
pub record Kept (w w' : List ℕ) (N : ℕ) (st u : State) (vs : List ℕ) : Type 0 where
  pub holds : (nm : Names) (sp : Spare) (m : Demangler) (x : Node) → Holds nm w N st (for_record (for_keeping (for_push (size x) sp))) m → Would (Named nm) x (λ i. get_or vs i 0) w st.top →
      Holds nm w' N u sp (machine m.budget (x ∷ m.stack) (m.substitutions ++ (x ∷ [])) m.words)
  pub keeps : Keeps w w' N st.top

-- one more wrap: only the wraps of the budget change
pub record WrapsTo (w : List ℕ) (N : ℕ) (st u : State) : Type 0 where
  pub top : u.top ≡ st.top
  pub depth : u.depth ≡ st.depth
  pub seen : u.seen ≡ st.seen
  pub total : u.budget.total ≡ st.budget.total
  pub gives : (nm : Names) (sp : Spare) (m : Demangler) → Holds nm w N st sp m → (m' : Demangler) × (wrap m ≡ ok tt m') × Holds nm w N u sp m'

-- the nodes of a kind that have one child, in field 3
pub record OneChild (k : ℕ) (c : Node → Node) : Type 0 where
  pub kind_is : (x : Node) → kind (c x) ≡ k
  pub size_is : (x : Node) → size (c x) ≡ 1 + size x
  pub count_is : (x : Node) → count (c x) ≡ 0
  pub body : (nm : Names) (x : Node) (f : ℕ → ℕ) (w : List ℕ) (p : ℕ) → Child f p 3 (λ q. Lies (Named nm) x w q) → Body (Named nm) (c x) f w p

-- after the effects of a function type: its parameters and its result
abbrev pub between : (throws is_async : Bool) → Run Node
between t a = function_params >>= λ p. function_params >>= λ r. ret (FunctionType p r t a)

-- a node c over the top, if its kind is wanted
abbrev pub over : (ℕ → Bool) → (Node → Node) → Performed
over want c fixed = pop_if want >>= λ x. push (c x)
