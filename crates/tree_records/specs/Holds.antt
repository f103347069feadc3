-- How the machine of trees is stored in the workspace: records below 60 × N, the places of the
-- stack from there on, those of the remembered nodes from 61 × N on.
use Rattle.std.specs.Prelude.{◌≡◌, List, [], ◌∷◌, ◌++◌, ℕ, suc, ◌+◌, ◌-◌, ◌*◌, ◌^◌, ◌≤◌, ◌<◌, length, get_or, drop}
use Prim.Native.String.{String}
use Rattle.definition.specs.Base.{Name, bytes, ok}
use Rattle.definition.specs.Text.{Text}
use Rattle.definition.specs.Words as W
use Rattle.definition.specs.Node.{Node, size}
use Rattle.definition.specs.Machine.{machine, restack}
use Rattle.definition.specs.Perform.{Demangler}
use Rattle.definition.proofs.WordsAdded.{Looked}
use Rattle.machine.specs.Spent.{budget_of}
use Rattle.tree_records.specs.Lies.{at, Would, Lies}
use Rattle.tree_records.specs.declared.State.{State}

-- the fixed names that operators use, by number
pub record Fixed (name : ℕ → String) : Type 0 where
  pub swift : name 0 ≡ "Swift"
  pub any_object : name 3 ≡ "AnyObject"
  pub optional : name 28 ≡ "Optional"
  pub associated_type : name 133 ≡ "associated type descriptor for "
  pub past : (n : ℕ) → 134 ≤ n → name n ≡ ""

-- the sources of names: the text, the words that identifiers in it use, the fixed names by number;
-- and the words noted so far, of which the first are those that identifiers use
pub record Names : Type 0 where
  pub text : Text
  pub words : List Name
  pub noted : List Name
  pub fixed : ℕ → String
  pub known : Fixed fixed

-- The number k represents the name n: an identifier at that offset of the text, whose words, if it
-- uses any, are known; or, from 65,536 on, a fixed name. The last number of 32 bits represents no
-- name, because it says that a label is missing
pub data Named (nm : Names) (k : ℕ) (n : Name) : Type 0 where
  spelled : (words : List Name) (r : W.Identified) (u : Text) → k < 65536 → W.identifier words (drop k nm.text) ≡ ok r u → Looked (drop k nm.text) r.words nm.words → r.name ≡ n → Named nm k n
  fixed : 65536 ≤ k → k < 4294967295 → bytes (nm.fixed (k - 65536)) ≡ n → Named nm k n

-- the sum of the sizes of trees
unfoldable pub weight : List Node → ℕ
weight [] = 0
weight (x ∷ xs) = size x + weight xs

module _ (nm : Names) (w : List ℕ) (base top : ℕ) where
  -- the trees at the d places that are stored from base on, the last pushed first; each place is
  -- below top
  abbrev pub Stack : List Node → ℕ → Type 0
  Stack [] d = d ≡ 0
  Stack (x ∷ xs) d = (e : ℕ) × (d ≡ suc e) × (get_or w (base + e) 0 < top) × Lies (Named nm) x w (get_or w (base + e) 0) × Stack xs e

  -- the trees at the places that are stored from base + i to base + d, the oldest first
  abbrev pub Queue : List Node → ℕ → ℕ → Type 0
  Queue [] i d = i ≡ d
  Queue (x ∷ xs) i d = (i < d) × (get_or w (base + i) 0 < top) × Lies (Named nm) x w (get_or w (base + i) 0) × Queue xs (suc i) d

abbrev pub stack_base : ℕ → ℕ
stack_base N = 60 * N

abbrev pub seen_base : ℕ → ℕ
seen_base N = 61 * N

-- what may still be made: half records, pushes, nodes on the stack, remembered places
pub record Spare : Type 0 where
  pub makes : ℕ
  pub pushes : ℕ
  pub nodes : ℕ
  pub keeps : ℕ

-- only the numbers: the workspace is long enough, and its contents are within what was charged,
-- with that much to spare
pub record Inside (w : List ℕ) (N : ℕ) (st : State) (makes pushes keeps : ℕ) : Type 0 where
  pub small : N ≤ 65536
  pub long : 64 * N ≤ length w
  pub charged : st.budget.total ≤ N
  pub room : 2 * st.top + 3 * st.depth + makes ≤ 15 * st.budget.total
  pub deep : st.depth + pushes ≤ st.budget.total
  pub kept : st.seen + keeps ≤ st.budget.total

-- w holds the machine m, with that much to spare
pub record Holds (nm : Names) (w : List ℕ) (N : ℕ) (st : State) (sp : Spare) (m : Demangler) : Type 0 where
  pub small : N ≤ 65536
  pub long : 64 * N ≤ length w
  pub charged : st.budget.total ≤ N
  pub budget : budget_of st.budget ≡ m.budget
  pub room : 2 * st.top + 3 * st.depth + sp.makes ≤ 15 * st.budget.total
  pub deep : st.depth + sp.pushes ≤ st.budget.total
  pub light : weight m.stack + sp.nodes ≤ 4 * st.budget.total
  pub kept : st.seen + sp.keeps ≤ st.budget.total
  pub stack : Stack nm w (stack_base N) st.top m.stack st.depth
  pub substitutions : Queue nm w (seen_base N) st.top m.substitutions 0 st.seen
  pub words : nm.noted ≡ m.words

-- w holds some machine
pub record Ready (w : List ℕ) (N : ℕ) (st : State) (sp : Spare) : Type 0 where
  pub names : Names
  pub machine : Demangler
  pub holds : Holds names w N st sp machine

-- what may be spent on a record, on a push of a tree of size z, on a place that is remembered
abbrev pub for_record : Spare → Spare
for_record sp = record { makes = sp.makes + 2; pushes = sp.pushes; nodes = sp.nodes; keeps = sp.keeps }

abbrev pub for_push : ℕ → Spare → Spare
for_push z sp = record { makes = sp.makes + 3; pushes = sp.pushes + 1; nodes = sp.nodes + z; keeps = sp.keeps }

abbrev pub for_keeping : Spare → Spare
for_keeping sp = record { makes = sp.makes; pushes = sp.pushes; nodes = sp.nodes; keeps = sp.keeps + 1 }

-- the tree at place p was the top of the machine m; w holds the rest with u
pub record TopIs (nm : Names) (w : List ℕ) (N : ℕ) (top p : ℕ) (u : State) (sp : Spare) (m : Demangler) : Type 0 where
  pub tree : Node
  pub rest : List Node
  pub is : m.stack ≡ tree ∷ rest
  pub below : p < top
  pub lies : Lies (Named nm) tree w p
  pub holds : Holds nm w N u (for_push (size tree) sp) (restack rest m)

-- what a pop gives, for any machine that w held
pub record Took (w : List ℕ) (N : ℕ) (st : State) (p : ℕ) (u : State) : Type 0 where
  pub deep : st.depth ≡ suc u.depth
  pub top : u.top ≡ st.top
  pub seen : u.seen ≡ st.seen
  pub budget : u.budget ≡ st.budget
  pub below : p < 2 ^ 32
  pub gives : (nm : Names) (sp : Spare) (m : Demangler) → Holds nm w N st sp m → TopIs nm w N st.top p u sp m

-- the records below the place top are unchanged, and so are the trees in them and everything past
-- 64 × N
pub record Keeps (w w' : List ℕ) (N top : ℕ) : Type 0 where
  pub trees : (nm : Names) (x : Node) (p : ℕ) → p < top → Lies (Named nm) x w p → Lies (Named nm) x w' p
  pub fields : (p k : ℕ) → p < top → k < 8 → at w' p k ≡ at w p k
  pub past : (i : ℕ) → 64 * N ≤ i → get_or w' i 0 ≡ get_or w i 0
  pub long : length w' ≡ length w

-- one more record, of these numbers
pub record Grew (w w' : List ℕ) (N : ℕ) (st u : State) (vs : List ℕ) : Type 0 where
  pub state : u ≡ record { budget = st.budget; top = st.top + 1; depth = st.depth; seen = st.seen }
  pub holds : (nm : Names) (sp : Spare) (m : Demangler) → Holds nm w N st (for_record sp) m → Holds nm w' N u sp m
  pub made : (nm : Names) (x : Node) → Would (Named nm) x (λ i. get_or vs i 0) w st.top → Lies (Named nm) x w' st.top
  pub fields : (k : ℕ) → k < 8 → at w' st.top k ≡ get_or vs k 0
  pub keeps : Keeps w w' N st.top

-- the place p was pushed
pub record Pushed (w w' : List ℕ) (N : ℕ) (st u : State) (p : ℕ) : Type 0 where
  pub state : u ≡ record { budget = st.budget; top = st.top; depth = st.depth + 1; seen = st.seen }
  pub holds : (nm : Names) (sp : Spare) (m : Demangler) (x : Node) → Holds nm w N st (for_push (size x) sp) m → p < st.top → Lies (Named nm) x w p → Holds nm w' N u sp (restack (x ∷ m.stack) m)
  pub keeps : Keeps w w' N st.top

-- the place p was remembered
pub record Remembered (w w' : List ℕ) (N : ℕ) (st u : State) (p : ℕ) : Type 0 where
  pub state : u ≡ record { budget = st.budget; top = st.top; depth = st.depth; seen = st.seen + 1 }
  pub holds : (nm : Names) (sp : Spare) (m : Demangler) (x : Node) → Holds nm w N st (for_keeping sp) m → p < st.top → Lies (Named nm) x w p → Holds nm w' N u sp (machine m.budget m.stack (m.substitutions ++ (x ∷ [])) m.words)
  pub keeps : Keeps w w' N st.top
