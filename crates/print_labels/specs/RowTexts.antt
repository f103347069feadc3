-- The text of a record as a row of pieces, and what the functions of this crate say. Assumes
-- nothing.
use Rattle.std.specs.Prelude.{◌≡◌, Bool, true, false, ◌&&◌, List, [], ◌∷◌, ◌++◌, ℕ, ◌+◌, ◌-◌, ◌*◌, ◌/◌, ◌%◌, ◌≤◌, ◌<◌, eqb, ltb, length, get_or, if◌then◌else◌}
use Rattle.std.proofs.Math.Option.{Option, some, none}
use Rattle.definition.specs.Base.{Name, bytes, given}
use Rattle.definition.specs.Kind as K
use Rattle.definition.specs.Node as D
use Rattle.definition.specs.Node.{Node, Nodes, many}
use Rattle.definition.specs.Operators.{suspend_resume_text}
use Rattle.definition.specs.Print.{Printed, Element, labelled, effects, join, generic_param_name, param_names, printing, printed_elements, print}
use Rattle.tree_records.specs.Lies.{at, Child, LabelIs, LabelCells, Cells, Lies, absent}
use Rattle.tree_records.specs.Holds.{Names, Named}
use Rattle.print_names.specs.Texts.{text_of, sep_before}
pub use Rattle.print_names.specs.Texts.{wide_at}
use Rattle.print_names.proofs.Lists.{left}
use Rattle.print_labels.specs.declared.Labels.{Labels}

-- LABELS
-- the record that holds the first of the labels is inside the workspace
pub record Reach (ws : List ℕ) (l : Labels) : Type 0 where
  pub field : l.field < 8
  pub long : 8 * l.host + 8 ≤ length ws

-- there are no labels
abbrev pub none_at : ℕ → Labels
none_at p = record { host = p; field = 6; left = 0 }

abbrev pub listed : D.Labels → List (Option Name)
listed none = []
listed (some ls) = ls

-- these labels are stored there
pub record LabelsIn (nm : Names) (ws : List ℕ) (ls : List (Option Name)) (l : Labels) : Type 0 where
  pub count : l.left ≡ length ls
  pub cells : LabelCells (Named nm) ls l.field (at ws l.host) ws l.host

-- some labels are stored there
pub record SomeLabels (ws : List ℕ) (l : Labels) : Type 0 where
  pub reach : Reach ws l
  pub names : Names
  pub labels : List (Option Name)
  pub are : LabelsIn names ws labels l

abbrev pub behind_first : List (Option Name) → List (Option Name)
behind_first [] = []
behind_first (l ∷ ls) = ls

-- l without its first label is r
pub record NextLabels (ws : List ℕ) (l r : Labels) : Type 0 where
  pub reach : Reach ws r
  pub each : (nm : Names) (ls : List (Option Name)) → LabelsIn nm ws ls l → LabelsIn nm ws (behind_first ls) r

-- the labels of the record at p
abbrev pub labels_at : List ℕ → ℕ → Labels
labels_at ws p = record { host = p; field = 6; left = at ws p 7 - 1 }

-- the label that is shown: the first of the labels, `_` where that is the marker, otherwise the
-- element's own
abbrev pub label_now : List (Option Name) → Option Name → Option Name
label_now [] own = own
label_now (l ∷ ls) own = some (given l (bytes "_") (λ n. n))

-- a label as it is printed before a type
unfoldable pub prefix : Option Name → Name
prefix none = []
prefix (some l) = l ++ bytes ": "

-- the number of a name, and the name with `: `
pub record NamedLabel (nm : Names) (k : ℕ) (s : Name) : Type 0 where
  pub name : Name
  pub named : Named nm k name
  pub is : s ≡ prefix (some name)

-- the element's own label has the number own
pub record Labelling (nm : Names) (ws : List ℕ) (own : ℕ) (l : Labels) (s : Name) : Type 0 where
  pub label : Option Name
  pub own_is : LabelIs (Named nm) label own
  pub labels : List (Option Name)
  pub are : LabelsIn nm ws labels l
  pub is : s ≡ prefix (label_now labels label)

-- the number of a cell's own label, if labels are shown
abbrev pub own_label : List ℕ → ℕ → Bool → ℕ
own_label ws p true = at ws p 3
own_label ws p false = absent

abbrev pub own : Bool → Option Name → Option Name
own true l = l
own false l = none

-- TREES
-- the text of a tree that is stored at p
pub record Prints (nm : Names) (ws : List ℕ) (p : ℕ) (s : Name) : Type 0 where
  pub tree : Node
  pub lies : Lies (Named nm) tree ws p
  pub is : s ≡ print tree

-- its text printed in another way, with labels
abbrev pub Way : Type 0
Way = Printed → D.Labels → Name

abbrev pub params_way : Way
params_way t ls = t.params ls

abbrev pub behind_way : Way
behind_way t ls = t.behind ls

abbrev pub signed_way : Way
signed_way t ls = t.signed ls

pub record Printing (way : Way) (nm : Names) (ws : List ℕ) (p : ℕ) (l : Labels) (s : Name) : Type 0 where
  pub tree : Node
  pub lies : Lies (Named nm) tree ws p
  pub labels : D.Labels
  pub are : LabelsIn nm ws (listed labels) l
  pub is : s ≡ way (printing tree) labels

-- LISTS
-- the texts of the elements with their labels
unfoldable pub with_labels : Bool → List (Option Name) → List Element → List Name
with_labels shown ls [] = []
with_labels shown ls (e ∷ es) = labelled (label_now ls (own shown e.0)) e.1 ∷ with_labels shown (behind_first ls) es

-- the text of the cells from field k of the record at host on, where i of n elements are already
-- put; sep is the number of the text between them
pub record Listed (nm : Names) (ws : List ℕ) (host k n i sep : ℕ) (shown : Bool) (l : Labels) (s : Name) : Type 0 where
  pub nodes : Nodes
  pub cells : Cells (Named nm) nodes k (at ws host) ws host
  pub count : n ≡ i + many nodes
  pub labels : List (Option Name)
  pub are : LabelsIn nm ws labels l
  pub is : s ≡ left sep i (with_labels shown labels (printed_elements nodes))

-- the text of one cell, with what is printed before it
pub record Celled (nm : Names) (ws : List ℕ) (cell i sep : ℕ) (shown : Bool) (l : Labels) (s : Name) : Type 0 where
  pub label : Option Name
  pub label_is : LabelIs (Named nm) label (at ws cell 3)
  pub node : Node
  pub kid : Child (at ws cell) cell 4 (λ q. Lies (Named nm) node ws q)
  pub labels : List (Option Name)
  pub are : LabelsIn nm ws labels l
  pub is : s ≡ sep_before i sep ++ labelled (label_now labels (own shown label)) (print node)

-- PIECES
-- codes 24 to 31: what depends only on the numbers of the record
abbrev pub init_name : List ℕ → ℕ → Name
init_name ws p = if eqb (at ws p 3) 1 && eqb (at ws (at ws p 4) 0) K.class then text_of 29 else text_of 30

unfoldable pub leaf_text : List ℕ → ℕ → ℕ → Name
leaf_text ws p code =
    if eqb code 24 then effects (eqb (at ws p 5) 1) (eqb (at ws p 6) 1) else
    if eqb code 25 then join ", " (param_names (wide_at ws p 3) 0) else
    if eqb code 26 then generic_param_name (wide_at ws p 3) (wide_at ws p 5) else
    if eqb code 27 then init_name ws p else suspend_resume_text (wide_at ws p 5)

-- codes 32 to 39: lists. 32 the elements of a tuple, 33 the members of a composition, 34 the
-- requirements of a signature, 35 a qualifier, 36 arguments, 37 a key and its value
unfoldable pub list_field : ℕ → ℕ
list_field code = get_or (3 ∷ 3 ∷ 6 ∷ 6 ∷ 5 ∷ 5 ∷ []) (code - 32) 0

unfoldable pub list_sep : ℕ → ℕ
list_sep code = get_or (4 ∷ 5 ∷ 4 ∷ 4 ∷ 4 ∷ 2 ∷ []) (code - 32) 0

unfoldable pub list_shown : ℕ → Bool
list_shown code = eqb code 32

unfoldable pub list_count : List ℕ → ℕ → ℕ → ℕ
list_count ws p code = if ltb code 34 then at ws p 2 else if eqb code 34 then at ws p 5 else if eqb code 35 then 1 else at ws p 4

-- The text of a piece: codes 8 to 15 the name in field code - 8; 16 to 23 the child in field code -
-- 16; 24 to 31 from the numbers only; 32 to 39 lists; 40 the type in field 5 after the name of a
-- function; 41 the parameters in field 3; from 64 on the fixed text with number code - 64
pub record Plain (nm : Names) (ws : List ℕ) (p code : ℕ) (s : Name) : Type 0 where
  pub text : 64 ≤ code → (code < 101) × (s ≡ text_of (code - 64))
  pub name : code < 16 → (8 ≤ code) × Named nm (at ws p (code - 8)) s
  pub child : 16 ≤ code → code < 24 → (at ws p (code - 16) < p) × Prints nm ws (at ws p (code - 16)) s
  pub leaf : 24 ≤ code → code < 32 → (code ≡ 27 → at ws p 4 < p) × (s ≡ leaf_text ws p code)
  pub list : 32 ≤ code → code < 40 → (code < 38) × Listed nm ws p (list_field code) (list_count ws p code) 0 (list_sep code) (list_shown code) (none_at p) s
  pub signed : code ≡ 40 → (at ws p 5 < p) × Printing signed_way nm ws (at ws p 5) (labels_at ws p) s
  pub params : 41 ≤ code → code < 64 → (at ws p 3 < p) × Printing params_way nm ws (at ws p 3) (none_at p) s

-- from 128 on, the piece of the code minus 128 in the record in field 4
pub record Piece (nm : Names) (ws : List ℕ) (p code : ℕ) (s : Name) : Type 0 where
  pub own : code < 128 → Plain nm ws p code s
  pub via : 128 ≤ code → (at ws p 4 < p) × Plain nm ws (at ws p 4) (code - 128) s

-- the text of a row: the codes of its pieces are its digits in base 256, the first the least
-- significant
pub data Pieces (nm : Names) (ws : List ℕ) (p : ℕ) : ℕ → Name → Type 0 where
  nothing : Pieces nm ws p 0 []
  one : {row : ℕ} {s : Name} → 0 < row → row < 256 → Piece nm ws p row s → Pieces nm ws p row s
  more : {row : ℕ} {s t : Name} → 256 ≤ row → Piece nm ws p (row % 256) s → Pieces nm ws p (row / 256) t → Pieces nm ws p row (s ++ t)

abbrev pub pack : List ℕ → ℕ
pack [] = 0
pack (c ∷ cs) = c + 256 * pack cs

-- the rows by form: the numbers of the kinds, and from 35 on the additional forms of some kinds
unfoldable pub rows : List ℕ
rows =
    -- Identifier
    pack (11 ∷ []) ∷
    -- Module
    pack (11 ∷ []) ∷
    -- Nominal, of five kinds
    pack (20 ∷ 64 ∷ 11 ∷ []) ∷
    pack (20 ∷ 64 ∷ 11 ∷ []) ∷
    pack (20 ∷ 64 ∷ 11 ∷ []) ∷
    pack (20 ∷ 64 ∷ 11 ∷ []) ∷
    pack (20 ∷ 64 ∷ 11 ∷ []) ∷
    -- GenericParam
    pack (26 ∷ []) ∷
    -- DependentMember
    pack (20 ∷ 64 ∷ 11 ∷ []) ∷
    -- Tuple
    pack (70 ∷ 32 ∷ 71 ∷ []) ∷
    -- FunctionType
    pack (41 ∷ 24 ∷ 90 ∷ 20 ∷ []) ∷
    -- GenericType
    pack (19 ∷ 20 ∷ []) ∷
    -- GenericSignature with no requirements
    pack (72 ∷ 25 ∷ 73 ∷ []) ∷
    -- ConformanceRequirement
    pack (19 ∷ 65 ∷ 20 ∷ []) ∷
    -- SameTypeRequirement
    pack (19 ∷ 67 ∷ 20 ∷ []) ∷
    -- ProtocolList with no members
    pack (89 ∷ []) ∷
    -- Metatype
    pack (19 ∷ 78 ∷ []) ∷
    -- InOut
    pack (79 ∷ 19 ∷ []) ∷
    -- BoundGeneric without sugar
    pack (19 ∷ 72 ∷ 36 ∷ 73 ∷ []) ∷
    -- Function
    pack (20 ∷ 64 ∷ 11 ∷ 40 ∷ []) ∷
    -- Variable
    pack (20 ∷ 64 ∷ 11 ∷ 66 ∷ 21 ∷ []) ∷
    -- Accessor of no variable
    pack (20 ∷ 64 ∷ 11 ∷ []) ∷
    -- Initializer
    pack (20 ∷ 64 ∷ 27 ∷ 40 ∷ []) ∷
    -- Deinitializer
    pack (20 ∷ 64 ∷ 96 ∷ []) ∷
    -- VariableInitializer
    pack (80 ∷ 19 ∷ []) ∷
    -- Static
    pack (81 ∷ 19 ∷ []) ∷
    -- Record with fixed words
    pack (13 ∷ 20 ∷ []) ∷
    -- Conformance
    pack (19 ∷ 66 ∷ 20 ∷ 82 ∷ 21 ∷ []) ∷
    -- ProtocolWitness
    pack (83 ∷ 19 ∷ 84 ∷ 20 ∷ []) ∷
    -- ValueWitness
    pack (11 ∷ 85 ∷ 20 ∷ []) ∷
    -- EmptyList
    pack (88 ∷ []) ∷
    -- the four markers
    pack ([]) ∷
    pack ([]) ∷
    pack ([]) ∷
    pack ([]) ∷
    -- Deinitializer that deallocates
    pack (20 ∷ 64 ∷ 95 ∷ []) ∷
    -- LazyWitness
    pack (12 ∷ 21 ∷ 86 ∷ 22 ∷ []) ∷
    -- AssociatedConformance with no qualifier
    pack (87 ∷ 21 ∷ 64 ∷ 12 ∷ 65 ∷ 23 ∷ []) ∷
    -- Record with a number in its words
    pack (28 ∷ 20 ∷ []) ∷
    -- AssociatedConformance with a qualifier
    pack (87 ∷ 21 ∷ 64 ∷ 35 ∷ 64 ∷ 12 ∷ 65 ∷ 23 ∷ []) ∷
    -- GenericSignature with requirements
    pack (72 ∷ 25 ∷ 77 ∷ 34 ∷ 73 ∷ []) ∷
    -- ProtocolList with members
    pack (33 ∷ []) ∷
    -- Optional
    pack (36 ∷ 76 ∷ []) ∷
    -- Array
    pack (74 ∷ 36 ∷ 75 ∷ []) ∷
    -- Dictionary
    pack (74 ∷ 37 ∷ 75 ∷ []) ∷
    -- Accessor of a variable
    pack (148 ∷ 64 ∷ 139 ∷ 64 ∷ 11 ∷ 66 ∷ 149 ∷ []) ∷ []

abbrev pub zero_or : ℕ → ℕ → ℕ → ℕ
zero_or n a b = if eqb n 0 then a else b

-- the form of a Record: given by its field 3
abbrev pub record_form : ℕ → ℕ
record_form n = if eqb n 0 then 26 else if ltb n 4 then 35 + n else 39

-- the form of a record of a kind with fields f: below is the kind of the record in field 4, sugar
-- the result of `sugar`
unfoldable pub form_of : (kind : ℕ) (f : ℕ → ℕ) (below sugar : ℕ) → ℕ
form_of kind f below sugar =
    if eqb kind K.generic_signature then zero_or (f 5) 12 40 else
    if eqb kind K.protocol_list then zero_or (f 2) 15 41 else
    if eqb kind K.bound_generic then zero_or sugar 18 (41 + sugar) else
    if eqb kind K.accessor then (if eqb below K.variable then 45 else 21) else
    if eqb kind K.deinitializer then zero_or (f 3) 23 35 else
    if eqb kind K.record_kind then record_form (f 3) else kind
