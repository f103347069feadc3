-- How a tree is stored in the workspace of 32-bit numbers: one record of 8 numbers for each node,
-- at place p in w[8p .. 8p + 8]. The first three numbers of every record are kind, size and count.
-- Children, and the cells of lists, are at smaller places.
use Rattle.std.specs.Prelude.{◌≡◌, Bool, true, false, List, [], ◌∷◌, ℕ, suc, ◌+◌, ◌*◌, ◌^◌, ◌<◌, T, length, get_or}
use Rattle.std.proofs.Math.Option.{Option, some, none}
use Rattle.definition.specs.Base.{Name}
use Rattle.definition.specs.Kind as K
use Rattle.definition.specs.Operators.{suspend_resume_text}
use Rattle.definition.specs.Node.{Labels, Node, Nodes, nil, cons, Identifier, Module, Nominal, GenericParam, DependentMember, Tuple, FunctionType, GenericType, GenericSignature, ConformanceRequirement, SameTypeRequirement, ProtocolList, Metatype, InOut, BoundGeneric, Function, Variable, Accessor, Initializer, Deinitializer, VariableInitializer, Static, Record, Conformance, ProtocolWitness, ValueWitness, EmptyList, FirstElementMarker, VariadicMarker, Throws, Async, LazyWitness, AssociatedConformance, kind, size, count, many}

-- field k of the record at place p
abbrev pub at : List ℕ → ℕ → ℕ → ℕ
at w p k = get_or w (8 * p + k) 0

-- what a record says if its fields are f, it is in w, and its place is p
abbrev pub Says : Type 1
Says = (f : ℕ → ℕ) (w : List ℕ) (p : ℕ) → Type 0

-- a record f is of this kind, size and count, and says B
pub record Lay (f : ℕ → ℕ) (kind size count : ℕ) (B : Type 0) : Type 0 where
  pub kind_is : f 0 ≡ kind
  pub size_is : f 1 ≡ size
  pub count_is : f 2 ≡ count
  pub body : B

-- field k of a record f at place p is a smaller place, for which R holds
pub record Child (f : ℕ → ℕ) (p k : ℕ) (R : ℕ → Type 0) : Type 0 where
  pub place : ℕ
  pub is : f k ≡ place
  pub below : place < p
  pub holds : R place

-- the child x in field k: B is what its record says
abbrev pub Kid : Node → Says → ℕ → Says
Kid x B k f w p = Child f p k (λ q. Lay (at w q) (kind x) (size x) (count x) (B (at w q) w q))

-- a number of 64 bits in fields k and k + 1, the lower half first
abbrev pub Wide : ℕ → ℕ → (ℕ → ℕ) → Type 0
Wide k n f = n ≡ f k + 2 ^ 32 * f (k + 1)

abbrev pub flag : Bool → ℕ
flag false = 0
flag true = 1

-- no label, and no qualifier
abbrev pub absent : ℕ
absent = 4294967295

-- Named k n: the number k represents the name n (an offset in the text, or 65,536 and more for a
-- fixed name)
module _ (Named : ℕ → Name → Type 0) where
  abbrev pub LabelIs : Option Name → ℕ → Type 0
  LabelIs none k = k ≡ absent
  LabelIs (some n) k = Named k n

  -- the labels of a function: cells from the place in field k on, as many as field k + 1 says minus
  -- 1; 0 there says that it has none
  abbrev pub LabelCells : List (Option Name) → ℕ → Says
  LabelCells [] k f w p = Unit
  LabelCells (l ∷ ls) k f w p = Child f p k (λ q. LabelIs l (at w q 3) × LabelCells ls 5 (at w q) w q)

  abbrev pub LabelList : Labels → ℕ → Says
  LabelList none k f w p = f (k + 1) ≡ 0
  LabelList (some ls) k f w p = (f (k + 1) ≡ suc (length ls)) × LabelCells ls k f w p

  -- the words of a record: a fixed text, or a text that contains a number
  pub data WordsOf (what : Name) (f : ℕ → ℕ) : Type 0 where
    fixed : f 3 ≡ 0 → Named (f 5) what → WordsOf what f
    numbered : (i : ℕ) → f 3 ≡ 3 → what ≡ suspend_resume_text i → Wide 5 i f → WordsOf what f

  -- Field 3 of a record says its form: 0 fixed words, 1 a lazy witness, 2 and 4 an associated
  -- conformance with no qualifier and with one, 3 words with a number
  abbrev mutual
    pub Body : Node → Says
    Body (Identifier n) f w p = Named (f 3) n
    Body (Module n) f w p = Named (f 3) n
    Body (Nominal k c n) f w p = Named (f 3) n × Kid c (λ f₁ w₁ p₁. Body c f₁ w₁ p₁) 4 f w p × T (K.is_context (kind c))
    Body (GenericParam d i) f w p = Wide 3 d f × Wide 5 i f
    Body (DependentMember b n) f w p = Named (f 3) n × Kid b (λ f₁ w₁ p₁. Body b f₁ w₁ p₁) 4 f w p
    Body (Tuple es) f w p = Cells es 3 f w p
    Body (FunctionType a r t y) f w p = Kid a (λ f₁ w₁ p₁. Body a f₁ w₁ p₁) 3 f w p × Kid r (λ f₁ w₁ p₁. Body r f₁ w₁ p₁) 4 f w p × (f 5 ≡ flag t) × (f 6 ≡ flag y)
    Body (GenericType s i) f w p = Kid s (λ f₁ w₁ p₁. Body s f₁ w₁ p₁) 3 f w p × Kid i (λ f₁ w₁ p₁. Body i f₁ w₁ p₁) 4 f w p
    Body (GenericSignature n rs) f w p = Wide 3 n f × (f 5 ≡ many rs) × Cells rs 6 f w p
    Body (ConformanceRequirement a q) f w p = Kid a (λ f₁ w₁ p₁. Body a f₁ w₁ p₁) 3 f w p × Kid q (λ f₁ w₁ p₁. Body q f₁ w₁ p₁) 4 f w p
    Body (SameTypeRequirement a o) f w p = Kid a (λ f₁ w₁ p₁. Body a f₁ w₁ p₁) 3 f w p × Kid o (λ f₁ w₁ p₁. Body o f₁ w₁ p₁) 4 f w p
    Body (ProtocolList ps) f w p = Cells ps 3 f w p
    Body (Metatype n) f w p = Kid n (λ f₁ w₁ p₁. Body n f₁ w₁ p₁) 3 f w p
    Body (InOut n) f w p = Kid n (λ f₁ w₁ p₁. Body n f₁ w₁ p₁) 3 f w p
    Body (BoundGeneric b args) f w p = Kid b (λ f₁ w₁ p₁. Body b f₁ w₁ p₁) 3 f w p × (f 4 ≡ many args) × Cells args 5 f w p
    Body (Function c n ls t) f w p = Named (f 3) n × Kid c (λ f₁ w₁ p₁. Body c f₁ w₁ p₁) 4 f w p × Kid t (λ f₁ w₁ p₁. Body t f₁ w₁ p₁) 5 f w p × LabelList ls 6 f w p
    Body (Variable c n t) f w p = Named (f 3) n × Kid c (λ f₁ w₁ p₁. Body c f₁ w₁ p₁) 4 f w p × Kid t (λ f₁ w₁ p₁. Body t f₁ w₁ p₁) 5 f w p
    Body (Accessor k v) f w p = Named (f 3) k × Kid v (λ f₁ w₁ p₁. Body v f₁ w₁ p₁) 4 f w p
    Body (Initializer a c ls t) f w p = (f 3 ≡ flag a) × Kid c (λ f₁ w₁ p₁. Body c f₁ w₁ p₁) 4 f w p × Kid t (λ f₁ w₁ p₁. Body t f₁ w₁ p₁) 5 f w p × LabelList ls 6 f w p
    Body (Deinitializer d c) f w p = (f 3 ≡ flag d) × Kid c (λ f₁ w₁ p₁. Body c f₁ w₁ p₁) 4 f w p
    Body (VariableInitializer v) f w p = Kid v (λ f₁ w₁ p₁. Body v f₁ w₁ p₁) 3 f w p
    Body (Static e) f w p = Kid e (λ f₁ w₁ p₁. Body e f₁ w₁ p₁) 3 f w p
    Body (Record what n) f w p = WordsOf what f × Kid n (λ f₁ w₁ p₁. Body n f₁ w₁ p₁) 4 f w p
    Body (Conformance t q m) f w p = Kid t (λ f₁ w₁ p₁. Body t f₁ w₁ p₁) 3 f w p × Kid q (λ f₁ w₁ p₁. Body q f₁ w₁ p₁) 4 f w p × Kid m (λ f₁ w₁ p₁. Body m f₁ w₁ p₁) 5 f w p
    Body (ProtocolWitness e c) f w p = Kid e (λ f₁ w₁ p₁. Body e f₁ w₁ p₁) 3 f w p × Kid c (λ f₁ w₁ p₁. Body c f₁ w₁ p₁) 4 f w p
    Body (ValueWitness k t) f w p = Named (f 3) k × Kid t (λ f₁ w₁ p₁. Body t f₁ w₁ p₁) 4 f w p
    Body EmptyList f w p = Unit
    Body FirstElementMarker f w p = Unit
    Body VariadicMarker f w p = Unit
    Body Throws f w p = Unit
    Body Async f w p = Unit
    Body (LazyWitness what t c) f w p = (f 3 ≡ 1) × Named (f 4) what × Kid t (λ f₁ w₁ p₁. Body t f₁ w₁ p₁) 5 f w p × Kid c (λ f₁ w₁ p₁. Body c f₁ w₁ p₁) 6 f w p
    Body (AssociatedConformance a q n r) f w p = (f 3 ≡ 2 + 2 * many q) × Named (f 4) n × Kid a (λ f₁ w₁ p₁. Body a f₁ w₁ p₁) 5 f w p × Cells q 6 f w p × Kid r (λ f₁ w₁ p₁. Body r f₁ w₁ p₁) 7 f w p

    -- the cells of a list, each a record: label, child, next
    pub Cells : Nodes → ℕ → Says
    Cells nil k f w p = Unit
    Cells (cons l n ns) k f w p = Child f p k (λ q. LabelIs l (at w q 3) × Kid n (λ f₁ w₁ p₁. Body n f₁ w₁ p₁) 4 (at w q) w q × Cells ns 5 (at w q) w q)

  -- the record f, if it is stored at place p of w, is the tree x
  abbrev pub Would : Node → Says
  Would x f w p = Lay f (kind x) (size x) (count x) (Body x f w p)

  -- the tree x is stored at place p of w
  abbrev pub Lies : Node → List ℕ → ℕ → Type 0
  Lies x w p = Would x (at w p) w p
