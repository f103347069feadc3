-- A tree in the workspace is unchanged if the records at its place and below are unchanged.
use mathlib.Core.Path.{◌≡◌, ◌∙◌}
use mathlib.Core.List.{List, [], ◌∷◌}
use mathlib.Core.Option.{Option, some, none}
use Prim.Native.Nat.{ℕ, ◌+◌, ◌*◌, ◌≤◌, ◌<◌}
use native.Mathlib.Omega.{arith}
use lib.ListN.{get_or}
use Rattle.definition.specs.Base.{Name}
use Rattle.definition.specs.Node.{Labels, Node, Nodes, nil, cons, Identifier, Module, Nominal, GenericParam, DependentMember, Tuple, FunctionType, GenericType, GenericSignature, ConformanceRequirement, SameTypeRequirement, ProtocolList, Metatype, InOut, BoundGeneric, Function, Variable, Accessor, Initializer, Deinitializer, VariableInitializer, Static, Record, Conformance, ProtocolWitness, ValueWitness, EmptyList, FirstElementMarker, VariadicMarker, Throws, Async, LazyWitness, AssociatedConformance}
use Rattle.tree_records.specs.Lies.{at, Says, Lay, Child, Kid, Wide, LabelIs, LabelCells, LabelList, WordsOf, fixed, numbered, Body, Cells, Would, Lies}

-- the lists agree below b
pub record Same (w w' : List ℕ) (b : ℕ) : Type 0 where
  pub on : (i : ℕ) → i < b → get_or w' i 0 ≡ get_or w i 0

pub same_below : {w w' : List ℕ} {b : ℕ} (b' : ℕ) → b' ≤ b → Same w w' b → Same w w' b'
same_below b' h s = record { on = λ i l. s.on i (omega arith) }

-- the two records agree
pub record Agree (f g : ℕ → ℕ) : Type 0 where
  pub on : (k : ℕ) → k < 8 → g k ≡ f k

pub agree_at : {w w' : List ℕ} {b : ℕ} (q : ℕ) → q < b → Same w w' (8 * b) → Agree (at w q) (at w' q)
agree_at q h s = record { on = λ k l. s.on (8 * q + k) (omega arith) }

-- a record says the same again if its fields, and the numbers below it, are unchanged
pub record Moves (B C : Says) : Type 1 where
  pub says : {f g : ℕ → ℕ} {w w' : List ℕ} (p : ℕ) → Agree f g → Same w w' (8 * p) → B f w p → C g w' p

module _ {f g : ℕ → ℕ} {w w' : List ℕ} (p : ℕ) (e : Agree f g) (s : Same w w' (8 * p)) where
  child : (k : ℕ) → k < 8 → {R S : ℕ → Type 0} → ((q : ℕ) → q < p → Agree (at w q) (at w' q) → Same w w' (8 * q) → R q → S q) → Child f p k R → Child g p k S
  child k l h c = record {
    place = c.place;
    is = e.on k l ∙ c.is;
    below = c.below;
    holds = h c.place c.below (agree_at c.place c.below s) (same_below (8 * c.place) (omega (arith, c.below)) s) c.holds;
  }

  lay : {k z n : ℕ} {B C : Type 0} → (B → C) → Lay f k z n B → Lay g k z n C
  lay h l = record { kind_is = e.on 0 (omega arith) ∙ l.kind_is; size_is = e.on 1 (omega arith) ∙ l.size_is; count_is = e.on 2 (omega arith) ∙ l.count_is; body = h l.body }

  wide : (k n : ℕ) → k < 7 → Wide k n f → Wide k n g
  wide k n l h = rw (e.on k (omega arith), e.on (k + 1) (omega arith)) h

  number : (k v : ℕ) → k < 8 → f k ≡ v → g k ≡ v
  number k v l h = e.on k l ∙ h

kid : (x : Node) {B C : Says} {f g : ℕ → ℕ} {w w' : List ℕ} (p : ℕ) → Agree f g → Same w w' (8 * p) → (k : ℕ) → k < 8 → Moves B C → Kid x B k f w p → Kid x C k g w' p
kid x p e s k l b c = child p e s k l (λ q m a t r. lay q a t (λ z. b.says q a t z) r) c

-- with more names known than before
module _ (Named Named' : ℕ → Name → Type 0) (more : (k : ℕ) (n : Name) → Named k n → Named' k n) where
  named : {f g : ℕ → ℕ} → Agree f g → (k : ℕ) (n : Name) → k < 8 → Named (f k) n → Named' (g k) n
  named {f} e k n l h = rw (e.on k l) (more (f k) n h)

  label : {f g : ℕ → ℕ} → Agree f g → (k : ℕ) (l : Option Name) → k < 8 → LabelIs Named l (f k) → LabelIs Named' l (g k)
  label e k none m h = e.on k m ∙ h
  label e k (some n) m h = named e k n m h

  label_cells : (ls : List (Option Name)) {f g : ℕ → ℕ} {w w' : List ℕ} (p : ℕ) → Agree f g → Same w w' (8 * p) → (k : ℕ) → k < 8 → LabelCells Named ls k f w p → LabelCells Named' ls k g w' p
  label_cells [] p e s k l h = tt
  label_cells (x ∷ ls) p e s k l h = child p e s k l (λ q m a t r. (label a 3 x (omega arith) r.0, label_cells ls q a t 5 (omega arith) r.1)) h

  label_list : (ls : Labels) {f g : ℕ → ℕ} {w w' : List ℕ} (p : ℕ) → Agree f g → Same w w' (8 * p) → (k : ℕ) → k < 7 → LabelList Named ls k f w p → LabelList Named' ls k g w' p
  label_list none p e s k l h = number p e s (k + 1) _ (omega arith) h
  label_list (some ls) p e s k l h = (number p e s (k + 1) _ (omega arith) h.0, label_cells ls p e s k (omega arith) h.1)

  words_of : {what : Name} {f g : ℕ → ℕ} → Agree f g → WordsOf Named what f → WordsOf Named' what g
  words_of e (fixed a b) = fixed (e.on 3 (omega arith) ∙ a) (named e 5 _ (omega arith) b)
  words_of e (numbered i a b c) = numbered i (e.on 3 (omega arith) ∙ a) b (rw (e.on 5 (omega arith), e.on 6 (omega arith)) c)

  mutual
    pub body_moves : (x : Node) → Moves (Body Named x) (Body Named' x)
    body_moves (Identifier n) = record { says = λ p e s b. named e 3 n (omega arith) b }
    body_moves (Module n) = record { says = λ p e s b. named e 3 n (omega arith) b }
    body_moves (Nominal k c n) = record { says = λ p e s b. (named e 3 n (omega arith) b.0, kid c p e s 4 (omega arith) (body_moves c) b.1, b.2) }
    body_moves (GenericParam d i) = record { says = λ p e s b. (wide p e s 3 d (omega arith) b.0, wide p e s 5 i (omega arith) b.1) }
    body_moves (DependentMember c n) = record { says = λ p e s b. (named e 3 n (omega arith) b.0, kid c p e s 4 (omega arith) (body_moves c) b.1) }
    body_moves (Tuple es) = cells_move es 3 (omega arith)
    body_moves (FunctionType a r t y) = record { says = λ p e s b. (kid a p e s 3 (omega arith) (body_moves a) b.0, kid r p e s 4 (omega arith) (body_moves r) b.1, number p e s 5 _ (omega arith) b.2, number p e s 6 _ (omega arith) b.3) }
    body_moves (GenericType a i) = record { says = λ p e s b. (kid a p e s 3 (omega arith) (body_moves a) b.0, kid i p e s 4 (omega arith) (body_moves i) b.1) }
    body_moves (GenericSignature n rs) = record { says = λ p e s b. (wide p e s 3 n (omega arith) b.0, number p e s 5 _ (omega arith) b.1, (cells_move rs 6 (omega arith)).says p e s b.2) }
    body_moves (ConformanceRequirement a q) = record { says = λ p e s b. (kid a p e s 3 (omega arith) (body_moves a) b.0, kid q p e s 4 (omega arith) (body_moves q) b.1) }
    body_moves (SameTypeRequirement a o) = record { says = λ p e s b. (kid a p e s 3 (omega arith) (body_moves a) b.0, kid o p e s 4 (omega arith) (body_moves o) b.1) }
    body_moves (ProtocolList ps) = cells_move ps 3 (omega arith)
    body_moves (Metatype n) = record { says = λ p e s b. kid n p e s 3 (omega arith) (body_moves n) b }
    body_moves (InOut n) = record { says = λ p e s b. kid n p e s 3 (omega arith) (body_moves n) b }
    body_moves (BoundGeneric c args) = record { says = λ p e s b. (kid c p e s 3 (omega arith) (body_moves c) b.0, number p e s 4 _ (omega arith) b.1, (cells_move args 5 (omega arith)).says p e s b.2) }
    body_moves (Function c n ls t) = record { says = λ p e s b. (named e 3 n (omega arith) b.0, kid c p e s 4 (omega arith) (body_moves c) b.1, kid t p e s 5 (omega arith) (body_moves t) b.2, label_list ls p e s 6 (omega arith) b.3) }
    body_moves (Variable c n t) = record { says = λ p e s b. (named e 3 n (omega arith) b.0, kid c p e s 4 (omega arith) (body_moves c) b.1, kid t p e s 5 (omega arith) (body_moves t) b.2) }
    body_moves (Accessor k v) = record { says = λ p e s b. (named e 3 k (omega arith) b.0, kid v p e s 4 (omega arith) (body_moves v) b.1) }
    body_moves (Initializer a c ls t) = record { says = λ p e s b. (number p e s 3 _ (omega arith) b.0, kid c p e s 4 (omega arith) (body_moves c) b.1, kid t p e s 5 (omega arith) (body_moves t) b.2, label_list ls p e s 6 (omega arith) b.3) }
    body_moves (Deinitializer d c) = record { says = λ p e s b. (number p e s 3 _ (omega arith) b.0, kid c p e s 4 (omega arith) (body_moves c) b.1) }
    body_moves (VariableInitializer v) = record { says = λ p e s b. kid v p e s 3 (omega arith) (body_moves v) b }
    body_moves (Static n) = record { says = λ p e s b. kid n p e s 3 (omega arith) (body_moves n) b }
    body_moves (Record what n) = record { says = λ p e s b. (words_of e b.0, kid n p e s 4 (omega arith) (body_moves n) b.1) }
    body_moves (Conformance t q m) = record { says = λ p e s b. (kid t p e s 3 (omega arith) (body_moves t) b.0, kid q p e s 4 (omega arith) (body_moves q) b.1, kid m p e s 5 (omega arith) (body_moves m) b.2) }
    body_moves (ProtocolWitness n c) = record { says = λ p e s b. (kid n p e s 3 (omega arith) (body_moves n) b.0, kid c p e s 4 (omega arith) (body_moves c) b.1) }
    body_moves (ValueWitness k t) = record { says = λ p e s b. (named e 3 k (omega arith) b.0, kid t p e s 4 (omega arith) (body_moves t) b.1) }
    body_moves EmptyList = record { says = λ p e s b. tt }
    body_moves FirstElementMarker = record { says = λ p e s b. tt }
    body_moves VariadicMarker = record { says = λ p e s b. tt }
    body_moves Throws = record { says = λ p e s b. tt }
    body_moves Async = record { says = λ p e s b. tt }
    body_moves (LazyWitness what t c) = record { says = λ p e s b. (number p e s 3 _ (omega arith) b.0, named e 4 what (omega arith) b.1, kid t p e s 5 (omega arith) (body_moves t) b.2, kid c p e s 6 (omega arith) (body_moves c) b.3) }
    body_moves (AssociatedConformance a q n r) = record { says = λ p e s b. (number p e s 3 _ (omega arith) b.0, named e 4 n (omega arith) b.1, kid a p e s 5 (omega arith) (body_moves a) b.2, (cells_move q 6 (omega arith)).says p e s b.3, kid r p e s 7 (omega arith) (body_moves r) b.4) }

    pub cells_move : (ns : Nodes) (k : ℕ) → k < 8 → Moves (Cells Named ns k) (Cells Named' ns k)
    cells_move nil k l = record { says = λ p e s b. tt }
    cells_move (cons x n ns) k l = record {
      says = λ p e s b. child p e s k l (λ q m a t r.
          (label a 3 x (omega arith) r.0, kid n q a t 4 (omega arith) (body_moves n) r.1, (cells_move ns 5 (omega arith)).says q a t r.2)) b;
    }

  pub would_move : (x : Node) {f g : ℕ → ℕ} {w w' : List ℕ} (p : ℕ) → Agree f g → Same w w' (8 * p) → Would Named x f w p → Would Named' x g w' p
  would_move x p e s r = lay p e s (λ b. (body_moves x).says p e s b) r

  pub lies_move : (x : Node) {w w' : List ℕ} (p b : ℕ) → p < b → Same w w' (8 * b) → Lies Named x w p → Lies Named' x w' p
  lies_move x p b h s r = would_move x p (agree_at p h s) (same_below (8 * p) (omega arith) s) r

-- with the same names: the record just written is this tree, and older trees are unchanged
module _ (Named : ℕ → Name → Type 0) where
  pub would_stay : (x : Node) {f g : ℕ → ℕ} {w w' : List ℕ} (p : ℕ) → Agree f g → Same w w' (8 * p) → Would Named x f w p → Would Named x g w' p
  would_stay = would_move Named Named (λ k n h. h)

  pub lies_still : (x : Node) {w w' : List ℕ} (p b : ℕ) → p < b → Same w w' (8 * b) → Lies Named x w p → Lies Named x w' p
  lies_still = lies_move Named Named (λ k n h. h)
