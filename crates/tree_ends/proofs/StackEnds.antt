-- The only tree that is left, and the entries of the stack as numbers. Assumes nothing.
use mathlib.Core.Path.{◌≡◌, refl, sym, ap, subst, ◌∙◌}
use mathlib.Core.Bool.{Bool, true, false}
use mathlib.Core.List.{List, [], ◌∷◌, ◌++◌, map, reverse, reverse-cons, append_assoc}
use mathlib.Core.Option.{some, none}
use Prim.Native.Nat.{ℕ, zero, suc, ◌+◌, ◌*◌, ◌≤◌, ◌<◌}
use native.Mathlib.Omega.{arith}
use native.Mathlib.Numerals.{add-one}
use lib.Dec.{ltb}
use borrow.Author.Tests.{ltb-true, ltb-false}
use lib.ListN.{length, get_or, set, take, drop, length-append, length-set, length-drop}
use lib.Seq.{take_at, drop_at, drop-drop, set_split, append_snoc}
use Rattle.definition.specs.Node.{Node, kind, entry_of}
use Rattle.definition.specs.Kind as K
use Rattle.definition.specs.Calls.{single, entry_numbers}
use Rattle.definition.specs.Perform.{Demangler}
use Rattle.tree_records.specs.Lies.{at, Lies}
use Rattle.tree_records.specs.Holds.{Names, Named, Stack, Spare, Holds, Ready}
use Rattle.tree_records.specs.declared.State.{State}
use Rattle.tree_nodes.specs.Gives.{nothing_spare}
use Rattle.machine.specs.RunEnds.{kinds_of, Front, TooMany}
use Rattle.machine.specs.declared.runs.Final.{Final}
use Rattle.machine.proofs.runs.Numbers.{numbers_snoc}
use Rattle.tree_ends.specs.Ends.{SingleAt}

-- THE ONLY TREE
-- a stack of one
pub record Only (nm : Names) (w : List ℕ) (base top : ℕ) (xs : List Node) : Type 0 where
  pub tree : Node
  pub is : xs ≡ tree ∷ []
  pub below : get_or w base 0 < top
  pub lies : Lies (Named nm) tree w (get_or w base 0)

only : (nm : Names) (w : List ℕ) (base top : ℕ) (xs : List Node) → Stack nm w base top xs 1 → Only nm w base top xs
only nm w base top [] r = absurd (omega (arith, r))
only nm w base top (x ∷ []) r =
    let z : base + r.0 ≡ base = omega (arith, r.1) in
    record { tree = x; is = refl; below = subst (λ (i : ℕ). get_or w i 0 < top) z r.2; lies = subst (λ (i : ℕ). Lies (Named nm) x w (get_or w i 0)) z r.3 }
only nm w base top (x ∷ y ∷ ys) r = let e : ℕ = r.0 in absurd (omega (arith, r.1, r.4.1))

single_takes : (takes : ℕ → Bool) (x : Node) (b : Bool) → takes (kind x) ≡ b → single kind takes (x ∷ []) ≡ (elim b [ true ↦ some x | false ↦ none ])
unfolding single
single_takes takes x true e = rw (e, single)
single_takes takes x false e = rw (e, single)

module _ {w : List ℕ} {N : ℕ} {st : State} (what : Final) (e : st.depth ≡ 1) where
  one_of : (nm : Names) (sp : Spare) (m : Demangler) → Holds nm w N st sp m → Only nm w (60 * N) st.top m.stack
  one_of nm sp m h = only nm w (60 * N) st.top m.stack (subst (λ (d : ℕ). Stack nm w (60 * N) st.top m.stack d) e h.stack)

  pub single_inside : {sp : Spare} → Ready w N st sp → get_or w (60 * N) 0 < st.top
  single_inside {sp} r = (one_of r.names sp r.machine r.holds).below

  module _ (p : ℕ) (q : p ≡ get_or w (60 * N) 0) where
    pub single_at : kinds_of what (at w p 0) ≡ true → (nm : Names) (m : Demangler) → Holds nm w N st nothing_spare m → SingleAt w N st what p nm m
    single_at k nm m h =
        let o : Only nm w (60 * N) st.top m.stack = one_of nm nothing_spare m h in
        let l : Lies (Named nm) o.tree w p = subst (λ (i : ℕ). Lies (Named nm) o.tree w i) (sym q) o.lies in
        record {
          tree = o.tree;
          is = ap (single kind (kinds_of what)) o.is ∙ single_takes (kinds_of what) o.tree true (ap (kinds_of what) (sym l.kind_is) ∙ k);
          below = subst (λ (i : ℕ). i < st.top) (sym q) o.below;
          lies = l;
        }

    pub single_other : kinds_of what (at w p 0) ≡ false → (nm : Names) (m : Demangler) → Holds nm w N st nothing_spare m → single kind (kinds_of what) m.stack ≡ none
    single_other k nm m h =
        let o : Only nm w (60 * N) st.top m.stack = one_of nm nothing_spare m h in
        let l : Lies (Named nm) o.tree w p = subst (λ (i : ℕ). Lies (Named nm) o.tree w i) (sym q) o.lies in
        ap (single kind (kinds_of what)) o.is ∙ single_takes (kinds_of what) o.tree false (ap (kinds_of what) (sym l.kind_is) ∙ k)

not_one : (takes : ℕ → Bool) (nm : Names) (w : List ℕ) (base top : ℕ) (xs : List Node) (d : ℕ) → (d ≡ 1 → ⊥) → Stack nm w base top xs d → single kind takes xs ≡ none
unfolding single
not_one takes nm w base top [] d h r = refl
not_one takes nm w base top (x ∷ []) d h r = absurd (h (omega (arith, r.1, r.4)))
not_one takes nm w base top (x ∷ y ∷ ys) d h r = refl

pub single_none : {w : List ℕ} {N : ℕ} {st : State} (what : Final) → (st.depth ≡ 1 → ⊥) → (nm : Names) (m : Demangler) → Holds nm w N st nothing_spare m → single kind (kinds_of what) m.stack ≡ none
single_none {w} {N} {st} what e nm m h = not_one (kinds_of what) nm w (60 * N) st.top m.stack st.depth e h.stack

-- NUMBERS
-- the entries of the first d places, as numbers
unfoldable pub numbers_at : (w : List ℕ) (N d : ℕ) → List ℕ
numbers_at w N zero = []
numbers_at w N (suc d) = numbers_at w N d ++ (at w (get_or w (60 * N + d) 0) 0 ∷ at w (get_or w (60 * N + d) 0) 1 ∷ at w (get_or w (60 * N + d) 0) 2 ∷ [])

map_snoc : (xs : List Node) (x : Node) → map entry_of (xs ++ (x ∷ [])) ≡ map entry_of xs ++ (entry_of x ∷ [])
map_snoc [] x = refl
map_snoc (y ∷ ys) x = ap (λ (l : List K.Entry). entry_of y ∷ l) (map_snoc ys x)

-- they are those of the trees, in the order in which they were pushed
pub stack_numbers : (nm : Names) (w : List ℕ) (N top : ℕ) (xs : List Node) (d : ℕ) → Stack nm w (60 * N) top xs d → entry_numbers (map entry_of (reverse xs)) ≡ numbers_at w N d
unfolding numbers_at entry_numbers
stack_numbers nm w N top [] d r = ap (numbers_at w N) (sym r)
stack_numbers nm w N top (x ∷ xs) d r =
    let l : Lies (Named nm) x w (get_or w (60 * N + r.0) 0) = r.3 in
    ap (λ (ys : List Node). entry_numbers (map entry_of ys)) (reverse-cons x xs) ∙ (ap entry_numbers (map_snoc (reverse xs) x) ∙ (numbers_snoc (map entry_of (reverse xs)) (entry_of x)
    ∙ (rw (stack_numbers nm w N top xs r.0 r.4, ← l.kind_is, ← l.size_is, ← l.count_is) refl ∙ ap (numbers_at w N) (sym r.1))))

pub numbers_length : (w : List ℕ) (N d : ℕ) → length (numbers_at w N d) ≡ 3 * d
unfolding numbers_at
numbers_length w N zero = refl
numbers_length w N (suc d) = length-append (numbers_at w N d) (at w (get_or w (60 * N + d) 0) 0 ∷ at w (get_or w (60 * N + d) 0) 1 ∷ at w (get_or w (60 * N + d) 0) 2 ∷ []) ∙ omega (arith, numbers_length w N d)

-- one more number at the seam
set_seam : (xs o : List ℕ) (k v : ℕ) → length xs ≡ k → k < length o → set (xs ++ drop k o) k v ≡ (xs ++ (v ∷ [])) ++ drop (k + 1) o
set_seam xs o k v e l =
    let inside : k < length (xs ++ drop k o) = omega (arith, length-append xs (drop k o), length-drop k o) in
    let t : take k (xs ++ drop k o) ≡ xs = take_at xs (drop k o) k e in
    let z : k + 1 ≡ suc k = omega arith in
    let d : drop (suc k) (xs ++ drop k o) ≡ drop (k + 1) o = ap (λ (n : ℕ). drop n (xs ++ drop k o)) (sym z) ∙ (sym (drop-drop 1 k (xs ++ drop k o)) ∙ (ap (drop 1) (drop_at xs (drop k o) k e) ∙ drop-drop 1 k o)) in
    set_split (xs ++ drop k o) k v inside ∙ (rw (t, d) refl ∙ sym (append_snoc xs v (drop (k + 1) o)))

-- THE LOOP: the numbers of j entries are at the front
pub record Filling (w : List ℕ) (N : ℕ) (o o₁ : List ℕ) (j : ℕ) : Type 0 where
  pub is : o₁ ≡ numbers_at w N j ++ drop (3 * j) o
  pub long : length o₁ ≡ length o

pub fill_first : (w : List ℕ) (N : ℕ) (o : List ℕ) → Filling w N o o 0
unfolding numbers_at
fill_first w N o = record { is = refl; long = refl }

pub fill_more : {w : List ℕ} {N : ℕ} {o o₁ : List ℕ} {j : ℕ} (a b c : ℕ) → Filling w N o o₁ j → 3 * j + 3 ≤ length o → a ≡ at w (get_or w (60 * N + j) 0) 0 → b ≡ at w (get_or w (60 * N + j) 0) 1 → c ≡ at w (get_or w (60 * N + j) 0) 2 →
    Filling w N o (set (set (set o₁ (3 * j) a) (3 * j + 1) b) (3 * j + 2) c) (j + 1)
unfolding numbers_at
fill_more {w} {N} {o} {o₁} {j} a b c f l ea eb ec =
    let xs : List ℕ = numbers_at w N j in
    let n : length xs ≡ 3 * j = numbers_length w N j in
    let s₁ : set o₁ (3 * j) a ≡ (xs ++ (a ∷ [])) ++ drop (3 * j + 1) o = ap (λ (y : List ℕ). set y (3 * j) a) f.is ∙ set_seam xs o (3 * j) a n (omega arith) in
    let n₁ : length (xs ++ (a ∷ [])) ≡ 3 * j + 1 = length-append xs (a ∷ []) ∙ omega (arith, n) in
    let s₂ : set (set o₁ (3 * j) a) (3 * j + 1) b ≡ ((xs ++ (a ∷ [])) ++ (b ∷ [])) ++ drop (3 * j + 1 + 1) o = ap (λ (y : List ℕ). set y (3 * j + 1) b) s₁ ∙ set_seam (xs ++ (a ∷ [])) o (3 * j + 1) b n₁ (omega arith) in
    let two : 3 * j + 1 + 1 ≡ 3 * j + 2 = omega arith in
    let s₂' : set (set o₁ (3 * j) a) (3 * j + 1) b ≡ ((xs ++ (a ∷ [])) ++ (b ∷ [])) ++ drop (3 * j + 2) o = s₂ ∙ ap (λ (i : ℕ). ((xs ++ (a ∷ [])) ++ (b ∷ [])) ++ drop i o) two in
    let n₂ : length ((xs ++ (a ∷ [])) ++ (b ∷ [])) ≡ 3 * j + 2 = length-append (xs ++ (a ∷ [])) (b ∷ []) ∙ omega (arith, n₁) in
    let s₃ : set (set (set o₁ (3 * j) a) (3 * j + 1) b) (3 * j + 2) c ≡ (((xs ++ (a ∷ [])) ++ (b ∷ [])) ++ (c ∷ [])) ++ drop (3 * j + 2 + 1) o = ap (λ (y : List ℕ). set y (3 * j + 2) c) s₂' ∙ set_seam ((xs ++ (a ∷ [])) ++ (b ∷ [])) o (3 * j + 2) c n₂ (omega arith) in
    let all : ((xs ++ (a ∷ [])) ++ (b ∷ [])) ++ (c ∷ []) ≡ numbers_at w N (suc j) = rw (ea, eb, ec) (simp append_assoc) in
    let three : 3 * j + 2 + 1 ≡ 3 * (j + 1) = omega arith in
    record {
      is = s₃ ∙ (ap (λ (y : List ℕ). y ++ drop (3 * j + 2 + 1) o) (all ∙ ap (numbers_at w N) (sym (add-one j))) ∙ ap (λ (i : ℕ). numbers_at w N (j + 1) ++ drop i o) three);
      long = length-set (set (set o₁ (3 * j) a) (3 * j + 1) b) (3 * j + 2) c ∙ (length-set (set o₁ (3 * j) a) (3 * j + 1) b ∙ (length-set o₁ (3 * j) a ∙ f.long));
    }

pub fill_all : {w : List ℕ} {N : ℕ} {st : State} {o o₁ : List ℕ} {j n : ℕ} → Filling w N o o₁ j → j ≡ st.depth → n ≡ 3 * st.depth → n ≤ length o → (nm : Names) (m : Demangler) → Holds nm w N st nothing_spare m → Front (entry_numbers (map entry_of (reverse m.stack))) o o₁ n
fill_all {w} {N} {st} {o} {o₁} {j} {n} f e q l nm m h =
    let s : entry_numbers (map entry_of (reverse m.stack)) ≡ numbers_at w N st.depth = stack_numbers nm w N st.top m.stack st.depth h.stack in
    let z : 3 * j ≡ n = omega arith in
    record {
      many = q ∙ (sym (numbers_length w N st.depth) ∙ ap length (sym s));
      within = l;
      is = f.is ∙ (ap (λ (i : ℕ). numbers_at w N j ++ drop i o) z ∙ (ap (λ (i : ℕ). numbers_at w N i ++ drop n o) e ∙ ap (λ (y : List ℕ). y ++ drop n o) (sym s)));
    }

pub fill_none : {w : List ℕ} {N : ℕ} {st : State} {o : List ℕ} → length o < 3 * st.depth → (nm : Names) (m : Demangler) → Holds nm w N st nothing_spare m → TooMany (entry_numbers (map entry_of (reverse m.stack))) o o
fill_none {w} {N} {st} {o} l nm m h =
    let s : entry_numbers (map entry_of (reverse m.stack)) ≡ numbers_at w N st.depth = stack_numbers nm w N st.top m.stack st.depth h.stack in
    record { past = omega (arith, ap length s, numbers_length w N st.depth); same = refl }

-- a place on the stack is the place of a record
place_of : (nm : Names) (w : List ℕ) (base top : ℕ) (xs : List Node) (d j : ℕ) → Stack nm w base top xs d → j < d → get_or w (base + j) 0 < top
place_of nm w base top [] d j r l = absurd (omega (arith, r))
place_of nm w base top (x ∷ xs) d j r l = go (λ (k : j < r.0). place_of nm w base top xs r.0 j r.4 k) (ltb j r.0) refl
  where
    go : (j < r.0 → get_or w (base + j) 0 < top) → (b : Bool) → ltb j r.0 ≡ b → get_or w (base + j) 0 < top
    go f true q = f (ltb-true j r.0 q)
    go f false q =
        let least : r.0 ≤ j = ltb-false j r.0 q in
        let z : r.0 ≡ j = omega (arith, r.1) in
        subst (λ (i : ℕ). get_or w (base + i) 0 < top) z r.2

pub stack_place : {w : List ℕ} {N : ℕ} {st : State} (j : ℕ) → Ready w N st nothing_spare → j < st.depth → get_or w (60 * N + j) 0 < st.top
stack_place {w} {N} {st} j r l = place_of r.names w (60 * N) st.top r.machine.stack st.depth j r.holds.stack l
