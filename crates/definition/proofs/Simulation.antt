-- The machine of the check simulates the machine of trees: what that means, and the parts that
-- operators are made of.
use Rattle.std.specs.Prelude.{if◌then◌else◌}
use mathlib.Core.Path.{◌≡◌, refl, sym, ap, subst}
use mathlib.Core.Bool.{Bool, true, false, ◌&&◌, not}
use mathlib.Core.List.{List, [], ◌∷◌, ◌++◌, map, map-append}
use mathlib.Core.Option.{Option, some, none}
use Prim.Native.Nat.{ℕ, zero, suc, ◌+◌, ◌-◌}
use native.Mathlib.Omega.{arith}
use lib.Dec.{T, eqb, eqb→eq, eqb-suc-zero}
use lib.ListN.{length, length-map, get_elem?, replicate}
use Rattle.definition.specs.Base.{Name, given, is_some, Out, ok, refused, Step, Done, ret, refuse, and_then, ◌>>=◌, Late, good, bad, judge}
use Rattle.definition.specs.Words.{is_empty}
use Rattle.definition.specs.Kind as K
use Rattle.definition.specs.Kind.{Entry, entry}
use Rattle.definition.specs.Node as N
use Rattle.definition.specs.Node.{Labels, Node, Nodes, nil, cons, View, named, listed, with_params, under, composed, other, Module, Nominal, Tuple, GenericType, ProtocolList, nominal_kind, kind, size, sizes, count, many, view, param_count, inner_of, only_of, member_of, entry_of}
use Rattle.definition.specs.Budget as B
use Rattle.definition.specs.Budget.{Budget}
use Rattle.definition.specs.Machine as M
use Rattle.definition.specs.Machine.{machine, restack, spent, spend, wrap, know, remember, recall, push, push_copies, rounds}
use Rattle.definition.specs.Perform as R
use Rattle.definition.specs.Perform.{Demangler, Run}
use Rattle.definition.specs.Shape as C
use Rattle.definition.specs.Shape.{Shapes, Check, kind_of, Taken, taken}
use Rattle.definition.proofs.SameText.{failed}
use Rattle.definition.proofs.Matches.{not_one, ViewedAs, viewed, the_name, the_member, name_in_is, context_in_is, protocol_in_is, label_in_is, arity_is}

-- WHAT HOLDS FOR A MACHINE OF TREES
abbrev pub All : (Node → Type 0) → List Node → Type 0
All P [] = Unit {0}
All P (n ∷ ns) = P n × All P ns

-- a protocol, which has no count
abbrev pub IsProtocol : Node → Type 0
IsProtocol n = (kind n ≡ K.protocol) × (count n ≡ 0)

-- the members of a protocol list are protocols
abbrev pub Members : Nodes → Type 0
Members nil = Unit {0}
Members (cons l n ns) = IsProtocol n × Members ns

abbrev pub MembersOf : View → Type 0
MembersOf (named x) = Unit {0}
MembersOf (listed es) = Unit {0}
MembersOf (with_params p) = Unit {0}
MembersOf (under i) = Unit {0}
MembersOf (composed ps) = Members ps
MembersOf other = Unit {0}

-- no node on the stack, and none that is remembered, is a type under a signature
abbrev pub Good : Node → Type 0
Good n = T (not (eqb (kind n) K.generic_type)) × MembersOf (view n)

-- no known word is empty
abbrev pub Filled : List Name → Type 0
Filled [] = Unit {0}
Filled (w ∷ ws) = T (not (is_empty w)) × Filled ws

abbrev pub Inv : Demangler → Type 0
Inv m = All Good m.stack × All Good m.substitutions × Filled m.words

-- the machine of the check that corresponds to it
abbrev pub shapes : Demangler → Shapes
shapes m = machine m.budget (map entry_of m.stack) (map entry_of m.substitutions) (length m.words)

-- STEPS THAT ARE ALIKE
-- The check's outcome o is that of the trees: the same refusal, or f of the value and the
-- corresponding machine
module _ {A B : Type 0} (P : A → Type 0) (f : A → B) where
  abbrev pub Sound : Out Demangler A → Out Shapes B → Type 0
  Sound (ok a m) o = (o ≡ ok (f a) (shapes m)) × P a × Inv m
  Sound (refused r) o = o ≡ refused r

  pub record Sim (s : Run A) (e : Check B) : Type 0 where
    pub at : (m : Demangler) → Inv m → Sound (s m) (e (shapes m))

abbrev pub Any : {A : Type 0} → A → Type 0
Any a = Unit {0}

abbrev pub itself : {A : Type 0} → A → A
itself a = a

-- a value of which the check keeps nothing
abbrev pub dropped : {A : Type 0} → A → Done
dropped a = tt

module _ {A B C D : Type 0} {P : A → Type 0} {f : A → B} {Q : C → Type 0} {g : C → D} where
  bind_out : (x : Out Demangler A) (y : Out Shapes B) (k : A → Run C) (l : B → Check D) → Sound P f x y → ((a : A) → P a → Sim Q g (k a) (l (f a))) → Sound Q g (and_then x k) (and_then y l)
  bind_out (ok a m) y k l h c = rw h.0 ((c a h.1).at m h.2)
  bind_out (refused r) y k l h c = rw h refl

  pub bind : {s : Run A} {e : Check B} (k : A → Run C) (l : B → Check D) → Sim P f s e → ((a : A) → P a → Sim Q g (k a) (l (f a))) → Sim Q g (s >>= k) (e >>= l)
  bind {s} {e} k l h c = record { at = λ m i. bind_out (s m) (e (shapes m)) k l (h.at m i) c }

-- steps of the trees, associated in either way
module _ {A B C D : Type 0} {Q : C → Type 0} {g : C → D} where
  pub assoc : (s : Run A) (k : A → Run B) (l : B → Run C) {e : Check D} → Sim Q g (s >>= λ a. k a >>= l) e → Sim Q g ((s >>= k) >>= l) e
  assoc s k l {e} h = record { at = λ m i. go (s m) (e (shapes m)) (h.at m i) }
    where
      go : (x : Out Demangler A) (y : Out Shapes D) → Sound Q g (and_then x (λ a. k a >>= l)) y → Sound Q g (and_then (and_then x k) l) y
      go (ok a m) y t = t
      go (refused r) y t = t

module _ {A B : Type 0} {P : A → Type 0} {f : A → B} where
  pub ret_sim : (a : A) → P a → Sim P f (ret a) (ret (f a))
  ret_sim a p = record { at = λ m i. (refl, p, i) }

  pub refuse_sim : (r : ℕ) → Sim P f (refuse r) (refuse r)
  refuse_sim r = record { at = λ m i. refl }

  pub if_sim : {s s' : Run A} {e e' : Check B} (b : Bool) → (T b → Sim P f s e) → (T (not b) → Sim P f s' e') → Sim P f (if b then s else s') (if b then e else e')
  if_sim true h k = h tt
  if_sim false h k = k tt

pub judge_sim : {A : Type 0} (l : Late A) → Sim {A = A} Any itself (judge l) (judge l)
judge_sim (good a) = ret_sim a tt
judge_sim (bad r) = refuse_sim r

-- THE MACHINE
pub spend_sim : (s : Step Budget Done) → Sim {A = Done} Any itself (spend s) (spend s)
unfolding spend
spend_sim s = record { at = λ m i. go m i (s m.budget) }
  where
    go : (m : Demangler) → Inv m → (o : Out Budget Done) → Sound {A = Done} Any itself (spent o m) (spent o (shapes m))
    go m i (ok x b) = (refl, tt, i)
    go m i (refused r) = refl

pub wrap_sim : Sim {A = Done} Any itself wrap wrap
unfolding wrap
wrap_sim = spend_sim B.wrap

pub know_sim : (ws : List Name) → Filled ws → Sim {A = Done} Any itself (know ws) (know (length ws))
unfolding know
know_sim ws g = record { at = λ m i. (refl, tt, (i.0, i.1, g)) }

all_snoc : (n : Node) (s : List Node) → Good n → All Good s → All Good (s ++ (n ∷ []))
all_snoc n [] g a = (g, tt)
all_snoc n (x ∷ s) g a = (a.0, all_snoc n s g a.1)

pub remember_sim : (n : Node) → Good n → Sim {A = Done} Any itself (remember n) (remember (entry_of n))
unfolding remember
remember_sim n g = record { at = λ m i. (rw (map-append entry_of) refl, tt, (i.0, all_snoc n m.substitutions g i.1, i.2)) }

pub recall_sim : (j : ℕ) → Sim Good entry_of (recall j) (recall j)
unfolding recall
recall_sim j = record { at = λ m i. go m i m.substitutions j i.1 }
  where
    go : (m : Demangler) → Inv m → (s : List Node) (j : ℕ) → All Good s → Sound Good entry_of (given (get_elem? s j) (refused 9) (λ n. ok n m)) (given (get_elem? (map entry_of s) j) (refused 9) (λ n. ok n (shapes m)))
    go m i [] j a = refl
    go m i (n ∷ s) zero a = (refl, a.0, i)
    go m i (n ∷ s) (suc j) a = go m i s j a.1

pub push_sim : (n : Node) → Good n → Sim {A = Done} Any itself (push n) (push (entry_of n))
unfolding push
push_sim n g = record { at = λ m i. (refl, tt, ((g, i.0), i.1, i.2)) }

all_copies : (k : ℕ) (n : Node) (s : List Node) → Good n → All Good s → All Good (replicate k n ++ s)
all_copies zero n s g a = a
all_copies (suc k) n s g a = (g, all_copies k n s g a)

map_copies : (k : ℕ) (n : Node) (s : List Node) → replicate k (entry_of n) ++ map entry_of s ≡ map entry_of (replicate k n ++ s)
map_copies zero n s = refl
map_copies (suc k) n s = ap (λ l. entry_of n ∷ l) (map_copies k n s)

pub push_copies_sim : (k : ℕ) (n : Node) → Good n → Sim {A = Done} Any itself (push_copies k n) (push_copies k (entry_of n))
unfolding push_copies
push_copies_sim k n g = record { at = λ m i. (ap (λ l. ok tt (restack l (shapes m))) (map_copies k n m.stack), tt, (all_copies k n m.stack g i.0, i.1, i.2)) }

pub rounds_sim : Sim {A = ℕ} Any itself rounds rounds
unfolding rounds
rounds_sim = record { at = λ m i. (rw (length-map m.stack entry_of) refl, tt, i) }

pub pop_if_sim : (want : ℕ → Bool) → Sim Good entry_of (R.pop_if want) (C.pop_if want)
unfolding M.pop_if M.pop_from
pop_if_sim want = record { at = λ m i. go m i m.stack i.0 }
  where
    pick : (m : Demangler) → Inv m → (n : Node) (s : List Node) → Good n → All Good s → (b : Bool) →
        Sound Good entry_of (if b then ok n (restack s m) else refused 10) (if b then ok (entry_of n) (restack (map entry_of s) (shapes m)) else refused 10)
    pick m i n s g a true = (refl, g, (a, i.1, i.2))
    pick m i n s g a false = refl

    go : (m : Demangler) → Inv m → (s : List Node) → All Good s → Sound Good entry_of (M.pop_from kind want s m) (M.pop_from kind_of want (map entry_of s) (shapes m))
    go m i [] a = refl
    go m i (n ∷ s) a = pick m i n s a.0 a.1 (want (kind n))

pub pop_sim : Sim Good entry_of R.pop (M.pop kind_of)
unfolding M.pop
pop_sim = pop_if_sim (λ k. true)

-- a node that may be missing
abbrev pub GoodIf : Option Node → Type 0
GoodIf none = Unit {0}
GoodIf (some n) = Good n

abbrev pub entry_if : Option Node → Option Entry
entry_if none = none
entry_if (some n) = some (entry_of n)

pub try_sim : (want : ℕ → Bool) → Sim GoodIf entry_if (R.try want) (C.try want)
unfolding M.try M.try_from
try_sim want = record { at = λ m i. go m i m.stack i.0 }
  where
    pick : (m : Demangler) → Inv m → (n : Node) (s : List Node) → Good n → All Good s → (b : Bool) →
        Sound GoodIf entry_if (if b then ok (some n) (restack s m) else ok none m) (if b then ok (some (entry_of n)) (restack (map entry_of s) (shapes m)) else ok none (shapes m))
    pick m i n s g a true = (refl, g, (a, i.1, i.2))
    pick m i n s g a false = (refl, tt, i)

    go : (m : Demangler) → Inv m → (s : List Node) → All Good s → Sound GoodIf entry_if (M.try_from kind want s m) (M.try_from kind_of want (map entry_of s) (shapes m))
    go m i [] a = (refl, tt, i)
    go m i (n ∷ s) a = pick m i n s a.0 a.1 (want (kind n))

pub took_sim : (k : ℕ) → Sim {A = Bool} Any itself (R.took k) (C.took k)
unfolding M.took is_some
took_sim k = bind _ _ (try_sim (eqb k)) λ o g. go o
  where
    go : (o : Option Node) → Sim {A = Bool} Any itself (ret (is_some o)) (ret (is_some (entry_if o)))
    go none = ret_sim false tt
    go (some n) = ret_sim true tt

pub given_sim : {A B : Type 0} {P : A → Type 0} {f : A → B} {s : Run A} {e : Check B} {k : Node → Run A} (l : Entry → Check B) (o : Option Node) → GoodIf o → Sim P f s e → ((n : Node) → Good n → Sim P f (k n) (l (entry_of n))) → Sim P f (given o s k) (given (entry_if o) e l)
given_sim l none g h c = h
given_sim l (some n) g h c = c n g

-- WHAT SEVERAL OPERATORS TAKE
pub name_in_sim : (n : Node) → Sim {A = Name} {B = Done} Any dropped (R.name_in n) (C.name_in (entry_of n))
unfolding C.name_in
name_in_sim n = rw (name_in_is n) (if_sim (K.is_identifier (kind n)) (λ _. ret_sim _ tt) (λ _. refuse_sim 10))

pub pop_name_sim : Sim {A = Name} {B = Done} Any dropped R.pop_name C.pop_name
unfolding R.pop_name C.pop_name
pop_name_sim = bind _ _ pop_sim λ n g. name_in_sim n

pub context_in_sim : (n : Node) → Good n → Sim Good entry_of (R.context_in n) (C.context_in (entry_of n))
unfolding C.context_in size count kind view
context_in_sim n g =
    rw (context_in_is n)
    (if_sim (K.is_identifier (kind n)) (λ _. ret_sim (Module (the_name n)) (tt, tt)) λ _.
    if_sim (K.is_context (kind n)) (λ _. ret_sim n g) (λ _. refuse_sim 10))

pub context_sim : Sim Good entry_of R.context C.context
unfolding R.context C.context
context_sim = bind _ _ pop_sim λ n g. context_in_sim n g

-- the parameters of a function type, by the entry of its parameter node
pub params_by_entry : (p : Node) → param_count p ≡ (if eqb (kind p) K.tuple then count p else 1)
unfolding param_count count kind view
params_by_entry p = go (view p) refl (viewed p)
  where
    go : (w : View) → view p ≡ w → ViewedAs p w → param_count p ≡ (if eqb (kind p) K.tuple then count p else 1)
    go (named x) e v = rw v refl
    go (listed es) e v = rw v refl
    go (with_params q) e v = rw v.3 refl
    go (under i) e v = rw v.1 refl
    go (composed ps) e v = rw v refl
    go other e v = rw (e, param_count, failed (eqb (kind p) K.tuple) v.0) refl

-- a protocol has no count
pub protocol_count : (n : Node) → T (K.is_protocol (kind n)) → count n ≡ 0
unfolding count kind view
protocol_count n = go (view n) refl (viewed n)
  where
    go : (w : View) → view n ≡ w → ViewedAs n w → T (K.is_protocol (kind n)) → count n ≡ 0
    go (named x) e v = rw v (λ h. refl)
    go (listed es) e v = rw v (λ h. absurd h)
    go (with_params q) e v = rw v.3 (λ h. absurd h)
    go (under i) e v = rw v.1 (λ h. absurd h)
    go (composed ps) e v = rw v (λ h. absurd h)
    go other e v = rw (e, count) (λ h. refl)

-- the only member of a protocol list is a protocol, one node smaller than the list
pub record OnlyMember (n : Node) : Type 0 where
  pub entry_is : entry K.protocol (size n - 1) 0 ≡ entry_of (the_member n)
  pub is_protocol : IsProtocol (the_member n)

only_in : (ps : Nodes) → Members ps → T (eqb (many ps) 1) → OnlyMember (ProtocolList ps)
unfolding many member_of only_of the_member view size
only_in nil g h = absurd h
only_in (cons l x nil) g h =
    let one_less : 1 + (size x + 0) - 1 ≡ size x = omega arith in
    record { entry_is = λ i. entry (sym g.0.0 i) (one_less i) (sym g.0.1 i); is_protocol = g.0 }
only_in (cons l x (cons l₂ y ns)) g h = absurd (subst T (not_one (many ns)) h)

pub only_member : (n : Node) → Good n → T (eqb (kind n) K.protocol_list && eqb (count n) 1) → OnlyMember n
unfolding count kind view
only_member n = go (view n) refl (viewed n)
  where
    first : (a b : Bool) → T (a && b) → T a
    first true b h = tt
    first false b h = h

    not_both : (a b : Bool) → T (not a) → T (a && b) → ⊥
    not_both true b g h = g
    not_both false b g h = h

    go : (w : View) → view n ≡ w → ViewedAs n w → Good n → T (eqb (kind n) K.protocol_list && eqb (count n) 1) → OnlyMember n
    go (named x) e v = rw v (λ g h. absurd h)
    go (listed es) e v = rw v (λ g h. absurd h)
    go (with_params q) e v = rw v.3 (λ g h. absurd h)
    go (under i) e v = rw v.1 (λ g h. absurd h)
    go (composed ps) e v = rw v (λ g h. only_in ps g.1 h)
    go other e v = λ g h. absurd (not_both (eqb (kind n) K.protocol_list) (eqb (count n) 1) v.1 h)

pub protocol_in_sim : (n : Node) → Good n → Sim IsProtocol entry_of (R.protocol_in n) (C.protocol_in (entry_of n))
unfolding C.protocol_in size count kind nominal_kind view
protocol_in_sim n g =
    rw (protocol_in_is n)
    (if_sim (K.is_protocol (kind n)) (λ h. ret_sim n (eqb→eq (kind n) K.protocol h, protocol_count n h)) λ _.
    if_sim (eqb (kind n) K.protocol_list && eqb (count n) 1) (λ h. let o = only_member n g h in rw o.entry_is (ret_sim (the_member n) o.is_protocol)) λ _.
    if_sim (K.is_identifier (kind n)) (λ _. bind _ _ context_sim λ c _. ret_sim (Nominal N.Protocol c (the_name n)) (refl, refl)) (λ _. refuse_sim 10))

pub protocol_sim : Sim IsProtocol entry_of R.protocol C.protocol
unfolding R.protocol C.protocol
protocol_sim = bind _ _ pop_sim λ n g. protocol_in_sim n g

pub side_sim : Sim Good entry_of R.function_params C.side
unfolding R.function_params C.side size count kind view many
side_sim = bind _ _ (took_sim K.empty_list) λ b _. if_sim b (λ _. ret_sim (Tuple nil) (tt, tt)) (λ _. pop_if_sim K.is_type)

-- LISTS: of what is taken the check keeps the number and the sum of the sizes
abbrev pub tally : Nodes → Taken
tally es = taken (sizes es) (many es) false

pub elements_sim : (f : ℕ) (es : Nodes) → Sim {A = Nodes} Any tally (R.elements f es) (C.elements_from f (tally es))
unfolding R.elements C.elements_from size many
elements_sim zero es = refuse_sim 10
elements_sim (suc f) es =
    bind _ _ (took_sim K.first_element_marker) λ first _. bind _ _ (took_sim K.variadic_marker) λ _ _. bind _ _ (try_sim K.is_identifier) λ l _. bind _ _ (pop_if_sim K.is_type) λ t _.
    if_sim first (λ _. ret_sim (cons (R.label_of l) t es) tt) (λ _. elements_sim f (cons (R.label_of l) t es))

pub members_sim : (f : ℕ) (ps : Nodes) → Members ps → Sim Members tally (R.members f ps) (C.members_from f (tally ps))
unfolding R.members C.members_from size many
members_sim zero ps g = refuse_sim 10
members_sim (suc f) ps g =
    bind _ _ (took_sim K.first_element_marker) λ first _. bind _ _ protocol_sim λ p h.
    if_sim first (λ _. ret_sim (cons none p ps) (h, g)) (λ _. members_sim f (cons none p ps) (h, g))

pub arguments_sim : (f : ℕ) (es : Nodes) → Sim {A = Nodes} Any tally (R.arguments f es) (C.arguments_from f (tally es))
unfolding R.arguments C.arguments_from size many
arguments_sim zero es = refuse_sim 10
arguments_sim (suc f) es =
    bind _ _ (try_sim K.is_type) λ o g.
    given_sim _ o g (bind _ _ (took_sim K.empty_list) λ b _. if_sim b (λ _. ret_sim es tt) (λ _. bind _ _ (pop_if_sim (eqb K.first_element_marker)) λ _ _. arguments_sim f es))
    (λ n _. arguments_sim f (cons none n es))

pub requirements_sim : (f : ℕ) (es : Nodes) → Sim {A = Nodes} Any tally (R.requirements f es) (C.requirements_from f (tally es))
unfolding R.requirements C.requirements_from size many
requirements_sim zero es = ret_sim es tt
requirements_sim (suc f) es = bind _ _ (try_sim K.is_requirement) λ o g. given_sim _ o g (ret_sim es tt) (λ n _. requirements_sim f (cons none n es))

-- LABELS
pub label_in_sim : (n : Node) → Sim {A = Option Name} {B = Done} Any dropped (R.label_in n) (C.label_in (entry_of n))
unfolding C.label_in
label_in_sim n = rw (label_in_is n) (if_sim (K.is_identifier (kind n)) (λ _. ret_sim _ tt) λ _. if_sim (eqb (kind n) K.first_element_marker) (λ _. ret_sim _ tt) (λ _. refuse_sim 10))

pub labels_from_sim : (k : ℕ) (ls : List (Option Name)) → Sim {A = List (Option Name)} {B = Done} Any dropped (R.labels_from k ls) (C.labels_from k)
unfolding R.labels_from C.labels_from
labels_from_sim zero ls = ret_sim ls tt
labels_from_sim (suc k) ls = bind _ _ pop_sim λ n _. bind _ _ (label_in_sim n) λ l _. labels_from_sim k (l ∷ ls)

-- what the step of the trees makes of its value is dropped by the check
then_ret : {A C : Type 0} {s : Run A} {e : Check Done} (h : A → C) → Sim {A = A} Any dropped s e → Sim {A = C} Any dropped (s >>= λ a. ret (h a)) e
then_ret {A} {C} {s} {e} h t = record { at = λ m i. go (s m) (e (shapes m)) (t.at m i) }
  where
    go : (x : Out Demangler A) (y : Out Shapes Done) → Sound {A = A} Any dropped x y → Sound {A = C} Any dropped (and_then x (λ a. ret (h a))) y
    go (ok a m) y u = (u.0, tt, u.2)
    go (refused r) y u = u

-- after the test for the empty list: as many labels as the type has parameters
pub labels_sim : (n : ℕ) (empty : Bool) →
    Sim {A = Labels} {B = Done} Any dropped (if empty then ret (some []) else if eqb n 0 then ret none else (R.labels_from n [] >>= λ ls. ret (some ls))) (if empty then ret tt else C.labels_from n)
unfolding C.labels_from
labels_sim n empty = if_sim empty (λ _. ret_sim _ tt) (λ _. go n)
  where
    go : (n : ℕ) → Sim {A = Labels} {B = Done} Any dropped (if eqb n 0 then ret none else (R.labels_from n [] >>= λ ls. ret (some ls))) (C.labels_from n)
    go zero = ret_sim none tt
    go (suc n) = rw (eqb-suc-zero n) (then_ret some (labels_from_sim (suc n) []))

-- SIGNATURES
-- a type that is not a generic type requires the labels of its own parameters
arity_plain : (t : Node) → Good t → R.arity t ≡ R.arity_of t
arity_plain t g = rw (arity_is t, failed (eqb (kind t) K.generic_type) g.0) refl

-- the type under a signature that was taken, or alone: the number of labels that it requires, and
-- its size by what the check took
pub record UnderSignature (o : Option Node) (t : Node) (z : ℕ) (ty : Node) : Type 0 where
  pub arity_is : R.arity ty ≡ R.arity_of t
  pub size_is : size ty + z ≡ size t + (C.add_signature (entry_if o) (taken z 0 false)).size

pub under_signature_sim : (o : Option Node) (t : Node) (z : ℕ) → Good t →
    Sim {A = Node} {B = Done} (UnderSignature o t z) dropped (R.under_signature o t) (if (C.add_signature (entry_if o) (taken z 0 false)).signed then wrap else ret tt)
unfolding R.under_signature R.arity C.add_signature size kind view inner_of
under_signature_sim none t z g = ret_sim t (record { arity_is = arity_plain t g; size_is = refl })
under_signature_sim (some s) t z g = then_ret_as wrap_sim
  where
    then_ret_as : Sim {A = Done} Any itself wrap wrap → Sim {A = Node} {B = Done} (UnderSignature (some s) t z) dropped (wrap >>= λ _. ret (GenericType s t)) wrap
    then_ret_as h = record { at = λ m i. go (wrap m) (wrap (shapes m)) (h.at m i) }
      where
        go : (x : Out Demangler Done) (y : Out Shapes Done) → Sound {A = Done} Any itself x y → Sound {A = Node} {B = Done} (UnderSignature (some s) t z) dropped (and_then x (λ _. ret (GenericType s t))) y
        go (ok a m) y u = (u.0, record { arity_is = refl; size_is = omega arith }, u.2)
        go (refused r) y u = u
