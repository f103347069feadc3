-- A run refuses only with a number from 6 to 10, in the reading and in the check. Proved for the
-- letters, which both share, and for the table of the check; it holds for the reading because the
-- runs are alike.
use Rattle.std.specs.Prelude.{if◌then◌else◌}
use mathlib.Core.Path.{◌≡◌, ap, ◌∙◌, subst}
use mathlib.Core.Bool.{Bool, true, false, ◌&&◌, not}
use mathlib.Core.List.{List, [], ◌∷◌}
use mathlib.Core.Option.{Option, some, none}
use Prim.Native.Nat.{ℕ, zero, suc, ◌+◌, ◌*◌, ◌-◌, ◌^◌, ◌≤◌}
use Prim.Native.Char.{Char, code}
use Prim.Native.String.{String}
use lib.Dec.{T, eqb, ltb, leb, leb→le}
use lib.ListN.{length, take, drop, get_elem?}
use Rattle.definition.specs.Base.{is, digit, lower, upper, pick, given, Out, ok, refused, Step, Done, ret, refuse, or_refuse, unless, and_then, ◌>>=◌, ◌>>◌, Late, good, bad}
use Rattle.definition.specs.Text.{Text, Lex, param, peek, next, next_if, checked, digits, natural, index, index_plus_one, depth_and_index, generic_param_index, well_formed}
use Rattle.definition.specs.Words.{take_bytes, literal}
use Rattle.definition.specs.Kind as K
use Rattle.definition.specs.Kind.{Entry}
use Rattle.definition.specs.Operators as Op
use Rattle.definition.specs.Operators.{Operator}
use Rattle.definition.specs.Budget as B
use Rattle.definition.specs.Budget.{Budget}
use Rattle.definition.specs.Machine as M
use Rattle.definition.specs.Machine.{fresh, spent, spend, wrap, know, remember, recall, push, push_copies, rounds}
use Rattle.definition.specs.Shape as C
use Rattle.definition.specs.Shape.{Shapes, Check, kind_of, Take, Leaves, Taken, Row}
use Rattle.definition.specs.Reading as R
use Rattle.definition.specs.Check as Ch
use Rattle.definition.specs.Calls.{End, ran, stopped, then_run, turn, turns}
use Rattle.definition.proofs.SameText.{both, both_pass}
use Rattle.definition.proofs.Simulation.{Any}
use Rattle.definition.proofs.JudgingAlike.{shapes_end, runs_alike}

-- the numbers that a run refuses with
abbrev pub InRun : ℕ → Type 0
InRun r = (6 ≤ r) × (r ≤ 10)

-- the same as a test
abbrev in_run : ℕ → Bool
in_run r = leb 6 r && leb r 10

-- THE RESULT OF A STEP: Q holds for its value, or it is refused with such a number
module _ {S A : Type 0} (Q : A → Type 0) where
  abbrev Result : Out S A → Type 0
  Result (ok a s) = Q a
  Result (refused r) = T (in_run r)

  record Fine (e : Step S A) : Type 0 where
    at : (s : S) → Result (e s)

module _ {S A B : Type 0} {Q : A → Type 0} {R : B → Type 0} where
  bind_result : (x : Out S A) (k : A → Step S B) → Result Q x → ((a : A) → Q a → Fine R (k a)) → Result R (and_then x k)
  bind_result (ok a s) k h c = (c a h).at s
  bind_result (refused r) k h c = h

  bind : {e : Step S A} (k : A → Step S B) → Fine Q e → ((a : A) → Q a → Fine R (k a)) → Fine R (e >>= k)
  bind {e = e} k h c = record { at = λ s. bind_result (e s) k (h.at s) c }

module _ {S A : Type 0} {Q : A → Type 0} where
  ret_fine : (a : A) → Q a → Fine {S = S} Q (ret a)
  ret_fine a q = record { at = λ s. q }

  refuse_fine : (r : ℕ) → T (in_run r) → Fine {S = S} Q (refuse r)
  refuse_fine r h = record { at = λ s. h }

  if_fine : {e e' : Step S A} (b : Bool) → Fine Q e → Fine Q e' → Fine Q (if b then e else e')
  if_fine true h k = h
  if_fine false h k = k

  -- the same, where the definition has an `elim`
  either_fine : {e e' : Step S A} (b : Bool) → Fine Q e → Fine Q e' → Fine {S = S} Q (elim b [ true ↦ e | false ↦ e' ])
  either_fine true h k = h
  either_fine false h k = k

  given_fine : {B : Type 0} (o : Option B) {e : Step S A} {k : B → Step S A} → Fine Q e → ((b : B) → Fine Q (k b)) → Fine Q (given o e k)
  given_fine none h c = h
  given_fine (some b) h c = c b

-- the same for two outcomes
module _ {S A : Type 0} (Q : A → Type 0) where
  if_result : (b : Bool) (x y : Out S A) → Result Q x → Result Q y → Result Q (if b then x else y)
  if_result true x y h k = h
  if_result false x y h k = k

  either_result : (b : Bool) (x y : Out S A) → Result Q x → Result Q y → Result {S = S} Q (elim b [ true ↦ x | false ↦ y ])
  either_result true x y h k = h
  either_result false x y h k = k

unless_fine : {S : Type 0} (r : ℕ) → T (in_run r) → (b : Bool) → Fine {S = S} Any (unless r b)
unless_fine r h true = record { at = λ s. tt }
unless_fine r h false = record { at = λ s. h }

-- LETTERS AND NUMBERS IN THE TEXT
next_fine : Fine Any next
unfolding next
next_fine = record { at = go }
  where
    go : (t : Text) → Result {A = ℕ} Any (next t)
    go [] = tt
    go (b ∷ t) = tt

next_if_fine : (p : ℕ → Bool) → Fine Any (next_if p)
unfolding next_if
next_if_fine p = record { at = go }
  where
    go : (t : Text) → Result {A = Bool} Any (next_if p t)
    go [] = tt
    go (b ∷ t) = either_result Any (p b) _ _ tt tt

checked_fine : (n : ℕ) → Fine Any (checked n)
checked_fine n = bind _ (unless_fine 9 tt (ltb n (2 ^ 64))) λ _ _. ret_fine n tt

digits_fine : (value : ℕ) → Fine Any (digits value)
unfolding digits
digits_fine value = record { at = go value }
  where
    go : (value : ℕ) (t : Text) → Result {A = ℕ} Any (digits value t)
    go value [] = tt
    go value (c ∷ t) = either_result Any (digit c) _ _ (either_result Any (ltb (value * 10 + (c - 48)) (2 ^ 64)) _ _ (go (value * 10 + (c - 48)) t) tt) tt

natural_fine : Fine Any natural
unfolding natural
natural_fine = record { at = λ t. (bind {R = Any} _ (unless_fine 9 tt (peek digit t)) (λ _ _. digits_fine 0)).at t }

index_fine : Fine Any index
unfolding index
index_fine =
    bind _ (next_if_fine (is "_")) λ first _. either_fine first (ret_fine 0 tt)
    (bind _ natural_fine λ n _. bind _ (next_if_fine (is "_")) λ closed _. bind _ (unless_fine 9 tt closed) λ _ _. checked_fine (n + 1))

index_plus_one_fine : Fine Any index_plus_one
unfolding index_plus_one
index_plus_one_fine = bind _ index_fine λ i _. checked_fine (i + 1)

depth_and_index_fine : Fine Any depth_and_index
unfolding depth_and_index
depth_and_index_fine = bind _ index_plus_one_fine λ d _. bind _ index_fine λ i _. ret_fine (param d i) tt

generic_param_index_fine : Fine Any generic_param_index
unfolding generic_param_index
generic_param_index_fine =
    bind _ (next_if_fine (is "d")) λ d _. either_fine d depth_and_index_fine
    (bind _ (next_if_fine (is "z")) λ z _. either_fine z (ret_fine (param 0 0) tt) (bind _ index_plus_one_fine λ i _. ret_fine (param 0 i) tt))

-- IDENTIFIERS
take_bytes_fine : (n : ℕ) → Fine Any (take_bytes n)
unfolding take_bytes
take_bytes_fine n = record { at = λ t. either_result Any (leb n (length t)) _ _ tt tt }

literal_fine : (punycoded : Bool) → Fine Any (literal punycoded)
unfolding literal
literal_fine punycoded =
    bind _ natural_fine λ count _. bind _ (unless_fine 9 tt (ltb 0 count)) λ _ _. bind _ (if_fine punycoded (next_if_fine (is "_")) (ret_fine false tt)) λ _ _.
    bind _ (take_bytes_fine count) λ slice _. bind _ (unless_fine 9 tt (well_formed slice)) λ _ _. ret_fine slice tt

word_letters_fine : (words : ℕ) (empty : Bool) → Fine Any (Ch.word_letters words empty)
unfolding Ch.word_letters
word_letters_fine words empty = record { at = go empty }
  where
    go : (empty : Bool) (t : Text) → Result {A = Ch.Spelled} Any (Ch.word_letters words empty t)
    go empty [] = tt
    go empty (c ∷ t) =
        either_result Any (lower c) _ _ (either_result Any (ltb (c - code "a") words) _ _ (go false t) tt)
        (either_result Any (upper c) _ _ (either_result Any (ltb (c - code "A") words) _ _ tt tt) tt)

identifier_from_fine : (f : ℕ) (subs punycoded : Bool) (words : ℕ) (empty : Bool) → Fine Any (Ch.identifier_from f subs punycoded words empty)
unfolding Ch.identifier_from
identifier_from_fine zero subs punycoded words empty = refuse_fine 9 tt
identifier_from_fine (suc f) subs punycoded words empty =
    bind _ (if_fine subs (word_letters_fine words empty) (ret_fine (Ch.spelled empty false) tt)) λ s _. bind _ (next_if_fine (is "0")) λ closed _.
    if_fine closed (ret_fine (Ch.identified s.empty words) tt)
    (bind _ (literal_fine punycoded) λ slice _. if_fine s.more (identifier_from_fine f true punycoded _ _) (ret_fine _ tt))

identifier_fine : (words : ℕ) → Fine Any (Ch.identifier words)
unfolding Ch.identifier
identifier_fine words = record { at = λ t. (whole t).at t }
  where
    whole : (t : Text) → Fine Any
        (next_if (is "0") >>= λ a. (if a then next_if (is "0") else ret false) >>= λ b. Ch.identifier_from (suc (length t)) (a && not b) b words true >>= λ r. unless 9 (not r.empty) >> ret r)
    whole t =
        bind _ (next_if_fine (is "0")) λ a _. bind _ (if_fine a (next_if_fine (is "0")) (ret_fine false tt)) λ b _.
        bind _ (identifier_from_fine (suc (length t)) (a && not b) b words true) λ r _. bind _ (unless_fine 9 tt (not r.empty)) λ _ _. ret_fine r tt

-- THE MACHINE OF THE CHECK
spend_fine : {s : Step Budget Done} → Fine Any s → Fine {S = Shapes} Any (spend s)
unfolding spend
spend_fine {s} h = record { at = λ m. go m (s m.budget) (h.at m.budget) }
  where
    go : (m : Shapes) (x : Out Budget Done) → Result {A = Done} Any x → Result {A = Done} Any (spent x m)
    go m (ok u b) k = tt
    go m (refused r) k = k

step_fine : Fine {S = Shapes} Any (spend B.step)
unfolding B.step
step_fine = spend_fine (record { at = λ b. if_result Any (ltb b.steps B.most_steps) _ _ tt tt })

charge_fine : (N n : ℕ) → Fine {S = Shapes} Any (spend (B.charge N n))
unfolding B.charge
charge_fine N n = spend_fine (record { at = λ b. if_result Any (leb (b.total + n) N) _ _ tt tt })

wrap_fine : Fine {S = Shapes} Any wrap
unfolding wrap B.wrap
wrap_fine = spend_fine (record { at = λ b. if_result Any (ltb b.wraps B.most_wraps) _ _ tt tt })

remember_fine : (e : Entry) → Fine {S = Shapes} Any (remember e)
unfolding remember
remember_fine e = record { at = λ m. tt }

push_fine : (e : Entry) → Fine {S = Shapes} Any (push e)
unfolding push
push_fine e = record { at = λ m. tt }

recall_fine : (i : ℕ) → Fine {S = Shapes} Any (recall i)
unfolding recall
recall_fine i = record { at = λ m. go m (get_elem? m.substitutions i) }
  where
    go : (m : Shapes) (o : Option Entry) → Result {A = Entry} Any (given o (refused 9) (λ n. ok n m))
    go m none = tt
    go m (some e) = tt

rounds_fine : Fine {S = Shapes} Any rounds
unfolding rounds
rounds_fine = record { at = λ m. tt }

pop_if_fine : (want : ℕ → Bool) → Fine Any (C.pop_if want)
unfolding M.pop_if M.pop_from
pop_if_fine want = record { at = λ m. go m m.stack }
  where
    go : (m : Shapes) (es : List Entry) → Result {A = Entry} Any (M.pop_from kind_of want es m)
    go m [] = tt
    go m (e ∷ es) = if_result Any (want e.kind) _ _ tt tt

pop_fine : Fine {S = Shapes} Any (M.pop kind_of)
unfolding M.pop
pop_fine = pop_if_fine (λ k. true)

try_fine : (want : ℕ → Bool) → Fine Any (C.try want)
unfolding M.try M.try_from
try_fine want = record { at = λ m. go m m.stack }
  where
    go : (m : Shapes) (es : List Entry) → Result {A = Option Entry} Any (M.try_from kind_of want es m)
    go m [] = tt
    go m (e ∷ es) = if_result Any (want e.kind) _ _ tt tt

took_fine : (k : ℕ) → Fine Any (C.took k)
unfolding M.took
took_fine k = bind _ (try_fine (eqb k)) λ o _. ret_fine _ tt

-- WHAT A ROW CAN TAKE
pop_name_fine : Fine Any C.pop_name
unfolding C.pop_name C.name_in
pop_name_fine = bind _ pop_fine λ e _. if_fine (K.is_identifier e.kind) (ret_fine tt tt) (refuse_fine 10 tt)

context_fine : Fine Any C.context
unfolding C.context C.context_in
context_fine = bind _ pop_fine λ e _. if_fine (K.is_identifier e.kind) (ret_fine _ tt) (if_fine (K.is_context e.kind) (ret_fine e tt) (refuse_fine 10 tt))

protocol_fine : Fine Any C.protocol
unfolding C.protocol C.protocol_in
protocol_fine = bind _ pop_fine λ e _.
    if_fine (K.is_protocol e.kind) (ret_fine e tt)
    (if_fine (eqb e.kind K.protocol_list && eqb e.count 1) (ret_fine _ tt)
    (if_fine (K.is_identifier e.kind) (bind _ context_fine λ c _. ret_fine _ tt) (refuse_fine 10 tt)))

side_fine : Fine Any C.side
unfolding C.side
side_fine = bind _ (took_fine K.empty_list) λ empty _. if_fine empty (ret_fine _ tt) (pop_if_fine K.is_type)

elements_fine : (f : ℕ) (a : Taken) → Fine Any (C.elements_from f a)
unfolding C.elements_from
elements_fine zero a = refuse_fine 10 tt
elements_fine (suc f) a =
    bind _ (took_fine K.first_element_marker) λ first _. bind _ (took_fine K.variadic_marker) λ _ _. bind _ (try_fine K.is_identifier) λ _ _.
    bind _ (pop_if_fine K.is_type) λ e _. if_fine first (ret_fine _ tt) (elements_fine f (C.add_counted e a))

members_fine : (f : ℕ) (a : Taken) → Fine Any (C.members_from f a)
unfolding C.members_from
members_fine zero a = refuse_fine 10 tt
members_fine (suc f) a = bind _ (took_fine K.first_element_marker) λ first _. bind _ protocol_fine λ e _. if_fine first (ret_fine _ tt) (members_fine f (C.add_counted e a))

arguments_fine : (f : ℕ) (a : Taken) → Fine Any (C.arguments_from f a)
unfolding C.arguments_from
arguments_fine zero a = refuse_fine 10 tt
arguments_fine (suc f) a =
    bind _ (try_fine K.is_type) λ o _. given_fine o
    (bind _ (took_fine K.empty_list) λ opened _. if_fine opened (ret_fine a tt) (bind _ (pop_if_fine (eqb K.first_element_marker)) λ _ _. arguments_fine f a))
    (λ e. arguments_fine f (C.add_counted e a))

requirements_fine : (f : ℕ) (a : Taken) → Fine Any (C.requirements_from f a)
unfolding C.requirements_from
requirements_fine zero a = ret_fine a tt
requirements_fine (suc f) a = bind _ (try_fine K.is_requirement) λ o _. given_fine o (ret_fine a tt) (λ e. requirements_fine f (C.add_counted e a))

label_fine : (e : Entry) → Fine Any (C.label_in e)
unfolding C.label_in
label_fine e = if_fine (K.is_identifier e.kind) (ret_fine tt tt) (if_fine (eqb e.kind K.first_element_marker) (ret_fine tt tt) (refuse_fine 10 tt))

labels_fine : (k : ℕ) → Fine Any (C.labels_from k)
unfolding C.labels_from
labels_fine zero = ret_fine tt tt
labels_fine (suc k) = bind _ pop_fine λ e _. bind _ (label_fine e) λ _ _. labels_fine k

-- ROWS. A letter that is refused late puts its number into the row, and the row refuses with it
abbrev late_in_run : {A : Type 0} → Late A → Bool
late_in_run (good a) = true
late_in_run (bad r) = in_run r

abbrev take_in_run : Take → Bool
take_in_run C.wraps = true
take_in_run (C.a_node want) = true
take_in_run C.a_name = true
take_in_run C.a_context = true
take_in_run C.a_protocol = true
take_in_run (C.marker k) = true
take_in_run C.qualifier = true
take_in_run C.params = true
take_in_run C.result = true
take_in_run C.a_labelled_type = true
take_in_run C.labels = true
take_in_run C.a-signature = true
take_in_run C.under_signature = true
take_in_run C.elements = true
take_in_run C.members = true
take_in_run C.arguments = true
take_in_run C.requirements = true
take_in_run (C.refuses r) = in_run r
take_in_run C.printed_ahead = true

abbrev takes_in_run : List Take → Bool
takes_in_run [] = true
takes_in_run (t ∷ ts) = take_in_run t && takes_in_run ts

abbrev row_in_run : Row → Bool
row_in_run (C.recalls cs l) = late_in_run l
row_in_run (C.rule ts l) = takes_in_run ts

taking_fine : (ts : List Take) (a : Taken) (k : Taken → Check Done) → T (takes_in_run ts) → ((a' : Taken) → Fine Any (k a')) → Fine Any (C.taking ts a k)
unfolding C.taking
taking_fine [] a k h c = c a
taking_fine (C.wraps ∷ ts) a k h c = bind _ wrap_fine λ _ _. taking_fine ts a k h c
taking_fine (C.a_node want ∷ ts) a k h c = bind _ (pop_if_fine want) λ e _. taking_fine ts _ k h c
taking_fine (C.a_name ∷ ts) a k h c = bind _ pop_name_fine λ _ _. taking_fine ts a k h c
taking_fine (C.a_context ∷ ts) a k h c = bind _ context_fine λ e _. taking_fine ts _ k h c
taking_fine (C.a_protocol ∷ ts) a k h c = bind _ protocol_fine λ e _. taking_fine ts _ k h c
taking_fine (C.marker m ∷ ts) a k h c = bind _ (took_fine m) λ _ _. taking_fine ts a k h c
taking_fine (C.qualifier ∷ ts) a k h c = bind _ (try_fine K.is_protocol) λ _ _. taking_fine ts a k h c
taking_fine (C.params ∷ ts) a k h c = bind _ side_fine λ e _. taking_fine ts _ k h c
taking_fine (C.result ∷ ts) a k h c = bind _ side_fine λ e _. taking_fine ts _ k h c
taking_fine (C.a_labelled_type ∷ ts) a k h c = bind _ (pop_if_fine K.is_type) λ e _. taking_fine ts _ k h c
taking_fine (C.labels ∷ ts) a k h c =
    bind _ (took_fine K.empty_list) λ empty _. bind {Q = Any} _ (if_fine empty (ret_fine tt tt) (labels_fine a.count)) λ _ _. taking_fine ts a k h c
taking_fine (C.a-signature ∷ ts) a k h c = bind _ (try_fine (eqb K.generic_signature)) λ o _. taking_fine ts _ k h c
taking_fine (C.under_signature ∷ ts) a k h c = bind _ (if_fine a.signed wrap_fine (ret_fine tt tt)) λ _ _. taking_fine ts a k h c
taking_fine (C.elements ∷ ts) a k h c =
    bind _ (took_fine K.empty_list) λ empty _. bind _ rounds_fine λ f _. bind _ (if_fine empty (ret_fine a tt) (elements_fine f a)) λ es _. taking_fine ts es k h c
taking_fine (C.members ∷ ts) a k h c =
    bind _ (took_fine K.empty_list) λ empty _. bind _ rounds_fine λ f _. bind _ (if_fine empty (ret_fine a tt) (members_fine f a)) λ ps _. taking_fine ts ps k h c
taking_fine (C.arguments ∷ ts) a k h c = bind _ rounds_fine λ f _. bind _ (arguments_fine f a) λ args _. taking_fine ts args k h c
taking_fine (C.requirements ∷ ts) a k h c = bind _ rounds_fine λ f _. bind _ (requirements_fine f a) λ rs _. taking_fine ts rs k h c
taking_fine (C.refuses r ∷ ts) a k h c = refuse_fine r (both (in_run r) (takes_in_run ts) h).0
taking_fine (C.printed_ahead ∷ ts) a k h c = taking_fine ts _ k h c

module _ (N : ℕ) where
  copied_fine : (times : ℕ) (e : Entry) → Fine Any (C.copied N times e)
  unfolding C.copied push_copies
  copied_fine times e = bind _ (charge_fine N (e.size * times)) λ _ _. record { at = λ m. tt }

  leave_fine : (l : Leaves) (a : Taken) → Fine Any (C.leave N l a)
  unfolding C.leave
  leave_fine l a = bind _ (if_fine l.remembered (remember_fine _) (ret_fine tt tt)) λ _ _. given_fine l.copies (push_fine _) (λ times. copied_fine times _)

  recalled_fine : (cs : List Op.Substitution) (l : Late Done) → T (late_in_run l) → Fine Any (C.recalled N cs l)
  unfolding C.recalled
  recalled_fine [] (good x) h = ret_fine x tt
  recalled_fine [] (bad r) h = refuse_fine r h
  recalled_fine (c ∷ cs) l h = bind _ (recall_fine c.index) λ e _. bind _ (copied_fine c.times e) λ _ _. recalled_fine cs l h

  row_fine : (r : Row) → T (row_in_run r) → Fine Any (C.run_row N r)
  unfolding C.run_row
  row_fine (C.recalls cs l) h = recalled_fine cs l h
  row_fine (C.rule ts l) h = taking_fine ts _ (C.leave N l) h (leave_fine l)

-- THE LETTERS OF THE OPERATORS. What is known about an operator that was read: a number in its row
-- is such a number
abbrev Carries : Operator → Type 0
Carries op = T (row_in_run (C.row op))

abbrev CarriesLate : {A : Type 0} → Late A → Type 0
CarriesLate l = T (late_in_run l)

-- Q holds for each entry of a table, and so for the one that is picked
module _ {A : Type 0} (Q : A → Type 0) where
  abbrev IfSome : Option A → Type 0
  IfSome none = Unit {0}
  IfSome (some a) = Q a

  record Each (table : List (Char × A)) : Type 0 where
    picked : (b : ℕ) → IfSome (pick b table)

module _ {A : Type 0} {Q : A → Type 0} where
  -- the entries of a table, one by one
  end : Each Q []
  unfolding pick
  end = record { picked = λ b. tt }

  infixr 20 ◌and◌
  ◌and◌ : {e : Char × A} {es : List (Char × A)} → Q e.1 → Each Q es → Each Q (e ∷ es)
  unfolding pick
  ◌and◌ {e} {es} h k = record { picked = λ b. go (is e.0 b) (pick b es) (k.picked b) }
    where
      go : (b : Bool) (o : Option A) → IfSome Q o → IfSome Q (elim b [ true ↦ some e.1 | false ↦ o ])
      go true o j = h
      go false o j = j

  or_refuse_fine : (o : Option A) → IfSome Q o → Fine {S = Text} Q (or_refuse 9 o)
  or_refuse_fine none h = refuse_fine 9 tt
  or_refuse_fine (some a) h = ret_fine a h

  choose_fine : {table : List (Char × A)} → Each Q table → Fine Q (Op.choose table)
  unfolding Op.choose
  choose_fine {table} h = bind _ next_fine λ c _. or_refuse_fine (pick c table) (h.picked c)

choose_then_fine : {A : Type 0} {Q : A → Type 0} {table : List (Char × Lex A)} → Each (Fine Q) table → Fine Q (Op.choose_then table)
unfolding Op.choose_then
choose_then_fine h = bind _ (choose_fine h) λ m k. k

-- any entry
pick_fine : {A : Type 0} (b : ℕ) (table : List (Char × A)) → Fine {S = Text} Any (or_refuse 9 (pick b table))
pick_fine b table = or_refuse_fine (pick b table) (go (pick b table))
  where
    go : {A : Type 0} (o : Option A) → IfSome {A = A} Any o
    go none = tt
    go (some a) = tt

-- the result of an entry of a table; it computes if the entry reads no more of the text
abbrev out_in_run : Out Text Operator → Bool
out_in_run (ok op u) = row_in_run (C.row op)
out_in_run (refused r) = in_run r

abbrev outs_in_run : List (Char × Lex Operator) → Text → Bool
outs_in_run [] t = true
outs_in_run (e ∷ es) t = out_in_run (e.1 t) && outs_in_run es t

tested : (x : Out Text Operator) → T (out_in_run x) → Result Carries x
tested (ok op u) h = h
tested (refused r) h = h

-- the first n entries, which read no more, by one test
plain : (n : ℕ) (table : List (Char × Lex Operator)) → ((t : Text) → T (outs_in_run (take n table) t)) → Each (Fine Carries) (drop n table) → Each (Fine Carries) table
plain zero table h k = k
plain (suc n) [] h k = k
plain (suc n) (e ∷ es) h k =
    let split : (t : Text) → T (out_in_run (e.1 t)) × T (outs_in_run (take n es) t) = λ t. both (out_in_run (e.1 t)) (outs_in_run (take n es) t) (h t) in
    record { at = λ t. tested (e.1 t) (split t).0 } and plain n es (λ t. (split t).1) k

choose_late_fine : {A : Type 0} (table : List (Char × A)) → Fine CarriesLate (Op.choose_late table)
unfolding Op.choose_late
choose_late_fine {A} table = record { at = go }
  where
    late : (o : Option A) → CarriesLate (given o (bad 9) good)
    late none = tt
    late (some a) = tt

    go : (t : Text) → Result CarriesLate (Op.choose_late table t)
    go [] = tt
    go (c ∷ t) = late (pick c table)

-- `A`
substitutions_from_fine : (f : ℕ) (repeat : Option ℕ) (done : List Op.Substitution) (t : Text) → Result Carries (Op.substitutions_from f repeat done t)
unfolding Op.substitutions_from C.row
substitutions_from_fine zero repeat done t = tt
substitutions_from_fine (suc f) repeat done [] = tt
substitutions_from_fine (suc f) repeat done (c ∷ t) =
    either_result Carries (lower c) _ _ (substitutions_from_fine f none _ t)
    (either_result Carries (upper c) _ _ tt (either_result Carries (is "_" c) _ _ tt (number (natural (c ∷ t)) (natural_fine.at (c ∷ t)) (λ n u. substitutions_from_fine f (some n) done u))))
  where
    -- a number that is refused is refused late
    number : (x : Out Text ℕ) → Result {A = ℕ} Any x → ((n : ℕ) (u : Text) → Result Carries (Op.substitutions_from f (some n) done u)) →
        Result {S = Text} Carries (elim x [ ok n u ↦ Op.substitutions_from f (some n) done u | refused r ↦ ok (Op.substitutions done (bad r)) t ])
    number (ok n u) h next = next n u
    number (refused r) h next = h

substitutions_letters_fine : Fine Carries Op.substitutions_letters
unfolding Op.substitutions_letters
substitutions_letters_fine = record { at = λ t. substitutions_from_fine (length t) none [] t }

-- `S`
standard_letter_fine : (repeat c : ℕ) → Fine Carries (Op.standard_letter repeat c)
unfolding Op.standard_letter C.row
standard_letter_fine repeat c = either_fine (is "g" c) (ret_fine _ tt) (by_table (pick c Op.standard_modules))
  where
    by_table : (o : Option String) → Fine {S = Text} Carries
        (elim o [ some m ↦ ret (Op.standard repeat (Op.module_named m)) | none ↦ (or_refuse 9 (pick c Op.standard_types) >>= λ s. ret (Op.standard repeat (Op.standard_nominal s.0 s.1))) ])
    by_table none = bind _ (pick_fine c Op.standard_types) λ s _. ret_fine _ tt
    by_table (some m) = ret_fine _ tt

standard_letters_fine : Fine Carries Op.standard_letters
unfolding Op.standard_letters
standard_letters_fine = record {
  at = λ t. (bind {R = Carries} _ (if_fine (peek digit t) natural_fine (ret_fine 1 tt)) (λ repeat _. bind _ (unless_fine 9 tt (ltb 0 repeat && leb repeat B.most_steps)) λ _ _. bind _ next_fine λ c _. standard_letter_fine repeat c)).at t;
}

-- `X`
special_types_fine : Each (Fine Carries) Op.special_types
unfolding Op.special_types C.row
special_types_fine = plain 9 _ (λ t. tt) ((bind _ next_fine λ _ _. ret_fine _ tt) and plain 1 _ (λ t. tt) end)

-- `Y`
async_types_fine : Each Carries Op.async_types
unfolding Op.async_types C.row
async_types_fine = tt and end

-- `Q`
archetypes_fine : Each (Fine Any) Op.archetypes
unfolding Op.archetypes
archetypes_fine = ret_fine _ tt and (bind _ index_plus_one_fine λ i _. ret_fine _ tt) and depth_and_index_fine and end

-- `R`
on_param_fine : Fine Any Op.on_param
unfolding Op.on_param
on_param_fine = bind _ generic_param_index_fine λ p _. ret_fine _ tt

on_member_fine : Fine Any Op.on_member
unfolding Op.on_member
on_member_fine = bind _ generic_param_index_fine λ p _. ret_fine _ tt

letter_carries : {A : Type 0} (l : Late A) → CarriesLate l → T (takes_in_run (C.letter l))
unfolding C.letter
letter_carries (good a) h = tt
letter_carries (bad r) h = both_pass (in_run r) true h tt

requirement_carries : (s : Op.Subject) (c : Op.Constraint) → T (takes_in_run (C.constraint_takes c)) → Carries (Op.requirement s c)
unfolding C.row C.subject_takes
requirement_carries (Op.of_param p) c h = h
requirement_carries Op.of_stack c h = h
requirement_carries (Op.of_member p) c h = h

requiring_fine : {subject : Lex Op.Subject} (c : Op.Constraint) → T (takes_in_run (C.constraint_takes c)) → Fine Any subject → Fine Carries (Op.requiring subject c)
unfolding Op.requiring
requiring_fine c h k = bind _ k λ s _. ret_fine _ (requirement_carries s c h)

requiring_layout_fine : {subject : Lex Op.Subject} → Fine Any subject → Fine Carries (Op.requiring_layout subject)
unfolding Op.requiring_layout C.constraint_takes
requiring_layout_fine h = bind _ h λ s _. bind _ (choose_late_fine Op.layouts) λ l k. ret_fine _ (requirement_carries s (Op.layout l) (letter_carries l k))

requirement_table_fine : Each (Fine Carries) Op.requirements
unfolding Op.requirements C.constraint_takes
requirement_table_fine =
    requiring_fine Op.conforms tt on_member_fine and
    requiring_fine Op.conforms tt (ret_fine _ tt) and
    requiring_fine Op.superclass tt on_param_fine and
    requiring_fine Op.superclass tt (ret_fine _ tt) and
    requiring_fine Op.superclass tt on_member_fine and
    requiring_fine Op.same_type tt on_param_fine and
    requiring_fine Op.same_type tt (ret_fine _ tt) and
    requiring_fine Op.same_type tt on_member_fine and
    requiring_layout_fine on_param_fine and
    requiring_layout_fine (ret_fine _ tt) and
    requiring_layout_fine on_member_fine and
    plain 4 _ (λ t. tt) end

requirement_letters_fine : Fine Carries Op.requirement_letters
unfolding Op.requirement_letters C.constraint_takes
requirement_letters_fine = record { at = go }
  where
    by_table : (c : ℕ) (t : Text) (o : Option (Lex Operator)) → IfSome (Fine Carries) o → Result {S = Text} Carries (elim o [ some m ↦ m t | none ↦ Op.requiring Op.on_param Op.conforms (c ∷ t) ])
    by_table c t none h = (requiring_fine Op.conforms tt on_param_fine).at (c ∷ t)
    by_table c t (some m) h = h.at t

    go : (t : Text) → Result Carries (Op.requirement_letters t)
    go [] = tt
    go (c ∷ t) = by_table c t (pick c Op.requirements) (requirement_table_fine.picked c)

-- `r`
counts_fine : (depths params : ℕ) → Fine Any (Op.counts depths params)
unfolding Op.counts
counts_fine zero params = bind _ (next_if_fine (is "l")) λ closed _. either_fine closed (ret_fine params tt) (refuse_fine 8 tt)
counts_fine (suc depths) params =
    bind _ (next_if_fine (is "l")) λ closed _. either_fine closed (ret_fine params tt)
    (bind _ (next_if_fine (is "z")) λ z _. bind _ (if_fine z (ret_fine 0 tt) index_plus_one_fine) λ n _. counts_fine depths n)

-- `v`
variable_carries : (l : Late (Option String)) → CarriesLate l → Carries (Op.variable l)
unfolding C.row
variable_carries l h = letter_carries l h

-- `f`
function_entities_fine : Each Carries Op.function_entities
unfolding Op.function_entities C.row C.about_row
function_entities_fine = tt and tt and tt and tt and tt and tt and tt and end

-- `M`
context_descriptors_fine : Each Carries Op.context_descriptors
unfolding Op.context_descriptors C.row C.about_row
context_descriptors_fine = tt and tt and tt and end

metatype_records_fine : Each (Fine Carries) Op.metatype_records
unfolding Op.metatype_records C.row C.about_row
metatype_records_fine = plain 20 _ (λ t. tt) (choose_fine context_descriptors_fine and end)

-- `W`
field_offsets_fine : Each Carries Op.field_offsets
unfolding Op.field_offsets C.row C.about_row
field_offsets_fine = tt and tt and end

witnesses_fine : Each (Fine Carries) Op.witnesses
unfolding Op.witnesses C.row C.about_row
witnesses_fine = plain 1 _ (λ t. tt) (choose_fine field_offsets_fine and plain 6 _ (λ t. tt) end)

-- `w`
value_witness_letters_fine : Fine Carries Op.value_witness_letters
unfolding Op.value_witness_letters C.row
value_witness_letters_fine = bind _ next_fine λ a _. bind _ next_fine λ b _. bind _ (pick_fine a Op.value_witnesses) λ row _. bind _ (pick_fine b row) λ kind _. ret_fine _ tt

-- `T`
thunks_fine : Each (Fine Carries) Op.thunks
unfolding Op.thunks Op.suspend_resume C.row C.about_row
thunks_fine = plain 5 _ (λ t. tt) ((bind _ index_fine λ i _. ret_fine _ tt) and plain 10 _ (λ t. tt) end)

operators_fine : Each (Fine Carries) Op.operators
unfolding Op.operators C.row C.about_row
operators_fine =
    substitutions_letters_fine and plain 5 _ (λ t. tt) (
    standard_letters_fine and plain 7 _ (λ t. tt) (
    choose_then_fine special_types_fine and choose_fine async_types_fine and plain 1 _ (λ t. tt) (
    (bind _ generic_param_index_fine λ p _. ret_fine _ tt) and (bind _ (choose_then_fine archetypes_fine) λ p _. ret_fine _ tt) and plain 4 _ (λ t. tt) (
    requirement_letters_fine and plain 1 _ (λ t. tt) (
    (bind _ (counts_fine B.most_wraps 0) λ n _. ret_fine _ tt) and plain 1 _ (λ t. tt) (
    (bind _ (choose_late_fine Op.accessors) λ l h. ret_fine _ (variable_carries l h)) and choose_fine function_entities_fine and plain 1 _ (λ t. tt) (
    choose_then_fine metatype_records_fine and plain 1 _ (λ t. tt) (
    choose_then_fine witnesses_fine and value_witness_letters_fine and choose_then_fine thunks_fine and end))))))))

operator_fine : (c : ℕ) → Fine Carries (Op.operator c)
unfolding Op.operator
operator_fine c = record { at = λ t. go t (pick c Op.operators) (operators_fine.picked c) }
  where
    go : (t : Text) (o : Option (Lex Operator)) → IfSome (Fine Carries) o → Result Carries (given o (refused 9) (λ m. m t))
    go t none h = tt
    go t (some m) h = h.at t

-- TURNS
module _ (N : ℕ) where
  then_run_fine : {A : Type 0} {Q : A → Type 0} (x : Out Text A) (e : A → Check Done) → Result Q x → ((a : A) → Q a → Fine Any (e a)) → Fine Any (then_run x e)
  unfolding then_run
  then_run_fine (ok a u) e h c = bind _ (c a h) λ _ _. ret_fine u tt
  then_run_fine (refused r) e h c = refuse_fine r h

  name_fine : (words : ℕ) → Fine Any (Ch.name N words)
  unfolding Ch.name know remember push
  name_fine words = record { at = λ m. tt }

  one_fine : (t : Text) → Fine Any (Ch.one N t)
  unfolding Ch.one
  one_fine [] = refuse_fine 9 tt
  one_fine (c ∷ t) = either_fine (digit c)
      (record { at = λ m. (then_run_fine (Ch.identifier m.words (c ∷ t)) _ ((identifier_fine m.words).at (c ∷ t)) (λ r _. name_fine r.words)).at m })
      (then_run_fine (Op.operator c t) _ ((operator_fine c).at t) (λ op h. row_fine N (C.row op) h))

  turn_fine : (t : Text) → Fine Any (turn N (Ch.one N) t)
  unfolding turn
  turn_fine t = bind _ step_fine λ _ _. bind _ (charge_fine N 1) λ _ _. one_fine t

  abbrev EndInRun : End Shapes → Type 0
  EndInRun (ran m) = Unit {0}
  EndInRun (stopped r left) = T (in_run r)

  turns_fine : (k : ℕ) (t : Text) (m : Shapes) → EndInRun (turns (turn N (Ch.one N)) k t m)
  unfolding turns
  turns_fine zero t m = tt
  turns_fine (suc k) [] m = tt
  turns_fine (suc k) (c ∷ t) m = go (turn N (Ch.one N) (c ∷ t) m) ((turn_fine (c ∷ t)).at m) (λ u m₁. turns_fine k u m₁)
    where
      go : (x : Out Shapes Text) → Result {A = Text} Any x → ((u : Text) (m₁ : Shapes) → EndInRun (turns (turn N (Ch.one N)) k u m₁)) →
          EndInRun (elim x [ ok u m₁ ↦ turns (turn N (Ch.one N)) k u m₁ | refused r ↦ stopped r (length (c ∷ t)) ])
      go (ok u m₁) h next = next u m₁
      go (refused r) h next = h

-- For any k and any text, a run of the check is refused with a number from 6 to 10
pub check_numbers : (N k : ℕ) (t : Text) (r left : ℕ) → turns (turn N (Ch.one N)) k t (fresh 0) ≡ stopped r left → InRun r
check_numbers N k t r left e =
    let h : T (leb 6 r) × T (leb r 10) = both (leb 6 r) (leb r 10) (subst (λ (x : End Shapes). EndInRun N x) e (turns_fine N k t (fresh 0))) in
    (leb→le 6 r h.0, leb→le r 10 h.1)

-- and so is a run of the reading
pub read_numbers : (N k : ℕ) (t : Text) (r left : ℕ) → turns (turn N (R.one N)) k t (fresh []) ≡ stopped r left → InRun r
read_numbers N k t r left e = check_numbers N k t r left ((runs_alike N k t).end_is ∙ ap (shapes_end N) e)
