-- Demand 3: no text is judged differently by check and reading, whole or stopped after k operators.
use mathlib.Core.Path.{◌≡◌, refl, ap}
use mathlib.Core.Bool.{Bool, true, false, ◌||◌, not}
use mathlib.Core.List.{List, [], ◌∷◌, ◌++◌, map, reverse, reverse_aux}
use mathlib.Core.Option.{Option, some, none}
use Prim.Native.Nat.{ℕ, zero, suc, ◌+◌, ◌*◌, ◌-◌}
use native.Mathlib.Omega.{arith}
use lib.Dec.{T, leb, leb-zero, leb→le, le→leb, not_T}
use lib.ListN.{length}
use Rattle.definition.specs.Base.{Name, digit, given, Out, ok, refused, Done}
use Rattle.definition.specs.Text.{Text, Symbol, suffix_text, ill_formed, split}
use Rattle.definition.specs.Words.{identifier}
use Rattle.definition.specs.Kind as K
use Rattle.definition.specs.Kind.{Entry, entry}
use Rattle.definition.specs.Node.{Node, Identifier, kind, size, count, view, entry_of}
use Rattle.definition.specs.Print.{print}
use Rattle.definition.specs.Operators as Op
use Rattle.definition.specs.Budget as B
use Rattle.definition.specs.Machine.{fresh}
use Rattle.definition.specs.Perform.{Demangler, Run, perform}
use Rattle.definition.specs.Shape.{Shapes, Check, kind_of, row, run_row}
use Rattle.definition.specs.Calls.{Answer, refusal, accepted, within, good_ceiling, admit, reading_needs, check_needs, symbol, whole_text, End, ran, stopped, then_run, turn, turns, ended, all_turns, single, finished, entry_numbers}
use Rattle.definition.specs.Reading as R
use Rattle.definition.specs.Check as C
use Rattle.definition.specs.Alike.{enough, WholeAlike, Demand3}
use Rattle.definition.proofs.SameText.{passed, failed}
use Rattle.definition.proofs.Simulation.{Filled, Inv, shapes, Sound, Sim, Any, itself, bind, ret_sim, refuse_sim, spend_sim, know_sim, remember_sim, push_sim}
use Rattle.definition.proofs.OperatorsAlike.{perform_sim}
use Rattle.definition.proofs.WordsAlike.{Agree, agree_itself, identifier_alike}

-- TURNS
module _ (N : ℕ) where
  then_run_sim : {A B : Type 0} {P : A → Type 0} {f : A → B} (x : Out Text A) (y : Out Text B) (s : A → Run Done) (e : B → Check Done) → Agree P f x y →
      ((a : A) → P a → Sim {A = Done} Any itself (s a) (e (f a))) → Sim {A = Text} Any itself (then_run x s) (then_run y e)
  unfolding then_run
  then_run_sim (ok a u) y s e h c = rw h.0 (bind _ _ (c a h.1) λ _ _. ret_sim u tt)
  then_run_sim (refused r) y s e h c = rw h (refuse_sim r)

  name_sim : (n : Name) (words : List Name) → Filled words → Sim {A = Done} Any itself (R.name N n words) (C.name N (length words))
  unfolding R.name C.name kind size count view
  name_sim n words g = bind _ _ (know_sim words g) λ _ _. bind _ _ (remember_sim (Identifier n) (tt, tt)) λ _ _. push_sim (Identifier n) (tt, tt)

  either_sim : {s s' : Run Text} {e e' : Check Text} (b : Bool) → Sim {A = Text} Any itself s e → Sim {A = Text} Any itself s' e' →
      Sim {A = Text} Any itself (elim b [ true ↦ s | false ↦ s' ]) (elim b [ true ↦ e | false ↦ e' ])
  either_sim true h k = h
  either_sim false h k = k

  one_sim : (t : Text) → Sim {A = Text} Any itself (R.one N t) (C.one N t)
  unfolding R.one C.one
  one_sim [] = refuse_sim 9
  one_sim (c ∷ t) = either_sim (digit c)
      (record {
        at = λ m i. (then_run_sim (identifier m.words (c ∷ t)) (C.identifier (length m.words) (c ∷ t)) (λ r. R.name N r.name r.words) (λ r. C.name N r.words)
            ((identifier_alike m.words i.2).at (c ∷ t)) (λ r g. name_sim r.name r.words g)).at m i;
      })
      (then_run_sim (Op.operator c t) (Op.operator c t) (λ op. perform N op) (λ op. run_row N (row op)) (agree_itself (Op.operator c t)) (λ op _. perform_sim N op))

  turn_sim : (t : Text) → Sim {A = Text} Any itself (turn N (R.one N) t) (turn N (C.one N) t)
  unfolding turn
  turn_sim t = bind _ _ (spend_sim B.step) λ _ _. bind _ _ (spend_sim _) λ _ _. one_sim t

  -- what holds for the machine at the end of a run
  abbrev pub InvEnd : End Demangler → Type 0
  InvEnd (ran m) = Inv m
  InvEnd (stopped r left) = Unit {0}

  -- two runs end alike: with the entries of the trees and the same counts, or with the same refusal
  -- at the same place
  abbrev pub shapes_end : End Demangler → End Shapes
  shapes_end (ran m) = ran (shapes m)
  shapes_end (stopped r left) = stopped r left

  pub record EndAlike (x : End Demangler) (y : End Shapes) : Type 0 where
    pub end_is : y ≡ shapes_end x
    pub kept : InvEnd x

  go_on : (x : Out Demangler Text) (y : Out Shapes Text) (k left : ℕ) → Sound {A = Text} Any itself x y →
      ((u : Text) (m : Demangler) → Inv m → EndAlike (turns (turn N (R.one N)) k u m) (turns (turn N (C.one N)) k u (shapes m))) →
      EndAlike (elim x [ ok u m ↦ turns (turn N (R.one N)) k u m | refused r ↦ stopped r left ]) (elim y [ ok u m ↦ turns (turn N (C.one N)) k u m | refused r ↦ stopped r left ])
  go_on (ok u m) y k left h next = rw h.0 (next u m h.2)
  go_on (refused r) y k left h next = rw h (record { end_is = refl; kept = tt })

  -- for any k and any text
  pub turns_alike : (k : ℕ) (t : Text) (m : Demangler) → Inv m → EndAlike (turns (turn N (R.one N)) k t m) (turns (turn N (C.one N)) k t (shapes m))
  unfolding turns
  turns_alike zero t m i = record { end_is = refl; kept = i }
  turns_alike (suc k) [] m i = record { end_is = refl; kept = i }
  turns_alike (suc k) (c ∷ t) m i = go_on (turn N (R.one N) (c ∷ t) m) (turn N (C.one N) (c ∷ t) (shapes m)) k (length (c ∷ t)) ((turn_sim (c ∷ t)).at m i) (λ u m₁ i₁. turns_alike k u m₁ i₁)

  -- from a fresh machine
  abbrev pub read_turns : ℕ → Text → End Demangler
  read_turns k t = turns (turn N (R.one N)) k t (fresh [])

  abbrev pub check_turns : ℕ → Text → End Shapes
  check_turns k t = turns (turn N (C.one N)) k t (fresh 0)

  pub runs_alike : (k : ℕ) (t : Text) → EndAlike (read_turns k t) (check_turns k t)
  runs_alike k t = turns_alike k t (fresh []) (tt, tt, tt)

-- STOPPED RUNS
map_onto : (s a : List Node) → map entry_of (reverse_aux s a) ≡ reverse_aux (map entry_of s) (map entry_of a)
map_onto [] a = refl
map_onto (n ∷ s) a = map_onto s (n ∷ a)

stopped_alike : (N k : ℕ) (s : Symbol) → R.stopped_after N k s ≡ C.stopped_after N k s
unfolding R.stopped_after C.stopped_after ended
stopped_alike N k s = go (read_turns N k s.body) (check_turns N k s.body) (runs_alike N k s.body)
  where
    go : (x : End Demangler) (y : End Shapes) → EndAlike N x y →
        ended s x (λ m. accepted m.budget (entry_numbers (map entry_of (reverse m.stack)))) ≡ ended s y (λ m. accepted m.budget (entry_numbers (reverse m.stack)))
    go (ran m) y h = rw h.end_is (ap (λ l. accepted m.budget (entry_numbers l)) (map_onto m.stack []))
    go (stopped r left) y h = rw h.end_is refl

-- WHOLE RUNS
-- the answer of a reading before 12, and the check's answer
abbrev Judged : Answer → Answer → Type 0
Judged r c = (out : ℕ) → WholeAlike out r.written (within out r) c

-- a refusal of both
refusal_judged : (n p : ℕ) → Judged (refusal n p) (refusal n p)
unfolding refusal within
refusal_judged n p out = record {
  refused = λ _. rw (leb-zero out) refl;
  accepted = λ _ _. rw (leb-zero out) refl;
  too_long = λ _ h. absurd (omega (arith, h));
}

-- accepted by both, with a text and with none
accepted_judged : (b : B.Budget) (text : List ℕ) → Judged (accepted b text) (accepted b [])
unfolding accepted within
accepted_judged b text out = record {
  refused = λ h. absurd h;
  accepted = λ _ h. rw (passed (leb (length text) out) (le→leb (length text) out h)) refl;
  too_long = λ _ h. rw (failed (leb (length text) out) (not_T (leb (length text) out) (λ q. omega (arith, leb→le (length text) out q, h)))) refl;
}

finished_judged : (takes : ℕ → Bool) (text : Node → List ℕ) (s : Symbol) (m : Demangler) → Judged (finished kind takes text s m) (finished kind_of takes (λ e. []) s (shapes m))
unfolding finished single
finished_judged takes text s m = go m.stack
  where
    last : Answer
    last = refusal 11 (s.start + length s.body)

    choose : (n : Node) (b : Bool) →
        Judged (given {A = Node} (elim b [ true ↦ some n | false ↦ none ]) last (λ n. accepted m.budget (text n)))
        (given {A = Entry} (elim b [ true ↦ some (entry_of n) | false ↦ none ]) last (λ e. accepted m.budget []))
    choose n true = accepted_judged m.budget (text n)
    choose n false = refusal_judged 11 (s.start + length s.body)

    go : (ns : List Node) → Judged (given (single kind takes ns) last (λ n. accepted m.budget (text n))) (given (single kind_of takes (map entry_of ns)) last (λ e. accepted m.budget []))
    go [] = refusal_judged 11 (s.start + length s.body)
    go (n ∷ []) = choose n (takes (kind n))
    go (n ∷ n₂ ∷ ns) = refusal_judged 11 (s.start + length s.body)

whole_judged : (N : ℕ) (takes : ℕ → Bool) (s : Symbol) → Judged (R.whole N takes s) (C.whole N takes s)
unfolding R.whole C.whole ended
whole_judged N takes s = go (read_turns N all_turns s.body) (check_turns N all_turns s.body) (runs_alike N all_turns s.body)
  where
    text : Node → List ℕ
    text n = print n ++ suffix_text s.suffix

    go : (x : End Demangler) (y : End Shapes) → EndAlike N x y → Judged (ended s x (finished kind takes text s)) (ended s y (finished kind_of takes (λ e. []) s))
    go (ran m) y h = rw h.end_is (finished_judged takes text s m)
    go (stopped r left) y h = rw h.end_is (refusal_judged r (s.start + (length s.body - left)))

-- THE CALLS
-- the checks before a run pass or refuse alike if each workspace is large enough
module _ (N w w' : ℕ) (t : Text) (h : T (enough reading_needs N w)) (h' : T (enough check_needs N w')) where
  -- a relation of answers that holds for equal refusals and for what is read
  admit_alike : (P : Answer → Answer → Type 0) → ((n p : ℕ) → P (refusal n p) (refusal n p)) → (r c : Answer) → P r c → P (admit reading_needs N w t r) (admit check_needs N w' t c)
  unfolding admit
  admit_alike P q r c z = ceiling (good_ceiling N) (leb (reading_needs * N) w) (leb (check_needs * N) w') h h'
    where
      read : (b : Bool) (o : Option ℕ) →
          P (elim b [ false ↦ refusal 3 0 | true ↦ elim o [ some p ↦ refusal 4 p | none ↦ r ] ]) (elim b [ false ↦ refusal 3 0 | true ↦ elim o [ some p ↦ refusal 4 p | none ↦ c ] ])
      read false o = q 3 0
      read true none = z
      read true (some p) = q 4 p

      rest : Answer → Answer
      rest a = elim (leb (length t) 65535) [ false ↦ refusal 3 0 | true ↦ elim (ill_formed t) [ some p ↦ refusal 4 p | none ↦ a ] ]

      ceiling : (g b b' : Bool) → T (not g || b) → T (not g || b') →
          P (elim g [ false ↦ refusal 1 0 | true ↦ elim b [ false ↦ refusal 2 0 | true ↦ rest r ] ]) (elim g [ false ↦ refusal 1 0 | true ↦ elim b' [ false ↦ refusal 2 0 | true ↦ rest c ] ])
      ceiling false b b' k k' = q 1 0
      ceiling true true true k k' = read (leb (length t) 65535) (ill_formed t)
      ceiling true true false k k' = absurd k'
      ceiling true false b' k k' = absurd k

  symbol_alike : (P : Answer → Answer → Type 0) → ((n p : ℕ) → P (refusal n p) (refusal n p)) → (f g : Symbol → Answer) → ((s : Symbol) → P (f s) (g s)) → P (symbol t f) (symbol t g)
  unfolding symbol
  symbol_alike P q f g z = go (split t)
    where
      go : (o : Option Symbol) → P (given o (refusal 5 0) f) (given o (refusal 5 0) g)
      go none = q 5 0
      go (some s) = z s

-- Judging alike, one theorem
pub judging_alike : Demand3
unfolding R.read R.read_type R.read_stopped R.read_type_stopped R.demangle R.demangle_type R.demangle_stopped R.demangle_type_stopped C.shape C.shape_type C.shape_stopped C.shape_type_stopped
judging_alike t N k w w' out h h' = record {
  symbol = admit_alike N w w' t h h' Judged refusal_judged _ _ (symbol_alike N w w' t h h' Judged refusal_judged (R.whole N _) (C.whole N _) (whole_judged N _)) out;
  type = admit_alike N w w' t h h' Judged refusal_judged _ _ (whole_judged N K.is_type (whole_text t)) out;
  symbol_stopped = ap (within out) (admit_alike N w w' t h h' ◌≡◌ (λ n p. refl) _ _ (symbol_alike N w w' t h h' ◌≡◌ (λ n p. refl) (R.stopped_after N k) (C.stopped_after N k) (stopped_alike N k)));
  type_stopped = ap (within out) (admit_alike N w w' t h h' ◌≡◌ (λ n p. refl) _ _ (stopped_alike N k (whole_text t)));
}
