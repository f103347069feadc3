-- 01, "How each operation refuses": the answer of a call, the checks before a run, and the result
-- at the end of a run. Reading and check share them.
use Rattle.std.specs.Prelude.{Bool, true, false, ◌&&◌, not, List, [], ◌∷◌, ℕ, zero, suc, ◌+◌, ◌*◌, ◌-◌, ltb, leb, length, if◌then◌else◌}
use Rattle.std.proofs.Math.Option.{Option, some, none}
use Rattle.definition.specs.Machine.{opened as opened₀}
use Rattle.definition.specs.Text.{opened as opened₁}
use Rattle.definition.specs.Base.{given, Out, ok, refused, Step, Done, ret, refuse, ◌>>◌}
use Rattle.definition.specs.Text.{Text, Symbol, ill_formed, split}
use Rattle.definition.specs.Kind.{Entry}
use Rattle.definition.specs.Kind as K
use Rattle.definition.specs.Budget as B
use Rattle.definition.specs.Budget.{Budget, most_steps, most_nodes}
use Rattle.definition.specs.Machine.{Machine, spend}

-- THE ANSWER OF A CALL
-- number 0: accepted; place, counts and length are 0 where the paper gives none
pub record Values : Type 0 where
  pub number : ℕ
  pub place : ℕ
  pub steps : ℕ
  pub total : ℕ
  pub wraps : ℕ
  pub length : ℕ

-- with what is written to the front of the output slice: the bytes of a text or the numbers of a
-- stack
pub record Answer : Type 0 where
  pub values : Values
  pub written : List ℕ

-- a refusal returns zero counts and length 0, and writes nothing
unfoldable pub refusal : (number place : ℕ) → Answer
refusal n p = record { values = record { number = n; place = p; steps = 0; total = 0; wraps = 0; length = 0 }; written = [] }

unfoldable pub accepted : Budget → List ℕ → Answer
accepted b w = record { values = record { number = 0; place = 0; steps = b.steps; total = b.total; wraps = b.wraps; length = length w }; written = w }

-- THE LAST CHECK. 12: what is to be written exceeds the output slice
unfoldable pub within : (out : ℕ) → Answer → Answer
within out a = if leb (length a.written) out then a else refusal 12 0

-- THE FIRST CHECKS
-- 1: the ceiling is 1 to 65,536
unfoldable pub good_ceiling : ℕ → Bool
good_ceiling N = ltb 0 N && leb N most_nodes

-- 1 to 4 in order, for a call that needs `need` numbers of workspace for each node; then what is
-- read
unfoldable pub admit : (need N workspace : ℕ) → Text → Answer → Answer
admit need N workspace t rest = elim (good_ceiling N) [
  | false ↦ refusal 1 0
  | true ↦ elim (leb (need * N) workspace) [
    | false ↦ refusal 2 0
    | true ↦ elim (leb (length t) 65535) [
      | false ↦ refusal 3 0
      | true ↦ elim (ill_formed t) [ some p ↦ refusal 4 p | none ↦ rest ]
    ]
  ]
]

abbrev pub reading_needs : ℕ
reading_needs = 64

abbrev pub check_needs : ℕ
check_needs = 8

-- 5: no prefix, or nothing after it
unfoldable pub symbol : Text → (Symbol → Answer) → Answer
symbol t read = given (split t) (refusal 5 0) read

-- a type has no prefix and no suffix
abbrev pub whole_text : Text → Symbol
whole_text t = record { start = 0; body = t; suffix = [] }

-- RUNS
-- The result of a run over a machine: the machine at its end, or the number of a refusal with the
-- length of the rest of the body at the beginning of the refused operator
pub data End (S : Type 0) : Type 0 where
  ran : S → End S
  stopped : (number left : ℕ) → End S

-- what an operator reads from the text, then what it does with it; the rest of the text
unfoldable pub then_run : {S A : Type 0} → Out Text A → (A → Step S Done) → Step S Text
then_run (ok a u) f = f a >> ret u
then_run (refused r) f = refuse r

-- one turn of `run` (lines 691 to 697): a step, a charge of 1, an operator
unfoldable pub turn : {A W : Type 0} → (N : ℕ) → (Text → Step (Machine A W) Text) → Text → Step (Machine A W) Text
turn N operator t = do
  spend B.step
  spend (B.charge N 1)
  operator t

-- `run` (lines 688 to 700) by its turns: k of them, or fewer if the body ends
unfoldable pub turns : {S : Type 0} → (Text → Step S Text) → ℕ → Text → S → End S
turns turn zero t s = ran s
turns turn (suc k) [] s = ran s
turns turn (suc k) (c ∷ t) s = elim (turn (c ∷ t) s) [ ok u s₁ ↦ turns turn k u s₁ | refused r ↦ stopped r (length (c ∷ t)) ]

-- the answer at the end of a run; the place of 6 to 10 is the first byte of the operator
unfoldable pub ended : {S : Type 0} → Symbol → End S → (S → Answer) → Answer
ended s (ran m) read = read m
ended s (stopped r left) read = refusal r (s.start + (length s.body - left))

-- A whole run: more turns than there are steps, so that the last would be refused
-- (proofs/WholeRuns: if none is refused, no text is left)
abbrev pub all_turns : ℕ
all_turns = suc most_steps

-- THE FINAL CHECK. 11, at the end of the body: not exactly one node is left, or its kind is not
-- accepted (a symbol accepts all but a bare identifier, line 682; a type accepts types, line 52)
unfoldable pub symbol_kind : ℕ → Bool
symbol_kind k = not (K.is_identifier k)

unfoldable pub single : {A : Type 0} → (A → ℕ) → (ℕ → Bool) → List A → Option A
single kind takes [] = none
single kind takes (n ∷ []) = elim (takes (kind n)) [ true ↦ some n | false ↦ none ]
single kind takes (n ∷ n₂ ∷ ns) = none

-- with the text of that node
unfoldable pub finished : {A W : Type 0} → (A → ℕ) → (ℕ → Bool) → (A → List ℕ) → Symbol → Machine A W → Answer
finished kind takes text s m =
    given (single kind takes m.stack) (refusal 11 (s.start + length s.body)) (λ n. accepted m.budget (text n))

-- A STOPPED RUN writes three numbers for each entry
unfoldable pub entry_numbers : List Entry → List ℕ
entry_numbers [] = []
entry_numbers (e ∷ es) = e.kind ∷ e.size ∷ e.count ∷ entry_numbers es

-- FOR PROOFS ONLY: this name on an `unfolding` line opens every definition up to here
unfoldable pub opened : ℕ
unfolding opened₀ opened₁ refusal accepted within good_ceiling admit symbol then_run turn turns ended symbol_kind single finished entry_numbers
opened = 0
