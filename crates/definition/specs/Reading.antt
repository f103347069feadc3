-- The definition of demand 2: the four reading calls.
use Rattle.std.specs.Prelude.{Bool, true, false, List, [], ◌∷◌, ◌++◌, map, reverse, ℕ}
use Rattle.definition.specs.Perform.{opened as opened₀}
use Rattle.definition.specs.Calls.{opened as opened₁}
use Rattle.definition.specs.Base.{Name, digit, Done, refuse, ◌>>◌}
use Rattle.definition.specs.Text.{Text, Symbol, suffix_text}
use Rattle.definition.specs.Words.{identifier}
use Rattle.definition.specs.Kind as K
use Rattle.definition.specs.Node.{Identifier, kind, entry_of}
use Rattle.definition.specs.Print.{print}
use Rattle.definition.specs.Operators.{operator}
use Rattle.definition.specs.Machine.{fresh, know, remember, push}
use Rattle.definition.specs.Perform.{Run, perform}
use Rattle.definition.specs.Calls.{Answer, accepted, within, admit, reading_needs, symbol, whole_text, then_run, turn, turns, ended, all_turns, symbol_kind, finished, entry_numbers}

module _ (N : ℕ) where
  -- the end of `identifier` (lines 840 to 842)
  unfoldable pub name : Name → List Name → Run Done
  name n words = do
    know words
    remember (Identifier n)
    push (Identifier n)

  -- `operator`: an identifier begins with a digit (lines 729 to 732)
  unfoldable pub one : Text → Run Text
  one [] = refuse 9
  one (c ∷ t) = elim (digit c) [
    | true ↦ λ m. then_run (identifier m.words (c ∷ t)) (λ r. name r.name r.words) m
    | false ↦ then_run (operator c t) (λ op. perform N op)
  ]

  -- a whole run over a body; the suffix follows the text
  unfoldable pub whole : (ℕ → Bool) → Symbol → Answer
  whole takes s = ended s (turns (turn N one) all_turns s.body (fresh [])) (finished kind takes (λ n. print n ++ suffix_text s.suffix) s)

  -- the run stopped after k operators: the entries of the trees on the stack, bottom first
  unfoldable pub stopped_after : ℕ → Symbol → Answer
  stopped_after k s = ended s (turns (turn N one) k s.body (fresh [])) (λ m. accepted m.budget (entry_numbers (map entry_of (reverse m.stack))))

-- a reading with an output slice that is long enough
unfoldable pub read : Text → (N workspace : ℕ) → Answer
read t N workspace = let r : Answer = symbol t (whole N symbol_kind) in admit reading_needs N workspace t r

unfoldable pub read_type : Text → (N workspace : ℕ) → Answer
read_type t N workspace = let r : Answer = whole N K.is_type (whole_text t) in admit reading_needs N workspace t r

unfoldable pub read_stopped : Text → (N k workspace : ℕ) → Answer
read_stopped t N k workspace = let r : Answer = symbol t (stopped_after N k) in admit reading_needs N workspace t r

unfoldable pub read_type_stopped : Text → (N k workspace : ℕ) → Answer
read_type_stopped t N k workspace = let r : Answer = stopped_after N k (whole_text t) in admit reading_needs N workspace t r

-- THE CALLS: a text, the ceiling, the number of turns if stopped, the size of the workspace in
-- numbers, the length of the output slice
-- lines 27 to 35
unfoldable pub demangle : Text → (N workspace out : ℕ) → Answer
demangle t N workspace out = within out (read t N workspace)

-- lines 48 to 56
unfoldable pub demangle_type : Text → (N workspace out : ℕ) → Answer
demangle_type t N workspace out = within out (read_type t N workspace)

unfoldable pub demangle_stopped : Text → (N k workspace out : ℕ) → Answer
demangle_stopped t N k workspace out = within out (read_stopped t N k workspace)

unfoldable pub demangle_type_stopped : Text → (N k workspace out : ℕ) → Answer
demangle_type_stopped t N k workspace out = within out (read_type_stopped t N k workspace)

-- FOR PROOFS ONLY: this name on an `unfolding` line opens every definition up to here
unfoldable pub opened : ℕ
unfolding opened₀ opened₁ name one whole stopped_after read read_type read_stopped read_type_stopped demangle demangle_type demangle_stopped demangle_type_stopped
opened = 0
