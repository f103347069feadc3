-- The stack machine (lines 581 to 674), over the items on its stack: trees in the reading, entries
-- in the check.
use Rattle.std.specs.Prelude.{Bool, true, List, [], ◌∷◌, ◌++◌, ℕ, suc, eqb, length, replicate, if◌then◌else◌}
use Rattle.std.proofs.Math.Option.{Option, some, none}
use Rattle.std.proofs.Math.ListN.{get_elem?}
use Rattle.definition.specs.Budget.{opened as opened₀}
use Rattle.definition.specs.Base.{given, is_some, Out, ok, refused, Step, Done, ret, ◌>>=◌}
use Rattle.definition.specs.Budget as B
use Rattle.definition.specs.Budget.{Budget}

-- The stack has its top first, the remembered items have the oldest first. The words are the words
-- themselves, or their number
pub record Machine (A W : Type 0) : Type 0 where
  pub budget : Budget
  pub stack : List A
  pub substitutions : List A
  pub words : W

module _ {A W : Type 0} where
  abbrev pub machine : Budget → List A → List A → W → Machine A W
  machine b s r w = record { budget = b; stack = s; substitutions = r; words = w }

  -- the machine with another stack
  abbrev pub restack : List A → Machine A W → Machine A W
  restack s m = machine m.budget s m.substitutions m.words

  -- `new` (lines 606 to 617)
  abbrev pub fresh : W → Machine A W
  fresh w = machine B.fresh [] [] w

  -- the effect on the budget
  abbrev pub spent : Out Budget Done → Machine A W → Out (Machine A W) Done
  spent (ok x b) m = ok x (machine b m.stack m.substitutions m.words)
  spent (refused r) m = refused r

  unfoldable pub spend : Step Budget Done → Step (Machine A W) Done
  spend s m = spent (s m.budget) m

  unfoldable pub wrap : Step (Machine A W) Done
  wrap = spend B.wrap

  unfoldable pub know : W → Step (Machine A W) Done
  know ws m = ok tt (machine m.budget m.stack m.substitutions ws)

  unfoldable pub remember : A → Step (Machine A W) Done
  remember n m = ok tt (machine m.budget m.stack (m.substitutions ++ (n ∷ [])) m.words)

  -- a remembered node by its index; 9 if there is none (line 906)
  unfoldable pub recall : ℕ → Step (Machine A W) A
  recall i m = given (get_elem? m.substitutions i) (refused 9) (λ n. ok n m)

  unfoldable pub push : A → Step (Machine A W) Done
  push n m = ok tt (restack (n ∷ m.stack) m)

  unfoldable pub push_copies : ℕ → A → Step (Machine A W) Done
  push_copies k n m = ok tt (restack (replicate k n ++ m.stack) m)

  -- The bound of a loop over the stack. It is never reached, because each round takes a node
  -- (proofs/Bounds, a law for each loop, and `rounds_enough`)
  unfoldable pub rounds : Step (Machine A W) ℕ
  rounds m = ok (suc (length m.stack)) m

-- what depends on the kind of the top
module _ {A W : Type 0} (kind : A → ℕ) where
  unfoldable pub pop_from : (ℕ → Bool) → List A → Step (Machine A W) A
  pop_from want [] m = refused 10
  pop_from want (n ∷ s) m = if want (kind n) then ok n (restack s m) else refused 10

  -- `pop_if(..)?`: the top, whose kind must be wanted
  unfoldable pub pop_if : (ℕ → Bool) → Step (Machine A W) A
  pop_if want m = pop_from want m.stack m

  -- `pop()?`
  unfoldable pub pop : Step (Machine A W) A
  pop = pop_if (λ k. true)

  unfoldable pub try_from : (ℕ → Bool) → List A → Step (Machine A W) (Option A)
  try_from want [] m = ok none m
  try_from want (n ∷ s) m = if want (kind n) then ok (some n) (restack s m) else ok none m

  -- `pop_if(..)` with no `?`
  unfoldable pub try : (ℕ → Bool) → Step (Machine A W) (Option A)
  try want m = try_from want m.stack m

  -- `pop_if(..).is_some()`: whether one of that kind was on top; it is removed
  unfoldable pub took : ℕ → Step (Machine A W) Bool
  took k = try (eqb k) >>= λ o. ret (is_some o)

-- FOR PROOFS ONLY: this name on an `unfolding` line opens every definition up to here
unfoldable pub opened : ℕ
unfolding opened₀ spend wrap know remember recall push push_copies rounds pop_from pop_if pop try_from try took
opened = 0
