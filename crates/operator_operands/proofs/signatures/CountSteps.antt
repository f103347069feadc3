-- The counts after `r`, at a place of a text. Assumes nothing.
use Rattle.std.specs.Prelude.{if◌then◌else◌}
use mathlib.Core.Path.{◌≡◌, refl, ap, ◌∙◌}
use mathlib.Core.Bool.{Bool, true, false}
use mathlib.Core.Option.{Option, some, none}
use Prim.Native.Nat.{ℕ, suc}
use Rattle.definition.specs.Base.{Out, ok, refused, is, and_then, ret}
use Rattle.definition.specs.Text.{Text, Lex, next_if, index_plus_one}
use Rattle.definition.specs.Operators.{Operator, generic_signature, counts}
use Rattle.operator_operands.specs.Counts.{next_count, count_unless, count}

-- `r`
module _ (t : Text) {u : Text} where
  pub count_ends : next_if (is "l") t ≡ ok true u → count t ≡ ok none u
  count_ends e = rw e

  module _ {v : Text} (p : next_if (is "l") t ≡ ok false u) where
    pub count_zero : next_if (is "z") u ≡ ok true v → count t ≡ ok (some 0) v
    count_zero e = rw (p, e)

    pub count_index : next_if (is "z") u ≡ ok false v → count t ≡ and_then (index_plus_one v) (λ n w. ok (some n) w)
    count_index e = rw (p, e)

-- one turn of `counts`, and the rest
module _ (depths params : ℕ) where
  turned : Option ℕ → Lex ℕ
  turned none = ret params
  turned (some n) = counts depths n

  by_index : (o : Out Text ℕ) → and_then o (counts depths) ≡ and_then (and_then o (λ n. ret (some n))) turned
  unfolding turned
  by_index (ok n u) = refl
  by_index (refused n) = refl

  by_zero : (o : Out Text Bool) → and_then o (λ z t. and_then ((if z then ret 0 else index_plus_one) t) (counts depths)) ≡ and_then (and_then o next_count) turned
  unfolding turned
  by_zero (ok true u) = refl
  by_zero (ok false u) = by_index (index_plus_one u)
  by_zero (refused n) = refl

  opened : (o : Out Text Bool) → Out Text ℕ
  opened o = and_then o (λ closed. elim closed as (λ c. Lex ℕ) [ true ↦ ret params | false ↦ λ t. and_then (next_if (is "z") t) (λ z t. and_then ((if z then ret 0 else index_plus_one) t) (counts depths)) ])

  by_opened : (o : Out Text Bool) → opened o ≡ and_then (and_then o count_unless) turned
  unfolding turned opened
  by_opened (ok true u) = refl
  by_opened (ok false u) = by_zero (next_if (is "z") u)
  by_opened (refused n) = refl

  counts_turn : (t : Text) → counts (suc depths) params t ≡ and_then (count t) turned
  unfolding counts opened
  counts_turn t = by_opened (next_if (is "l") t)

  module _ (t : Text) {u : Text} where
    pub counts_closed : count t ≡ ok none u → counts (suc depths) params t ≡ ok params u
    unfolding turned
    counts_closed e = counts_turn t ∙ ap (λ o. and_then o turned) e

    pub counts_more : {n : ℕ} → count t ≡ ok (some n) u → counts (suc depths) params t ≡ counts depths n u
    unfolding turned
    counts_more e = counts_turn t ∙ ap (λ o. and_then o turned) e

  pub counts_refused : (t : Text) {n : ℕ} → count t ≡ refused n → counts (suc depths) params t ≡ refused n
  counts_refused t e = counts_turn t ∙ ap (λ o. and_then o turned) e

module _ (params : ℕ) (t : Text) {u : Text} where
  pub counts_last : next_if (is "l") t ≡ ok true u → counts 0 params t ≡ ok params u
  unfolding counts
  counts_last e = rw e

  pub counts_deep : next_if (is "l") t ≡ ok false u → counts 0 params t ≡ refused 8
  unfolding counts
  counts_deep e = rw e

-- the operator with these counts
abbrev pub signed : ℕ → Lex Operator
signed n t = ok (generic_signature n) t
