-- What the exit of a `?` returns.
use Rattle.std.proofs.Common.{◌≡◌, Result, Err, ap, ◌∙◌}
use Rattle.std.specs.Result.{IsErrAnd}
use Rattle.std.proofs.lemmas.Result.{err_from_is_err_and}
use Rattle.definition.specs.declared.Refusal.{Refusal}

-- the refusal itself, where the types of the two refusals are one
pub failed : {T : Type 0} {r : Result T Refusal} {e : Refusal} → IsErrAnd r (λ x. x ≡ e) → r ≡ Err e
failed {T} {r} {e} h = let p = err_from_is_err_and r h in p.1 ∙ ap Err p.2
