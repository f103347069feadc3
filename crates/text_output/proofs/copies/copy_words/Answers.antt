use mathlib.Core.Path.{◌≡◌, refl, subst, ◌∙◌}
use Prim.Native.Nat.{ℕ, ◌+◌, ◌*◌, ◌-◌}
use native.Mathlib.Omega.{arith}
use Rattle.text_output.specs.Copied.{copied}
use Rattle.text_output.proofs.ByEights.{copied_none, copied_word}
use Rattle.text_output.proofs.copies.copy_words.Goals as goal

pub loop-k-init : goal.loop-k-init
loop-k-init c =
    let a = c.args in
    let none : a.from ≡ a.from + 8 * 0 = omega arith in
    (omega arith, refl, subst (λ (n : ℕ). a.out.now ≡ copied a.out.now a.at a.text.now a.from n) none (copied_none a.out.now a.at a.text.now a.from))

pub loop-k-preserved : goal.loop-k-preserved
loop-k-preserved c =
    let a = c.args in
    let l = c.loop-k in
    let i : ℕ = a.from + 8 * l.k in (
      omega arith,
      c.copy_word.auto.out ∙ l.invariant.1,
      copied_word a.out.now a.text.now a.at a.from i i (a.from + 8 * (l.k + 1)) (a.at + 8 * l.k) (omega arith) (omega arith) (omega arith) (omega arith) (omega arith) (omega arith) (omega arith) l.invariant.2 c.copy_word.ensures,
    )

pub returns : goal.returns
returns c =
    let a = c.args in
    let l = c.loop-k in
    copied_word a.out.now a.text.now a.at a.from (a.from + 8 * l.k) (a.to - 8) a.to (a.at + (a.to - a.from) - 8) (omega arith) (omega arith) (omega arith) (omega arith) (omega arith) (omega arith) (omega arith) l.invariant.2 c.copy_word-2.ensures
