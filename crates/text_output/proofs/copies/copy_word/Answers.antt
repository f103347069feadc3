use mathlib.Core.Path.{◌≡◌, ap, ◌∙◌}
use Prim.Native.Nat.{ℕ, ◌+◌, ◌-◌}
use native.Mathlib.Omega.{arith}
use lib.ListN.{take, drop}
use Rattle.text_output.proofs.ByEights.{word_put}
use Rattle.text_output.proofs.copies.copy_word.Goals as goal

pub returns : goal.returns
returns c =
    let e : c.args.from + 8 - c.args.from ≡ 8 = omega arith in
    let w = c.copy_from_slice.ensures.after ∙ ap (λ (n : ℕ). take n (drop c.args.from c.args.text.now)) e in
    word_put c.args.out.now c.args.at c.args.text.now c.args.from _ (omega arith) c.requires.0 c.requires.1 w
