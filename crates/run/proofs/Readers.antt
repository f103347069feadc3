-- A reader that stands at another place of the same text. Assumes nothing.
use Rattle.std.proofs.Common.{Bor}
use mathlib.Core.Path.{◌≡◌, sym, ap, ◌∙◌}
use mathlib.Core.List.{List}
use Prim.Native.Nat.{ℕ}
use Rattle.text_cursor.specs.declared.Reader.{Reader}

pub moved : (r r₁ : Reader) {n : ℕ} → r₁.text ≡ r.text → r₁.at ≡ n → record r { at = n } ≡ r₁
moved r r₁ {n} p q =
    let text : Bor (List ℕ) → Reader = λ b. record { text = b; at = n } in
    let at : ℕ → Reader = λ k. record { text = r₁.text; at = k } in
    ap text (sym p) ∙ ap at (sym q)
