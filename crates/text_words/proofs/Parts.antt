-- Parts of a text, from one place to another. Assumes nothing.
use mathlib.Core.Path.{◌≡◌, ap, ◌∙◌}
use mathlib.Core.List.{[], ◌∷◌, ◌++◌}
use Prim.Native.Nat.{ℕ, suc, ◌+◌, ◌-◌, ◌≤◌, ◌<◌}
use native.Mathlib.Omega.{arith}
use lib.ListN.{length, get_or, drop, length-drop}
use lib.Seq.{take-suc, drop-cons, get_or-drop}
pub use Rattle.text_cursor.proofs.Parts.{part_length}
use Rattle.definition.specs.Text.{Text}
use Rattle.text_words.specs.Table.{part, spanned}
use Rattle.text_words.specs.declared.spans.Span.{Span}

module _ (text : Text) where
  pub part_none : (at : ℕ) → part text at at ≡ []
  part_none at = let z : at - at ≡ 0 = omega arith in rw z

  -- a part that is given by its ends
  pub part_spanned : {s : Span} {from to : ℕ} → (s.start ≡ from) × (s.length ≡ to - from) → from ≤ to → spanned text s ≡ part text from to
  part_spanned {s} {from} {to} e l = let z : s.start + s.length ≡ to = omega (arith, e.0, e.1) in rw (z, e.0)

  pub part_snoc : (from at : ℕ) → from ≤ at → at < length text → part text from (at + 1) ≡ part text from at ++ (get_or text at 0 ∷ [])
  part_snoc from at l h =
      let z : (at + 1) - from ≡ suc (at - from) = omega arith in
      let k : at - from < length (drop from text) = simp length-drop (omega arith) in
      let p : from + (at - from) ≡ at = omega arith in
      rw z (take-suc (drop from text) (at - from) 0 k ∙ ap (λ x. part text from at ++ (x ∷ [])) (get_or-drop from text (at - from) 0 ∙ ap (λ (n : ℕ). get_or text n 0) p))

  pub part_one : (at : ℕ) → at < length text → part text at (at + 1) ≡ get_or text at 0 ∷ []
  part_one at h = let l : at ≤ at = omega arith in part_snoc at at l h ∙ ap (λ x. x ++ (get_or text at 0 ∷ [])) (part_none at)

  -- the first byte of a part, and the rest of it
  pub part_cons : (at to : ℕ) → at < to → to ≤ length text → part text at to ≡ get_or text at 0 ∷ part text (at + 1) to
  part_cons at to l h =
      let z : to - at ≡ suc (to - (at + 1)) = omega arith in
      let k : at < length text = omega arith in
      let s : suc at ≡ at + 1 = omega arith in
      rw (z, drop-cons text at 0 k, s)
