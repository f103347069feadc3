-- Turns over a text, and the states of a step. Assumes nothing.
use mathlib.Core.Path.{◌≡◌, sym, ap, ◌∙◌}
use mathlib.Core.Bool.{Bool, true, false}
use mathlib.Core.List.{List, [], ◌∷◌, ◌++◌, append_assoc}
use Prim.Native.Nat.{ℕ, suc, ◌+◌, ◌<◌}
use native.Mathlib.Omega.{arith}
use native.Mathlib.Numerals.{add-one}
use lib.ListN.{length, take, drop, length-take}
use lib.Seq.{split_at, get_or-take, drop-length}
use Rattle.definition.specs.Text.{Text}
use Rattle.line_forms.specs.LineEnds.{newline, Ends}
use Rattle.line_forms.specs.Lines.{Clear, owed}
use Rattle.line_forms.proofs.Inputs.{owed_inside, owed_after, owed_ended}
use Rattle.line_buffers.specs.Buffers.{Turned}
use Rattle.line_buffers.specs.declared.Next.TheVariants as Next

-- INSIDE A LINE that is already answered
module _ (line : Text → List ℕ) (o : List ℕ) {t : Text} {end : ℕ} (e : Ends t 0 end) where
  clear_front : Clear (take end t)
  clear_front i h q =
      let k : i < end = omega (arith, length-take end t) in
      e.clear i (omega arith) k (sym (get_or-take end t i 0 k) ∙ q)

  -- up to its newline
  pub passed_line : (ended : Bool) → end < length t → Turned line t true ended o (record { read = end + 1; written = 0; inside = false; next = Next.Answer })
  passed_line ended more = record {
    within = omega arith;
    fits = omega arith;
    owes = λ u _.
        let d : Text = drop (suc end) t in
        let s : t ≡ take end t ++ (newline ∷ d) = split_at t end 0 more ∙ ap (λ (x : ℕ). take end t ++ (x ∷ d)) (e.stop more) in
        ap (λ (x : Text). owed line true (x ++ u)) s ∙ ap (owed line true) (append_assoc (take end t) (newline ∷ d) u) ∙ owed_after line (take end t) (d ++ u) clear_front ∙ ap (λ (n : ℕ). owed line false (drop n t ++ u)) (sym (add-one end));
    goes = omega arith;
  }

  module _ (all : end ≡ length t) where
    nothing_left : drop end t ≡ []
    nothing_left = ap (λ (n : ℕ). drop n t) all ∙ drop-length t

    clear_all : Clear t
    clear_all i h = e.clear i (omega arith) (omega arith)

    still_inside : (u : Text) → owed line true (t ++ u) ≡ owed line true (drop end t ++ u)
    still_inside u = owed_inside line t u clear_all ∙ ap (λ (x : Text). owed line true (x ++ u)) (sym nothing_left)

    -- all of it, and more follows
    pub passed_more : {ended : Bool} → ended ≡ false → Turned line t true ended o (record { read = end; written = 0; inside = true; next = Next.Read })
    passed_more f = record { within = omega arith; fits = omega arith; owes = λ u _. still_inside u; goes = (f, omega arith) }

    -- the input ends inside it
    pub passed_end : {ended : Bool} → ended ≡ true → Turned line t true ended o (record { read = end; written = 0; inside = true; next = Next.Done })
    passed_end f = record { within = omega arith; fits = omega arith; owes = λ u _. still_inside u; goes = (f, ap (owed line true) nothing_left ∙ owed_ended line) }
