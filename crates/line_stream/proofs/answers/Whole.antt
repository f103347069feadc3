-- The lines of a buffer, one after another. Assumes nothing.
use mathlib.Core.Path.{◌≡◌, refl, sym, ap, ◌∙◌}
use mathlib.Core.List.{List, [], ◌∷◌, ◌++◌, append_assoc, append-nil}
use Prim.Native.Nat.{ℕ, ◌+◌, ◌-◌, ◌≤◌, ◌<◌}
use native.Mathlib.Omega.{arith}
use native.Mathlib.Numerals.{add-one}
use lib.ListN.{length, get_or, take, drop, length-take}
use lib.Seq.{take-suc, take-add, get_or-take, get_or-drop}
use Rattle.definition.specs.Text.{Text}
use Rattle.text_cursor.specs.Part.{part}
use Rattle.text_output.specs.Sink.{Wrote, wrote_nothing, wrote_is, wrote_then}
use Rattle.text_output.specs.declared.Sink.{Sink}
use Rattle.line_forms.specs.LineEnds.{newline, Ends}
use Rattle.line_forms.specs.Appends.{longest, Space, Appends}
use Rattle.line_forms.specs.Lines.{answers}
use Rattle.line_forms.proofs.Inputs.{one_line, nothing_left}
use Rattle.line_stream.specs.Does.{Whole, Same, Answers, Answered}
use Rattle.line_stream.proofs.answers.Laws.{wrote_of}

-- ANSWERS
module _ (line : Text → List ℕ) where
  -- THE LOOP: the lines before `read` are answered
  pub record Going (t : Text) (s₀ s : Sink) (read : ℕ) : Type 0 where
    pub same : Same s₀ s
    pub inside : read ≤ length t
    pub appends : Appends s₀.out.now s.out.now 0 (answers line (take read t)) s.at
    pub whole : (u : Text) → answers line (take read t ++ u) ≡ answers line (take read t) ++ answers line u

  pub going_start : (t : Text) (s : Sink) → Whole s × (s.at ≡ 0) → Going t s s 0
  going_start t s (w, z) = record {
    same = record { slice = refl; room = refl };
    inside = omega arith;
    appends = record { wrote = wrote_is (sym (nothing_left line)) (wrote_of w refl z (wrote_nothing s.fits)); inside = omega (arith, z) };
    whole = λ u. ap (λ (x : List ℕ). x ++ answers line u) (sym (nothing_left line));
  }

  module _ {t : Text} {s₀ s : Sink} {read end : ℕ} (g : Going t s₀ s read) (e : Ends t read end) (more : end < length t) where
    line_clear : (i : ℕ) → i < length (part t read end) → get_or (part t read end) i 0 ≡ newline → ⊥
    line_clear i h q =
        let k : i < end - read = omega (arith, length-take (end - read) (drop read t)) in
        e.clear (read + i) (omega arith) (omega arith) (sym (get_or-drop read t i 0) ∙ sym (get_or-take (end - read) (drop read t) i 0 k) ∙ q)

    taken : take (end + 1) t ≡ take read t ++ (part t read end ++ (newline ∷ []))
    taken =
        let q : read + (end - read) ≡ end = omega (arith, e.order) in
        let a : take end t ≡ take read t ++ part t read end = ap (λ (n : ℕ). take n t) (sym q) ∙ take-add read (end - read) t in
        ap (λ (n : ℕ). take n t) (add-one end) ∙ take-suc t end 0 more ∙ ap (λ (x : ℕ). take end t ++ (x ∷ [])) (e.stop more) ∙ ap (λ (x : Text). x ++ (newline ∷ [])) a ∙ append_assoc (take read t) (part t read end) (newline ∷ [])

    -- answers for the lines so far and for what follows
    onward : (u : Text) → answers line (take (end + 1) t ++ u) ≡ (answers line (take read t) ++ line (part t read end)) ++ answers line u
    onward u =
        let l : Text = part t read end in
        let a : take (end + 1) t ++ u ≡ take read t ++ (l ++ (newline ∷ u)) = ap (λ (x : Text). x ++ u) taken ∙ append_assoc (take read t) (l ++ (newline ∷ [])) u ∙ ap (λ (x : Text). take read t ++ x) (append_assoc l (newline ∷ []) u) in
        ap (answers line) a ∙ g.whole (l ++ (newline ∷ u)) ∙ ap (λ (x : List ℕ). answers line (take read t) ++ x) (one_line line l u line_clear) ∙ sym (append_assoc (answers line (take read t)) (line l) (answers line u))

    said : answers line (take (end + 1) t) ≡ answers line (take read t) ++ line (part t read end)
    said = ap (answers line) (sym (append-nil (take (end + 1) t))) ∙ onward [] ∙ ap (λ (x : List ℕ). (answers line (take read t) ++ line (part t read end)) ++ x) (nothing_left line) ∙ append-nil (answers line (take read t) ++ line (part t read end))

    pub going_next : {s' : Sink} → Answers s s' (line (part t read end)) → Going t s₀ s' (end + 1)
    going_next {s'} a =
        let w : Wrote (length s₀.out.now) s.out.now s'.out.now s.at (line (part t read end)) s'.at = wrote_of g.appends.wrote.len refl refl a.appends.wrote in
        record {
          same = record { slice = a.same.slice ∙ g.same.slice; room = a.same.room ∙ g.same.room };
          inside = omega arith;
          appends = record { wrote = wrote_is (sym said) (wrote_then g.appends.wrote w); inside = omega (arith, a.appends.inside, g.appends.wrote.len) };
          whole = λ u. onward u ∙ ap (λ (x : List ℕ). x ++ answers line u) (sym said);
        }

  module _ {t : Text} {s₀ s : Sink} {read : ℕ} (g : Going t s₀ s read) where
    -- no further line has a newline
    pub answered_all : {end : ℕ} → Ends t read end → end ≡ length t → Answered line t s₀ s read
    answered_all {end} e q = record {
      same = g.same;
      inside = g.inside;
      appends = g.appends;
      whole = g.whole;
      all = λ _ i a b. e.clear i a (omega arith);
    }

    -- there is no room for a further answer
    pub answered_full : length s.out.now < s.at + longest → Answered line t s₀ s read
    answered_full h = record {
      same = g.same;
      inside = g.inside;
      appends = g.appends;
      whole = g.whole;
      all = λ k i a b. absurd (omega (arith, g.appends.wrote.len));
    }

    pub space : Whole s₀ → s.at + longest ≤ length s.out.now → Whole s × Space s.out.now s.at
    space w h = (g.same.room ∙ w ∙ sym g.appends.wrote.len, record { room = h; small = omega (arith, s.fits.small, s.fits.short) })
