-- What a turn answers. Assumes nothing.
use mathlib.Core.Path.{◌≡◌, refl, sym, ap, subst, ◌∙◌}
use mathlib.Core.Bool.{Bool, true, false}
use mathlib.Core.List.{List, [], ◌++◌, append_assoc, append-nil}
use Prim.Native.Nat.{ℕ, ◌≤◌, ◌<◌}
use native.Mathlib.Omega.{arith}
use lib.ListN.{length, take, drop, take-append-drop}
use lib.Seq.{take_at, drop-length}
use Rattle.definition.specs.Text.{Text}
use Rattle.line_forms.specs.Appends.{longest, Space, Appends}
use Rattle.line_forms.specs.Lines.{line_of, answers, Clear, owed}
use Rattle.line_forms.proofs.Inputs.{nothing_left, owed_none}
use Rattle.line_forms.specs.declared.Asked.{Asked}
use Rattle.line_stream.specs.Does.{Whole, Same, Answers, Answered}
use Rattle.text_output.specs.declared.Sink.{Sink}
use Rattle.line_stream.proofs.answers.Laws.{line_long}
use Rattle.line_buffers.specs.Buffers.{LongAlike, Resting, Turned}
use Rattle.line_buffers.specs.declared.Next.TheVariants as Next
use Rattle.line_buffers.specs.declared.Turn.{Turn}
use Rattle.line_buffers.specs.declared.Rest.{Rest}

pub turned_at : {line : Text → List ℕ} {t : Text} {i j ended : Bool} {o : List ℕ} {r : Turn} → i ≡ j → Turned line t j ended o r → Turned line t i ended o r
turned_at {line} {t} {i} {j} {ended} {o} {r} e h = subst (λ (x : Bool). Turned line t x ended o r) (sym e) h

-- the slice once it is no longer lent
pub given_back : {line : Text → List ℕ} {t : Text} {i j ended : Bool} {s s' : Sink} {w : List ℕ} {r : Turn} → i ≡ j → Same s s' → (s.out.ghost_name ≡ s'.out.ghost_name → w ≡ s'.out.now) → Turned line t j ended s'.out.now r → Turned line t i ended w r
given_back {line} {t} {i} {j} {ended} {s} {s'} {w} {r} e h q a = turned_at e (subst (λ (o : List ℕ). Turned line t j ended o r) (sym (q (sym h.slice))) a)

pub same_then : {s s₁ s₂ : Sink} → Same s s₁ → Same s₁ s₂ → Same s s₂
same_then h k = record { slice = k.slice ∙ h.slice; room = k.room ∙ h.room }

long_alike : (asked : Asked) → LongAlike (line_of asked)
long_alike asked s t h k = sym (line_long asked s h) ∙ line_long asked t k

-- bytes at the front of the slice
module _ {o o' s : List ℕ} {r : ℕ} (a : Appends o o' 0 s r) where
  front_long : length s ≡ r
  front_long = omega (arith, a.inside, a.wrote.count)

  front : take r o' ≡ s
  front = ap (take r) (a.wrote.text a.inside) ∙ take_at s (drop r o) r front_long

  front_fits : r ≤ length o'
  front_fits = omega (arith, a.inside, a.wrote.len)

-- lines that end in a newline
module _ (line : Text → List ℕ) {t : Text} {s s' : Sink} {read : ℕ} (a : Answered line t s s' read) where
  pub turned_lines : (ended : Bool) → 0 < read → Turned line t false ended s'.out.now (record { read = read; written = s'.at; inside = false; next = Next.Answer })
  unfolding owed
  turned_lines ended h = record {
    within = a.inside;
    fits = front_fits a.appends;
    owes = λ u _.
        let d : Text = drop read t in
        let q : t ++ u ≡ take read t ++ (d ++ u) = ap (λ (x : Text). x ++ u) (sym (take-append-drop read t)) ∙ append_assoc (take read t) d u in
        ap (answers line) q ∙ a.whole (d ++ u) ∙ ap (λ (x : List ℕ). x ++ answers line (d ++ u)) (sym (front a.appends));
    goes = h;
  }

  -- there is none
  module _ (h : read ≤ 0) where
    pub nothing_written : s'.at ≡ 0
    nothing_written =
        let z : read ≡ 0 = omega arith in
        let q : answers line (take read t) ≡ [] = ap (λ (n : ℕ). answers line (take n t)) z ∙ nothing_left line in
        sym (front_long a.appends) ∙ ap length q

    pub no_lines : longest ≤ length s.out.now → Clear t
    no_lines k i j = a.all (omega (arith, nothing_written)) i (omega arith) j

    -- the rest can be answered at the front
    pub room_left : Whole s → longest ≤ length s.out.now → Whole s' × Space s'.out.now s'.at
    room_left w k = (a.same.room ∙ w ∙ sym a.appends.wrote.len, record { room = omega (arith, nothing_written, a.appends.wrote.len); small = omega (arith, s'.fits.small, s'.fits.short) })

    pub rest_at : {s'' : Sink} {l : List ℕ} → Answers s' s'' l → Appends s'.out.now s''.out.now 0 l s''.at
    rest_at {s''} {l} x = subst (λ (n : ℕ). Appends s'.out.now s''.out.now n l s''.at) nothing_written x.appends

-- the rest, if it is answered
module _ (asked : Asked) {t : Text} {ended : Bool} {o o' : List ℕ} {n : ℕ} (a : Appends o o' 0 (line_of asked t) n) where
  pub turned_last : Resting t ended Rest.Last → Turned (line_of asked) t false ended o' (record { read = length t; written = n; inside = false; next = Next.Done })
  turned_last (e, h) =
      let d : owed (line_of asked) false (drop (length t) t) ≡ [] = ap (owed (line_of asked) false) (drop-length t) ∙ owed_none (line_of asked) [] refl in
      record {
        within = omega arith;
        fits = front_fits a;
        owes = λ u f.
            let z : u ≡ [] = f e in
            let i : owed (line_of asked) false (t ++ u) ≡ line_of asked t = ap (λ (x : Text). owed (line_of asked) false (t ++ x)) z ∙ ap (owed (line_of asked) false) (append-nil t) ∙ h (line_of asked) in
            let j : owed (line_of asked) false (drop (length t) t ++ u) ≡ [] = ap (λ (x : Text). owed (line_of asked) false (drop (length t) t ++ x)) z ∙ ap (owed (line_of asked) false) (append-nil (drop (length t) t)) ∙ d in
            i ∙ sym (front a) ∙ sym (append-nil (take n o')) ∙ ap (λ (x : List ℕ). take n o' ++ x) (sym j);
        goes = (e, d);
      }

  pub turned_long : Resting t ended Rest.Long → Turned (line_of asked) t false ended o' (record { read = length t; written = n; inside = true; next = Next.Read })
  turned_long (e, h) = record {
    within = omega arith;
    fits = front_fits a;
    owes = λ u _.
        h (line_of asked) (long_alike asked) u ∙ ap (λ (x : List ℕ). x ++ owed (line_of asked) true u) (sym (front a)) ∙ ap (λ (x : Text). take n o' ++ owed (line_of asked) true (x ++ u)) (sym (drop-length t));
    goes = (e, omega arith);
  }

-- the rest, if it is not
module _ (line : Text → List ℕ) {t : Text} {ended : Bool} (o : List ℕ) where
  pub turned_more : Resting t ended Rest.More → Turned line t false ended o (record { read = 0; written = 0; inside = false; next = Next.Read })
  turned_more (e, h) = record { within = omega arith; fits = omega arith; owes = λ u _. refl; goes = (e, omega arith) }

  pub turned_nothing : Resting t ended Rest.Nothing → Turned line t false ended o (record { read = 0; written = 0; inside = false; next = Next.Done })
  turned_nothing (e, h) = record { within = omega arith; fits = omega arith; owes = λ u _. refl; goes = (e, h line) }
