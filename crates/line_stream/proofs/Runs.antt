-- All that a run writes is the definition's answers to all that it read; and the loop that makes the
-- steps of a run. Assumes nothing.
use mathlib.Core.Path.{◌≡◌, refl, sym, ap, subst, ◌∙◌}
use mathlib.Core.Bool.{Bool, true, false}
use mathlib.Core.List.{List, [], ◌++◌, append_assoc, append-nil}
use Rattle.std.specs.Prelude.{Option}
use Rattle.std.specs.Io.KnownBytes.{Appends, Consumes, IsAtEnd}
use Rattle.std.proofs.KnownBytes.{Consumes-nil, Appends-nil, Consumes-trans, Appends-trans, Consumes-whole}
use Prim.Native.Nat.{ℕ, zero, suc, ◌+◌, ◌-◌, ◌*◌, ◌^◌, ◌≤◌, ◌<◌}
use native.Mathlib.Omega.{arith}
use lib.Dec.{eqb, eqb-suc-zero}
use lib.ListN.{length, take, length-append}
use Rattle.definition.specs.Text.{Text}
use Rattle.line_forms.specs.Lines.{answers, owed}
use Rattle.line_buffers.specs.Buffers.{Follows, due, Holds, fetched, Stepped, Reading, Took, Run, ends, goes_on, start, AnsweredAll}
use Rattle.line_buffers.specs.declared.Next.{Next}
use Rattle.line_buffers.specs.declared.State.{State}

module _ (line : Text → List ℕ) where
  -- nothing is read after the end of the input
  run_follows : {l : List ℕ} {s : State} {read : Text} {written : List ℕ} → Run line l s read written → Follows s.ended read
  run_follows (ends e d) = λ _. refl
  run_follows (goes_on {read = read} x r) = λ e.
      let p = x.ended e in
      ap (λ (t : Text). t ++ read) p.1 ∙ run_follows r p.0

  run_owed : {l : List ℕ} {s : State} {read : Text} {written : List ℕ} → Run line l s read written → due line l s read ≡ written
  run_owed (ends e d) = d
  run_owed (goes_on {o' = o'} {r = r} {read = read} x g) = x.owes read (run_follows g) ∙ ap (λ (t : List ℕ). take r.written o' ++ t) (run_owed g)

  pub run_answers : {l : List ℕ} {read : Text} {written : List ℕ} → Run line l start read written → answers line read ≡ written
  unfolding owed
  run_answers g = run_owed g

-- THE LOOP
-- 1 if the end of the input is not read yet
abbrev pub waits : (ended : Bool) → ℕ
waits true = 0
waits false = 1

-- 1 if what is kept is answered next
abbrev pub answering : Next → ℕ
answering Next.Read = 0
answering Next.Answer = 1
answering Next.Done = 0

-- After `made` steps: what was read and written, from the input i and the output w on. The answers
-- to what was read and to what follows it are what was written and what is owed. `few` bounds the
-- steps: one that reads nothing makes the terms after `made` less, and one that reads n bytes makes
-- the left side greater by at most 2 n.
pub record Going (line : Text → List ℕ) (i i' w w' : Option (List ℕ)) (l : List ℕ) (s : State) (made : ℕ) : Type 0 where
  pub read : Text
  pub written : List ℕ
  pub took : Consumes i i' read
  pub gave : Appends w w' written
  pub owes : (u : Text) → Follows s.ended u → answers line (read ++ u) ≡ written ++ due line l s u
  pub holds : Holds l s
  pub over : s.ended ≡ true → IsAtEnd i'
  pub few : made + (s.end - s.from) + waits s.ended + answering s.next ≤ 2 * length read + 1

not_ended : false ≡ true → ⊥
not_ended e = let z : ◌≡◌ {A = ℕ} 0 1 = cc in omega arith

pub going_start : (line : Text → List ℕ) (i w : Option (List ℕ)) (l : List ℕ) → Going line i i w w l start 0
unfolding owed
going_start line i w l = record {
  read = [];
  written = [];
  took = Consumes-nil i;
  gave = Appends-nil w;
  owes = λ u _. refl;
  holds = record { order = omega arith; within = omega arith; asks = λ _. (refl, omega arith) };
  over = λ e. absurd (not_ended e);
  few = omega arith;
}

waits_read : (n : ℕ) → waits (eqb n 0) ≤ n
waits_read zero = omega arith
waits_read (suc n) = rw (eqb-suc-zero n) (omega arith)

-- one step more
module _ {line : Text → List ℕ} {i i₁ w w₁ : Option (List ℕ)} {l l' o' : List ℕ} {b r : State} {made : ℕ} (g : Going line i i₁ w w₁ l b made) (x : Stepped line l l' o' b r) where
  follows : (u : Text) → Follows r.ended u → Follows b.ended (fetched b.next l' b r.end ++ u)
  follows u h = λ e.
      let p = x.ended e in
      ap (λ (m : Text). m ++ u) p.1 ∙ h p.0

  owes_more : (u : Text) → Follows r.ended u → answers line ((g.read ++ fetched b.next l' b r.end) ++ u) ≡ (g.written ++ take r.written o') ++ due line l' r u
  owes_more u h =
      ap (answers line) (append_assoc g.read (fetched b.next l' b r.end) u) ∙ g.owes (fetched b.next l' b r.end ++ u) (follows u h) ∙ ap (λ (m : List ℕ). g.written ++ m) (x.owes u h) ∙ sym (append_assoc g.written (take r.written o') (due line l' r u))

  less_kept : (n : Next) → r.next ≡ n → (r.end - r.from) + answering n ≤ (b.end - b.from) + length (fetched b.next l' b r.end)
  less_kept Next.Read q = omega (arith, x.grew, x.forward)
  less_kept Next.Answer q = omega (arith, x.grew, x.onward q, x.holds.order)
  less_kept Next.Done q = omega (arith, x.grew, x.forward)

  module _ (i₂ : Option (List ℕ)) where
    took_more : (n : Next) → Reading n i₁ i₂ (fetched n l' b r.end) b.ended r.ended → Consumes i₁ i₂ (fetched n l' b r.end)
    took_more Next.Read y = y.0
    took_more Next.Answer y = subst (λ (o : Option (List ℕ)). Consumes i₁ o []) (sym y.0) (Consumes-nil i₁)
    took_more Next.Done y = subst (λ (o : Option (List ℕ)). Consumes i₁ o []) (sym y.0) (Consumes-nil i₁)

    over_more : (n : Next) → Reading n i₁ i₂ (fetched n l' b r.end) b.ended r.ended → r.ended ≡ true → IsAtEnd i₂
    over_more Next.Read y = y.2
    over_more Next.Answer y = λ e. subst IsAtEnd (sym y.0) (g.over (sym y.1 ∙ e))
    over_more Next.Done y = λ e. subst IsAtEnd (sym y.0) (g.over (sym y.1 ∙ e))

    less_waits : (n : Next) → b.next ≡ n → (n ≡ Next.Done → ⊥) → Reading n i₁ i₂ (fetched n l' b r.end) b.ended r.ended → waits r.ended + 1 ≤ waits b.ended + answering n + length (fetched n l' b r.end)
    less_waits Next.Read q d y =
        let e : waits b.ended ≡ 1 = ap waits (g.holds.asks q).0 in
        let k : waits r.ended ≤ length (fetched Next.Read l' b r.end) = subst (λ (z : Bool). waits z ≤ length (fetched Next.Read l' b r.end)) (sym y.1) (waits_read (length (fetched Next.Read l' b r.end))) in
        omega arith
    less_waits Next.Answer q d y =
        let e : waits r.ended ≡ waits b.ended = ap waits y.1 in
        omega arith
    less_waits Next.Done q d y = absurd (d refl)

    pub going_next : (w₂ : Option (List ℕ)) → (b.next ≡ Next.Done → ⊥) → Took i₁ i₂ l' b r → Appends w₁ w₂ (take r.written o') → Going line i i₂ w w₂ l' r (made + 1)
    going_next w₂ d t a = record {
      read = g.read ++ fetched b.next l' b r.end;
      written = g.written ++ take r.written o';
      took = Consumes-trans i i₁ i₂ g.read (fetched b.next l' b r.end) g.took (took_more b.next t);
      gave = Appends-trans w w₁ w₂ g.written (take r.written o') g.gave a;
      owes = owes_more;
      holds = x.holds;
      over = over_more b.next t;
      few = omega (arith, g.few, less_kept r.next refl, less_waits b.next refl d t, length-append g.read (fetched b.next l' b r.end));
    }

-- the program is done
module _ {line : Text → List ℕ} {i i' w w' : Option (List ℕ)} {l : List ℕ} {s : State} {made : ℕ} (g : Going line i i' w w' l s made) where
  pub answered_all : s.ended ≡ true → due line l s [] ≡ [] → AnsweredAll line i i' w w'
  answered_all e d =
      let all : answers line g.read ≡ g.written = ap (answers line) (sym (append-nil g.read)) ∙ g.owes [] (λ _. refl) ∙ ap (λ (m : List ℕ). g.written ++ m) d ∙ append-nil g.written in
      Consumes-whole i i' g.read (λ (t : Text). length t < 2 ^ 62 → IsAtEnd i' × Appends w w' (answers line t)) g.took (g.over e) (λ _. (g.over e, subst (Appends w w') (sym all) g.gave))
