-- Two calls on one text agree; what they leave; all eight agree. Assumes nothing.
use Rattle.std.specs.Prelude.{if◌then◌else◌}
use mathlib.Core.Path.{◌≡◌, refl, sym, ap, ap₂, subst, ◌∙◌}
use mathlib.Core.Bool.{Bool, true, false, not, ◌&&◌}
use mathlib.Core.List.{List, [], ◌∷◌}
use Prim.Native.Nat.{ℕ, ◌≤◌}
use native.Mathlib.Omega.{arith}
use borrow.Author.Tests.{ne_eqb}
use lib.Dec.{T, eqb, leb, eqb→eq, leb→le, nleb→lt}
use lib.ListN.{length, take, length-take}
use Rattle.definition.specs.Base.{same}
use Rattle.definition.specs.Text.{Text}
use Rattle.definition.specs.Calls as Calls
use Rattle.definition.specs.Calls.{refusal, within, admit, reading_needs, check_needs}
use Rattle.definition.specs.Reading as Reading
use Rattle.definition.specs.Check as Check
use Rattle.definition.specs.Alike.{enough, with_text}
use Rattle.definition.specs.Enums.{values}
use Rattle.definition.specs.Enums.{Answer}
use Rattle.definition.proofs.SameText.{passed, both, same_refl}
use Rattle.definition.proofs.JudgingAlike.{judging_alike}
use Rattle.call_endings.specs.Answers.{Answers}
use Rattle.machine.specs.Beyond.{beyond_itself, beyond_both}
use Rattle.call_endings.specs.Workspace.{early, Scratch}
use Rattle.call_endings.proofs.Runs.{Plain}
use Rattle.call_endings.proofs.Users.{Wrote, wrote, symbol_read_plain, type_read_plain, symbol_shape_plain, type_shape_plain, symbol_read_k_plain, type_read_k_plain, symbol_check_k_plain, type_check_k_plain}
use Rattle.call_admission.specs.Admits.{framed}
use Rattle.machine.specs.declared.runs.Final.{Final}
use Rattle.swift_demangle.specs.Calls.{read_whole, read_stopped}
use Rattle.swift_shape.specs.Calls.{check_whole, check_stopped}
use Rattle.call_values.specs.Agreement.{same_values, same_answer, due, whole_agree, with_length, values_due, values_agree, judged}
use Rattle.call_values.proofs.agreement.Compared.{values_equal, one_length, equal_answers, due_refused, due_accepted, due_too_long, alike_agree, values_due_accepted}
use Rattle.call_alike.specs.Exits.{read_text, put, Whole, Stopped, all_early, Lent, slices, type_reading, stopped_type_reading, stopped_type_check, Judges}

-- WHOLE CALLS
module _ (out : ℕ) (a : Calls.Answer) where
  within_fits : leb (length a.written) out ≡ true → within out a ≡ a
  unfolding within
  within_fits e = rw e refl

  within_past : leb (length a.written) out ≡ false → within out a ≡ refusal 12 0
  unfolding within
  within_past e = rw e refl

  -- a refused call writes nothing, also with 12
  within_silent : Plain a → T (not (eqb (within out a).values.number 0)) → (within out a).written ≡ []
  unfolding within refusal
  within_silent h = go (leb (length a.written) out)
    where
      go : (b : Bool) → T (not (eqb (if b then a else refusal 12 0).values.number 0)) → (if b then a else refusal 12 0).written ≡ []
      go true k = h.silent k
      go false k = refl

-- a test that implies the next one
implied : (a b : Bool) → (a ≡ true → b ≡ true) → a ≡ (a && b)
implied true b h = sym (h refl)
implied false b h = refl

-- The values decide the same as the whole answers: the length of the text that an accepted reading
-- writes is the length in its answer, and 12 is its answer exactly where the text is longer than
-- the output
module _ (out : ℕ) (a c : Calls.Answer) (h : Plain a) (k : Plain c) where
  abbrev Decides : (reading due : Calls.Answer) → Type 0
  Decides r d = values_agree r.values c.values ≡ same_answer r d

  both_refuse : (r : Calls.Answer) → (T (not (eqb r.values.number 0)) → r.written ≡ []) → eqb c.values.number 0 ≡ false → Decides r c
  both_refuse r silent e =
      let late : T (not (eqb c.values.number 0)) = subst (λ (z : Bool). T (not z)) (sym e) tt in
      let due : values_due r.values c.values ≡ c.values = rw e refl in
      let nothing : same_values r.values c.values ≡ true → same r.written c.written ≡ true =
      λ q.
      let v : r.values ≡ c.values = values_equal r.values c.values (subst T (sym q) tt) in
      ap₂ {C = Bool} same (silent (subst (λ (x : Calls.Values). T (not (eqb x.number 0))) (sym v) late)) (k.silent late)
      in
      ap (same_values r.values) due ∙ implied (same_values r.values c.values) (same r.written c.written) nothing

  fits : (b : Bool) → eqb a.values.number 0 ≡ b → c.values.number ≡ 0 → Decides a (with_text a.written c)
  unfolding refusal
  fits true e z =
      let due : values_due a.values c.values ≡ (with_text a.written c).values =
      sym (values_due_accepted a.values c.values z (eqb→eq a.values.number 0 (subst T (sym e) tt))) ∙ ap (λ (n : ℕ). with_length n c.values) h.long
      in
      ap (same_values a.values) due ∙ implied (same_values a.values (with_text a.written c).values) (same a.written a.written) (λ _. passed (same a.written a.written) (same_refl a.written))
  fits false e z = let low = h.below in rw (z, e, ne_eqb a.values.number 12 (λ q. omega (arith, low, q))) refl

  too_long : eqb c.values.number 0 ≡ true → Decides (refusal 12 0) (refusal 12 0)
  unfolding refusal
  too_long e = rw e refl

  pub values_decide : values_agree (within out a).values c.values ≡ whole_agree out a.written (within out a) c
  values_decide = go (eqb c.values.number 0) refl (leb (length a.written) out) refl
    where
      at : (r d : Calls.Answer) → within out a ≡ r → due out a.written c ≡ d → Decides r d → Decides (within out a) (due out a.written c)
      at r d e f q = ap (λ (x : Calls.Answer). values_agree x.values c.values) e ∙ q ∙ sym (ap₂ {C = Bool} same_answer e f)

      go : (b : Bool) → eqb c.values.number 0 ≡ b → (l : Bool) → leb (length a.written) out ≡ l → Decides (within out a) (due out a.written c)
      go false e l q =
          let x : T (not (eqb c.values.number 0)) = subst (λ (z : Bool). T (not z)) (sym e) tt in
          at (within out a) c refl (due_refused out a.written c x) (both_refuse (within out a) (within_silent out a h) e)
      go true e true q =
          let x : T (eqb c.values.number 0) = subst T (sym e) tt in
          let y = leb→le (length a.written) out (subst T (sym q) tt) in
          at a (with_text a.written c) (within_fits out a q) (due_accepted out a.written c x y) (fits (eqb a.values.number 0) refl (eqb→eq c.values.number 0 x))
      go true e false q =
          let x : T (eqb c.values.number 0) = subst T (sym e) tt in
          let y = nleb→lt (length a.written) out (subst (λ (z : Bool). T (not z)) (sym q) tt) in
          at (refusal 12 0) (refusal 12 0) (within_past out a q) (due_too_long out a.written c x y) (too_long e)

-- workspaces, by the numbers of the definition
scratch : {need N : ℕ} {w w' : List ℕ} {v u : Calls.Values} → v ≡ u → Scratch need N v.number w w' → Scratch need N u.number w w'
scratch {need} {N} {w} {w'} e h = subst (λ (x : Calls.Values). Scratch need N x.number w w') e h

whole_calls : (N : ℕ) (a c : Calls.Answer) (x y : Answer) (r : Bool) {w w' v v' out out' : List ℕ} → Plain a → Plain c →
    Answers (within (length out) a) out out' x × Scratch reading_needs N (values x).number w w' →
    (values y ≡ c.values) × Scratch check_needs N (values y).number v v' →
    r ≡ values_agree (values x) (values y) → Whole N a.written (within (length out) a) c w w' v v' out out' r
whole_calls N a c x y r {out = out} h k p q e = record {
  answer = e ∙ ap₂ {C = Bool} values_agree p.0.values q.0 ∙ values_decide (length out) a c h k;
  out = p.0.written;
  reading_workspace = scratch p.0.values p.1;
  check_workspace = scratch q.0 q.1;
}

-- each of the definition's answers is plain, for a symbol and for a type
module _ (t : Text) (N w : ℕ) where
  read_plain : (what : Final) → Plain (read_text what t N w)
  unfolding Reading.read Reading.read_type
  read_plain Final.Symbol = symbol_read_plain t N w
  read_plain Final.Type = type_read_plain t N w

  shape_plain : (what : Final) → Plain (check_whole what t N w)
  unfolding Check.shape Check.shape_type
  shape_plain Final.Symbol = symbol_shape_plain t N w
  shape_plain Final.Type = type_shape_plain t N w

  read_k_plain : (what : Final) (k : ℕ) → Plain (admit reading_needs N w t (framed what t (Reading.stopped_after N k)))
  unfolding Reading.read_stopped Reading.read_type_stopped
  read_k_plain Final.Symbol k = symbol_read_k_plain t N w k
  read_k_plain Final.Type k = type_read_k_plain t N w k

  check_k_plain : (what : Final) (k : ℕ) → Plain (admit check_needs N w t (framed what t (Check.stopped_after N k)))
  check_k_plain Final.Symbol k = symbol_check_k_plain t N w k
  check_k_plain Final.Type k = type_check_k_plain t N w k

pub whole_is : (t : Text) (what : Final) (N : ℕ) (x y : Answer) (r : Bool) {w w' v v' out out' : List ℕ} →
    Answers (read_whole what t N (length w) (length out)) out out' x × Scratch reading_needs N (values x).number w w' →
    (values y ≡ (check_whole what t N (length v)).values) × Scratch check_needs N (values y).number v v' → r ≡ values_agree (values x) (values y) →
    Whole N (read_text what t N (length w)).written (read_whole what t N (length w) (length out)) (check_whole what t N (length v)) w w' v v' out out' r
whole_is t what N x y r {w} {v = v} = whole_calls N (read_text what t N (length w)) (check_whole what t N (length v)) x y r (read_plain t N (length w) what) (shape_plain t N (length v) what)

-- STOPPED CALLS
-- the numbers that were written are within the slice
pub still_fits : {text out out' : List ℕ} (r : Answer) → Wrote text out out' r → (values r).length ≤ length out'
still_fits {text} {out} {out'} r h = let m = h.long in let n = ap length h.front in omega (arith, m, n, length-take (values r).length out')

-- what the code compares: the values, and as many numbers of both stacks as the length of the
-- reading says
abbrev Compared : (x y : Answer) (s z : List ℕ) → Bool → Type 0
Compared x y s z r = r ≡ (same_values (values x) (values y) && same (take (values x).length s) (take (values x).length z))

module _ (a c : Calls.Answer) (x y : Answer) (r : Bool) {s s' z z' : List ℕ} where
  answer_is : Wrote a.written s s' x → values x ≡ a.values → Wrote c.written z z' y → values y ≡ c.values → Compared x y s' z' r → r ≡ same_answer a c
  answer_is h e k f q = go (same_values (values x) (values y)) refl
    where
      alike : same_values (values x) (values y) ≡ same_values a.values c.values
      alike = ap₂ {C = Bool} same_values e f

      go : (b : Bool) → same_values (values x) (values y) ≡ b → r ≡ same_answer a c
      go false g =
          let l : same_values a.values c.values ≡ false = sym alike ∙ g in
          q ∙ ap (λ (b : Bool). b && same (take (values x).length s') (take (values x).length z')) g ∙ rw l refl
      go true g =
          let l : same_values a.values c.values ≡ true = sym alike ∙ g in
          let n : (values x).length ≡ (values y).length = one_length (values x) (values y) g in
          let i : take (values x).length z' ≡ c.written = ap (λ (m : ℕ). take m z') n ∙ k.front in
          q ∙ ap (λ (b : Bool). b && same (take (values x).length s') (take (values x).length z')) g ∙ ap₂ {C = Bool} same h.front i ∙ rw l refl

stopped_calls : (N : ℕ) (a c : Calls.Answer) (x y : Answer) (r : Bool) {w w' v v' s s' z z' : List ℕ} → Wrote a.written s s' x → Wrote c.written z z' y →
    Answers a s s' x × Scratch reading_needs N (values x).number w w' → Answers c z z' y × Scratch check_needs N (values y).number v v' →
    Compared x y s' z' r → Stopped N a c w w' v v' s s' z z' r
stopped_calls N a c x y r h k p q e = record {
  answer = answer_is a c x y r h p.0.values k q.0.values e;
  reading_stack = p.0.written;
  check_stack = q.0.written;
  reading_workspace = scratch p.0.values p.1;
  check_workspace = scratch q.0.values q.1;
}

-- what each stopped call wrote
module _ (t : Text) (what : Final) (N k w : ℕ) {out out' : List ℕ} {r : Answer} where
  pub read_wrote : Answers (read_stopped what t N k w (length out)) out out' r → Wrote (read_stopped what t N k w (length out)).written out out' r
  read_wrote = wrote _ (read_k_plain t N w what k)

  pub check_wrote : Answers (check_stopped what t N k w (length out)) out out' r → Wrote (check_stopped what t N k w (length out)).written out out' r
  check_wrote = wrote _ (check_k_plain t N w what k)

pub stopped_is : (t : Text) (what : Final) (N k : ℕ) (x y : Answer) (r : Bool) {w w' v v' s s' z z' : List ℕ} →
    Answers (read_stopped what t N k (length w) (length s)) s s' x × Scratch reading_needs N (values x).number w w' →
    Answers (check_stopped what t N k (length v) (length z)) z z' y × Scratch check_needs N (values y).number v v' → Compared x y s' z' r →
    Stopped N (read_stopped what t N k (length w) (length s)) (check_stopped what t N k (length v) (length z)) w w' v v' s s' z z' r
stopped_is t what N k x y r {w} {v = v} p q e = stopped_calls N _ _ x y r (read_wrote t what N k (length w) p.0) (check_wrote t what N k (length v) q.0) p q e

-- ALL EIGHT
-- Judging alike: with large enough workspaces, and stacks of equal length, the test passes
pub judged_true : (t : Text) (N k w w' out s s' : ℕ) → T (enough reading_needs N w) → T (enough check_needs N w') → s ≡ s' → judged t N k w w' out s s' ≡ true
judged_true t N k w w' out s s' h h' e =
    let a = judging_alike t N k w w' out h h' in
    let b = judging_alike t N k w w' s h h' in
    subst (λ (x : ℕ). judged t N k w w' out s x ≡ true) e
    (rw (alike_agree out _ _ _ a.symbol, alike_agree out _ _ _ a.type, equal_answers _ _ b.symbol_stopped, equal_answers _ _ b.type_stopped) refl)

-- a workspace that is passed from call to call
lent_first : {need N : ℕ} {w : List ℕ} → Lent need N [] w w
lent_first = record { beyond = beyond_itself _ _; untouched = λ h. refl }

lent_then : {need N : ℕ} {more : List Calls.Answer} {w w₁ w₂ : List ℕ} (a : Calls.Answer) → Scratch need N a.values.number w w₁ → Lent need N more w₁ w₂ → Lent need N (a ∷ more) w w₂
lent_then {more = more} a h k = record {
  beyond = beyond_both h.beyond k.beyond;
  untouched = λ q. let p = both (early a.values.number) (all_early more) q in k.untouched p.1 ∙ h.untouched p.0;
}

module _ (t : Text) (N k : ℕ) {w w₁ w₂ w₃ w₄ v v₁ v₂ v₃ v₄ out out₁ out₂ s s₁ s₂ z z₁ z₂ : List ℕ} {r₁ r₂ r₃ r₄ : Bool} where
  -- the four pairs of calls, each on what the previous one left
  pub judges : Whole N (read_text Final.Symbol t N (length w)).written (read_whole Final.Symbol t N (length w) (length out)) (check_whole Final.Symbol t N (length v)) w w₁ v v₁ out out₁ r₁ →
      Whole N (read_text Final.Type t N (length w₁)).written (read_whole Final.Type t N (length w₁) (length out₁)) (check_whole Final.Type t N (length v₁)) w₁ w₂ v₁ v₂ out₁ out₂ r₂ →
      Stopped N (read_stopped Final.Symbol t N k (length w₂) (length s)) (check_stopped Final.Symbol t N k (length v₂) (length z)) w₂ w₃ v₂ v₃ s s₁ z z₁ r₃ →
      Stopped N (read_stopped Final.Type t N k (length w₃) (length s₁)) (check_stopped Final.Type t N k (length v₃) (length z₁)) w₃ w₄ v₃ v₄ s₁ s₂ z₁ z₂ r₄ →
      length out₁ ≡ length out → length s₁ ≡ length s → length z₁ ≡ length z →
      Judges t N k (slices w v out s z) (slices w₄ v₄ out₂ s₂ z₂) (r₁ && r₂ && r₃ && r₄)
  unfolding Reading.read Reading.read_type Reading.demangle Reading.demangle_type Reading.read_stopped Reading.read_type_stopped Reading.demangle_stopped Reading.demangle_type_stopped Check.shape Check.shape_type Check.shape_stopped Check.shape_type_stopped
  judges a b₀ c₀ d₀ eo es ez =
      let ew₁ = a.reading_workspace.beyond.long in
      let ev₁ = a.check_workspace.beyond.long in
      let ew₂ = b₀.reading_workspace.beyond.long ∙ ew₁ in
      let ev₂ = b₀.check_workspace.beyond.long ∙ ev₁ in
      let ew₃ = c₀.reading_workspace.beyond.long ∙ ew₂ in
      let ev₃ = c₀.check_workspace.beyond.long ∙ ev₂ in
      let b = rw (ew₁, ev₁, eo) at b₀ in
      let c = rw (ew₂, ev₂) at c₀ in
      let d = rw (ew₃, ev₃, es, ez) at d₀ in
      let before = slices w v out s z in
      let answer : (r₁ && r₂ && r₃ && r₄) ≡ judged t N k (length w) (length v) (length out) (length s) (length z) = rw (a.answer, rw eo at b.answer, c.answer, d.answer) refl in
      record {
        answer = answer;
        alike = λ h h' q. answer ∙ judged_true t N k (length w) (length v) (length out) (length s) (length z) h h' q;
        out = b.out ∙ ap (put (type_reading t N before)) a.out;
        reading_stack = d.reading_stack ∙ ap (put (stopped_type_reading t N k before)) c.reading_stack;
        check_stack = d.check_stack ∙ ap (put (stopped_type_check t N k before)) c.check_stack;
        reading_workspace = lent_then _ a.reading_workspace (lent_then _ b.reading_workspace (lent_then _ c.reading_workspace (lent_then _ d.reading_workspace lent_first)));
        check_workspace = lent_then _ a.check_workspace (lent_then _ b.check_workspace (lent_then _ c.check_workspace (lent_then _ d.check_workspace lent_first)));
      }
