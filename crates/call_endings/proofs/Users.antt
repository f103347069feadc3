-- What a user wants to read about the calls, derived from their contracts: what a refused call
-- leaves, what an accepted one wrote, and which numbers there are. Assumes nothing.
use Rattle.std.specs.Prelude.{if◌then◌else◌}
use mathlib.Core.Path.{◌≡◌, refl, sym, ap, subst, ◌∙◌}
use mathlib.Core.Bool.{Bool, true, false, not}
use mathlib.Core.List.{List, ◌++◌}
use mathlib.Core.Option.{Option, some, none}
use Prim.Native.Nat.{ℕ, ◌*◌, ◌≤◌, ◌<◌}
use native.Mathlib.Omega.{arith}
use lib.Dec.{T, eqb, leb, leb→le, nleb→lt}
use lib.ListN.{length, take, drop}
use lib.Seq.{take-append_seam, drop-append_seam}
use Rattle.definition.specs.Base.{given}
use Rattle.definition.specs.Text.{Text, Symbol, ill_formed, split}
use Rattle.definition.specs.Kind as K
use Rattle.definition.specs.Calls as Calls
use Rattle.definition.specs.Calls.{refusal, within, good_ceiling, admit, symbol, whole_text, check_needs, symbol_kind}
use Rattle.definition.specs.Reading as Reading
use Rattle.definition.specs.Check as Check
use Rattle.definition.specs.Enums.{values}
use Rattle.definition.specs.Enums.{Answer}
use Rattle.call_endings.specs.Answers.{Answers}
use Rattle.call_endings.proofs.Runs.{Plain, refusal_plain, read_ran, read_k_ran, check_ran, check_k_ran}

-- THE DEFINITION'S ANSWERS, BEFORE 12
symbol_plain : (t : Text) (read : Symbol → Calls.Answer) → ((s : Symbol) → Plain (read s)) → Plain (symbol t read)
unfolding symbol
symbol_plain t read h = go (split t)
  where
    go : (o : Option Symbol) → Plain (given o (refusal 5 0) read)
    go none = refusal_plain 5 0 (omega arith)
    go (some s) = h s

admit_plain : (need N workspace : ℕ) (t : Text) (rest : Calls.Answer) → Plain rest → Plain (admit need N workspace t rest)
unfolding admit
admit_plain need N workspace t rest h = go (good_ceiling N) (leb (need * N) workspace) (leb (length t) 65535) (ill_formed t)
  where
    go : (g b l : Bool) (o : Option ℕ) →
        Plain (elim g [ false ↦ refusal 1 0 | true ↦ elim b [ false ↦ refusal 2 0 | true ↦ elim l [ false ↦ refusal 3 0 | true ↦ elim o [ some p ↦ refusal 4 p | none ↦ rest ] ] ] ])
    go false b l o = refusal_plain 1 0 (omega arith)
    go true false l o = refusal_plain 2 0 (omega arith)
    go true true false o = refusal_plain 3 0 (omega arith)
    go true true true (some p) = refusal_plain 4 p (omega arith)
    go true true true none = h

-- WHAT A USER READS
-- the front of the output slice is the text, as long as the answer says, and the rest is unchanged
pub record Wrote (text out out' : List ℕ) (r : Answer) : Type 0 where
  pub long : (values r).length ≡ length text
  pub fits : (values r).length ≤ length out
  pub front : take (values r).length out' ≡ text
  pub rest : drop (values r).length out' ≡ drop (values r).length out

-- For any call with an output slice, where the definition reads `text` (bytes, or the numbers of a
-- stack): a refused call leaves the slice unchanged; an accepted one wrote the text; a refusal has
-- a number from 1 to 12; and it is 12 only if the text is longer than the slice
pub record Promised (text out out' : List ℕ) (r : Answer) : Type 0 where
  pub refused : T (not (eqb (values r).number 0)) → out' ≡ out
  pub accepted : T (eqb (values r).number 0) → Wrote text out out' r
  pub number : (values r).number ≤ 12
  pub too_long : (values r).number ≡ 12 → length out < length text

-- one law for all of them: whatever the definition answers before 12
module _ (a : Calls.Answer) {out out' : List ℕ} {r : Answer} where
  wrote_it : a.values.length ≡ length a.written → length a.written ≤ length out → Answers a out out' r → Wrote a.written out out' r
  wrote_it e l x =
      let m : (values r).length ≡ length a.written = ap (λ (v : Calls.Values). v.length) x.values ∙ e in
      let w = x.written in
      record {
        long = m;
        fits = omega (arith, m, l);
        front = ap (λ (k : ℕ). take k out') m ∙ ap (take (length a.written)) w ∙ take-append_seam a.written (drop (length a.written) out);
        rest = ap (λ (k : ℕ). drop k out') m ∙ ap (drop (length a.written)) w ∙ drop-append_seam a.written (drop (length a.written) out) ∙ ap (λ (k : ℕ). drop k out) (sym m);
      }

module _ (a : Calls.Answer) (h : Plain a) {out out' : List ℕ} {r : Answer} where
  -- it fits
  fitting : length a.written ≤ length out → Answers a out out' r → Promised a.written out out' r
  fitting l x =
      let n : (values r).number ≡ a.values.number = ap (λ (v : Calls.Values). v.number) x.values in
      let low = h.below in
      record {
        refused = λ q. x.written ∙ ap (λ (s : List ℕ). s ++ drop (length s) out) (h.silent (subst (λ (k : ℕ). T (not (eqb k 0))) n q));
        accepted = λ q. wrote_it a h.long l x;
        number = omega (arith, n, low);
        too_long = λ q. absurd (omega (arith, n, low, q));
      }

  -- it is too long
  past : length out < length a.written → Answers (refusal 12 0) out out' r → Promised a.written out out' r
  unfolding refusal
  past l x =
      let n : (values r).number ≡ 12 = ap (λ (v : Calls.Values). v.number) x.values in
      record {
        refused = λ q. x.written;
        accepted = λ q. absurd (subst (λ (k : ℕ). T (eqb k 0)) n q);
        number = omega (arith, n);
        too_long = λ q. l;
      }

  pub promised : Answers (within (length out) a) out out' r → Promised a.written out out' r
  unfolding within
  promised = go (leb (length a.written) (length out)) refl
    where
      go : (b : Bool) → leb (length a.written) (length out) ≡ b → Answers (if b then a else refusal 12 0) out out' r → Promised a.written out out' r
      go true e x = fitting (leb→le (length a.written) (length out) (subst T (sym e) tt)) x
      go false e x = past (nleb→lt (length a.written) (length out) (subst (λ (z : Bool). T (not z)) (sym e) tt)) x

  -- refused or not, what the definition writes is at the front
  pub wrote : Answers (within (length out) a) out out' r → Wrote (within (length out) a).written out out' r
  unfolding within refusal
  wrote = go (leb (length a.written) (length out)) refl
    where
      go : (b : Bool) → leb (length a.written) (length out) ≡ b → Answers (if b then a else refusal 12 0) out out' r → Wrote (if b then a else refusal 12 0).written out out' r
      go true e x = wrote_it a h.long (leb→le (length a.written) (length out) (subst T (sym e) tt)) x
      go false e x = wrote_it (refusal 12 0) refl (omega arith) x

-- THE CALLS
module _ (t : Text) (N w : ℕ) where
  pub symbol_read_plain : Plain (Reading.read t N w)
  unfolding Reading.read
  symbol_read_plain = admit_plain 64 N w t _ (symbol_plain t _ (λ s. (read_ran N symbol_kind s).plain))

  pub type_read_plain : Plain (Reading.read_type t N w)
  unfolding Reading.read_type
  type_read_plain = admit_plain 64 N w t _ (read_ran N K.is_type (whole_text t)).plain

  pub symbol_shape_plain : Plain (Check.shape t N w)
  unfolding Check.shape
  symbol_shape_plain = admit_plain check_needs N w t _ (symbol_plain t _ (λ s. (check_ran N symbol_kind s).plain))

  pub type_shape_plain : Plain (Check.shape_type t N w)
  unfolding Check.shape_type
  type_shape_plain = admit_plain check_needs N w t _ (check_ran N K.is_type (whole_text t)).plain

  pub symbol_read_k_plain : (k : ℕ) → Plain (Reading.read_stopped t N k w)
  unfolding Reading.read_stopped
  symbol_read_k_plain k = admit_plain 64 N w t _ (symbol_plain t _ (λ s. (read_k_ran N k s).plain))

  pub type_read_k_plain : (k : ℕ) → Plain (Reading.read_type_stopped t N k w)
  unfolding Reading.read_type_stopped
  type_read_k_plain k = admit_plain 64 N w t _ (read_k_ran N k (whole_text t)).plain

  -- the stopped checks before 12
  abbrev pub symbol_check : ℕ → Calls.Answer
  symbol_check k = admit check_needs N w t (symbol t (Check.stopped_after N k))

  abbrev pub type_check : ℕ → Calls.Answer
  type_check k = admit check_needs N w t (Check.stopped_after N k (whole_text t))

  pub symbol_check_k_plain : (k : ℕ) → Plain (symbol_check k)
  symbol_check_k_plain k = admit_plain 8 N w t _ (symbol_plain t _ (λ s. (check_k_ran N k s).plain))

  pub type_check_k_plain : (k : ℕ) → Plain (type_check k)
  type_check_k_plain k = admit_plain 8 N w t _ (check_k_ran N k (whole_text t)).plain

module _ (t : Text) (N w : ℕ) {out out' : List ℕ} {r : Answer} where
  -- a reading: its text is the definition's
  pub demangle_promises : Answers (Reading.demangle t N w (length out)) out out' r → Promised (Reading.read t N w).written out out' r
  unfolding Reading.demangle
  demangle_promises = promised _ (symbol_read_plain t N w)

  pub demangle_type_promises : Answers (Reading.demangle_type t N w (length out)) out out' r → Promised (Reading.read_type t N w).written out out' r
  unfolding Reading.demangle_type
  demangle_type_promises = promised _ (type_read_plain t N w)

  -- a stopped reading: what it writes is the entries of the definition's trees after k operators
  pub demangle_stopped_promises : (k : ℕ) → Answers (Reading.demangle_stopped t N k w (length out)) out out' r → Promised (Reading.read_stopped t N k w).written out out' r
  unfolding Reading.demangle_stopped
  demangle_stopped_promises k = promised _ (symbol_read_k_plain t N w k)

  pub demangle_type_stopped_promises : (k : ℕ) → Answers (Reading.demangle_type_stopped t N k w (length out)) out out' r → Promised (Reading.read_type_stopped t N k w).written out out' r
  unfolding Reading.demangle_type_stopped
  demangle_type_stopped_promises k = promised _ (type_read_k_plain t N w k)

  -- a stopped check: the entries of its own stack
  pub shape_stopped_promises : (k : ℕ) → Answers (Check.shape_stopped t N k w (length out)) out out' r → Promised (symbol_check t N w k).written out out' r
  unfolding Check.shape_stopped
  shape_stopped_promises k = promised _ (symbol_check_k_plain t N w k)

  pub shape_type_stopped_promises : (k : ℕ) → Answers (Check.shape_type_stopped t N k w (length out)) out out' r → Promised (type_check t N w k).written out out' r
  unfolding Check.shape_type_stopped
  shape_type_stopped_promises k = promised _ (type_check_k_plain t N w k)

-- a whole check has no output slice: its number is 0 to 11
module _ (t : Text) (N w : ℕ) (r : Answer) where
  pub shape_number : values r ≡ (Check.shape t N w).values → (values r).number ≤ 11
  shape_number e = subst (λ (v : Calls.Values). v.number ≤ 11) (sym e) (symbol_shape_plain t N w).below

  pub shape_type_number : values r ≡ (Check.shape_type t N w).values → (values r).number ≤ 11
  shape_type_number e = subst (λ (v : Calls.Values). v.number ≤ 11) (sym e) (type_shape_plain t N w).below
