-- What a row leaves, and rows as a whole. Assumes nothing.
use Rattle.std.specs.Prelude.{if◌then◌else◌, map, Result, Ok, Err}
use mathlib.Core.Path.{◌≡◌, refl, sym, ap, subst, ◌∙◌}
use mathlib.Core.Bool.{Bool, true, false}
use mathlib.Core.List.{List, [], ◌∷◌}
use Prim.Native.Nat.{ℕ, zero, suc, ◌+◌, ◌*◌, ◌≤◌}
use Prim.Native.String.{String}
use native.Mathlib.Omega.{arith}
use lib.ListN.{length, length-append}
use Rattle.definition.specs.Base.{Out, Done, ret, and_then, ◌>>◌}
use Rattle.definition.specs.Kind as K
use Rattle.definition.specs.Machine as M
use Rattle.definition.specs.Shape as C
use Rattle.definition.specs.Shape.{Shapes, Check}
use Rattle.definition.specs.Check as Ch
use Rattle.definition.specs.Enums as Enums
use Rattle.definition.specs.declared.Refusal.{Refusal}
use Rattle.definition.specs.declared.Operator.{Operator}
use Rattle.machine.specs.Beyond.{Beyond, beyond_itself}
use Rattle.check_entries.specs.Lies.{machine_of, seen_of, entry_of, entry_at, Lent}
use Rattle.check_entries.specs.Means.{take_of}
use Rattle.check_entries.specs.Stores.{Wrote, Did, Failed, Performing}
use Rattle.check_entries.proofs.Top.{length_stack}
use Rattle.check_entries.proofs.Written.{wrote_both}
use Rattle.check_entries.specs.declared.Entry.{Entry}
use Rattle.check_entries.specs.declared.Entries.{Entries}
use Rattle.check_rows.specs.Table.{leaves_of, maybe, RowOf}
use Rattle.check_rows.specs.declared.Row.{Row}
use Rattle.check_takes.specs.Taken.{taken_of}
use Rattle.check_takes.specs.declared.sums.Taken.{Taken}
use Rattle.check_perform.specs.Performs.{Light, RowWent, RowRefused, LeftBy, put, Roomy, Sound}

-- LEAVES
module _ (s t : Entries) {r : Row} {a : Taken} {e : Entry} (l : LeftBy r a e) where
  leave_is : (b : Bool) → r.remembered ≡ b → C.leave s.ceiling (leaves_of r) (taken_of a) (machine_of s) ≡ and_then ((if b then M.remember (entry_of e) else ret tt) (machine_of s)) (λ y. put s.ceiling (maybe r.copies) (entry_of e))
  unfolding C.leave
  leave_is b q =
      ap (λ (x : K.Entry). and_then ((if r.remembered then M.remember x else ret tt) (machine_of s)) (λ y. put s.ceiling (maybe r.copies) x)) (sym l.is)
      ∙ ap (λ (x : Bool). and_then ((if x then M.remember (entry_of e) else ret tt) (machine_of s)) (λ y. put s.ceiling (maybe r.copies) (entry_of e))) q

  pub left_plain : r.remembered ≡ false → (o : Result Done Refusal) → Performing (put s.ceiling (maybe r.copies) (entry_of e)) s t o → Performing (C.leave s.ceiling (leaves_of r) (taken_of a)) s t o
  left_plain q (Ok u) h = record { is = leave_is false q ∙ h.is; wrote = h.wrote }
  left_plain q (Err x) h = record { is = leave_is false q ∙ h.is; wrote = h.wrote }

  module _ {u : Entries} (q : r.remembered ≡ true) (g : Did (M.remember (entry_of e)) s u) where
    leave_then : C.leave s.ceiling (leaves_of r) (taken_of a) (machine_of s) ≡ put u.ceiling (maybe r.copies) (entry_of e) (machine_of u)
    leave_then =
        leave_is true q ∙ (ap (λ (x : Out Shapes Done). and_then x (λ y. put s.ceiling (maybe r.copies) (entry_of e))) g.is
        ∙ ap (λ (N : ℕ). put N (maybe r.copies) (entry_of e) (machine_of u)) (sym g.wrote.lent.ceiling))

    pub left_remembered : (o : Result Done Refusal) → Performing (put u.ceiling (maybe r.copies) (entry_of e)) u t o → Performing (C.leave s.ceiling (leaves_of r) (taken_of a)) s t o
    left_remembered (Ok v) h = record { is = leave_then ∙ h.is; wrote = wrote_both g.wrote h.wrote }
    left_remembered (Err x) h = record { is = leave_then ∙ h.is; wrote = wrote_both g.wrote h.wrote }

-- WHAT FITS
pub length_seen : (w : List ℕ) (N n : ℕ) → length (seen_of w N n) ≡ n
unfolding seen_of
length_seen w N zero = refl
length_seen w N (suc n) = length-append (seen_of w N n) (entry_at w (N + n) ∷ []) ∙ (let q : length (seen_of w N n) + 1 ≡ suc n = omega (arith, length_seen w N n) in q)

module _ {j : ℕ} {s : Entries} (h : Sound j s) where
  pub sound_depth : s.state.depth + j ≤ s.state.budget.total
  sound_depth = omega (arith, h.fits.depth, length_stack s.ws.now s.state.depth)

  pub sound_seen : s.state.seen + j ≤ s.state.budget.total
  sound_seen = omega (arith, h.fits.kept, length_seen s.ws.now s.ceiling s.state.seen)

  -- the stack is inside the workspace
  pub sound_inside : 3 * s.state.depth ≤ length s.ws.now
  sound_inside = omega (arith, sound_depth, h.total, h.long)

module _ {s : Entries} (h : Sound 1 s) where
  pub sound_light : Light s
  sound_light = record {
    held = record { inside = sound_inside h; sized = h.fits.sized; light = omega (arith, h.fits.weight, h.total, h.ceiling) };
    light = omega (arith, h.fits.weight, h.total, h.ceiling);
    few = omega (arith, sound_depth h, h.total, h.ceiling);
  }

  pub sound_roomy : Roomy s
  sound_roomy = record { long = h.long; ceiling = h.ceiling; total = h.total; deep = sound_depth h; seen = sound_seen h }

-- what reading leaves unchanged
read_only : {s t : Entries} → t.ws.now ≡ s.ws.now → Lent s t → Wrote s t
read_only {s} {t} q h = record { outside = subst (λ (w : List ℕ). Beyond 8 s.ceiling s.ws.now w) (sym q) (beyond_itself s.ws.now s.ceiling); lent = h }

pub roomy_after : {ts : List C.Take} {s t : Entries} {b : Taken} → Roomy s → RowWent ts s b t → Roomy t
roomy_after r h = record {
  long = omega (arith, r.long, h.lent.ceiling, ap (λ (w : List ℕ). length w) h.unwritten);
  ceiling = omega (arith, r.ceiling, h.lent.ceiling);
  total = omega (arith, r.total, h.total, h.lent.ceiling);
  deep = omega (arith, r.deep, h.total, h.depth);
  seen = omega (arith, r.seen, h.total, h.seen);
}

-- ROWS
module _ (op : Operator) (r : Row) (q : RowOf op r) (fixed : ℕ → String) (s : Entries) where
  run_is : (N : ℕ) → C.run_row N (C.row (Enums.operator fixed op)) (machine_of s) ≡ C.taking (map take_of r.takes.now) (C.taken 0 0 false) (C.leave N (leaves_of r)) (machine_of s)
  unfolding C.run_row
  run_is N = ap (λ (x : C.Row). C.run_row N x (machine_of s)) (q fixed)

  module _ {t : Entries} where
    pub not_performed : {x : Refusal} → RowRefused (map take_of r.takes.now) s t x → Failed (C.run_row s.ceiling (C.row (Enums.operator fixed op))) s t x
    not_performed h = record { is = run_is s.ceiling ∙ h.is (C.leave s.ceiling (leaves_of r)); wrote = read_only h.unwritten h.lent }

    module _ {b : Taken} (h : RowWent (map take_of r.takes.now) s b t) where
      run_then : C.run_row s.ceiling (C.row (Enums.operator fixed op)) (machine_of s) ≡ C.leave t.ceiling (leaves_of r) (taken_of b) (machine_of t)
      run_then =
          run_is s.ceiling ∙ (h.is (C.leave s.ceiling (leaves_of r))
          ∙ ap (λ (N : ℕ). C.leave N (leaves_of r) (taken_of b) (machine_of t)) (sym h.lent.ceiling))

      pub performed : (u : Entries) (o : Result Done Refusal) → Performing (C.leave t.ceiling (leaves_of r) (taken_of b)) t u o → Performing (C.run_row s.ceiling (C.row (Enums.operator fixed op))) s u o
      performed u (Ok v) g = record { is = run_then ∙ g.is; wrote = wrote_both (read_only h.unwritten h.lent) g.wrote }
      performed u (Err x) g = record { is = run_then ∙ g.is; wrote = wrote_both (read_only h.unwritten h.lent) g.wrote }

-- NAMES
pub named : {s t u : Entries} (words : ℕ) {e : Entry} → e ≡ record { kind = K.identifier; size = 1; count = 0 } → Did (M.remember (entry_of e)) (record s { state = record s.state { words = words } }) t → Did (M.push (entry_of e)) t u → Did (Ch.name s.ceiling words) s u
unfolding Ch.name M.know
named {s} words {e} q h g = record {
  is = ap (λ (x : Entry). (M.know words >> M.remember (entry_of x) >> M.push (entry_of x)) (machine_of s)) (sym q) ∙ (ap (λ (o : Out Shapes Done). and_then o (λ y. M.push (entry_of e))) h.is ∙ g.is);
  wrote = let w = wrote_both h.wrote g.wrote in record { outside = w.outside; lent = record { name = w.lent.name; ceiling = w.lent.ceiling } };
}
