-- A machine that fits its charged total also fits it after each operator. Assumes nothing.
use mathlib.Core.Path.{◌≡◌, ap}
use Prim.Native.Nat.{ℕ, ◌≤◌}
use native.Mathlib.Omega.{arith}
use Rattle.definition.specs.Base.{Out, ok, refused, Done}
use Rattle.definition.specs.Machine as M
use Rattle.definition.specs.Shape as C
use Rattle.definition.specs.Shape.{Shapes, Check}
use Rattle.definition.specs.Check as Ch
use Rattle.definition.specs.Operators as Op
use Rattle.definition.proofs.Room.{Fits, row_keeps, row_total, name_keeps, recall_keeps, recall_total}
use Rattle.check_entries.specs.Lies.{machine_of}
use Rattle.check_entries.specs.declared.Entries.{Entries}
use Rattle.check_entries.specs.Stores.{Did}
use Rattle.check_perform.specs.Performs.{Sound, recall_copies}

module _ {j : ℕ} {s t : Entries} {f : Check Done} (h : Sound j s) (d : Did f s t) where
  settled : Fits 0 (machine_of t) → t.state.budget.total ≤ s.ceiling → Sound 0 t
  settled f b = record {
    long = omega (arith, h.long, d.wrote.outside.long, d.wrote.lent.ceiling);
    ceiling = omega (arith, h.ceiling, d.wrote.lent.ceiling);
    total = omega (arith, b, d.wrote.lent.ceiling);
    fits = f;
  }

-- what is charged in the outcome of a step
charged : Out Shapes Done → ℕ
charged (ok x m) = m.budget.total
charged (refused r) = 0

module _ {s t : Entries} where
  pub sound_row : (op : Op.Operator) → Sound 1 s → Did (C.run_row s.ceiling (C.row op)) s t → Sound 0 t
  sound_row op h d = settled h d
      (row_keeps s.ceiling op (machine_of s) (machine_of t) h.fits d.is)
      (row_total s.ceiling op (machine_of s) (machine_of t) h.fits h.total d.is)

  pub sound_name : (words : ℕ) → Sound 1 s → Did (Ch.name s.ceiling words) s t → Sound 0 t
  unfolding charged Ch.name M.know M.remember M.push
  sound_name words h d = let q : s.state.budget.total ≡ t.state.budget.total = ap charged d.is in
      settled h d (name_keeps s.ceiling words (machine_of s) (machine_of t) h.fits d.is) (omega (arith, q, h.total))

  pub sound_recall : (times i : ℕ) → Sound 0 s → Did (recall_copies s.ceiling times i) s t → Sound 0 t
  sound_recall times i h d = settled h d
      (recall_keeps s.ceiling times i (machine_of s) (machine_of t) h.fits d.is)
      (recall_total s.ceiling times i (machine_of s) (machine_of t) h.total d.is)
