-- The two parts of the row of names and texts, and names by their numbers. Assumes nothing.
use mathlib.Core.Path.{◌≡◌, refl}
use mathlib.Core.List.{◌++◌}
use Prim.Native.Nat.{ℕ, ◌+◌, ◌≤◌, ◌<◌}
use lib.ListN.{get_or-eq_default, get_or-append, get_or}
use lib.Seq.{get_or-append-add}
use Rattle.operator_names.specs.Fixed.{fixed_names, fixed, texts, numbered}

-- THE TWO PARTS OF THE ROW
pub numbered_fixed : (n : ℕ) → n < 134 → numbered n ≡ fixed n
unfolding numbered fixed fixed_names
numbered_fixed n h = get_or-append fixed_names texts "" n h

pub numbered_text : (n : ℕ) → numbered (134 + n) ≡ get_or texts n ""
unfolding numbered fixed_names
numbered_text n = get_or-append-add fixed_names texts n ""

-- the names that operators of the machine use, by number
pub fixed_swift : fixed 0 ≡ "Swift"
unfolding fixed fixed_names
fixed_swift = refl

pub fixed_any_object : fixed 3 ≡ "AnyObject"
unfolding fixed fixed_names
fixed_any_object = refl

pub fixed_optional : fixed 28 ≡ "Optional"
unfolding fixed fixed_names
fixed_optional = refl

pub fixed_associated_type : fixed 133 ≡ "associated type descriptor for "
unfolding fixed fixed_names
fixed_associated_type = refl

pub fixed_past : (n : ℕ) → 134 ≤ n → fixed n ≡ ""
unfolding fixed fixed_names
fixed_past n h = get_or-eq_default fixed_names "" h

pub numbered_past : (n : ℕ) → 171 ≤ n → numbered n ≡ ""
unfolding numbered fixed_names texts
numbered_past n h = get_or-eq_default (fixed_names ++ texts) "" h
