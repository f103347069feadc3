-- The text of a generic signature is at least three times as long as its parameter count, and the
-- name of a parameter has a letter.
use mathlib.Core.List.{List, [], ◌∷◌}
use Prim.Native.Nat.{ℕ, zero, suc, ◌+◌, ◌*◌, ◌≤◌}
use native.Mathlib.Omega.{arith}
use lib.ListN.{length, length-append}
use Rattle.definition.specs.Base.{Name, bytes}
use Rattle.definition.specs.Node.{Nodes, GenericSignature}
use Rattle.definition.specs.Print.{join, param_letters, generic_param_name, param_names, signature_text, printed, printing, print}

-- the loop of lines 532 to 538 pushes a letter before its first test
pub letters_not_empty : (index : ℕ) → 1 ≤ length (param_letters (suc index) index)
unfolding param_letters
letters_not_empty index = omega arith

-- lines 529 to 543
pub name_not_empty : (depth index : ℕ) → 1 ≤ length (generic_param_name depth index)
unfolding generic_param_name
name_not_empty depth index = simp length-append (omega (arith, letters_not_empty index))

-- lines 365 and 366: n names of one letter or more, with `, ` between them
pub names_length : (n i : ℕ) → 3 * n ≤ 2 + length (join ", " (param_names n i))
unfolding param_names join bytes
names_length zero i = omega arith
names_length (suc zero) i = omega (arith, name_not_empty 0 i)
names_length (suc (suc n)) i = simp length-append (omega (arith, name_not_empty 0 i, names_length (suc n) (suc i)))

text_length : (n : ℕ) (reqs : List Name) → 3 * n ≤ length (signature_text n reqs)
unfolding signature_text bytes
text_length n [] = simp length-append (omega (arith, names_length n 0))
text_length n (r ∷ reqs) = simp length-append (omega (arith, names_length n 0))

-- lines 361 to 373, with `<` and `>` around
pub signature_length : (n : ℕ) (rs : Nodes) → 3 * n ≤ length (print (GenericSignature n rs))
unfolding print printing printed
signature_length n rs = text_length n _
