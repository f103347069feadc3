-- A row of names in the code is a part of the row of names. Assumes nothing.
use Rattle.std.proofs.Common.{◌≡◌, ℕ, zero, suc, ◌+◌, ◌<◌, List, [], ◌∷◌, ◌++◌, length, get_or, take, drop, refl, sym, ap, ◌∙◌, arith, get_or-drop, get_or-take}
use denote.Bor.{Bor}
use Prim.Native.String.{String}
use Rattle.definition.specs.Base.{bytes}
use Rattle.definition.specs.Base.{opened as opened₀}
use Rattle.operator_names.specs.Fixed.{fixed_names, texts, numbered}
use Rattle.operator_names.specs.Rows.{told, NameAt}

-- the bytes of each name of the definition
abbrev pub meant : List String → List (List ℕ)
meant [] = []
meant (s ∷ ss) = bytes s ∷ meant ss

-- the names from number k on, that many
unfoldable pub names_from : (k count : ℕ) → List String
names_from k count = take count (drop k (fixed_names ++ texts))

pub told_at : (rows : List (Bor (List ℕ))) (d : Bor (List ℕ)) (i : ℕ) → i < length rows → (get_or rows i d).now ≡ get_or (told rows) i []
told_at [] d i h = absurd (omega arith)
told_at (r ∷ rs) d zero h = refl
told_at (r ∷ rs) d (suc i) h = told_at rs d i (omega arith)

meant_at : (ss : List String) (i : ℕ) → get_or (meant ss) i [] ≡ bytes (get_or ss i "")
unfolding opened₀
meant_at [] i = refl
meant_at (s ∷ ss) zero = refl
meant_at (s ∷ ss) (suc i) = meant_at ss i

pub row_at : (k count i n : ℕ) {rows : List (Bor (List ℕ))} {name : List ℕ} → NameAt rows i name → i < count → n ≡ k + i → told rows ≡ meant (names_from k count) → name ≡ bytes (numbered n)
unfolding numbered names_from
row_at k count i n a h q e =
    a.is
    ∙ ap (λ (xs : List (List ℕ)). get_or xs i []) e
    ∙ meant_at (take count (drop k (fixed_names ++ texts))) i
    ∙ ap bytes (get_or-take count (drop k (fixed_names ++ texts)) i "" h ∙ get_or-drop k (fixed_names ++ texts) i "" ∙ ap (λ (m : ℕ). get_or (fixed_names ++ texts) m "") (sym q))
