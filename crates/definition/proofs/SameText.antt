-- Tests of texts: `same` is equality, and `has` says whether a text contains a byte.
use mathlib.Core.Path.{◌≡◌, refl, sym, ap, ap₂, ◌∙◌, subst}
use mathlib.Core.Bool.{Bool, true, false, ◌&&◌, ◌||◌, not, or_assoc, or-true}
use mathlib.Core.List.{[], ◌∷◌, ◌++◌}
use Prim.Native.Nat.{ℕ}
use lib.Dec.{T, eqb, eqb→eq, eqb_refl}
use Rattle.definition.specs.Base.{Name, same}

-- a test that passed, and one that failed
pub passed : (b : Bool) → T b → b ≡ true
passed true h = refl
passed false h = absurd h

pub failed : (b : Bool) → T (not b) → b ≡ false
failed true h = absurd h
failed false h = refl

-- two tests that both passed
pub both : (a b : Bool) → T (a && b) → T a × T b
both true b h = (tt, h)
both false b h = absurd h

pub both_pass : (a b : Bool) → T a → T b → T (a && b)
both_pass true b h k = k
both_pass false b h k = absurd h

-- two tests that both failed
pub neither : (a b : Bool) → T (not (a || b)) → T (not a) × T (not b)
neither true b h = absurd h
neither false b h = (tt, h)

pub same→≡ : (x y : Name) → T (same x y) → x ≡ y
same→≡ [] [] h = refl
same→≡ [] (b ∷ y) h = absurd h
same→≡ (a ∷ x) [] h = absurd h
same→≡ (a ∷ x) (b ∷ y) h = ap₂ {C = Name} (λ c z. c ∷ z) (eqb→eq a b (both (eqb a b) (same x y) h).0) (same→≡ x y (both (eqb a b) (same x y) h).1)

pub same_refl : (x : Name) → T (same x x)
same_refl [] = tt
same_refl (a ∷ x) = both_pass (eqb a a) (same x x) (eqb_refl a) (same_refl x)

pub ≡→same : (x y : Name) → x ≡ y → T (same x y)
≡→same x y e = subst (λ z. T (same x z)) e (same_refl x)

-- two texts that equal a third are equal
pub same_both : (x y z : Name) → T (same x y) → T (same x z) → T (same y z)
same_both x y z h k = ≡→same y z (sym (same→≡ x y h) ∙ same→≡ x z k)

-- whether a text contains the byte b
abbrev pub has : ℕ → Name → Bool
has b [] = false
has b (x ∷ xs) = eqb b x || has b xs

pub has_append : (b : ℕ) (x y : Name) → has b (x ++ y) ≡ (has b x || has b y)
has_append b [] y = refl
has_append b (a ∷ x) y = ap (λ r. eqb b a || r) (has_append b x y) ∙ sym (or_assoc (eqb b a) (has b x) (has b y))

pub has_left : (b : ℕ) (x y : Name) → T (has b x) → T (has b (x ++ y))
has_left b x y h = rw (has_append b x y, passed (has b x) h) tt

pub has_right : (b : ℕ) (x y : Name) → T (has b y) → T (has b (x ++ y))
has_right b x y h = rw (has_append b x y, passed (has b y) h, or-true (has b x)) tt
