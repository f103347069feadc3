-- The body of a symbol is well-formed if the symbol is: it begins after bytes below 80, and ends
-- before a dot or with the text. Assumes nothing.
use mathlib.Core.Path.{◌≡◌, refl, sym, subst, ap, ◌∙◌}
use mathlib.Core.Bool.{Bool, true, false, ◌&&◌, not, and-eq-true_iff}
use mathlib.Core.List.{List, [], ◌∷◌}
use mathlib.Core.Option.{Option, some, none}
use Prim.Native.Nat.{ℕ, ◌≤◌, ◌<◌}
use Prim.Native.String.{String}
use native.Mathlib.Omega.{arith}
use borrow.Author.Tests.{ltb-true, eqb-true}
use lib.Dec.{eqb}
use lib.ListN.{length, get_or, take, drop}
use Rattle.definition.specs.Base.{bytes, is, same}
use Rattle.definition.specs.Text.{Text, Symbol, prefixes, prefix_of, before_dot, split_at, split, well_formed}
use Rattle.text_utf8.specs.Utf8.{below_80}
use Rattle.text_utf8.proofs.Characters.{character_ascii}
use Rattle.text_utf8.proofs.Parts.{tail, never, Characters, characters, behind, take_characters}
use Rattle.text_symbols.proofs.Symbols.{prefix_here, prefix_later, before_front, split_none, split_some}

-- THE PREFIX
ascii : Text → Bool
ascii [] = true
ascii (b ∷ t) = below_80 b && ascii t

all_ascii : List String → Bool
all_ascii [] = true
all_ascii (p ∷ ps) = ascii (bytes p) && all_ascii ps

prefixes_ascii : all_ascii prefixes ≡ true
unfolding all_ascii ascii prefixes bytes
prefixes_ascii = refl

-- after bytes below 80 a character begins
past_ascii : (p t : Text) → ascii p ≡ true → same p (take (length p) t) ≡ true → Characters t → Characters (drop (length p) t)
unfolding ascii
past_ascii [] t a e h = h
past_ascii (c ∷ p) [] a e h = absurd (let z : ◌≡◌ {A = ℕ} 0 1 = cc in omega arith)
past_ascii (c ∷ p) (b ∷ t) a e h =
    let low = (and-eq-true_iff (below_80 c) (ascii p)).0 a in
    let like = (and-eq-true_iff (eqb c b) (same p (take (length p) t))).0 e in
    let l : c < 128 = ltb-true c 128 low.0 in
    let q : c ≡ b = eqb-true c b like.0 in
    past_ascii p t low.1 like.1 (behind h (character_ascii b t (omega arith)))

past_prefix : (ps : List String) → all_ascii ps ≡ true → (t : Text) {n : ℕ} → prefix_of ps t ≡ some n → Characters t → Characters (drop n t)
unfolding prefix_of all_ascii
past_prefix [] a t e h = absurd (never e)
past_prefix (p ∷ ps) a t {n} e h = by (λ k. past_prefix ps low.1 t k h) (same (bytes p) (take (length (bytes p)) t)) refl
  where
    low : (ascii (bytes p) ≡ true) × (all_ascii ps ≡ true)
    low = (and-eq-true_iff (ascii (bytes p)) (all_ascii ps)).0 a

    by : (prefix_of ps t ≡ some n → Characters (drop n t)) → (d : Bool) → same (bytes p) (take (length (bytes p)) t) ≡ d → Characters (drop n t)
    by later true k =
        let z : some (length (bytes p)) ≡ some n = sym (prefix_here p ps t k) ∙ e in
        let q : length (bytes p) ≡ n = cc in
        subst (λ (i : ℕ). Characters (drop i t)) q (past_ascii (bytes p) t low.0 k h)
    by later false k = later (sym (prefix_later p ps t k) ∙ e)

-- THE DOT
-- the first dot, or the end (where `get_or` gives 0), is inside the text, and is not a byte of 80 to
-- BF
dot_at : (t : Text) → (length (before_dot t) ≤ length t) × (tail (get_or t (length (before_dot t)) 0) ≡ false)
unfolding before_dot
dot_at [] = (omega arith, refl)
dot_at (b ∷ t) = by (dot_at t) (is "." b) refl
  where
    by : (length (before_dot t) ≤ length t) × (tail (get_or t (length (before_dot t)) 0) ≡ false) → (d : Bool) → is "." b ≡ d → (length (before_dot (b ∷ t)) ≤ length (b ∷ t)) × (tail (get_or (b ∷ t) (length (before_dot (b ∷ t))) 0) ≡ false)
    by h true e =
        let q : before_dot (b ∷ t) ≡ [] = rw (before_dot, e) in
        let k : b ≡ 46 = eqb-true b 46 e in
        rw q (omega arith, ap tail k)
    by h false e =
        let q : before_dot (b ∷ t) ≡ b ∷ before_dot t = rw (before_dot, e) in
        rw q (omega (arith, h.0), h.1)

before_well : {t : Text} → Characters t → well_formed (before_dot t) ≡ true
before_well {t} h = let d = dot_at t in ap well_formed (before_front t) ∙ take_characters h (length (before_dot t)) d.0 ∙ ap not d.1

-- THE BODY
body_at : (n : ℕ) (u : Text) {y : Symbol} → Characters u → split_at n u ≡ some y → well_formed y.body ≡ true
unfolding split_at
body_at n [] h e = absurd (never e)
body_at n (b ∷ u) {y} h e = subst (λ (o : Option Symbol). well_formed (body_of o) ≡ true) e (before_well h)
  where
    body_of : Option Symbol → Text
    body_of none = []
    body_of (some z) = z.body

pub body_well_formed : (t : Text) {y : Symbol} → split t ≡ some y → well_formed t ≡ true → well_formed y.body ≡ true
body_well_formed t {y} e w = by (prefix_of prefixes t) refl
  where
    by : (o : Option ℕ) → prefix_of prefixes t ≡ o → well_formed y.body ≡ true
    by none k = absurd (never (sym (split_none t k) ∙ e))
    by (some n) k = body_at n (drop n t) (past_prefix prefixes prefixes_ascii t k (characters t w)) (sym (split_some t n k) ∙ e)
