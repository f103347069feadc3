-- What is remembered, by its index. Assumes nothing.
use Rattle.std.specs.Prelude.{Result, Ok, Err}
use mathlib.Core.Path.{◌≡◌, refl, sym, ap, subst, ◌∙◌}
use mathlib.Core.Bool.{Bool, true, false}
use mathlib.Core.List.{List, [], ◌∷◌, ◌++◌}
use mathlib.Core.Option.{Option, some, none}
use Prim.Native.Nat.{ℕ, zero, suc, ◌+◌, ◌≤◌, ◌<◌}
use native.Mathlib.Omega.{arith}
use native.Mathlib.Nat.{not-suc-le-zero, le_of_suc-le-suc}
use borrow.Author.Tests.{ltb-true, ltb-false}
use lib.Dec.{ltb}
use lib.ListN.{length, get_elem?}
use Rattle.definition.specs.Base.{given, ok, refused, Done, and_then}
use Rattle.definition.specs.Kind as K
use Rattle.definition.specs.Machine as M
use Rattle.definition.specs.Shape as C
use Rattle.definition.proofs.Room.{AllOf, Bounded}
use Rattle.check_entries.specs.Lies.{machine_of, seen_of, entry_of, entry_at}
use Rattle.check_entries.specs.declared.Entry.{Entry}
use Rattle.check_entries.specs.declared.Entries.{Entries}
use Rattle.definition.specs.Enums.{number}
use Rattle.definition.specs.declared.Refusal.{Refusal}
use Rattle.definition.specs.declared.Refusal.TheVariants.{Spelling}
use Rattle.check_entries.specs.Stores.{Performing, Failed}
use Rattle.check_perform.specs.Performs.{Sound, recall_copies}
use Rattle.check_entries.proofs.Written.{wrote_itself}
use Rattle.check_perform.proofs.Leaves.{length_seen}

get_front : (xs ys : List K.Entry) (i : ℕ) → i < length xs → get_elem? (xs ++ ys) i ≡ get_elem? xs i
get_front [] ys i h = absurd (not-suc-le-zero h)
get_front (x ∷ xs) ys zero h = refl
get_front (x ∷ xs) ys (suc i) h = get_front xs ys i (le_of_suc-le-suc h)

get_last : (xs : List K.Entry) (x : K.Entry) → get_elem? (xs ++ (x ∷ [])) (length xs) ≡ some x
get_last [] x = refl
get_last (y ∷ xs) x = get_last xs x

get_past : (xs : List K.Entry) (i : ℕ) → length xs ≤ i → get_elem? xs i ≡ none
get_past [] i h = refl
get_past (x ∷ xs) zero h = absurd (not-suc-le-zero h)
get_past (x ∷ xs) (suc i) h = get_past xs i (le_of_suc-le-suc h)

seen_at : (w : List ℕ) (N n i : ℕ) → i < n → get_elem? (seen_of w N n) i ≡ some (entry_at w (N + i))
unfolding seen_of
seen_at w N zero i h = absurd (not-suc-le-zero h)
seen_at w N (suc n) i h = go (λ p. seen_at w N n i p) (ltb i n) refl
  where
    go : (i < n → get_elem? (seen_of w N n) i ≡ some (entry_at w (N + i))) → (b : Bool) → ltb i n ≡ b → get_elem? (seen_of w N n ++ (entry_at w (N + n) ∷ [])) i ≡ some (entry_at w (N + i))
    go f true q = get_front (seen_of w N n) (entry_at w (N + n) ∷ []) i (omega (arith, ltb-true i n q, length_seen w N n)) ∙ f (ltb-true i n q)
    go f false q =
        let p : i ≡ n = omega (arith, ltb-false i n q) in
        let l : i ≡ length (seen_of w N n) = omega (arith, p, length_seen w N n) in
        ap (get_elem? (seen_of w N n ++ (entry_at w (N + n) ∷ []))) l ∙ (get_last (seen_of w N n) (entry_at w (N + n)) ∙ ap (λ (k : ℕ). some (entry_at w (N + k))) (sym p))

all_at : (P : K.Entry → Type 0) (es : List K.Entry) (i : ℕ) {e : K.Entry} → AllOf P es → get_elem? es i ≡ some e → P e
all_at P [] i a q = absurd (cc)
all_at P (x ∷ es) zero {e} a q = let p : x ≡ e = cc in subst P p a.0
all_at P (x ∷ es) (suc i) a q = all_at P es i a.1 q

-- each remembered entry is at least one node
pub seen_size : {s : Entries} {i : ℕ} {e : Entry} → Sound 0 s → i < s.state.seen → entry_of e ≡ entry_at s.ws.now (s.ceiling + i) → 1 ≤ e.size
seen_size {s} {i} {e} h l q = (all_at (Bounded s.state.budget.total) (seen_of s.ws.now s.ceiling s.state.seen) i h.fits.remembered (seen_at s.ws.now s.ceiling s.state.seen i l ∙ ap some (sym q))).0

module _ (s : Entries) (times i : ℕ) where
  pub not_recalled : s.state.seen ≤ i → Failed (recall_copies s.ceiling times i) s s Spelling
  unfolding M.recall number
  not_recalled h = record {
    is = ap (λ (o : Option K.Entry). and_then (given o (refused 9) (λ n. ok n (machine_of s))) (λ e. C.copied s.ceiling times e)) (get_past (seen_of s.ws.now s.ceiling s.state.seen) i (omega (arith, length_seen s.ws.now s.ceiling s.state.seen)));
    wrote = wrote_itself;
  }

  recalls_it : (e : Entry) → i < s.state.seen → entry_of e ≡ entry_at s.ws.now (s.ceiling + i) → recall_copies s.ceiling times i (machine_of s) ≡ C.copied s.ceiling times (entry_of e) (machine_of s)
  unfolding M.recall
  recalls_it e h q = ap (λ (o : Option K.Entry). and_then (given o (refused 9) (λ n. ok n (machine_of s))) (λ e. C.copied s.ceiling times e)) (seen_at s.ws.now s.ceiling s.state.seen i h ∙ ap some (sym q))

  pub recalled : (t : Entries) (e : Entry) → i < s.state.seen → entry_of e ≡ entry_at s.ws.now (s.ceiling + i) → (r : Result Done Refusal) → Performing (C.copied s.ceiling times (entry_of e)) s t r → Performing (recall_copies s.ceiling times i) s t r
  recalled t e h q (Ok u) g = record { is = recalls_it e h q ∙ g.is; wrote = g.wrote }
  recalled t e h q (Err x) g = record { is = recalls_it e h q ∙ g.is; wrote = g.wrote }
