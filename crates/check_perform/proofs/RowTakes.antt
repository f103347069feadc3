-- The takes of a row, one after another. Assumes nothing.
use mathlib.Core.Path.{◌≡◌, refl, sym, ap, ◌∙◌}
use mathlib.Core.Bool.{Bool, true, false, ◌&&◌, ◌||◌}
use mathlib.Core.List.{List, [], ◌∷◌}
use Prim.Native.Nat.{ℕ, ◌+◌, ◌^◌, ◌≤◌, ◌<◌}
use native.Mathlib.Omega.{arith}
use Rattle.std.specs.Prelude.{map}
use Rattle.std.proofs.Common.{add-one, get_or, drop, drop-cons}
use Rattle.std.proofs.lemmas.List.{drop_all}
use lib.ListN.{length}
use Rattle.definition.specs.Base.{Out, Done, and_then}
use Rattle.definition.specs.Shape as C
use Rattle.definition.specs.Shape.{Shapes, Check}
use Rattle.definition.specs.declared.Refusal.{Refusal}
use Rattle.check_entries.specs.Lies.{machine_of, load, Lent}
use Rattle.check_entries.specs.EntriesTaken.{Refuses}
use Rattle.check_entries.specs.Means.{take_of}
use Rattle.check_entries.specs.declared.Take.{Take}
use Rattle.check_takes.specs.Taken.{taken_of}
use Rattle.check_takes.specs.Takes.{take_step, grows, resets, Ready, Goes}
use Rattle.check_entries.proofs.Top.{held_less, same_lent}
use Rattle.check_entries.proofs.Steps.{lent_both}
use Rattle.check_takes.proofs.OneTake.{taking_step}
use Rattle.check_entries.specs.declared.Entries.{Entries}
use Rattle.check_takes.specs.declared.sums.Taken.{Taken}
use Rattle.check_perform.specs.Performs.{any_grows, unless_grown, good, Light, ShortTakes, RowWent, RowRefused}

pub both : (a b : Bool) → (a && b) ≡ true → (a ≡ true) × (b ≡ true)
both true b e = (refl, e)
both false b e = absurd (cc)

or_left : (a b : Bool) → a ≡ true → (a || b) ≡ true
or_left true b e = refl
or_left false b e = absurd (cc)

or_right : (a b : Bool) → b ≡ true → (a || b) ≡ true
or_right true b e = refl
or_right false b e = e

no_reset : (r g : Bool) → unless_grown r g ≡ true → g ≡ true → r ≡ false
no_reset true true e q = absurd (cc)
no_reset true false e q = absurd (cc)
no_reset false g e q = refl

-- THE ROW UP TO HERE: what is left of it
pub record Rowed (ts : List C.Take) (s t : Entries) (a : Taken) (rest : List C.Take) : Type 0 where
  pub is : (k : C.Taken → Check Done) → C.taking ts (C.taken 0 0 false) k (machine_of s) ≡ C.taking rest (taken_of a) k (machine_of t)
  pub depth : t.state.depth ≤ s.state.depth
  pub size : a.size + load t + length rest ≤ load s + 10
  pub small : a.count < 2 ^ 32
  pub few : any_grows rest ≡ true → a.count + t.state.depth < 2 ^ 32
  pub sound : good rest ≡ true
  pub seen : t.state.seen ≡ s.state.seen
  pub total : t.state.budget.total ≡ s.state.budget.total
  pub unwritten : t.ws.now ≡ s.ws.now
  pub lent : Lent s t

pub row_start : {ts : List C.Take} {s : Entries} → ShortTakes ts → Light s → Rowed ts s s (record { size = 0; count = 0; signed = false }) ts
row_start h l = record {
  is = λ k. refl;
  depth = omega arith;
  size = omega (arith, h.short);
  small = omega arith;
  few = λ q. omega (arith, l.few);
  sound = h.good;
  seen = refl;
  total = refl;
  unwritten = refl;
  lent = same_lent;
}

pub row_ended : {ts : List C.Take} {s t : Entries} {a : Taken} {rest : List C.Take} → Rowed ts s t a rest → rest ≡ [] → RowWent ts s a t
unfolding C.taking
row_ended {t = t} {a = a} r e = record {
  is = λ k. r.is k ∙ ap (λ (xs : List C.Take). C.taking xs (taken_of a) k (machine_of t)) e;
  depth = r.depth;
  size = omega (arith, r.size);
  small = r.small;
  seen = r.seen;
  total = r.total;
  unwritten = r.unwritten;
  lent = r.lent;
}

-- one more take
module _ {ts : List C.Take} {s t : Entries} {a : Taken} {rest : List C.Take} (r : Rowed ts s t a rest) (x : C.Take) (xs : List C.Take) (e : rest ≡ x ∷ xs) where
  pub row_ready : Light s → Ready (grows x) t a
  unfolding any_grows
  row_ready l = record {
    held = held_less l.held r.unwritten r.depth;
    light = omega (arith, l.light, r.size);
    few = λ g. r.few (ap any_grows e ∙ or_left (grows x) (any_grows xs) g);
  }

  then_takes : (k : C.Taken → Check Done) → C.taking ts (C.taken 0 0 false) k (machine_of s) ≡ and_then (take_step x (taken_of a) (machine_of t)) (λ b. C.taking xs b k)
  then_takes k = r.is k ∙ (ap (λ (ys : List C.Take). C.taking ys (taken_of a) k (machine_of t)) e ∙ taking_step x xs (taken_of a) k (machine_of t))

  pub row_more : {u : Entries} {b : Taken} → Goes (take_step x (taken_of a)) (resets x) t a u b → Rowed ts s u b xs
  unfolding good any_grows
  row_more g =
      let z : good (x ∷ xs) ≡ true = sym (ap good e) ∙ r.sound in
      let l : length rest ≡ length xs + 1 = ap (λ (ys : List C.Take). length ys) e ∙ omega arith in
      record {
        is = λ k. then_takes k ∙ ap (λ (o : Out Shapes C.Taken). and_then o (λ b. C.taking xs b k)) g.is;
        depth = omega (arith, r.depth, g.depth);
        size = omega (arith, r.size, g.size, l);
        small = g.small r.small;
        few = λ q. omega (arith, g.count (no_reset (resets x) (any_grows xs) (both (unless_grown (resets x) (any_grows xs)) (good xs) z).0 q), r.few (ap any_grows e ∙ or_right (grows x) (any_grows xs) q));
        sound = (both (unless_grown (resets x) (any_grows xs)) (good xs) z).1;
        seen = g.seen ∙ r.seen;
        total = g.total ∙ r.total;
        unwritten = g.unwritten ∙ r.unwritten;
        lent = lent_both r.lent g.lent;
      }

  pub row_fails : {u : Entries} {f : Refusal} → Refuses (take_step x (taken_of a)) t u f → RowRefused ts s u f
  row_fails g = record {
    is = λ k. then_takes k ∙ ap (λ (o : Out Shapes C.Taken). and_then o (λ b. C.taking xs b k)) g.is;
    unwritten = g.unwritten ∙ r.unwritten;
    lent = lent_both r.lent g.lent;
  }

-- the takes that are left at an index
pub next_take : (xs : List Take) (i : ℕ) (d : Take) → i < length xs → map take_of (drop i xs) ≡ take_of (get_or xs i d) ∷ map take_of (drop (i + 1) xs)
next_take xs i d h = let q : drop i xs ≡ get_or xs i d ∷ drop (i + 1) xs = rw (add-one, drop-cons xs i d) in ap (map take_of) q

pub no_take : (xs : List Take) (i : ℕ) → length xs ≤ i → map take_of (drop i xs) ≡ []
no_take xs i h = ap (map take_of) (drop_all i xs h)
