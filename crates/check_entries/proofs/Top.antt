-- The stack in the workspace, and its top. Assumes nothing.
use Rattle.std.specs.Prelude.{if◌then◌else◌}
use mathlib.Core.Path.{◌≡◌, refl, sym, ap, subst, ◌∙◌}
use mathlib.Core.Bool.{Bool, true, false}
use mathlib.Core.List.{List, [], ◌∷◌}
use mathlib.Core.Option.{some, none}
use Prim.Native.Nat.{ℕ, zero, suc, ◌+◌, ◌-◌, ◌≤◌}
use native.Mathlib.Omega.{arith}
use lib.ListN.{length}
use Rattle.definition.specs.Base.{ok, refused}
use Rattle.definition.specs.Kind as K
use Rattle.definition.specs.Machine as M
use Rattle.definition.specs.Machine.{restack}
use Rattle.definition.specs.Shape as C
use Rattle.definition.specs.Shape.{Shapes, kind_of}
use Rattle.definition.proofs.Room.{weigh, Sized}
use Rattle.check_entries.specs.Lies.{entry_of, entry_at, stack_of, machine_of, load, Held, Lent}
use Rattle.check_entries.specs.EntriesTaken.{Went}
use Rattle.check_entries.specs.declared.Entry.{Entry}
use Rattle.check_entries.specs.declared.Entries.{Entries}

pub length_stack : (w : List ℕ) (d : ℕ) → length (stack_of w d) ≡ d
unfolding stack_of
length_stack w zero = refl
length_stack w (suc d) = ap suc (length_stack w d)

pub top : (w : List ℕ) (d t : ℕ) → d ≡ suc t → stack_of w d ≡ entry_at w t ∷ stack_of w t
unfolding stack_of
top w d t q = ap (stack_of w) q

-- what is left of a stack is not more
module _ (w : List ℕ) (d : ℕ) where
  sized_more : (e k : ℕ) → e ≡ k + d → Sized (stack_of w e) → Sized (stack_of w d)
  unfolding stack_of
  sized_more e zero q h = let p : e ≡ d = omega arith in subst (λ (n : ℕ). Sized (stack_of w n)) p h
  sized_more e (suc k) q h = let p : e ≡ suc (k + d) = omega arith in let z : Sized (stack_of w (suc (k + d))) = subst (λ (n : ℕ). Sized (stack_of w n)) p h in sized_more (k + d) k refl z.1

  weigh_more : (e k : ℕ) → e ≡ k + d → weigh (stack_of w d) ≤ weigh (stack_of w e)
  unfolding stack_of weigh
  weigh_more e zero q = let p : e ≡ d = omega arith in omega (arith, ap (λ (n : ℕ). weigh (stack_of w n)) p)
  weigh_more e (suc k) q =
      let p : e ≡ suc (k + d) = omega arith in
      let z : weigh (stack_of w e) ≡ (entry_at w (k + d)).size + weigh (stack_of w (k + d)) = ap (λ (n : ℕ). weigh (stack_of w n)) p in
      omega (arith, z, weigh_more (k + d) k refl)

  pub sized_less : (e : ℕ) → d ≤ e → Sized (stack_of w e) → Sized (stack_of w d)
  sized_less e h z = let q : e ≡ (e - d) + d = omega arith in sized_more e (e - d) q z

  pub weigh_less : (e : ℕ) → d ≤ e → weigh (stack_of w d) ≤ weigh (stack_of w e)
  weigh_less e h = let q : e ≡ (e - d) + d = omega arith in weigh_more e (e - d) q

-- each entry that was removed was at least one node
module _ (w : List ℕ) (d : ℕ) where
  drop_more : (e k : ℕ) → e ≡ k + d → Sized (stack_of w e) → weigh (stack_of w d) + k ≤ weigh (stack_of w e)
  unfolding stack_of weigh
  drop_more e zero q h = let p : e ≡ d = omega arith in omega (arith, ap (λ (n : ℕ). weigh (stack_of w n)) p)
  drop_more e (suc k) q h =
      let p : e ≡ suc (k + d) = omega arith in
      let z : weigh (stack_of w e) ≡ (entry_at w (k + d)).size + weigh (stack_of w (k + d)) = ap (λ (n : ℕ). weigh (stack_of w n)) p in
      let s : Sized (stack_of w (suc (k + d))) = subst (λ (n : ℕ). Sized (stack_of w n)) p h in
      omega (arith, z, s.0, drop_more (k + d) k refl s.1)

pub drops : {s : Entries} (t : Entries) (k : ℕ) → Held s → t.ws.now ≡ s.ws.now → t.state.depth + k ≤ s.state.depth → load t + k ≤ load s
drops {s} t k h w l =
    let q : s.state.depth ≡ (s.state.depth - t.state.depth) + t.state.depth = omega arith in
    omega (arith, drop_more s.ws.now t.state.depth s.state.depth (s.state.depth - t.state.depth) q h.sized, ap (λ (x : List ℕ). weigh (stack_of x t.state.depth)) w)

pub held_less : {s t : Entries} → Held s → t.ws.now ≡ s.ws.now → t.state.depth ≤ s.state.depth → Held t
held_less {s} {t} h w l = record {
  inside = omega (arith, h.inside, ap (λ (x : List ℕ). length x) w);
  sized = subst (λ (x : List ℕ). Sized (stack_of x t.state.depth)) (sym w) (sized_less s.ws.now t.state.depth s.state.depth l h.sized);
  light = omega (arith, h.light, weigh_less s.ws.now t.state.depth s.state.depth l, ap (λ (x : List ℕ). weigh (stack_of x t.state.depth)) w);
}

-- what was not written weighs the same
pub lighter : (s t : Entries) → t.ws.now ≡ s.ws.now → t.state.depth ≤ s.state.depth → load t ≤ load s
lighter s t w l = omega (arith, weigh_less s.ws.now t.state.depth s.state.depth l, ap (λ (x : List ℕ). weigh (stack_of x t.state.depth)) w)

-- TESTS OF THE TOP
module _ (want : ℕ → Bool) (s : Shapes) where
  try_empty : (es : List K.Entry) → es ≡ [] → M.try_from kind_of want es s ≡ ok none s
  unfolding M.try_from
  try_empty es q = rw q

  try_top : (es : List K.Entry) (e : K.Entry) (rest : List K.Entry) → es ≡ e ∷ rest → want e.kind ≡ true → M.try_from kind_of want es s ≡ ok (some e) (restack rest s)
  unfolding M.try_from
  try_top es e rest q h = rw (q, M.try_from, h)

  try_other : (es : List K.Entry) (e : K.Entry) (rest : List K.Entry) → es ≡ e ∷ rest → want e.kind ≡ false → M.try_from kind_of want es s ≡ ok none s
  unfolding M.try_from
  try_other es e rest q h = rw (q, M.try_from, h)

  -- what must be on top is what may be
  pop_some : (es : List K.Entry) (e : K.Entry) (t : Shapes) → M.try_from kind_of want es s ≡ ok (some e) t → M.pop_from kind_of want es s ≡ ok e t
  unfolding M.try_from M.pop_from
  pop_some [] e t q = cc
  pop_some (x ∷ es) e t q = go (want x.kind) q
    where
      go : (b : Bool) → (if b then ok (some x) (restack es s) else ok none s) ≡ ok (some e) t → (if b then ok x (restack es s) else refused 10) ≡ ok e t
      go true q = cc
      go false q = cc

  pop_none : (es : List K.Entry) (t : Shapes) → M.try_from kind_of want es s ≡ ok none t → M.pop_from kind_of want es s ≡ refused 10
  unfolding M.try_from M.pop_from
  pop_none [] t q = refl
  pop_none (x ∷ es) t q = go (want x.kind) q
    where
      go : (b : Bool) → (if b then ok (some x) (restack es s) else ok none s) ≡ ok none t → (if b then ok x (restack es s) else refused 10) ≡ refused 10
      go true q = cc
      go false q = refl

pub pop_top : (want : ℕ → Bool) (s : Shapes) {t : Shapes} {e : K.Entry} → C.try want s ≡ ok (some e) t → C.pop_if want s ≡ ok e t
unfolding M.try M.pop_if
pop_top want s {t} {e} q = pop_some want s s.stack e t q

pub pop_other : (want : ℕ → Bool) (s : Shapes) {t : Shapes} → C.try want s ≡ ok none t → C.pop_if want s ≡ refused 10
unfolding M.try M.pop_if
pop_other want s {t} q = pop_none want s s.stack t q

pub same_lent : {s : Entries} → Lent s s
same_lent = record { name = refl; ceiling = refl }

-- the entries without the top one
abbrev pub less : Entries → ℕ → Entries
less s t = record s { state = record s.state { depth = t } }

module _ (s : Entries) (want : ℕ → Bool) where
  stays_none : M.try_from kind_of want (stack_of s.ws.now s.state.depth) (machine_of s) ≡ ok none (machine_of s) → Went (C.try want) s s 0 0 none
  unfolding M.try
  stays_none q = record { is = q; depth = omega arith; lighter = omega arith; seen = refl; total = refl; unwritten = refl; lent = same_lent }

  pub none_below : s.state.depth ≡ 0 → Went (C.try want) s s 0 0 none
  unfolding stack_of
  none_below z = stays_none (try_empty want (machine_of s) _ (ap (stack_of s.ws.now) z))

  module _ (e : Entry) (t : ℕ) (p : s.state.depth ≡ suc t) (q : entry_of e ≡ entry_at s.ws.now t) where
    begins : stack_of s.ws.now s.state.depth ≡ entry_of e ∷ stack_of s.ws.now t
    begins = top s.ws.now s.state.depth t p ∙ ap (λ (x : K.Entry). x ∷ stack_of s.ws.now t) (sym q)

    pub other_top : want e.kind ≡ false → Went (C.try want) s s 0 0 none
    other_top h = stays_none (try_other want (machine_of s) _ (entry_of e) (stack_of s.ws.now t) begins h)

    pub this_top : want e.kind ≡ true → Went (C.try want) s (less s t) 1 e.size (some (entry_of e))
    unfolding M.try weigh
    this_top h = record {
      is = try_top want (machine_of s) _ (entry_of e) (stack_of s.ws.now t) begins h;
      depth = omega arith;
      lighter = omega (arith, ap weigh begins);
      seen = refl;
      total = refl;
      unwritten = refl;
      lent = record { name = refl; ceiling = refl };
    }

-- what was on top is at least one node
module _ (want : ℕ → Bool) (s : Shapes) where
  pop_size : (es : List K.Entry) (e : K.Entry) (t : Shapes) → Sized es → M.pop_from kind_of want es s ≡ ok e t → 1 ≤ e.size
  unfolding M.pop_from
  pop_size [] e t z q = absurd (cc)
  pop_size (x ∷ es) e t z q = go (want x.kind) q
    where
      go : (b : Bool) → (if b then ok x (restack es s) else refused 10) ≡ ok e t → 1 ≤ e.size
      go true q = let p : x ≡ e = cc in subst (λ (y : K.Entry). 1 ≤ y.size) p z.0
      go false q = absurd (cc)

pub popped_size : (want : ℕ → Bool) {s t : Entries} {l m : ℕ} {e : Entry} → Held s → Went (C.pop_if want) s t l m (entry_of e) → 1 ≤ e.size
unfolding M.pop_if
popped_size want {s} {t} {l} {m} {e} h g = pop_size want (machine_of s) (stack_of s.ws.now s.state.depth) (entry_of e) (machine_of t) h.sized g.is
