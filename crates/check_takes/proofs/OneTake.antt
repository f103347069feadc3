-- One take after another. Assumes nothing.
use Rattle.std.specs.Prelude.{if◌then◌else◌, Result, Ok, Err}
use Rattle.std.specs.Result.{IsErrAnd}
use Rattle.std.proofs.lemmas.Result.{err_from_is_err_and}
use mathlib.Core.Path.{◌≡◌, refl, sym, ap, ◌∙◌}
use mathlib.Core.Bool.{Bool, true, false}
use mathlib.Core.List.{List, ◌∷◌}
use mathlib.Core.Option.{some, none}
use Prim.Native.Nat.{ℕ, ◌+◌, ◌≤◌}
use native.Mathlib.Omega.{arith}
use lib.Dec.{eqb}
use Rattle.definition.specs.Base.{is_some, Out, ok, refused, Done, ret, and_then, ◌>>=◌, ◌>>◌}
use Rattle.definition.specs.Kind as K
use Rattle.definition.specs.Machine.{wrap, rounds}
use Rattle.definition.specs.Shape as C
use Rattle.definition.specs.Shape.{Shapes, Check, Take}
use Rattle.definition.specs.declared.Refusal.{Refusal}
use Rattle.check_entries.specs.Lies.{machine_of, entry_of}
use Rattle.check_entries.specs.EntriesTaken.{Went, Refuses, looked}
use Rattle.check_takes.specs.Taken.{taken_of, Sets}
use Rattle.check_takes.specs.ListRounds.{all_of, Adds, Gathered, Gathering}
use Rattle.check_takes.specs.Takes.{take_step, Ready, Goes, Takes}
use Rattle.check_entries.proofs.Top.{held_less}
use Rattle.check_entries.proofs.Steps.{assoc, on, lent_both, next_refuses, refuses, stays, yes_went, no_went, yes_refuses}
use Rattle.check_entries.specs.declared.Entry.{Entry}
use Rattle.check_entries.specs.declared.Entries.{Entries}
use Rattle.check_takes.specs.declared.sums.Taken.{Taken}

-- THE LAW: the takes of a row are its first, and then the others
pub taking_step : (t : Take) (ts : List Take) (a : C.Taken) (k : C.Taken → Check Done) (s : Shapes) → C.taking (t ∷ ts) a k s ≡ and_then (take_step t a s) (λ b. C.taking ts b k)
unfolding C.taking take_step
taking_step C.wraps ts a k s = sym (assoc (wrap s) (λ x. ret a) (λ b. C.taking ts b k))
taking_step (C.a_node want) ts a k s = sym (assoc (C.pop_if want s) (λ e. ret (C.add e a)) (λ b. C.taking ts b k))
taking_step C.a_name ts a k s = sym (assoc (C.pop_name s) (λ x. ret a) (λ b. C.taking ts b k))
taking_step C.a_context ts a k s = sym (assoc (C.context s) (λ e. ret (C.add e a)) (λ b. C.taking ts b k))
taking_step C.a_protocol ts a k s = sym (assoc (C.protocol s) (λ e. ret (C.add e a)) (λ b. C.taking ts b k))
taking_step (C.marker m) ts a k s = sym (assoc (C.took m s) (λ x. ret a) (λ b. C.taking ts b k))
taking_step C.qualifier ts a k s = sym (assoc (C.try K.is_protocol s) (λ x. ret a) (λ b. C.taking ts b k))
taking_step C.params ts a k s = sym (assoc (C.side s) (λ e. ret (C.add_params e a)) (λ b. C.taking ts b k))
taking_step C.result ts a k s = sym (assoc (C.side s) (λ e. ret (C.add e a)) (λ b. C.taking ts b k))
taking_step C.a_labelled_type ts a k s = sym (assoc (C.pop_if K.is_type s) (λ e. ret (C.add_labelled e a)) (λ b. C.taking ts b k))
taking_step C.labels ts a k s = go (C.took K.empty_list s)
  where
    go : (x : Out Shapes Bool) → and_then x (λ empty. (if empty then ret tt else C.labels_from a.count) >> C.taking ts a k) ≡ and_then (and_then x (λ empty. (if empty then ret tt else C.labels_from a.count) >> ret a)) (λ b. C.taking ts b k)
    go (ok true t) = refl
    go (ok false t) = sym (assoc (C.labels_from a.count t) (λ x. ret a) (λ b. C.taking ts b k))
    go (refused r) = refl
taking_step C.a-signature ts a k s = sym (assoc (C.try (eqb K.generic_signature) s) (λ o. ret (C.add_signature o a)) (λ b. C.taking ts b k))
taking_step C.under_signature ts a k s = sym (assoc ((if a.signed then wrap else ret tt) s) (λ x. ret a) (λ b. C.taking ts b k))
taking_step C.elements ts a k s = go (C.took K.empty_list s)
  where
    go : (x : Out Shapes Bool) → and_then x (λ empty. rounds >>= λ f. (if empty then ret a else C.elements_from f a) >>= λ es. C.taking ts es k) ≡ and_then (and_then x (λ empty. rounds >>= λ f. if empty then ret a else C.elements_from f a)) (λ b. C.taking ts b k)
    go (ok true t) = sym (assoc (rounds t) (λ f. ret a) (λ b. C.taking ts b k))
    go (ok false t) = sym (assoc (rounds t) (λ f. C.elements_from f a) (λ b. C.taking ts b k))
    go (refused r) = refl
taking_step C.members ts a k s = go (C.took K.empty_list s)
  where
    go : (x : Out Shapes Bool) → and_then x (λ empty. rounds >>= λ f. (if empty then ret a else C.members_from f a) >>= λ ps. C.taking ts ps k) ≡ and_then (and_then x (λ empty. rounds >>= λ f. if empty then ret a else C.members_from f a)) (λ b. C.taking ts b k)
    go (ok true t) = sym (assoc (rounds t) (λ f. ret a) (λ b. C.taking ts b k))
    go (ok false t) = sym (assoc (rounds t) (λ f. C.members_from f a) (λ b. C.taking ts b k))
    go (refused r) = refl
taking_step C.arguments ts a k s = sym (assoc (rounds s) (λ f. C.arguments_from f a) (λ b. C.taking ts b k))
taking_step C.requirements ts a k s = sym (assoc (rounds s) (λ f. C.requirements_from f a) (λ b. C.taking ts b k))
taking_step (C.refuses r) ts a k s = refl
taking_step C.printed_ahead ts a k s = refl

-- ONE TAKE
-- there is room after a step, too
pub adds_on : {A : Type 0} {f : Check A} {s t : Entries} {x : A} {l m : ℕ} {a : Taken} → Ready true s a → Went f s t l m x → Adds t a
adds_on {s = s} {t = t} h g =
    let d : t.state.depth ≤ s.state.depth = omega (arith, g.depth) in
    record { held = held_less h.held g.unwritten d; light = omega (arith, h.light, g.lighter); few = omega (arith, h.few refl) }

-- the exit of a `?`
pub exits : (k : C.Take) (s t : Entries) (a : Taken) (r : Result Taken Refusal) {x : Refusal} → IsErrAnd r (λ e. e ≡ x) → Refuses (take_step k (taken_of a)) s t x → Takes k s a t r
exits k s t a r q h = let p = err_from_is_err_and r q in rw (p.1, p.2) h

-- what was taken is unchanged
module _ {A : Type 0} {f : Check A} {s t : Entries} (a : Taken) where
  pub unchanged : {l m : ℕ} {x : A} → Went f s t l m x → (k : A → Check C.Taken) → k x (machine_of t) ≡ ok (taken_of a) (machine_of t) → Goes (f >>= k) false s a t a
  unchanged h k q = record {
    is = on h k ∙ q;
    depth = omega (arith, h.depth);
    size = omega (arith, h.lighter);
    small = λ x. x;
    count = λ x. omega (arith, h.depth);
    seen = h.seen;
    total = h.total;
    unwritten = h.unwritten;
    lent = h.lent;
  }

-- an entry is added to what was taken
module _ {f : Check K.Entry} {s t : Entries} {e : Entry} {l : ℕ} (a : Taken) (h : Went f s t l e.size (entry_of e)) where
  pub added : {b : Taken} → taken_of b ≡ C.add (entry_of e) (taken_of a) → Goes (f >>= λ e. ret (C.add e (taken_of a))) false s a t b
  added {b} q =
      let m : b.size ≡ e.size + a.size = ap (λ (x : C.Taken). x.size) q in
      let n : b.count ≡ a.count = ap (λ (x : C.Taken). x.count) q in
      record {
        is = on h _ ∙ ap (λ (x : C.Taken). ok x (machine_of t)) (sym q);
        depth = omega (arith, h.depth);
        size = omega (arith, h.lighter, m);
        small = λ x. omega (arith, n);
        count = λ x. omega (arith, h.depth, n);
        seen = h.seen;
        total = h.total;
        unwritten = h.unwritten;
        lent = h.lent;
      }

  -- and its count with it
  pub counted : (k : K.Entry → C.Taken → C.Taken) → (k (entry_of e) (taken_of a)).size ≡ e.size + a.size → {b : Taken} → Sets (k (entry_of e) (taken_of a)) b → Goes (f >>= λ e. ret (k e (taken_of a))) true s a t b
  counted k z {b} q =
      let m : b.size ≡ e.size + a.size = ap (λ (x : C.Taken). x.size) q.same ∙ z in
      record {
        is = on h _ ∙ ap (λ (x : C.Taken). ok x (machine_of t)) (sym q.same);
        depth = omega (arith, h.depth);
        size = omega (arith, h.lighter, m);
        small = λ x. q.small;
        count = λ x. absurd (cc);
        seen = h.seen;
        total = h.total;
        unwritten = h.unwritten;
        lent = h.lent;
      }

-- SIGNATURES AND WRAPS
module _ {s t : Entries} (a : Taken) where
  pub signed_by : {e : Entry} {b : Taken} → Went (C.try (eqb K.generic_signature)) s t 1 e.size (some (entry_of e)) → taken_of b ≡ C.taken (1 + (e.size + a.size)) a.count true → Goes (take_step C.a-signature (taken_of a)) false s a t b
  unfolding take_step C.add_signature
  signed_by {e} {b} h q =
      let m : b.size ≡ 1 + (e.size + a.size) = ap (λ (x : C.Taken). x.size) q in
      let n : b.count ≡ a.count = ap (λ (x : C.Taken). x.count) q in
      record {
        is = on h _ ∙ ap (λ (x : C.Taken). ok x (machine_of t)) (sym q);
        depth = omega (arith, h.depth);
        size = omega (arith, h.lighter, m);
        small = λ x. omega (arith, n);
        count = λ x. omega (arith, h.depth, n);
        seen = h.seen;
        total = h.total;
        unwritten = h.unwritten;
        lent = h.lent;
      }

  pub not_signed : Went (C.try (eqb K.generic_signature)) s t 0 0 none → Goes (take_step C.a-signature (taken_of a)) false s a t a
  unfolding take_step C.add_signature
  not_signed h = unchanged a h _ refl

  pub signed_wraps : a.signed ≡ true → Went wrap s t 0 0 tt → Goes (take_step C.under_signature (taken_of a)) false s a t a
  unfolding take_step
  signed_wraps q h = unchanged a (yes_went (ret tt) q h) _ refl

  pub signed_refuses : {r : Refusal} → a.signed ≡ true → Refuses wrap s t r → Refuses (take_step C.under_signature (taken_of a)) s t r
  unfolding take_step
  signed_refuses q h = refuses _ (yes_refuses (ret tt) q h)

pub unsigned : {s : Entries} (a : Taken) → a.signed ≡ false → Goes (take_step C.under_signature (taken_of a)) false s a s a
unfolding take_step
unsigned a q = unchanged a (no_went wrap q (stays tt)) _ refl

pub ahead : {s : Entries} (a : Taken) {b : Taken} → taken_of b ≡ C.taken 0 a.count a.signed → Goes (take_step C.printed_ahead (taken_of a)) false s a s b
unfolding take_step
ahead {s} a {b} q =
    let m : b.size ≡ 0 = ap (λ (x : C.Taken). x.size) q in
    let n : b.count ≡ a.count = ap (λ (x : C.Taken). x.count) q in
    record {
      is = ap (λ (x : C.Taken). ok x (machine_of s)) (sym q);
      depth = omega arith;
      size = omega (arith, m);
      small = λ x. omega (arith, n);
      count = λ x. omega (arith, n);
      seen = refl;
      total = refl;
      unwritten = refl;
      lent = record { name = refl; ceiling = refl };
    }

-- MARKERS, whether they were there or not
module _ {s t : Entries} {l m : ℕ} {b : Bool} (a : Taken) where
  pub qualified : Went (looked K.is_protocol) s t l m b → Goes (take_step C.qualifier (taken_of a)) false s a t a
  unfolding take_step
  qualified h =
      let g = unchanged a h (λ x. ret (taken_of a)) refl in
      record {
        is = sym (assoc (C.try K.is_protocol (machine_of s)) (λ o. ret (is_some o)) (λ x. ret (taken_of a))) ∙ g.is;
        depth = g.depth;
        size = g.size;
        small = g.small;
        count = g.count;
        seen = g.seen;
        total = g.total;
        unwritten = g.unwritten;
        lent = g.lent;
      }

-- LABELS
module _ {s t u : Entries} (a : Taken) (h : Went (C.took K.empty_list) s t 0 0 false) where
  pub labelled : Went (C.labels_from a.count) t u 0 0 tt → Goes (take_step C.labels (taken_of a)) false s a u a
  unfolding take_step
  labelled g = record {
    is = on h _ ∙ on g _;
    depth = omega (arith, h.depth, g.depth);
    size = omega (arith, h.lighter, g.lighter);
    small = λ x. x;
    count = λ x. omega (arith, h.depth, g.depth);
    seen = g.seen ∙ h.seen;
    total = g.total ∙ h.total;
    unwritten = g.unwritten ∙ h.unwritten;
    lent = lent_both h.lent g.lent;
  }

  pub labels_refuse : {r : Refusal} → Refuses (C.labels_from a.count) t u r → Refuses (take_step C.labels (taken_of a)) s u r
  unfolding take_step
  labels_refuse g = next_refuses _ h (refuses _ g)

-- LISTS
list_goes : {A : Type 0} {f : Check A} {F : Check C.Taken} {s t u : Entries} {l m : ℕ} {x : A} {a b : Taken} → Went f s t l m x → Gathered t a u b → Ready true s a → F (machine_of s) ≡ ok (taken_of b) (machine_of u) → Goes F false s a u b
list_goes h g r q = record {
  is = q;
  depth = omega (arith, h.depth, g.depth);
  size = omega (arith, h.lighter, g.size);
  small = λ x. omega (arith, h.depth, g.count, r.few refl);
  count = λ x. omega (arith, h.depth, g.count);
  seen = g.seen ∙ h.seen;
  total = g.total ∙ h.total;
  unwritten = g.unwritten ∙ h.unwritten;
  lent = lent_both h.lent g.lent;
}

module _ {s t : Entries} (u : Entries) (a : Taken) (ready : Ready true s a) where
  module _ (h : Went (C.took K.empty_list) s t 0 0 false) where
    pub elements_all : (r : Result Taken Refusal) → Gathering (all_of C.elements_from (taken_of a)) t a u r → Takes C.elements s a u r
    unfolding take_step
    elements_all (Ok b) g = list_goes h g.gathered ready (on h _ ∙ g.is)
    elements_all (Err x) g = next_refuses _ h g

    pub members_all : (r : Result Taken Refusal) → Gathering (all_of C.members_from (taken_of a)) t a u r → Takes C.members s a u r
    unfolding take_step
    members_all (Ok b) g = list_goes h g.gathered ready (on h _ ∙ g.is)
    members_all (Err x) g = next_refuses _ h g

module _ {s : Entries} (u : Entries) (a : Taken) (ready : Ready true s a) where
  pub arguments_all : (r : Result Taken Refusal) → Gathering (all_of C.arguments_from (taken_of a)) s a u r → Takes C.arguments s a u r
  unfolding take_step
  arguments_all (Ok b) g = list_goes (stays {A = Done} tt) g.gathered ready g.is
  arguments_all (Err x) g = g

  pub requirements_all : (r : Result Taken Refusal) → Gathering (all_of C.requirements_from (taken_of a)) s a u r → Takes C.requirements s a u r
  unfolding take_step
  requirements_all (Ok b) g = list_goes (stays {A = Done} tt) g.gathered ready g.is
  requirements_all (Err x) g = g

-- an empty list
pub none_elements : {s t : Entries} (a : Taken) → Went (C.took K.empty_list) s t 1 1 true → Goes (take_step C.elements (taken_of a)) false s a t a
unfolding take_step rounds
none_elements a h = unchanged a h _ refl

pub none_members : {s t : Entries} (a : Taken) → Went (C.took K.empty_list) s t 1 1 true → Goes (take_step C.members (taken_of a)) false s a t a
unfolding take_step rounds
none_members a h = unchanged a h _ refl
