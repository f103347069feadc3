-- Steps one after the other. Assumes nothing.
use Rattle.std.specs.Prelude.{if◌then◌else◌}
use mathlib.Core.Path.{◌≡◌, refl, sym, ap, subst, ◌∙◌}
use mathlib.Core.Bool.{Bool, true, false}
use Prim.Native.Nat.{ℕ, suc, ◌+◌, ◌≤◌}
use native.Mathlib.Omega.{arith}
use Rattle.definition.specs.Base.{is_some, Out, ok, refused, Step, Done, ret, refuse, and_then, ◌>>=◌, ◌>>◌}
use Rattle.definition.specs.Budget as B
use Rattle.definition.specs.Machine as M
use Rattle.definition.specs.Machine.{spent, spend, wrap}
use Rattle.definition.specs.Shape as C
use Rattle.definition.specs.Shape.{Shapes, Check}
use Rattle.definition.specs.Enums.{number}
use Rattle.definition.specs.declared.Refusal.{Refusal}
use Rattle.machine.specs.Spent.{budget_of}
use Rattle.machine.specs.declared.budget.Budget.{Budget}
use Rattle.check_entries.specs.Lies.{machine_of, Held, Lent}
use Rattle.check_entries.specs.EntriesTaken.{Went, Refuses, looked, node, Charged, NotCharged}
use lib.Dec.{eqb, ltb}
use Rattle.check_entries.proofs.Top.{held_less, drops, same_lent}
use Rattle.check_entries.specs.declared.Entries.{Entries}

pub assoc : {S A B D : Type 0} (x : Out S A) (f : A → Step S B) (g : B → Step S D) → and_then (and_then x f) g ≡ and_then x (λ a s. and_then (f a s) g)
assoc (ok a s) f g = refl
assoc (refused r) f g = refl

pub lent_both : {s t u : Entries} → Lent s t → Lent t u → Lent s u
lent_both h g = record { name = g.name ∙ h.name; ceiling = g.ceiling ∙ h.ceiling }

module _ {A B : Type 0} {f : Check A} {s t : Entries} where
  -- what follows a step that succeeded
  pub on : {l m : ℕ} {a : A} → Went f s t l m a → (k : A → Check B) → and_then (f (machine_of s)) k ≡ k a (machine_of t)
  on h k = ap (λ (o : Out Shapes A). and_then o k) h.is

  pub off : {r : Refusal} → Refuses f s t r → (k : A → Check B) → and_then (f (machine_of s)) k ≡ refused (number r)
  off h k = ap (λ (o : Out Shapes A). and_then o k) h.is

  pub next : (k : A → Check B) {l m l₁ m₁ l₂ m₂ : ℕ} {a : A} {b : B} {u : Entries} → Went f s t l m a → Went (k a) t u l₁ m₁ b → l₂ ≤ l + l₁ → m₂ ≤ m + m₁ → Went (f >>= k) s u l₂ m₂ b
  next k h g p q = record {
    is = on h k ∙ g.is;
    depth = omega (arith, h.depth, g.depth);
    lighter = omega (arith, h.lighter, g.lighter);
    seen = g.seen ∙ h.seen;
    total = g.total ∙ h.total;
    unwritten = g.unwritten ∙ h.unwritten;
    lent = lent_both h.lent g.lent;
  }

  pub next_refuses : (k : A → Check B) {l m : ℕ} {a : A} {u : Entries} {r : Refusal} → Went f s t l m a → Refuses (k a) t u r → Refuses (f >>= k) s u r
  next_refuses k h g = record { is = on h k ∙ g.is; unwritten = g.unwritten ∙ h.unwritten; lent = lent_both h.lent g.lent }

  pub refuses : (k : A → Check B) {r : Refusal} → Refuses f s t r → Refuses (f >>= k) s t r
  refuses k h = record { is = off h k; unwritten = h.unwritten; lent = h.lent }

module _ {A : Type 0} {s : Entries} where
  pub stays : (a : A) → Went (ret a) s s 0 0 a
  stays a = record { is = refl; depth = omega arith; lighter = omega arith; seen = refl; total = refl; unwritten = refl; lent = same_lent }

  pub stops : (r : Refusal) → Refuses {A = A} (refuse (number r)) s s r
  stops r = record { is = refl; unwritten = refl; lent = same_lent }

module _ {A : Type 0} {s t : Entries} where
  module _ {b : Bool} where
    pub yes_went : {f : Check A} (g : Check A) {l m : ℕ} {a : A} → b ≡ true → Went f s t l m a → Went (if b then f else g) s t l m a
    yes_went {f} g {l} {m} {a} e h = subst (λ (x : Bool). Went (if x then f else g) s t l m a) (sym e) h

    pub no_went : (f : Check A) {g : Check A} {l m : ℕ} {a : A} → b ≡ false → Went g s t l m a → Went (if b then f else g) s t l m a
    no_went f {g} {l} {m} {a} e h = subst (λ (x : Bool). Went (if x then f else g) s t l m a) (sym e) h

    pub yes_refuses : {f : Check A} (g : Check A) {r : Refusal} → b ≡ true → Refuses f s t r → Refuses (if b then f else g) s t r
    yes_refuses {f} g {r} e h = subst (λ (x : Bool). Refuses (if x then f else g) s t r) (sym e) h

    pub no_refuses : (f : Check A) {g : Check A} {r : Refusal} → b ≡ false → Refuses g s t r → Refuses (if b then f else g) s t r
    no_refuses f {g} {r} e h = subst (λ (x : Bool). Refuses (if x then f else g) s t r) (sym e) h

pub held_after : {A : Type 0} {f : Check A} {s t : Entries} {l m : ℕ} {a : A} → Went f s t l m a → Held s → Held t
held_after h k = held_less k h.unwritten (omega (arith, h.depth))

-- an entry is at least one node
pub one_node : {A : Type 0} {f : Check A} {s t : Entries} {m : ℕ} {a : A} → Held s → Went f s t 1 m a → Went f s t 1 1 a
one_node {t = t} k h = record { is = h.is; depth = h.depth; lighter = drops t 1 k h.unwritten h.depth; seen = h.seen; total = h.total; unwritten = h.unwritten; lent = h.lent }

-- a test of the top whose result was tested
pub at_true : {f : Check Bool} {s t : Entries} {b : Bool} → b ≡ true → Went f s t (node b) (node b) b → Went f s t 1 1 true
at_true {f} {s} {t} q h = subst (λ (x : Bool). Went f s t (node x) (node x) x) q h

pub at_false : {f : Check Bool} {s t : Entries} {b : Bool} → b ≡ false → Went f s t (node b) (node b) b → Went f s t 0 0 false
at_false {f} {s} {t} q h = subst (λ (x : Bool). Went f s t (node x) (node x) x) q h

module _ {s t : Entries} where
  -- a test of the top whose result is not used
  pub past : (want : ℕ → Bool) {B : Type 0} {l m : ℕ} {b : Bool} → Went (looked want) s t l m b → (k : Check B) → and_then (C.try want (machine_of s)) (λ o. k) ≡ k (machine_of t)
  past want {B} h k = sym (assoc (C.try want (machine_of s)) (λ o. ret (is_some o)) (λ x. k)) ∙ on h (λ x. k)

  pub took_is : {l m : ℕ} {b : Bool} (k : ℕ) → Went (looked (λ x. eqb k x)) s t l m b → Went (C.took k) s t l m b
  unfolding M.took
  took_is k h = h

-- WRAPS
wrap_total : (x y : B.Budget) → B.wrap x ≡ ok tt y → y.total ≡ x.total
unfolding B.wrap
wrap_total x y q = go (ltb x.wraps 256) q
  where
    go : (b : Bool) → ◌≡◌ {A = Out B.Budget Done} (if b then ok tt (B.budget x.steps x.total (suc x.wraps)) else refused 8) (ok tt y) → y.total ≡ x.total
    go true q = let p : B.budget x.steps x.total (suc x.wraps) ≡ y = cc in ap (λ (z : B.Budget). z.total) (sym p)
    go false q = absurd (cc)

module _ (s : Entries) where
  pub wrapped : (b : Budget) → B.wrap (budget_of s.state.budget) ≡ ok tt (budget_of b) → Went wrap s (record s { state = record s.state { budget = b } }) 0 0 tt
  unfolding wrap spend B.wrap
  wrapped b q = record {
    is = ap (λ (o : Out B.Budget Done). spent o (machine_of s)) q;
    depth = omega arith;
    lighter = omega arith;
    seen = refl;
    total = wrap_total (budget_of s.state.budget) (budget_of b) q;
    unwritten = refl;
    lent = record { name = refl; ceiling = refl };
  }

  pub not_wrapped : (r : Refusal) → B.wrap (budget_of s.state.budget) ≡ refused (number r) → Refuses wrap s s r
  unfolding wrap spend
  not_wrapped r q = record { is = ap (λ (o : Out B.Budget Done). spent o (machine_of s)) q; unwritten = refl; lent = same_lent }

-- A TURN'S BEGINNING: the step and the charge, one after the other
module _ (s : Entries) where
  pub no_step : (r : Refusal) → B.step (budget_of s.state.budget) ≡ refused (number r) → NotCharged s s r
  no_step r q = record { is = ap (λ (o : Out B.Budget Done). and_then o (λ x. B.charge s.ceiling 1)) q; rest = refl }

  module _ (b : Budget) (p : B.step (budget_of s.state.budget) ≡ ok tt (budget_of b)) where
    stepped : (B.step >> B.charge s.ceiling 1) (budget_of s.state.budget) ≡ B.charge s.ceiling 1 (budget_of b)
    stepped = ap (λ (o : Out B.Budget Done). and_then o (λ x. B.charge s.ceiling 1)) p

    pub no_charge : (r : Refusal) → B.charge s.ceiling 1 (budget_of b) ≡ refused (number r) → NotCharged s s r
    no_charge r q = record { is = stepped ∙ q; rest = refl }

    pub charged : (d : Budget) → B.charge s.ceiling 1 (budget_of b) ≡ ok tt (budget_of d) → Charged s (record s { state = record s.state { budget = d } })
    charged d q = record { is = stepped ∙ q; rest = refl }
