-- One step of the definition after another, on `Trees`: what is refused after steps that were made.
use Rattle.std.proofs.Common.{◌≡◌, ℕ, Bool, Option, Some, None, Err, refl}
use Rattle.std.proofs.Math.Option as Math
use Rattle.definition.specs.Base.{Name, ok, ◌>>=◌}
use Prim.Native.String.{String}
use Rattle.definition.specs.Machine.{wrap}
use Rattle.definition.specs.Node.{Node, size}
use Rattle.definition.specs.Perform.{Demangler, Run}
use Rattle.definition.specs.declared.Refusal.{Refusal}
use Rattle.machine.specs.Beyond.{Beyond, beyond_itself, beyond_both}
use Rattle.tree_records.specs.Holds.{Names, Spare, Holds}
use Rattle.tree_records.specs.Trees.{Stays, Reads, Has}
use Rattle.tree_records.specs.declared.Trees.{Trees}
use Rattle.tree_nodes.specs.Gives.{taken, full_spare, Gives, GivesName, WrapsTo, Performed}
use Rattle.tree_nodes.specs.Trees.{Refuses, Leaves, Tries, Marks, Operates}
use Rattle.tree_nodes.proofs.Trees.{stays_read}

-- the step f gives a value that meets Q, for any machine that t held
pub record Moved {A : Type 0} (f : Run A) (Q : A → Type 0) (nm : Names) (t' : Trees) (m : Demangler) : Type 0 where
  pub value : A
  pub spare : Spare
  pub machine : Demangler
  pub is : f m ≡ ok value machine
  pub so : Q value
  pub holds : Holds nm t'.ws.now t'.n t'.state spare machine

pub record Moves {A : Type 0} (f : Run A) (Q : A → Type 0) (t t' : Trees) : Type 0 where
  pub stays : Stays t t'
  pub beyond : Beyond 64 t.n t.ws.now t'.ws.now
  pub moves : (nm : Names) (sp : Spare) (m : Demangler) → Holds nm t.ws.now t.n t.state sp m → Moved f Q nm t' m

-- what is refused at once, or after a step
pub refuses_first : {A B : Type 0} {f : Run A} (g : A → Run B) {t t' : Trees} {r : Refusal} → Refuses f t t' r → Refuses (f >>= g) t t' r
refuses_first g h = record { refuses = λ nm sp m i. rw (h.refuses nm sp m i) refl; beyond = h.beyond }

pub refuses_after : {A B : Type 0} {f : Run A} {Q : A → Type 0} (g : A → Run B) {t t₁ t₂ : Trees} {r : Refusal} {sp : Spare} → Has t sp → Moves f Q t t₁ → ((x : A) → Q x → (sp₁ : Spare) → Has t₁ sp₁ → Refuses (g x) t₁ t₂ r) → Refuses (f >>= g) t t₂ r
refuses_after {A} {B} {f} {Q} g {t} {t₁} {t₂} {r} {sp} h a b = record {
  refuses = λ nm sp₂ m i. let o = a.moves nm sp₂ m i in rw o.is ((b o.value o.so o.spare (record { names = nm; machine = o.machine; holds = o.holds })).refuses nm o.spare o.machine o.holds);
  beyond =
      let o = a.moves h.names sp h.machine h.holds in
      let e : Beyond 64 t₁.n t₁.ws.now t₂.ws.now = (b o.value o.so o.spare (record { names = h.names; machine = o.machine; holds = o.holds })).beyond in
      beyond_both a.beyond (rw a.stays.ceiling at e);
}

module _ {t t' : Trees} where
  read_beyond : Reads t t' → Beyond 64 t.n t.ws.now t'.ws.now
  read_beyond s = rw s.slice (beyond_itself _ _)

  pub moves_taken : {f : Run Node} {gain p : ℕ} → Stays t t' → Gives f gain t.ws.now t'.ws.now t.n t.state p t'.state → Moves f (λ _. Unit) t t'
  moves_taken {f} {gain} s k = record {
    stays = s;
    beyond = record { past = k.keeps.past; long = k.keeps.long };
    moves = λ nm sp m h. let o = k.gives nm sp m h in record { value = o.tree; spare = taken gain (size o.tree) sp; machine = o.machine; is = o.is; so = tt; holds = rw s.ceiling o.holds };
  }

  pub moves_tried : {f : Run (Math.Option Node)} (o : Option ℕ) → Reads t t' → Tries f t t' o → Moves f (λ _. Unit) t t'
  moves_tried (Some p) s k = record {
    stays = stays_read s;
    beyond = read_beyond s;
    moves = λ nm sp m h. let o = k.gives nm sp m h in record { value = Math.some o.tree; spare = taken 3 (size o.tree) sp; machine = o.machine; is = o.is; so = tt; holds = rw (s.slice, s.ceiling) o.holds };
  }
  moves_tried None s k = record {
    stays = stays_read s;
    beyond = read_beyond s;
    moves = λ nm sp m h. record { value = Math.none; spare = sp; machine = m; is = k.leaves nm sp m h; so = tt; holds = rw k.same h };
  }

  pub moves_left : {f : Run (Math.Option Node)} → Reads t t' → Leaves f t t' → Moves f (λ o. o ≡ Math.none) t t'
  moves_left s k = record {
    stays = stays_read s;
    beyond = read_beyond s;
    moves = λ nm sp m h. record { value = Math.none; spare = sp; machine = m; is = k.leaves nm sp m h; so = refl; holds = rw k.same h };
  }

  pub moves_marked : {f : Run Bool} {b : Bool} → Reads t t' → Marks f t t' b → Moves f (λ x. x ≡ b) t t'
  moves_marked {f} {b} s k = record {
    stays = stays_read s;
    beyond = read_beyond s;
    moves = λ nm sp m h. let o = k.gives nm sp m h in record { value = b; spare = sp; machine = o.0; is = o.1; so = refl; holds = rw (s.slice, s.ceiling) o.2 };
  }

  pub moves_named : {f : Run Name} {k : ℕ} → Reads t t' → GivesName f t.ws.now t.n t.state k t'.state → Moves f (λ _. Unit) t t'
  moves_named s k = record {
    stays = stays_read s;
    beyond = read_beyond s;
    moves = λ nm sp m h. let o = k.gives nm sp m h in record { value = o.name; spare = taken 3 1 sp; machine = o.machine; is = o.is; so = tt; holds = rw (s.slice, s.ceiling) o.holds };
  }

  pub moves_wrapped : Reads t t' → WrapsTo t.ws.now t.n t.state t'.state → Moves wrap (λ _. Unit) t t'
  moves_wrapped s k = record {
    stays = stays_read s;
    beyond = read_beyond s;
    moves = λ nm sp m h. let o = k.gives nm sp m h in record { value = tt; spare = sp; machine = o.0; is = o.1; so = tt; holds = rw (s.slice, s.ceiling) o.2 };
  }

-- an operator that is refused
pub fails : {f : Performed} {t t' : Trees} {r : Refusal} → ((names : ℕ → String) → Refuses (f names) t t' r) → Operates f t t' (Err r)
fails h =
    let b = (h (λ _. "")).beyond in
    record { runs = λ nm m i k. (h nm.fixed).refuses nm full_spare m k; past = b.past; long = b.long }
