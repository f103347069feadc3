-- What the contracts of calls on `Trees` carry over to the next call.
use Rattle.std.proofs.Common.{◌≡◌, ℕ, ◌+◌, ◌*◌, ◌≤◌, ◌<◌, List, [], Bool, length, ap, ◌∙◌, Fits, w32}
use Rattle.std.proofs.Math.Option.{Option}
use Rattle.definition.specs.Base.{Name, refused}
use Rattle.definition.specs.Enums.{number}
use Rattle.definition.specs.Node.{Node}
use Rattle.definition.specs.Perform.{Demangler, Run}
use Rattle.definition.specs.declared.Refusal.{Refusal}
use Rattle.definition.specs.declared.Refusal.TheVariants.{Stack}
use Rattle.machine.specs.Beyond.{beyond_itself}
use Rattle.tree_records.specs.Holds.{Names, Spare, Inside, Holds, Ready, Took}
use Rattle.tree_records.specs.declared.State.{State}
use Rattle.tree_records.specs.Trees.{Stays, Reads, Has, Bare}
use Rattle.tree_records.specs.declared.Trees.{Trees}
use Rattle.tree_nodes.specs.Gives.{taken, Gives, GivesIf, GivesName, WrapsTo}
use Rattle.tree_nodes.specs.Trees.{Refuses, Leaves, Marks}
use Rattle.tree_nodes.proofs.Taking.{place_inside, took_below}
use Rattle.tree_nodes.proofs.Ready.{after_given, after_tried, after_name, after_popped, after_mark, after_wrap, inside_record, small_place, room}

module _ {t t' : Trees} where
  pub stays_read : Reads t t' → Stays t t'
  stays_read r = record { slice = ap (λ b. b.ghost_name) r.slice; ceiling = r.ceiling }

  -- nothing was on the stack
  pub bare_refuses : {A : Type 0} {f : Run A} {r : Refusal} → ((m : Demangler) → m.stack ≡ [] → f m ≡ refused 10) → Bare t × (r ≡ Stack) × (t' ≡ t) → Refuses f t t' r
  unfolding number
  bare_refuses {A} {f} h b = record {
    refuses = λ nm sp m i. rw b.1 (h m (b.0 nm sp m i));
    beyond = rw b.2 (beyond_itself _ _);
  }

  -- nothing was written
  pub read_refuses : {A : Type 0} {f : Run A} → Reads t t' → ((nm : Names) (sp : Spare) (m : Demangler) → Holds nm t.ws.now t.n t.state sp m → f m ≡ refused 10) → Refuses f t t' Stack
  unfolding number
  read_refuses s h = record { refuses = h; beyond = rw s.slice (beyond_itself _ _) }

module _ {t t' : Trees} {sp : Spare} where
  pub has_popped : {p : ℕ} → Reads t t' → Took t.ws.now t.n t.state p t'.state → Has t sp → Has t' (taken 3 0 sp)
  has_popped s k r = rw (s.slice, s.ceiling) (after_popped k r)

  pub has_tried : {f : Run (Option Node)} {p : ℕ} → Reads t t' → GivesIf f t.ws.now t.n t.state p t'.state → Has t sp → Has t' (taken 3 0 sp)
  has_tried s k r = rw (s.slice, s.ceiling) (after_tried k r)

  pub has_named : {f : Run Name} {k : ℕ} → Reads t t' → GivesName f t.ws.now t.n t.state k t'.state → Has t sp → Has t' (taken 3 1 sp)
  has_named s k r = rw (s.slice, s.ceiling) (after_name k r)

  pub has_taken : {f : Run Node} {gain p : ℕ} → Stays t t' → Gives f gain t.ws.now t'.ws.now t.n t.state p t'.state → Has t sp → Has t' (taken gain 0 sp)
  has_taken s k r = rw s.ceiling (after_given k r)

  pub has_left : {f : Run (Option Node)} → Leaves f t t' → Has t sp → Has t' sp
  has_left l r = rw l.same r

-- the record that was taken
pub popped_in : {t t' : Trees} {sp : Spare} {p : ℕ} → Reads t t' → Took t.ws.now t.n t.state p t'.state → Has t sp → 8 * p + 8 ≤ length t'.ws.now
popped_in s k r = rw s.slice (place_inside _ (took_below k r) r)

-- the record that was made has the place of the top before it
pub has_marked : {t t' : Trees} {sp : Spare} {f : Run Bool} {b : Bool} → Reads t t' → Marks f t t' b → Has t sp → Has t' sp
has_marked s k r = rw (s.slice, s.ceiling) (after_mark k r)

pub has_wrapped : {t t' : Trees} {sp : Spare} → Reads t t' → WrapsTo t.ws.now t.n t.state t'.state → Has t sp → Has t' sp
has_wrapped s k r = rw (s.slice, s.ceiling) (after_wrap k r)

pub stays_then : {t t₁ t₂ : Trees} → Stays t t₁ → Stays t₁ t₂ → Stays t t₂
stays_then a b = record { slice = b.slice ∙ a.slice; ceiling = b.ceiling ∙ a.ceiling }

pub reads_then : {t t₁ t₂ : Trees} → Reads t t₁ → Reads t₁ t₂ → Reads t t₂
reads_then a b = record { slice = b.slice ∙ a.slice; ceiling = b.ceiling ∙ a.ceiling }

-- a place below the top: its record, and the place as a number
pub record_at : {w : List ℕ} {N : ℕ} {st : State} {sp : Spare} → Ready w N st sp → (p : ℕ) → p < st.top → 8 * p + 8 ≤ length w
record_at r p l = inside_record p l r

pub place_at : {w : List ℕ} {N : ℕ} {st : State} {sp : Spare} → Ready w N st sp → (p : ℕ) → p < st.top → Fits w32 p
place_at r p l = record { fits = small_place p l r }

pub room_at : {w : List ℕ} {N : ℕ} {st : State} {sp : Spare} → Ready w N st sp → {makes pushes keeps : ℕ} → makes ≤ sp.makes → pushes ≤ sp.pushes → keeps ≤ sp.keeps → Inside w N st makes pushes keeps
room_at r a b c = room a b c r
