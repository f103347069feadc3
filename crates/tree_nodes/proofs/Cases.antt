-- What was tried, and what follows it, whether it was there or not.
use mir.Val.{bool_byte as from_bool}
use Rattle.std.proofs.Common.{◌≡◌, refl, ◌∙◌, true, ℕ, Bool, Option, Some, None, Result, Ok, Err, eqb}
use Rattle.std.specs.Option.{is_some}
use Rattle.std.proofs.Math.Option as Math
use Rattle.std.specs.Prelude.{if◌then◌else◌, false}
use Rattle.definition.specs.Base.{ret}
use Rattle.definition.specs.Node.{Node, Tuple, nil}
use Rattle.definition.specs.Kind as K
use Rattle.definition.specs.Perform.{Run}
use Rattle.definition.specs.Perform as R
use Rattle.definition.specs.declared.Refusal.{Refusal}
use Rattle.tree_records.specs.Lies.{flag}
use Rattle.tree_records.specs.Trees.{Reads, Has}
use Rattle.tree_records.specs.Holds.{Spare}
use Rattle.tree_records.specs.declared.Trees.{Trees}
use Rattle.tree_nodes.specs.Trees.{Refuses, Takes, Builds, Leaves, Tries, Marks, TakesName}
use Rattle.tree_nodes.specs.Gives.{spare, nothing_spare, WrapsTo, between}
use Rattle.tree_nodes.proofs.Taking.{marked, unmarked}
use Rattle.tree_nodes.proofs.Params.{assoc_behind, assoc_alone, params_type}
use Rattle.tree_nodes.proofs.Ready.{ready_none}
use Rattle.tree_nodes.proofs.Trees.{has_tried, has_left, reads_then}
use Rattle.tree_nodes.proofs.Steps.{refuses_after, moves_tried, moves_marked, moves_wrapped}
use Rattle.tree_nodes.proofs.Building.{function_built}

pub has_tried_any : {t t' : Trees} (f : Run (Math.Option Node)) (o : Option ℕ) → Reads t t' → Tries f t t' o → Has t nothing_spare → Has t' nothing_spare
has_tried_any f (Some p) s k r = ready_none (has_tried s k r)
has_tried_any f None s k r = has_left k r

pub marks_of : (t t' : Trees) (k : ℕ) (o : Option ℕ) → Tries (R.try (eqb k)) t t' o → Marks (R.took k) t t' (is_some o)
marks_of t t' k (Some p) h = marked k h
marks_of t t' k None h = rw h.same (unmarked k h.leaves)

-- a protocol, and a name below it
pub assoc_of : {t t₁ : Trees} (t₂ : Trees) (o : Option ℕ) (r : Result ℕ Refusal) {sp : Spare} → Has t sp → Reads t t₁ → Tries (R.try K.is_protocol) t t₁ o → TakesName R.pop_name t₁ t₂ r → TakesName R.assoc_type_name t t₂ r
unfolding R.assoc_type_name
assoc_of t₂ (Some p) (Ok k) i s h n = assoc_behind h (rw (s.slice, s.ceiling) at n)
assoc_of t₂ None (Ok k) i s h n = assoc_alone h.leaves (rw h.same at n)
assoc_of t₂ o (Err f) i s h n = refuses_after (λ _. R.pop_name) i (moves_tried o s h) (λ _ _ _ _. n)

-- no empty list, and the type of the parameters
pub params_of : {t t₁ t₂ : Trees} (r : Result ℕ Refusal) {sp : Spare} → Has t sp → Reads t t₁ → Leaves (R.try (eqb K.empty_list)) t t₁ → Reads t₁ t₂ → Takes (R.pop_if K.is_type) 3 t₁ t₂ r → Takes R.function_params 1 t t₂ r
unfolding R.function_params
params_of (Ok p) i s h q k = rw (q.slice, h.same) (params_type h.leaves (rw (q.slice, h.same) at k))
params_of {t} {t₁} (Err f) i s h q k =
    refuses_after (λ (e : Bool). if e then ret (Tuple nil) else R.pop_if K.is_type) i (moves_marked {b = false} s (marks_of t t₁ K.empty_list None h)) (λ x e _ _. rw e k)

function_type_refused : {t t₁ t₂ t₃ t₄ : Trees} (throws is_async : Bool) {f : Refusal} → Has t (spare 0 0 1 0) → Reads t t₁ → WrapsTo t.ws.now t.n t.state t₁.state → Reads t₁ t₂ → Marks (R.took K.throws) t₁ t₂ throws → Reads t₂ t₃ → Marks (R.took K.async) t₂ t₃ is_async → Refuses (between throws is_async) t₃ t₄ f → Refuses R.function_type t t₄ f
unfolding R.function_type
function_type_refused y a h s₁ k₁ s₂ k₂ s₃ k₃ b =
    refuses_after _ h (moves_wrapped s₁ k₁) (λ _ _ sp₁ h₁.
    refuses_after _ h₁ (moves_marked s₂ k₂) (λ y' ey sp₂ h₂.
    refuses_after _ h₂ (moves_marked s₃ k₃) (λ a' ea _ _. rw (ey, ea) b)))

-- a function type, after its wrap and its effects
pub function_type_of : {t t₁ t₂ t₃ : Trees} (t₄ : Trees) (throws is_async : Bool) (r : Result ℕ Refusal) → Has t (spare 0 0 1 0) → Reads t t₁ → WrapsTo t.ws.now t.n t.state t₁.state → Reads t₁ t₂ → Marks (R.took K.throws) t₁ t₂ throws → Reads t₂ t₃ → Marks (R.took K.async) t₂ t₃ is_async → Builds (between throws is_async) 1 0 t₃ t₄ r → Builds R.function_type 1 0 t t₄ r
function_type_of {t} {t₁} {t₂} {t₃} t₄ y a (Ok p) h s₁ k₁ s₂ k₂ s₃ k₃ b =
    let u₂ = reads_then s₁ s₂ in
    let u₃ = reads_then u₂ s₃ in
    function_built t₄.ws.now {t = record { taken = y; next = t₂.state }} {y = record { taken = a; next = t₃.state }} k₁ (rw (s₁.slice, s₁.ceiling) at k₂) (rw (u₂.slice, u₂.ceiling) at k₃) (rw (u₃.slice, u₃.ceiling) at b)
function_type_of {t} {t₁} {t₂} {t₃} t₄ y a (Err f) h s₁ k₁ s₂ k₂ s₃ k₃ b = function_type_refused y a h s₁ k₁ s₂ k₂ s₃ k₃ b

-- the number of a `bool` in a record
flag_is : (b : Bool) → from_bool b ≡ flag b
flag_is true = refl
flag_is false = refl

pub flagged : (b : Bool) {y : ℕ} → y ≡ from_bool b → y ≡ flag b
flagged b e = e ∙ flag_is b
