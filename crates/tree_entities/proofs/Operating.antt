-- The operators of variables, initializers and functions: a type under a signature, what follows
-- it, and the record of the entity.
use mathlib.Core.Path.{◌≡◌, refl, sym, ap, ◌∙◌}
use mathlib.Core.Bool.{Bool}
use mathlib.Core.List.{List, ◌∷◌}
use mathlib.Core.Option.{Option}
use Prim.Native.Nat.{ℕ, ◌+◌, ◌≤◌, ◌<◌}
use Prim.Native.String.{String}
use native.Mathlib.Omega.{arith}
use Rattle.definition.specs.Base.{Late, Out, ok, refused, and_then, ◌>>=◌, Done}
use Rattle.definition.specs.Kind as K
use Rattle.definition.specs.Enums.{number}
use Rattle.definition.specs.Node.{Labels, Node, Function, Variable, Initializer, kind, size, count, view}
use Rattle.definition.specs.Machine.{restack, push}
use Rattle.definition.specs.Perform as R
use Rattle.definition.specs.Perform.{Demangler, Run}
use Rattle.definition.specs.declared.Accessor.{Accessor}
use Rattle.definition.specs.declared.Refusal.{Refusal}
use Rattle.tree_records.specs.Lies.{at, flag, Lies, LabelList}
use Rattle.tree_records.specs.Holds.{Names, Named, Spare, Inside, Holds, Ready, Keeps, for_record, for_push}
use Rattle.tree_records.specs.declared.State.{State}
use Rattle.tree_nodes.specs.Results.{Marked}
use Rattle.tree_nodes.specs.Results.{Step}
use Rattle.machine.specs.Beyond.{Beyond}
use Rattle.tree_nodes.specs.Gives.{spare, nothing_spare, full_spare, for_nodes, taken, most, Given, Gives, GivesName, Marks, Operates, Left}
use Rattle.tree_nodes.proofs.Taking.{less_spare}
use Rattle.tree_nodes.proofs.Ready.{after_given, after_mark, after_name, room}
use Rattle.tree_entities.specs.LabelsOf.{Treed, GivesLabels}
use Rattle.tree_parts.specs.Leaves.{Entity, letter, variable_end, LeavesVariable}
use Rattle.tree_records.specs.Trees.{Stays, Has}
use Rattle.tree_records.specs.declared.Trees.{Trees}
use Rattle.tree_entities.specs.Entities.{variable_type, signed_type, GivesType}
use Rattle.tree_entities.proofs.labels.LabelLists.{assoc, labels_stay}
use Rattle.tree_parts.proofs.entity.Leavings.{Kids, in_field_4, in_field_5, entity_size, entity_record}

-- WHAT WAS TAKEN
abbrev pub after_type : Spare
after_type = spare 15 1 0 1

module _ {f : Run Node} {own gain : ℕ} {w w₁ : List ℕ} {N : ℕ} {st u : State} {p : ℕ} (g : GivesType f own gain w w₁ N st p u) (l : own ≤ 4) (q : Ready w N st full_spare) where
  typed : Given f gain q.names w₁ N p u after_type q.machine
  typed = g.gives q.names after_type q.machine (less_spare full_spare (for_nodes own after_type) (omega arith) (omega arith) (omega arith) (omega arith) q.holds)

  pub after_typed : Ready w₁ N u after_type
  after_typed = record { names = q.names; machine = typed.machine; holds = less_spare (taken gain (size typed.tree) after_type) after_type (omega arith) (omega arith) (omega arith) (omega arith) typed.holds }

  pub typed_treed : Treed w₁ p u.top
  typed_treed = record { names = q.names; tree = typed.tree; lies = typed.lies; below = g.below }

  pub typed_small : at w₁ p 1 ≤ most
  typed_small = let h = typed.holds in omega (arith, h.light, h.charged, h.small, typed.lies.size_is)

-- an operator that begins with a type, which is refused
pub first_refused : (o : (ℕ → String) → Run Done) (f : Run Node) (k : (ℕ → String) → Node → Run Done) (own : ℕ) {w w' : List ℕ} {N : ℕ} {st : State} (e : Refusal) → own ≤ 4 → ((s : ℕ → String) (m : Demangler) → o s m ≡ and_then (f m) (k s)) →
    ((nm : Names) (sp : Spare) (m : Demangler) → Holds nm w N st (for_nodes own sp) m → f m ≡ refused (number e)) × Beyond 64 N w w' → Operates o w w' N st (Step.Refused e)
first_refused o f k own e l q c = record {
  runs = λ nm m i h. q nm.fixed m ∙ ap (λ y. and_then y (k nm.fixed)) (c.0 nm after_type m (less_spare full_spare (for_nodes own after_type) (omega arith) (omega arith) (omega arith) (omega arith) h));
  past = c.1.past;
  long = c.1.long;
}

-- VARIABLES
abbrev variable_rest : Late (Option String) → Node → Run Done
variable_rest l ty = R.took K.empty_list >>= λ _. R.pop_name >>= λ name. R.context >>= λ c. variable_end l (Variable c name ty)

pub variable_split : (l : Late (Option String)) (m : Demangler) → R.variable l m ≡ and_then (variable_type m) (variable_rest l)
unfolding R.variable
variable_split l m = go (R.pop_if K.is_type m)
  where
    go : (o : Out Demangler Node) → and_then o (λ t. R.try_signature >>= λ s. R.under_signature s t >>= variable_rest l) ≡ and_then (and_then o (λ t. R.try_signature >>= λ s. R.under_signature s t)) (variable_rest l)
    go (refused r) = refl
    go (ok t m₁) = sym (assoc (R.try_signature m₁) (λ s. R.under_signature s t) (variable_rest l))

module _ {w w₁ : List ℕ} {N : ℕ} {st u₁ : State} {ty : ℕ} {b : Marked} (accessor : Accessor) (a : GivesType variable_type 1 3 w w₁ N st ty u₁) (k : Marks (R.took K.empty_list) w₁ N u₁ b) where
  pub variable_nameless : {r : Refusal} → ((nm : Names) (sp : Spare) (m : Demangler) → Holds nm w₁ N b.next sp m → R.pop_name m ≡ refused (number r)) → Operates (λ s. R.variable (letter s accessor)) w w₁ N st (Step.Refused r)
  variable_nameless c = record {
    runs = λ nm m i h.
        let t = a.gives nm (spare 15 1 3 1) m h in
        let g = k.gives nm (taken 3 (size t.tree) (spare 15 1 3 1)) t.machine t.holds in
        variable_split (letter nm.fixed accessor) m ∙ rw (t.is, g.1, c nm _ g.0 g.2) refl;
    past = a.keeps.past;
    long = a.keeps.long;
  }

  module _ {name : ℕ} {u₂ : State} (d : GivesName R.pop_name w₁ N b.next name u₂) where
    pub variable_alone : {r : Refusal} {w₂ : List ℕ} → ((nm : Names) (sp : Spare) (m : Demangler) → Holds nm w₁ N u₂ sp m → R.context m ≡ refused (number r)) × Beyond 64 N w₁ w₂ → Operates (λ s. R.variable (letter s accessor)) w w₂ N st (Step.Refused r)
    variable_alone c = record {
      runs = λ nm m i h.
          let t = a.gives nm (spare 15 1 3 1) m h in
          let g = k.gives nm (taken 3 (size t.tree) (spare 15 1 3 1)) t.machine t.holds in
          let n = d.gives nm (taken 3 (size t.tree) (spare 15 1 3 1)) g.0 g.2 in
          variable_split (letter nm.fixed accessor) m ∙ rw (t.is, g.1, n.is, c.0 nm _ n.machine n.holds) refl;
      past = λ i l. c.1.past i l ∙ a.keeps.past i l;
      long = c.1.long ∙ a.keeps.long;
    }

    module _ {w₂ : List ℕ} {c : ℕ} {u₃ : State} (e : Gives R.context 1 w₁ w₂ N u₂ c u₃) where
      low : ty < u₂.top
      low = omega (arith, a.below, k.top, d.top)

      pub variable_entity : Ready w N st full_spare → Entity w₂ N u₃ c ty
      variable_entity q = record {
        c_below = e.below;
        ty_below = omega (arith, low, e.rising);
        c_small = e.small;
        ty_small = omega (arith, typed_small a (omega arith) q, e.keeps.fields ty 1 low (omega arith));
      }

      pub variable_room : Ready w N st full_spare → Inside w₂ N u₃ 7 1 0
      variable_room q = room (omega arith) (omega arith) (omega arith) (after_given e (after_name d (after_mark k (after_typed a (omega arith) q))))

      pub variable_done : (w₃ : List ℕ) (r : Step) → LeavesVariable accessor w₂ w₃ N u₃ name c ty r → Operates (λ s. R.variable (letter s accessor)) w w₃ N st r
      variable_done w₃ (Step.Done v) z = record {
        runs = λ nm m i h.
            let t = a.gives nm (spare 15 1 3 1) m h in
            let g = k.gives nm (taken 3 (size t.tree) (spare 15 1 3 1)) t.machine t.holds in
            let n = d.gives nm (taken 3 (size t.tree) (spare 15 1 3 1)) g.0 g.2 in
            let x = e.gives nm (taken 3 1 (taken 3 (size t.tree) (spare 15 1 3 1))) n.machine n.holds in
            let o = z.ends nm n.name x.tree t.tree i n.named x.lies (e.keeps.trees nm t.tree ty low t.lies) x.machine
            (less_spare (taken 1 (size x.tree) (taken 3 1 (taken 3 (size t.tree) (spare 15 1 3 1)))) (spare 7 1 (size x.tree + size t.tree + 2) 0) (omega arith) (omega arith) (omega arith) (omega arith) x.holds) in
            record { machine = o.machine; is = variable_split (letter nm.fixed accessor) m ∙ rw (t.is, g.1, n.is, x.is) o.is; holds = o.holds };
        past = λ i l. z.beyond.past i l ∙ (e.keeps.past i l ∙ a.keeps.past i l);
        long = z.beyond.long ∙ (e.keeps.long ∙ a.keeps.long);
      }
      variable_done w₃ (Step.Refused f) z = record {
        runs = λ nm m i h.
            let t = a.gives nm (spare 15 1 3 1) m h in
            let g = k.gives nm (taken 3 (size t.tree) (spare 15 1 3 1)) t.machine t.holds in
            let n = d.gives nm (taken 3 (size t.tree) (spare 15 1 3 1)) g.0 g.2 in
            let x = e.gives nm (taken 3 1 (taken 3 (size t.tree) (spare 15 1 3 1))) n.machine n.holds in
            let o = z.ends nm n.name x.tree t.tree i n.named x.lies (e.keeps.trees nm t.tree ty low t.lies) x.machine
            (less_spare (taken 1 (size x.tree) (taken 3 1 (taken 3 (size t.tree) (spare 15 1 3 1)))) (spare 7 1 (size x.tree + size t.tree + 2) 0) (omega arith) (omega arith) (omega arith) (omega arith) x.holds) in
            variable_split (letter nm.fixed accessor) m ∙ rw (t.is, g.1, n.is, x.is) o;
        past = λ i l. z.beyond.past i l ∙ (e.keeps.past i l ∙ a.keeps.past i l);
        long = z.beyond.long ∙ (e.keeps.long ∙ a.keeps.long);
      }

pub variable_untyped : (accessor : Accessor) {w w' : List ℕ} {N : ℕ} {st : State} (e : Refusal) → ((nm : Names) (sp : Spare) (m : Demangler) → Holds nm w N st (for_nodes 1 sp) m → variable_type m ≡ refused (number e)) × Beyond 64 N w w' → Operates (λ s. R.variable (letter s accessor)) w w' N st (Step.Refused e)
variable_untyped accessor e c = first_refused (λ s. R.variable (letter s accessor)) variable_type (λ s. variable_rest (letter s accessor)) 1 e (omega arith) (λ s m. variable_split (letter s accessor) m) c

-- LABELLED ENTITIES
-- the signature first, then f, and the rest
pub signed_split : (f : Run Node) (k : Node → Run Done) (m : Demangler) → and_then (R.try_signature m) (λ s. f >>= λ t. R.under_signature s t >>= k) ≡ and_then (signed_type f m) k
signed_split f k m = go (R.try_signature m)
  where
    go : (o : Out Demangler (Option Node)) → and_then o (λ s. f >>= λ t. R.under_signature s t >>= k) ≡ and_then (and_then o (λ s. f >>= λ t. R.under_signature s t)) k
    go (refused r) = refl
    go (ok s m₁) = sym (assoc (f m₁) (λ t. R.under_signature s t) k)

-- the type, and the labels that it requires
module _ {f : Run Node} {own gain : ℕ} {w w₁ : List ℕ} {N : ℕ} {st u₁ : State} {ty : ℕ} (a : GivesType f own gain w w₁ N st ty u₁) (low : own ≤ 4) where
  -- no labels
  pub labelless : {r : Refusal} {w₂ : List ℕ} (o : Run Done) (k : Node → Labels → Run Done) → ((m : Demangler) → o m ≡ and_then (f m) (λ t. R.labels t >>= k t)) → Ready w N st full_spare → ((nm : Names) (x : Node) → Lies (Named nm) x w₁ ty → ((sp : Spare) (m : Demangler) → Holds nm w₁ N u₁ sp m → R.labels x m ≡ refused (number r)) × Beyond 64 N w₁ w₂) → Operates (λ _. o) w w₂ N st (Step.Refused r)
  labelless o k e q c =
      let y = typed a low q in
      let b = (c q.names y.tree y.lies).1 in
      record {
        runs = λ nm m i h.
            let t = a.gives nm after_type m (less_spare full_spare (for_nodes own after_type) (omega arith) (omega arith) (omega arith) (omega arith) h) in
            e m ∙ rw (t.is, (c nm t.tree t.lies).0 _ t.machine t.holds) refl;
        past = λ i l. b.past i l ∙ a.keeps.past i l;
        long = b.long ∙ a.keeps.long;
      }

  module _ {w₂ : List ℕ} {first last : ℕ} {u₂ : State} (c : (nm : Names) (x : Node) → Lies (Named nm) x w₁ ty → GivesLabels nm (R.labels x) w₁ w₂ N u₁ first last u₂) (q : Ready w N st full_spare) where
    labelled : GivesLabels q.names (R.labels (typed a low q).tree) w₁ w₂ N u₁ first last u₂
    labelled = c q.names (typed a low q).tree (typed a low q).lies

    pub after_labels : Ready w₂ N u₂ after_type
    unfolding after_typed
    after_labels = let r = after_typed a low q in let g = labelled.gives after_type r.machine r.holds in record { names = q.names; machine = g.machine; holds = g.holds }

    pub labels_rise : u₁.top ≤ u₂.top
    labels_rise = labelled.rising

    pub labels_keep : Keeps w₁ w₂ N u₁.top
    labels_keep = labelled.keeps

    -- a context taken after the labels
    module _ {u₃ : State} {w₃ : List ℕ} {e : ℕ} {u₄ : State} (same : u₃.top ≡ u₂.top) (d : Gives R.context 1 w₂ w₃ N u₃ e u₄) where
      pub labelled_entity : Entity w₃ N u₄ e ty
      labelled_entity =
          let l : ty < u₃.top = omega (arith, a.below, labels_rise, same) in
          record {
            c_below = d.below;
            ty_below = omega (arith, d.rising);
            c_small = d.small;
            ty_small = omega (arith, typed_small a low q, d.keeps.fields ty 1 l (omega arith), labels_keep.fields ty 1 a.below (omega arith));
          }

-- the children and the labels of the record
module _ {w₁ w₂ w₃ : List ℕ} {N : ℕ} {u₁ u₂ u₃ u₄ : State} {ty first last e : ℕ} (nm : Names) (x t : Node) {f : Run Labels} (c : GivesLabels nm f w₁ w₂ N u₁ first last u₂) (low : ty < u₁.top) (same : u₃.top ≡ u₂.top) (d : Gives R.context 1 w₂ w₃ N u₃ e u₄) where
  labelled_kids : Lies (Named nm) x w₃ e → Lies (Named nm) t w₁ ty → Kids nm w₃ u₄.top e ty x t
  labelled_kids lx lt =
      let l : ty < u₃.top = omega (arith, c.rising, same) in
      record { c_below = d.below; ty_below = omega (arith, d.rising); c_lies = lx; ty_lies = d.keeps.trees nm t ty l (c.keeps.trees nm t ty low lt) }

  labels_there : (ls : Labels) (g : ℕ → ℕ) → LabelList (Named nm) ls 6 g w₂ u₂.top → LabelList (Named nm) ls 6 g w₃ u₄.top
  labels_there ls g h = labels_stay nm d.keeps ls 6 g u₂.top u₄.top (omega (arith, same)) (omega (arith, same, d.rising)) h

-- INITIALIZERS
abbrev initializer_rest : Bool → Node → Labels → Run Done
initializer_rest b ty ls = R.context >>= λ c. push (Initializer b c ls ty)

pub initializer_split : (b : Bool) (m : Demangler) → R.initializer b m ≡ and_then (signed_type (R.pop_if K.is_type) m) (λ t. R.labels t >>= initializer_rest b t)
unfolding R.initializer
initializer_split b m = signed_split (R.pop_if K.is_type) (λ t. R.labels t >>= initializer_rest b t) m

pub initializer_untyped : (b : Bool) {w w' : List ℕ} {N : ℕ} {st : State} (e : Refusal) → ((nm : Names) (sp : Spare) (m : Demangler) → Holds nm w N st (for_nodes 1 sp) m → signed_type (R.pop_if K.is_type) m ≡ refused (number e)) × Beyond 64 N w w' → Operates (λ _. R.initializer b) w w' N st (Step.Refused e)
initializer_untyped b e c = first_refused (λ _. R.initializer b) (signed_type (R.pop_if K.is_type)) (λ _ t. R.labels t >>= initializer_rest b t) 1 e (omega arith) (λ s m. initializer_split b m) c

pub initializer_labelless : {r : Refusal} (b : Bool) {w w₁ w₂ : List ℕ} {N : ℕ} {st u₁ : State} {ty : ℕ} → GivesType (signed_type (R.pop_if K.is_type)) 1 3 w w₁ N st ty u₁ → Ready w N st full_spare → ((nm : Names) (x : Node) → Lies (Named nm) x w₁ ty → ((sp : Spare) (m : Demangler) → Holds nm w₁ N u₁ sp m → R.labels x m ≡ refused (number r)) × Beyond 64 N w₁ w₂) → Operates (λ _. R.initializer b) w w₂ N st (Step.Refused r)
initializer_labelless b a q c = labelless a (omega arith) (R.initializer b) (initializer_rest b) (λ m. initializer_split b m) q c

module _ (b : Bool) {w w₁ w₂ : List ℕ} {N : ℕ} {st u₁ u₂ : State} {ty first last : ℕ} (a : GivesType (signed_type (R.pop_if K.is_type)) 1 3 w w₁ N st ty u₁) (c : (nm : Names) (x : Node) → Lies (Named nm) x w₁ ty → GivesLabels nm (R.labels x) w₁ w₂ N u₁ first last u₂) (q : Ready w N st full_spare) where
  pub initializer_alone : {r : Refusal} {w₃ : List ℕ} → ((nm : Names) (sp : Spare) (m : Demangler) → Holds nm w₂ N u₂ sp m → R.context m ≡ refused (number r)) × Beyond 64 N w₂ w₃ → Operates (λ _. R.initializer b) w w₃ N st (Step.Refused r)
  initializer_alone d =
      let k = labels_keep a (omega arith) c q in
      record {
        runs = λ nm m i h.
            let t = a.gives nm (spare 15 1 3 1) m h in
            let o = (c nm t.tree t.lies).gives (taken 3 (size t.tree) (spare 15 1 3 1)) t.machine t.holds in
            initializer_split b m ∙ rw (t.is, o.is, d.0 nm _ o.machine o.holds) refl;
        past = λ i l. d.1.past i l ∙ (k.past i l ∙ a.keeps.past i l);
        long = d.1.long ∙ (k.long ∙ a.keeps.long);
      }

  module _ {w₃ : List ℕ} {e : ℕ} {u₃ : State} (d : Gives R.context 1 w₂ w₃ N u₂ e u₃) where
    pub initializer_entity : Entity w₃ N u₃ e ty
    initializer_entity = labelled_entity a (omega arith) c q refl d

    pub initializer_room : Inside w₃ N u₃ 5 1 0
    initializer_room = room (omega arith) (omega arith) (omega arith) (after_given d (after_labels a (omega arith) c q))

    pub initializer_done : {w₄ : List ℕ} {v : State} (g : ℕ) → g ≡ flag b → Left w₃ w₄ N u₃ v (entity_record w₃ 22 e ty g first last) → Operates (λ _. R.initializer b) w w₄ N st (Step.Done v)
    unfolding push kind size count view
    initializer_done g z l =
        let k = labels_keep a (omega arith) c q in
        record {
          runs = λ nm m i h.
              let t = a.gives nm (spare 15 1 3 1) m h in
              let s = c nm t.tree t.lies in
              let o = s.gives (taken 3 (size t.tree) (spare 15 1 3 1)) t.machine t.holds in
              let x = d.gives nm (taken 3 (size t.tree) (spare 15 1 3 1)) o.machine o.holds in
              let y : Node = Initializer b x.tree o.labels t.tree in
              let kids = labelled_kids nm x.tree t.tree s a.below refl d x.lies t.lies in
              record {
                machine = restack (y ∷ x.machine.stack) x.machine;
                is = initializer_split b m ∙ rw (t.is, o.is, x.is) refl;
                holds = l.holds nm nothing_spare x.machine y
                    (less_spare (taken 1 (size x.tree) (taken 3 (size t.tree) (spare 15 1 3 1))) (for_record (for_push (size y) nothing_spare)) (omega arith) (omega arith) (omega arith) (omega arith) x.holds)
                    (record {
                      kind_is = refl;
                      size_is = entity_size kids;
                      count_is = refl;
                      body = (z, in_field_4 kids _ refl, in_field_5 kids _ refl, labels_there nm x.tree t.tree s a.below refl d o.labels _ (o.lies _ 6 u₂.top refl refl (omega arith)));
                    });
              };
          past = λ i j. l.keeps.past i j ∙ (d.keeps.past i j ∙ (k.past i j ∙ a.keeps.past i j));
          long = l.keeps.long ∙ (d.keeps.long ∙ (k.long ∙ a.keeps.long));
        }

-- FUNCTIONS
abbrev function_rest : Node → Labels → Run Done
function_rest ty ls = R.pop_name >>= λ name. R.context >>= λ c. push (Function c name ls ty)

pub function_split : (m : Demangler) → R.plain_function m ≡ and_then (signed_type R.function_type m) (λ t. R.labels t >>= function_rest t)
unfolding R.plain_function
function_split m = signed_split R.function_type (λ t. R.labels t >>= function_rest t) m

pub function_untyped : {w w' : List ℕ} {N : ℕ} {st : State} (e : Refusal) → ((nm : Names) (sp : Spare) (m : Demangler) → Holds nm w N st (for_nodes 2 sp) m → signed_type R.function_type m ≡ refused (number e)) × Beyond 64 N w w' → Operates (λ _. R.plain_function) w w' N st (Step.Refused e)
function_untyped e c = first_refused (λ _. R.plain_function) (signed_type R.function_type) (λ _ t. R.labels t >>= function_rest t) 2 e (omega arith) (λ s m. function_split m) c

pub function_labelless : {r : Refusal} {w w₁ w₂ : List ℕ} {N : ℕ} {st u₁ : State} {ty : ℕ} → GivesType (signed_type R.function_type) 2 0 w w₁ N st ty u₁ → Ready w N st full_spare → ((nm : Names) (x : Node) → Lies (Named nm) x w₁ ty → ((sp : Spare) (m : Demangler) → Holds nm w₁ N u₁ sp m → R.labels x m ≡ refused (number r)) × Beyond 64 N w₁ w₂) → Operates (λ _. R.plain_function) w w₂ N st (Step.Refused r)
function_labelless a q c = labelless a (omega arith) R.plain_function function_rest (λ m. function_split m) q c

module _ {w w₁ w₂ : List ℕ} {N : ℕ} {st u₁ u₂ : State} {ty first last : ℕ} (a : GivesType (signed_type R.function_type) 2 0 w w₁ N st ty u₁) (c : (nm : Names) (x : Node) → Lies (Named nm) x w₁ ty → GivesLabels nm (R.labels x) w₁ w₂ N u₁ first last u₂) (q : Ready w N st full_spare) where
  pub function_nameless : {r : Refusal} → ((nm : Names) (sp : Spare) (m : Demangler) → Holds nm w₂ N u₂ sp m → R.pop_name m ≡ refused (number r)) → Operates (λ _. R.plain_function) w w₂ N st (Step.Refused r)
  function_nameless d =
      let k = labels_keep a (omega arith) c q in
      record {
        runs = λ nm m i h.
            let t = a.gives nm (spare 15 1 2 1) m h in
            let o = (c nm t.tree t.lies).gives (taken 0 (size t.tree) (spare 15 1 2 1)) t.machine t.holds in
            function_split m ∙ rw (t.is, o.is, d nm _ o.machine o.holds) refl;
        past = λ i l. k.past i l ∙ a.keeps.past i l;
        long = k.long ∙ a.keeps.long;
      }

  module _ {name : ℕ} {u₃ : State} (b : GivesName R.pop_name w₂ N u₂ name u₃) where
    pub function_alone : {r : Refusal} {w₃ : List ℕ} → ((nm : Names) (sp : Spare) (m : Demangler) → Holds nm w₂ N u₃ sp m → R.context m ≡ refused (number r)) × Beyond 64 N w₂ w₃ → Operates (λ _. R.plain_function) w w₃ N st (Step.Refused r)
    function_alone d =
        let k = labels_keep a (omega arith) c q in
        record {
          runs = λ nm m i h.
              let t = a.gives nm (spare 15 1 2 1) m h in
              let o = (c nm t.tree t.lies).gives (taken 0 (size t.tree) (spare 15 1 2 1)) t.machine t.holds in
              let n = b.gives nm (taken 0 (size t.tree) (spare 15 1 2 1)) o.machine o.holds in
              function_split m ∙ rw (t.is, o.is, n.is, d.0 nm _ n.machine n.holds) refl;
          past = λ i l. d.1.past i l ∙ (k.past i l ∙ a.keeps.past i l);
          long = d.1.long ∙ (k.long ∙ a.keeps.long);
        }

    module _ {w₃ : List ℕ} {e : ℕ} {u₄ : State} (d : Gives R.context 1 w₂ w₃ N u₃ e u₄) where
      pub function_entity : Entity w₃ N u₄ e ty
      function_entity = labelled_entity a (omega arith) c q b.top d

      pub function_room : Inside w₃ N u₄ 5 1 0
      function_room = room (omega arith) (omega arith) (omega arith) (after_given d (after_name b (after_labels a (omega arith) c q)))

      pub function_done : {w₄ : List ℕ} {v : State} → Left w₃ w₄ N u₄ v (entity_record w₃ 19 e ty name first last) → Operates (λ _. R.plain_function) w w₄ N st (Step.Done v)
      unfolding push kind size count view
      function_done l =
          let k = labels_keep a (omega arith) c q in
          record {
            runs = λ nm m i h.
                let t = a.gives nm (spare 15 1 2 1) m h in
                let s = c nm t.tree t.lies in
                let o = s.gives (taken 0 (size t.tree) (spare 15 1 2 1)) t.machine t.holds in
                let n = b.gives nm (taken 0 (size t.tree) (spare 15 1 2 1)) o.machine o.holds in
                let x = d.gives nm (taken 3 1 (taken 0 (size t.tree) (spare 15 1 2 1))) n.machine n.holds in
                let y : Node = Function x.tree n.name o.labels t.tree in
                let kids = labelled_kids nm x.tree t.tree s a.below b.top d x.lies t.lies in
                record {
                  machine = restack (y ∷ x.machine.stack) x.machine;
                  is = function_split m ∙ rw (t.is, o.is, n.is, x.is) refl;
                  holds = l.holds nm nothing_spare x.machine y
                      (less_spare (taken 1 (size x.tree) (taken 3 1 (taken 0 (size t.tree) (spare 15 1 2 1)))) (for_record (for_push (size y) nothing_spare)) (omega arith) (omega arith) (omega arith) (omega arith) x.holds)
                      (record {
                        kind_is = refl;
                        size_is = entity_size kids;
                        count_is = refl;
                        body = (n.named, in_field_4 kids _ refl, in_field_5 kids _ refl, labels_there nm x.tree t.tree s a.below b.top d o.labels _ (o.lies _ 6 u₂.top refl refl (omega arith)));
                      });
                };
            past = λ i j. l.keeps.past i j ∙ (d.keeps.past i j ∙ (k.past i j ∙ a.keeps.past i j));
            long = l.keeps.long ∙ (d.keeps.long ∙ (k.long ∙ a.keeps.long));
          }

-- ON `Trees`, after a type
pub has_typed : {t t' : Trees} {f : Run Node} {own gain p : ℕ} → Stays t t' → GivesType f own gain t.ws.now t'.ws.now t.n t.state p t'.state → own ≤ 4 → Has t full_spare → Has t' after_type
has_typed s g l q = rw s.ceiling (after_typed g l q)
