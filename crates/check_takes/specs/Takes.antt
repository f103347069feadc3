-- One take of a row: the part of the definition's interpreter that is performed before the next
-- take.
use Rattle.std.specs.Prelude.{◌≡◌, Bool, true, false, ◌+◌, ◌^◌, ◌≤◌, ◌<◌, eqb, if◌then◌else◌, Result, Ok, Err}
use Rattle.definition.specs.Base.{ok, ret, refuse, ◌>>=◌, ◌>>◌}
use Rattle.definition.specs.Kind as K
use Rattle.definition.specs.Machine.{wrap, rounds}
use Rattle.definition.specs.Shape as C
use Rattle.definition.specs.Shape.{Check}
use Rattle.definition.specs.declared.Refusal.{Refusal}
use Rattle.check_entries.specs.Lies.{machine_of, load, Held, Lent}
use Rattle.check_entries.specs.EntriesTaken.{Refuses}
use Rattle.check_entries.specs.declared.Entries.{Entries}
use Rattle.check_takes.specs.Taken.{taken_of}
use Rattle.check_takes.specs.declared.sums.Taken.{Taken}

-- the result of the take, given what was taken before
unfoldable pub take_step : C.Take → C.Taken → Check C.Taken
take_step C.wraps a = wrap >> ret a
take_step (C.a_node want) a = C.pop_if want >>= λ e. ret (C.add e a)
take_step C.a_name a = C.pop_name >> ret a
take_step C.a_context a = C.context >>= λ e. ret (C.add e a)
take_step C.a_protocol a = C.protocol >>= λ e. ret (C.add e a)
take_step (C.marker k) a = C.took k >>= λ x. ret a
take_step C.qualifier a = C.try K.is_protocol >>= λ x. ret a
take_step C.params a = C.side >>= λ e. ret (C.add_params e a)
take_step C.result a = C.side >>= λ e. ret (C.add e a)
take_step C.a_labelled_type a = C.pop_if K.is_type >>= λ e. ret (C.add_labelled e a)
take_step C.labels a = C.took K.empty_list >>= λ empty. (if empty then ret tt else C.labels_from a.count) >> ret a
take_step C.a-signature a = C.try (eqb K.generic_signature) >>= λ s. ret (C.add_signature s a)
take_step C.under_signature a = (if a.signed then wrap else ret tt) >> ret a
take_step C.elements a = C.took K.empty_list >>= λ empty. rounds >>= λ f. if empty then ret a else C.elements_from f a
take_step C.members a = C.took K.empty_list >>= λ empty. rounds >>= λ f. if empty then ret a else C.members_from f a
take_step C.arguments a = rounds >>= λ f. C.arguments_from f a
take_step C.requirements a = rounds >>= λ f. C.requirements_from f a
take_step (C.refuses r) a = refuse r
take_step C.printed_ahead a = ret (C.taken 0 a.count a.signed)

-- a list, whose entries are added to what was counted before
abbrev pub grows : C.Take → Bool
grows C.wraps = false
grows (C.a_node want) = false
grows C.a_name = false
grows C.a_context = false
grows C.a_protocol = false
grows (C.marker k) = false
grows C.qualifier = false
grows C.params = false
grows C.result = false
grows C.a_labelled_type = false
grows C.labels = false
grows C.a-signature = false
grows C.under_signature = false
grows C.elements = true
grows C.members = true
grows C.arguments = true
grows C.requirements = true
grows (C.refuses r) = false
grows C.printed_ahead = false

-- the count of an entry replaces what was counted before
abbrev pub resets : C.Take → Bool
resets C.wraps = false
resets (C.a_node want) = false
resets C.a_name = false
resets C.a_context = false
resets C.a_protocol = false
resets (C.marker k) = false
resets C.qualifier = false
resets C.params = true
resets C.result = false
resets C.a_labelled_type = true
resets C.labels = false
resets C.a-signature = false
resets C.under_signature = false
resets C.elements = false
resets C.members = false
resets C.arguments = false
resets C.requirements = false
resets (C.refuses r) = false
resets C.printed_ahead = false

-- there is room to add the entries of the stack to what was taken, and to count them, if the take
-- is a list
pub record Ready (list : Bool) (s : Entries) (a : Taken) : Type 0 where
  pub held : Held s
  pub light : a.size + load s ≤ 2 ^ 20
  pub few : list ≡ true → a.count + s.state.depth < 2 ^ 32

-- The step gives b, and ends with the machine of t. What was added to a was removed from the stack,
-- except for one node, which a signature makes. Nothing is written, charged or remembered
pub record Goes (f : Check C.Taken) (reset : Bool) (s : Entries) (a : Taken) (t : Entries) (b : Taken) : Type 0 where
  pub is : f (machine_of s) ≡ ok (taken_of b) (machine_of t)
  pub depth : t.state.depth ≤ s.state.depth
  pub size : b.size + load t ≤ a.size + load s + 1
  pub small : a.count < 2 ^ 32 → b.count < 2 ^ 32
  pub count : reset ≡ false → b.count + t.state.depth ≤ a.count + s.state.depth
  pub seen : t.state.seen ≡ s.state.seen
  pub total : t.state.budget.total ≡ s.state.budget.total
  pub unwritten : t.ws.now ≡ s.ws.now
  pub lent : Lent s t

abbrev pub Takes : C.Take → Entries → Taken → Entries → Result Taken Refusal → Type 0
Takes k s a t (Ok b) = Goes (take_step k (taken_of a)) (resets k) s a t b
Takes k s a t (Err r) = Refuses (take_step k (taken_of a)) s t r
