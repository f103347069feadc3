-- What the results of turns and of a run say about the definition's. Assumes nothing.
use Rattle.std.specs.Prelude.{◌≡◌, Bool, true, false, List, [], ℕ, ◌-◌, ◌≤◌, ◌<◌, length, Result, Ok, Err}
use Rattle.definition.specs.Base.{Name, refused, Step, Done}
use Rattle.definition.specs.Text.{Text}
use Rattle.definition.specs.Words as W
use Rattle.definition.specs.Machine.{fresh}
use Rattle.definition.specs.Calls.{End, ran, stopped, then_run, turn, turns}
use Rattle.definition.specs.Enums.{number}
use Rattle.definition.specs.declared.Refusal.{Refusal}
use Rattle.definition.specs.declared.Refused.{Refused}
use Rattle.operator_substitutions.specs.Chain.{chain, outcome}
use Rattle.text_cursor.specs.Reads.{rest}
use Rattle.text_cursor.specs.declared.Reader.{Reader}
use Rattle.text_words.specs.Waits.{Waiting, Waits, noted_behind}
use Rattle.run.specs.Meaning.{Meaning, Machines, Knowing, After, Fails}

module _ {S : Type 0} (k : Meaning S) where
  -- AN OPERATOR on the rest of a text
  pub record Reaches (f : Step (Machines k) Text) (i : ℕ) (r r₁ : Reader) (s t : S) : Type 0 where
    pub reaches : (noted : List Name) (m : Machines k) → k.holds i r.text.now noted s m → After k f (rest r₁) r.text.now noted 0 t m
    pub knows : (words : List Name) → k.knows r.text.now s words → k.knows r.text.now t words
    pub text : r₁.text ≡ r.text
    pub inside : r₁.at ≤ length r₁.text.now
    pub wrote : k.wrote s t

  abbrev pub Turning : Step (Machines k) Text → ℕ → (r r₁ : Reader) → (s t : S) → Result Done Refusal → Type 0
  Turning f i r r₁ s t (Ok u) = Reaches f i r r₁ s t
  Turning f i r r₁ s t (Err x) = Fails k f i r r₁ s t x

  -- `A` with these letters after it
  abbrev pub chained : (N : ℕ) → Text → Step (Machines k) Text
  chained N t = then_run (outcome (chain t)) (k.performs N)

  -- one item of `A` is done, and the rest has the same result as the whole
  pub record Went (N : ℕ) (r r₁ : Reader) (noted : List Name) (t : S) (m : Machines k) : Type 0 where
    pub machine : Machines k
    pub is : chained N (rest r) m ≡ chained N (rest r₁) machine
    pub holds : k.holds 0 r.text.now noted t machine

  pub record Goes (r r₁ : Reader) (s t : S) : Type 0 where
    pub goes : (noted : List Name) (m : Machines k) → k.holds 0 r.text.now noted s m → Went (k.ceiling s) r r₁ noted t m
    pub ready : k.ready 0 s → k.ready 0 t
    pub knows : (words : List Name) → k.knows r.text.now s words → k.knows r.text.now t words
    pub text : r₁.text ≡ r.text
    pub inside : r₁.at ≤ length r₁.text.now
    pub onward : r.at < r₁.at
    pub wrote : k.wrote s t

  -- whether the item was the last
  abbrev pub Letters : (r r₁ : Reader) → (s t : S) → Result Bool Refusal → Type 0
  Letters r r₁ s t (Ok false) = Goes r r₁ s t
  Letters r r₁ s t (Ok true) = Reaches (chained (k.ceiling s) (rest r)) 0 r r₁ s t
  Letters r r₁ s t (Err x) = Fails k (chained (k.ceiling s) (rest r)) 0 r r₁ s t x

  -- A TURN, with the literals whose words are not noted yet
  abbrev pub turn_at : Reader → S → Step (Machines k) Text
  turn_at r s = turn (k.ceiling s) (k.one (k.ceiling s)) (rest r)

  -- the words that the definition's machine has noted: those that names may use, and those of the
  -- waiting literals
  abbrev pub behind : Text → Waiting → List Name → List Name
  behind text q words = noted_behind W.note_words text q words

  pub record Moved (r r₁ : Reader) (q₁ : Waiting) (s t : S) (m : Machines k) : Type 0 where
    pub words : List Name
    pub knows : k.knows r.text.now t words
    pub after : After k (turn_at r s) (rest r₁) r.text.now (behind r.text.now q₁ words) 0 t m

  pub record Turned (r r₁ : Reader) (q q₁ : Waiting) (s t : S) : Type 0 where
    pub turned : (words : List Name) (m : Machines k) → k.knows r.text.now s words → k.holds 0 r.text.now (behind r.text.now q words) s m → Moved r r₁ q₁ s t m
    pub knowing : Knowing k r.text.now s → Knowing k r.text.now t
    pub text : r₁.text ≡ r.text
    pub inside : r₁.at ≤ length r₁.text.now
    pub waits : Waits r.text.now q₁
    pub wrote : k.wrote s t

  pub record NotTurned (r r₁ : Reader) (q : Waiting) (s t : S) (x : Refusal) : Type 0 where
    pub refuses : (words : List Name) (m : Machines k) → k.knows r.text.now s words → k.holds 0 r.text.now (behind r.text.now q words) s m → turn_at r s m ≡ refused (number x)
    pub text : r₁.text ≡ r.text
    pub knowing : Knowing k r.text.now s → Knowing k r.text.now t
    pub wrote : k.wrote s t

  abbrev pub Stepping : (r r₁ : Reader) → (q q₁ : Waiting) → (s t : S) → Result Done Refusal → Type 0
  Stepping r r₁ q q₁ s t (Ok u) = Turned r r₁ q q₁ s t
  Stepping r r₁ q q₁ s t (Err x) = NotTurned r r₁ q s t x

  -- a turn that performs a name, after which no literal waits
  pub record NameTurned (r r₁ : Reader) (q q₁ : Waiting) (s t : S) : Type 0 where
    pub turned : Turned r r₁ q q₁ s t
    pub none : q₁.count ≡ 0

  abbrev pub NameTurning : (r r₁ : Reader) → (q q₁ : Waiting) → (s t : S) → Result Done Refusal → Type 0
  NameTurning r r₁ q q₁ s t (Ok u) = NameTurned r r₁ q q₁ s t
  NameTurning r r₁ q q₁ s t (Err x) = NotTurned r r₁ q s t x

  -- A RUN
  -- n turns of the definition over the body
  abbrev pub runs : (N n : ℕ) → Text → End (Machines k)
  runs N n body = turns (turn N (k.one N)) n body (fresh k.fresh)

  -- nothing is done yet
  pub record Starts (body : Text) (s : S) : Type 0 where
    pub knows : k.knows body s []
    pub holds : k.holds 0 body [] s (fresh k.fresh)

  -- names may use these words; the definition's machine may have noted more
  pub record Ran (n : ℕ) (body : Text) (s t : S) : Type 0 where
    pub words : List Name
    pub noted : List Name
    pub machine : Machines k
    pub is : runs (k.ceiling s) n body ≡ ran machine
    pub knows : k.knows body t words
    pub holds : k.holds 0 body noted t machine
    pub wrote : k.wrote s t

  -- the refused operator began at that place of the body
  pub record Stops (n : ℕ) (body : Text) (s t : S) (x : Refused) : Type 0 where
    pub is : runs (k.ceiling s) n body ≡ stopped (number x.refusal) (length body - x.place)
    pub inside : x.place ≤ length body
    pub wrote : k.wrote s t

  abbrev pub Ending : (n : ℕ) → Text → (s t : S) → Result Done Refused → Type 0
  Ending n body s t (Ok u) = Ran n body s t
  Ending n body s t (Err x) = Stops n body s t x
