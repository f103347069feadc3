-- What a machine of the code is in the definition, and what its methods say about the definition's
-- steps. Assumes nothing.
use Rattle.std.specs.Prelude.{◌≡◌, true, false, List, ◌∷◌, ℕ, ◌^◌, ◌≤◌, ◌<◌, length, get_or, Result, Ok, Err}
use Rattle.definition.specs.Base.{Name, digit, ok, refused, Step, Done, and_then, good, bad, ◌>>=◌, ◌>>◌}
use Rattle.definition.specs.Text.{Text, well_formed}
use Rattle.definition.specs.Words as W
use Rattle.definition.specs.Budget as B
use Rattle.definition.specs.Machine.{Machine, spend, recall}
use Rattle.definition.specs.Operators as Op
use Rattle.definition.specs.Calls.{then_run}
use Rattle.definition.specs.Enums.{number}
use Rattle.definition.specs.declared.Refusal.{Refusal}
use Rattle.operator_substitutions.specs.Chain.{Chain, ended, more, outcome}
use Rattle.text_cursor.specs.Reads.{rest}
use Rattle.text_cursor.specs.declared.Reader.{Reader}
use Rattle.text_words.specs.Table.{part}
use Rattle.text_words.specs.Waits.{Waiting, noted_behind}

pub record Meaning (S : Type 0) : Type 1 where
  -- the items on the stack of the definition's machine, and what it knows of the words
  pub Item : Type 0
  pub Noted : Type 0
  -- what it knows at first
  pub fresh : Noted
  pub ceiling : S → ℕ
  -- with the ceiling N: an operator, that many copies of an item, and the operator that begins a text
  pub performs : (N : ℕ) → Op.Operator → Step (Machine Item Noted) Done
  pub copied : (N times : ℕ) → Item → Step (Machine Item Noted) Done
  pub one : (N : ℕ) → Text → Step (Machine Item Noted) Text
  -- The machine of the code stands for that of the definition, which has noted these words of the
  -- text. The charge of a turn is not used yet (1), or it may be (0)
  pub holds : (charge : ℕ) → Text → List Name → S → Machine Item Noted → Type 0
  -- names may use these words of the text
  pub knows : Text → S → List Name → Type 0
  -- a step from the first to the second writes only what it may
  pub wrote : S → S → Type 0
  -- some machine of the definition is stored, whatever its words and names are, with that charge
  pub ready : (charge : ℕ) → S → Type 0
  -- a name of one literal may begin at that place of a text
  pub begins_at : ℕ → Type 0

module _ {S : Type 0} (k : Meaning S) where
  -- the machine of the definition
  abbrev pub Machines : Type 0
  Machines = Machine k.Item k.Noted

  -- names may use some words of the text
  pub record Knowing (text : Text) (s : S) : Type 0 where
    pub words : List Name
    pub knows : k.knows text s words

  -- a machine is stored, and a name of a body begins at the reader's place
  pub record ReadyAtName (charge : ℕ) (r : Reader) (s : S) : Type 0 where
    pub ready : k.ready charge s
    pub inside : r.at < length r.text.now
    pub begins : digit (get_or r.text.now r.at 0) ≡ true
    pub formed : well_formed r.text.now ≡ true

  -- WHAT A CALLER MAY HOLD, which gives what the functions ask (`holding_ready`, `standing_ready`,
  -- `standing_knowing` and `name_ready` of proofs/Chains): some machine is held
  pub record Holding (charge : ℕ) (s : S) : Type 0 where
    pub text : Text
    pub noted : List Name
    pub machine : Machines
    pub holds : k.holds charge text noted s machine

  -- with words of the text
  pub record Standing (charge : ℕ) (text : Text) (s : S) : Type 0 where
    pub words : List Name
    pub noted : List Name
    pub machine : Machines
    pub knows : k.knows text s words
    pub holds : k.holds charge text noted s machine

  -- and a name of a body begins at the reader's place
  pub record AtName (r : Reader) (s : S) : Type 0 where
    pub standing : Standing 1 r.text.now s
    pub inside : r.at < length r.text.now
    pub begins : digit (get_or r.text.now r.at 0) ≡ true
    pub short : length r.text.now ≤ 65535
    pub formed : well_formed r.text.now ≡ true

  -- THE STEPS: a turn's beginning, and copies of what is remembered
  abbrev pub begun : (N : ℕ) → Step Machines Done
  begun N = spend B.step >> spend (B.charge N 1)

  abbrev pub recalled : (N times index : ℕ) → Step Machines Done
  recalled N times index = recall index >>= λ e. k.copied N times e

  -- the step f from the machine m gives a, and t holds the machine after it
  pub record After {A : Type 0} (f : Step Machines A) (a : A) (text : Text) (noted : List Name) (charge : ℕ) (t : S) (m : Machines) : Type 0 where
    pub machine : Machines
    pub is : f m ≡ ok a machine
    pub holds : k.holds charge text noted t machine

  -- for each machine that s holds
  pub record Does (f : Step Machines Done) (i j : ℕ) (s t : S) : Type 0 where
    pub does : (text : Text) (noted : List Name) (m : Machines) → k.holds i text noted s m → After f tt text noted j t m
    pub ready : k.ready i s → k.ready j t
    pub knows : (text : Text) (words : List Name) → k.knows text s words → k.knows text t words
    pub wrote : k.wrote s t

  pub record Refuses (f : Step Machines Done) (i : ℕ) (s t : S) (x : Refusal) : Type 0 where
    pub refuses : (text : Text) (noted : List Name) (m : Machines) → k.holds i text noted s m → f m ≡ refused (number x)
    pub knowing : (text : Text) → Knowing text s → Knowing text t
    pub wrote : k.wrote s t

  abbrev pub Steps : Step Machines Done → (i j : ℕ) → (s t : S) → Result Done Refusal → Type 0
  Steps f i j s t (Ok u) = Does f i j s t
  Steps f i j s t (Err x) = Refuses f i s t x

  -- the words of the waiting literals are known, and no others
  pub record Notes (text : Text) (q : Waiting) (s t : S) : Type 0 where
    pub knows : (words : List Name) → k.knows text s words → k.knows text t (noted_behind W.note_words text q words)
    pub holds : (charge : ℕ) (words noted : List Name) (m : Machines) → k.knows text s words → k.holds charge text noted s m → k.holds charge text noted t m
    pub ready : (charge : ℕ) → k.ready charge s → k.ready charge t
    pub wrote : k.wrote s t

  -- A NAME: the words that are known after it are those that the machine has noted
  pub record Named (f : Step Machines Text) (r r₁ : Reader) (t : S) (m : Machines) : Type 0 where
    pub words : List Name
    pub knows : k.knows r.text.now t words
    pub after : After f (rest r₁) r.text.now words 0 t m

  pub record Names (f : Step Machines Text) (i : ℕ) (r r₁ : Reader) (s t : S) : Type 0 where
    pub names : (words : List Name) (m : Machines) → k.knows r.text.now s words → k.holds i r.text.now words s m → Named f r r₁ t m
    pub knowing : Knowing r.text.now s → Knowing r.text.now t
    pub text : r₁.text ≡ r.text
    pub inside : r₁.at ≤ length r₁.text.now
    pub wrote : k.wrote s t

  pub record NotNamed (f : Step Machines Text) (i : ℕ) (r r₁ : Reader) (s t : S) (x : Refusal) : Type 0 where
    pub refuses : (words : List Name) (m : Machines) → k.knows r.text.now s words → k.holds i r.text.now words s m → f m ≡ refused (number x)
    pub text : r₁.text ≡ r.text
    pub knowing : Knowing r.text.now s → Knowing r.text.now t
    pub wrote : k.wrote s t

  abbrev pub Naming : Step Machines Text → ℕ → (r r₁ : Reader) → (s t : S) → Result Done Refusal → Type 0
  Naming f i r r₁ s t (Ok u) = Names f i r r₁ s t
  Naming f i r r₁ s t (Err x) = NotNamed f i r r₁ s t x

  -- a name of one literal, from a place to the reader's new one: the machine of the definition notes
  -- its words, whatever it has noted before, and names may use the same words as before
  pub record Plain (f : Step Machines Text) (i : ℕ) (r r₁ : Reader) (s t : S) (from : ℕ) : Type 0 where
    pub plain : (noted : List Name) (m : Machines) → k.holds i r.text.now noted s m → After f (rest r₁) r.text.now (W.note_words (part r.text.now from r₁.at) noted) 0 t m
    pub knows : (words : List Name) → k.knows r.text.now s words → k.knows r.text.now t words
    pub some : from < r₁.at
    pub text : r₁.text ≡ r.text
    pub inside : r₁.at ≤ length r₁.text.now
    pub wrote : k.wrote s t

  -- a step on a text that is refused: the reader keeps its text
  pub record Fails (f : Step Machines Text) (i : ℕ) (r r₁ : Reader) (s t : S) (x : Refusal) : Type 0 where
    pub fails : (noted : List Name) (m : Machines) → k.holds i r.text.now noted s m → f m ≡ refused (number x)
    pub text : r₁.text ≡ r.text
    pub knowing : Knowing r.text.now s → Knowing r.text.now t
    pub wrote : k.wrote s t

  abbrev pub PlainNaming : Step Machines Text → ℕ → (r r₁ : Reader) → (s t : S) → Result ℕ Refusal → Type 0
  PlainNaming f i r r₁ s t (Ok from) = Plain f i r r₁ s t from
  PlainNaming f i r r₁ s t (Err x) = Fails f i r r₁ s t x

  -- WHAT EACH MACHINE MEETS
  pub record Laws : Type 0 where
    -- a charge need not be used
    pub less : (text : Text) (noted : List Name) (s : S) (m : Machines) → k.holds 1 text noted s m → k.holds 0 text noted s m
    pub less_ready : (s : S) → k.ready 1 s → k.ready 0 s
    -- the machine that is stored
    pub stored : (charge : ℕ) (text : Text) (noted : List Name) (s : S) (m : Machines) → k.holds charge text noted s m → k.ready charge s
    -- every place of a text of a run
    pub begins : (place : ℕ) → place < 65536 → k.begins_at place
    -- steps one after another, all with one ceiling
    pub itself : (s : S) → k.wrote s s
    pub both : (s t u : S) → k.wrote s t → k.wrote t u → k.wrote s u
    pub ceiling : (s t : S) → k.wrote s t → k.ceiling t ≡ k.ceiling s
    -- an operator that does not begin with a digit is performed after its letters
    pub other : (N b : ℕ) (t : Text) → digit b ≡ false → k.one N (b ∷ t) ≡ then_run (Op.operator b t) (k.performs N)
    -- the items of `A`, one by one
    pub more_items : (N times i : ℕ) (ch : Chain) (m : Machines) → then_run (outcome (more (Op.substitution times i) ch)) (k.performs N) m ≡ and_then (recalled N times i m) (λ x. then_run (outcome ch) (k.performs N))
    pub no_item : (N : ℕ) (u : Text) (m : Machines) → then_run (outcome (ended (good tt) u)) (k.performs N) m ≡ ok u m
    pub broken_item : (N r : ℕ) (u : Text) (m : Machines) → then_run (outcome (ended (bad r) u)) (k.performs N) m ≡ refused r
    -- so much is never remembered
    pub past : (text : Text) (noted : List Name) (s : S) (m : Machines) → k.holds 0 text noted s m → (times i : ℕ) → 2 ^ 32 ≤ i → recalled (k.ceiling s) times i m ≡ refused 9
