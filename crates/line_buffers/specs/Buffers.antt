-- The input buffer: what is still to be answered, and the effect of reads, writes and turns on it.
-- Assumes nothing.
use Rattle.std.specs.Prelude.{◌≡◌, Bool, true, false, List, [], ◌++◌, ℕ, ◌+◌, ◌-◌, ◌^◌, ◌≤◌, ◌<◌, eqb, Option, Result, Ok, Err, IfSome, length, take, drop, codes}
use Rattle.std.specs.Io.KnownBytes.{Appends, Consumes, IsAtEnd}
use Rattle.definition.specs.Text.{Text}
use Rattle.text_cursor.specs.Part.{part}
use Rattle.line_forms.specs.Lines.{answers, owed}
use Rattle.line_buffers.specs.declared.Next.{Next}
use Rattle.line_buffers.specs.declared.Turn.{Turn}
use Rattle.line_buffers.specs.declared.State.{State}
use Rattle.line_buffers.specs.declared.Failure.{Failure}
use Rattle.line_buffers.specs.declared.Rest.{Rest}

-- A LINE WITH NO NEWLINE
-- lines of more than 4,096 bytes have the same answer
abbrev pub LongAlike : (Text → List ℕ) → Type 0
LongAlike line = (s t : Text) → 4096 < length s → 4096 < length t → line s ≡ line t

-- What is owed for a text with no newline in it. Last: its answer and nothing more. Long: its
-- answer, once, whatever follows. More: this depends on what follows. Nothing: nothing.
abbrev pub Resting : Text → (ended : Bool) → Rest → Type 0
Resting t ended Rest.Last = (ended ≡ true) × ((line : Text → List ℕ) → owed line false t ≡ line t)
Resting t ended Rest.Long = (ended ≡ false) × ((line : Text → List ℕ) → LongAlike line → (u : Text) → owed line false (t ++ u) ≡ line t ++ owed line true u)
Resting t ended Rest.More = (ended ≡ false) × (length t ≤ 4096)
Resting t ended Rest.Nothing = (ended ≡ true) × ((line : Text → List ℕ) → owed line false t ≡ [])

-- A TURN, from a read to a write
-- what may follow a text: nothing where the input has ended
abbrev pub Follows : (ended : Bool) → Text → Type 0
Follows ended u = ended ≡ true → u ≡ []

-- What is done after a turn over t. Input is read only if it has not ended, and then at most 4,096
-- bytes are kept. Another turn follows only if this turn read something. The program is done only
-- if the input has ended and nothing is owed.
abbrev pub Goes : (Text → List ℕ) → Text → (ended : Bool) → Turn → Next → Type 0
Goes line t ended r Next.Read = (ended ≡ false) × (length t ≤ r.read + 4096)
Goes line t ended r Next.Answer = 0 < r.read
Goes line t ended r Next.Done = (ended ≡ true) × (owed line r.inside (drop r.read t) ≡ [])

-- What is owed for t, whatever follows it, is what was written to the front of the output slice and
-- what is owed for the rest of t.
pub record Turned (line : Text → List ℕ) (t : Text) (inside ended : Bool) (o' : List ℕ) (r : Turn) : Type 0 where
  pub within : r.read ≤ length t
  pub fits : r.written ≤ length o'
  pub owes : (u : Text) → Follows ended u → owed line inside (t ++ u) ≡ take r.written o' ++ owed line r.inside (drop r.read t ++ u)
  pub goes : Goes line t ended r r.next

-- a turn inside a line that is already answered, whatever the output slice holds
abbrev pub Passing : Text → (ended : Bool) → Turn → Type 0
Passing t ended r = (line : Text → List ℕ) (o : List ℕ) → Turned line t true ended o r

-- THE BUFFER
-- the bytes that are not answered yet
abbrev pub kept : List ℕ → State → Text
kept l s = part l s.from s.end

-- what is owed for them where u follows
abbrev pub due : (Text → List ℕ) → List ℕ → State → (u : Text) → List ℕ
due line l s u = owed line s.inside (kept l s ++ u)

-- They are a part of the buffer. If input is to be read, it has not ended, and at most 4,096 bytes
-- are kept, so that there is room for more.
pub record Holds (l : List ℕ) (s : State) : Type 0 where
  pub order : s.from ≤ s.end
  pub within : s.end ≤ length l
  pub asks : s.next ≡ Next.Read → (s.ended ≡ false) × (s.end ≤ s.from + 4096)

-- READS
-- What is kept is moved to the front, and the n bytes that were read are stored after it. A read of
-- no bytes is the end of the input
abbrev pub after_read : State → ℕ → State
after_read b n = record { from = 0; end = b.end - b.from + n; inside = b.inside; ended = eqb n 0; written = 0; next = Next.Answer }

-- one read, after the bytes that are kept
pub record Fetched (r r' : Option (List ℕ)) (l l' : List ℕ) (b s : State) : Type 0 where
  pub count : ℕ
  pub is : s ≡ after_read b count
  pub within : s.end ≤ length l'
  pub same : take (b.end - b.from) l' ≡ kept l b
  pub read : Consumes r r' (part l' (b.end - b.from) s.end)
  pub last : count ≡ 0 → IsAtEnd r'

-- a failed read: what is kept is at the front
abbrev pub Failing : (l l' : List ℕ) (b : State) → Failure → Type 0
Failing l l' b f = (f ≡ Failure.Read) × (take (b.end - b.from) l' ≡ kept l b)

abbrev pub Filling : Next → (r r' : Option (List ℕ)) (l l' : List ℕ) (b : State) → Result State Failure → Type 0
Filling Next.Read r r' l l' b (Ok s) = Fetched r r' l l' b s
Filling Next.Read r r' l l' b (Err f) = Failing l l' b f
Filling Next.Answer r r' l l' b s = (r' ≡ r) × (l' ≡ l) × (s ≡ Ok b)
Filling Next.Done r r' l l' b s = (r' ≡ r) × (l' ≡ l) × (s ≡ Ok b)

-- a buffer before and after, with what is left of the input where it is known
pub record Filled {R : Type 0} (remaining : R → Option (List ℕ)) (i i' : R) (l l' : List ℕ) (b : State) (s : Result State Failure) : Type 0 where
  pub long : length l' ≡ length l
  pub filling : Filling b.next (remaining i) (remaining i') l l' b s

-- A STEP: a read if the state requires it, a turn, a write
-- where the bytes that are not answered begin after the read
abbrev pub begins : Next → State → ℕ
begins Next.Read b = 0
begins Next.Answer b = b.from
begins Next.Done b = b.from

-- the bytes that the read stored: those after the bytes that were kept
abbrev pub fetched : Next → (l' : List ℕ) → State → (end : ℕ) → Text
fetched Next.Read l' b end = part l' (b.end - b.from) end
fetched Next.Answer l' b end = []
fetched Next.Done l' b end = []

-- What is owed for the bytes that were kept before the step, followed by those that it read and by
-- u, is what the step wrote and what is owed for the bytes that are kept after it, followed by u.
-- The buffer ends after the bytes that were kept and those that were read. The step made progress
-- if another turn follows, and nothing is owed if the program is done.
pub record Stepped (line : Text → List ℕ) (l l' o' : List ℕ) (b r : State) : Type 0 where
  pub long : length l' ≡ length l
  pub holds : Holds l' r
  pub fits : r.written ≤ length o'
  pub owes : (u : Text) → Follows r.ended u → due line l b (fetched b.next l' b r.end ++ u) ≡ take r.written o' ++ due line l' r u
  pub ended : b.ended ≡ true → (r.ended ≡ true) × (fetched b.next l' b r.end ≡ [])
  pub grew : r.end ≡ begins b.next b + (b.end - b.from) + length (fetched b.next l' b r.end)
  pub forward : begins b.next b ≤ r.from
  pub onward : r.next ≡ Next.Answer → begins b.next b < r.from
  pub done : r.next ≡ Next.Done → (r.ended ≡ true) × (due line l' r [] ≡ [])

-- The bytes that the step read are the input's next ones, where these are known. The input has ended
-- once a read gives none of them.
abbrev pub Reading : Next → (i i' : Option (List ℕ)) → Text → (ended ended' : Bool) → Type 0
Reading Next.Read i i' t e e' = Consumes i i' t × (e' ≡ eqb (length t) 0) × (e' ≡ true → IsAtEnd i')
Reading Next.Answer i i' t e e' = (i' ≡ i) × (e' ≡ e)
Reading Next.Done i i' t e e' = (i' ≡ i) × (e' ≡ e)

abbrev pub Took : (remaining remaining' : Option (List ℕ)) → (l' : List ℕ) → (b r : State) → Type 0
Took i i' l' b r = Reading b.next i i' (fetched b.next l' b r.end) b.ended r.ended

-- A step that fails. A read fails only where input is to be read; then nothing is written, w being
-- the output. A write fails only in a step that is otherwise right.
abbrev pub Failed : {W : Type 0} → (Text → List ℕ) → (remaining remaining' : Option (List ℕ)) → (w w' : W) → (l l' o' : List ℕ) → (b : State) → Failure → Type 0
Failed line i i' w w' l l' o' b Failure.Read = (b.next ≡ Next.Read) × (length l' ≡ length l) × Failing l l' b Failure.Read × (w' ≡ w)
Failed line i i' w w' l l' o' b Failure.Write = (r : State) × Stepped line l l' o' b r × Took i i' l' b r

-- A RUN
-- Steps one after another, up to one after which nothing is owed; all that they read and all that
-- they wrote.
pub data Run (line : Text → List ℕ) : List ℕ → State → (read : Text) → (written : List ℕ) → Type 0 where
  ends : {l : List ℕ} {s : State} → s.ended ≡ true → due line l s [] ≡ [] → Run line l s [] []
  goes_on : {l l' o' : List ℕ} {b r : State} {read : Text} {written : List ℕ} → Stepped line l l' o' b r → Run line l' r read written → Run line l b (fetched b.next l' b r.end ++ read) (take r.written o' ++ written)

-- before the first step
abbrev pub start : State
start = record { from = 0; end = 0; inside = false; ended = false; written = 0; next = Next.Read }

-- A WHOLE INPUT
-- Where the input is known and has fewer than 2 ^ 62 bytes, all of it is read, and the answers to it
-- are appended to the output.
abbrev pub AnsweredAll : (Text → List ℕ) → (remaining remaining' : Option (List ℕ)) → (output output' : Option (List ℕ)) → Type 0
AnsweredAll line i i' w w' = IfSome i (λ t. length t < 2 ^ 62 → IsAtEnd i' × Appends w w' (answers line t))

-- A FAILURE
-- the line that reports it on standard error
abbrev pub message : Failure → List ℕ
message Failure.Read = codes "standard input cannot be read\n"
message Failure.Write = codes "standard output cannot be written\n"
