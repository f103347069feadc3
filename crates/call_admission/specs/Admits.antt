-- The part of a text that is read, and what the checks before a run say about the definition's
-- checks. Assumes nothing.
use Rattle.std.specs.Prelude.{◌≡◌, true, Option, Some, None, Result, Ok, Err, ℕ, ◌-◌, ◌*◌, ◌≤◌, length, take, drop}
use Rattle.definition.specs.Text.{Text, Symbol, well_formed}
use Rattle.definition.specs.Calls as Calls
use Rattle.definition.specs.Calls.{refusal, admit, symbol, whole_text}
use Rattle.definition.specs.Enums.{number}
use Rattle.definition.specs.declared.Refusal.{Refusal}
use Rattle.definition.specs.declared.Refusal.TheVariants.{Prefix}
use Rattle.definition.specs.declared.Refused.{Refused as RefusedAt}
use Rattle.text_symbols.specs.Symbol as Symbols
use Rattle.machine.specs.declared.runs.Final.{Final}
use Rattle.text_symbols.specs.declared.Parts.{Parts}
use Rattle.call_admission.specs.declared.admitted.Admitted.{Admitted}

-- the part of a text that is read: the parts of a symbol, or the whole text of a type
abbrev pub framed : Final → Text → (Symbol → Calls.Answer) → Calls.Answer
framed Final.Symbol t read = symbol t read
framed Final.Type t read = read (whole_text t)

-- whatever is read next is read from these parts
pub record Body (before : (Symbol → Calls.Answer) → Calls.Answer) (s : Symbol) : Type 0 where
  pub is : (read : Symbol → Calls.Answer) → before read ≡ read s

-- it is refused, whatever would be read next
pub record Refused (before : (Symbol → Calls.Answer) → Calls.Answer) (r : Refusal) (place : ℕ) : Type 0 where
  pub is : (read : Symbol → Calls.Answer) → before read ≡ refusal (number r) place

-- the body is text[start..end], which is well-formed
pub record Framed (before : (Symbol → Calls.Answer) → Calls.Answer) (t : Text) (start end : ℕ) : Type 0 where
  pub body : Body before (Symbols.symbol t start end)
  pub order : start ≤ end
  pub inside : end ≤ length t
  pub encoded : well_formed (take (end - start) (drop start t)) ≡ true

abbrev pub Frames : ((Symbol → Calls.Answer) → Calls.Answer) → Text → Option Parts → Type 0
Frames before t (Some p) = Framed before t p.start p.end
Frames before t None = Refused before Prefix 0

-- the parts of what is admitted
abbrev pub parts : Admitted → Symbol
parts a = record { start = a.start; body = a.body.now; suffix = a.suffix.now }

-- it is admitted, with that ceiling and enough workspace
pub record Passed (before : (Symbol → Calls.Answer) → Calls.Answer) (need N workspace : ℕ) (a : Admitted) : Type 0 where
  pub body : Body before (parts a)
  pub ceiling : a.ceiling ≡ N
  pub long : need * N ≤ workspace

abbrev pub Admits : Final → (need N workspace : ℕ) → Text → Result Admitted RefusedAt → Type 0
Admits what need N workspace t (Ok a) = Passed (λ read. admit need N workspace t (framed what t read)) need N workspace a
Admits what need N workspace t (Err x) = Refused (λ read. admit need N workspace t (framed what t read)) x.refusal x.place
