-- A name that is spelled again from its place in the text (01, "Words"), and what the functions of
-- this crate say about it. Assumes nothing.
use Rattle.std.specs.Prelude.{◌≡◌, List, ℕ, ◌^◌, ◌<◌, length, drop}
use Rattle.definition.specs.Base.{Name, ok}
use Rattle.definition.specs.Text.{Text}
use Rattle.definition.specs.Words as W
use Rattle.definition.proofs.WordsAdded.{Looked}
use Rattle.text_words.specs.Table.{table}
use Rattle.text_words.specs.Table.{Words}
use Rattle.text_output.specs.Appends.{Appended}
use Rattle.text_output.specs.declared.Sink.{Sink}

-- The identifier at the place p of the text was read with the words that were known then, and is
-- this name. If it used words, the table w has those that were known after it, and maybe more
pub record Spells (text : Text) (w : Words) (p : ℕ) (name : Name) : Type 0 where
  pub words : List Name
  pub read : W.Identified
  pub rest : Text
  pub is : W.identifier words (drop p text) ≡ ok read rest
  pub later : Looked (drop p text) read.words (table text w)
  pub named : read.name ≡ name

-- THE PUBLIC CONTRACTS
-- r is the length of the name
pub record LengthIs (text : Text) (w : Words) (p r : ℕ) : Type 0 where
  pub is : (name : Name) → Spells text w p name → r ≡ length name
  pub small : r < 2 ^ 32

-- the name is appended to the sink
pub record Spelled (text : Text) (w : Words) (p : ℕ) (s s' : Sink) : Type 0 where
  pub is : (name : Name) → Spells text w p name → Appended s s' name
  pub same : s'.out.ghost_name ≡ s.out.ghost_name
  pub room : s'.room ≡ s.room
  pub len : length s'.out.now ≡ length s.out.now
