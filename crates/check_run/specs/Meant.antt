-- What the check's machine is in the definition.
use Rattle.std.specs.Prelude.{◌≡◌, List, ℕ, length}
use Rattle.definition.specs.Base.{Name}
use Rattle.definition.specs.Kind.{Entry}
use Rattle.definition.specs.Shape as C
use Rattle.definition.specs.Shape.{Shapes}
use Rattle.definition.specs.Check as Ch
use Rattle.check_entries.specs.Lies.{machine_of}
use Rattle.check_entries.specs.Stores as E
use Rattle.check_entries.specs.declared.Entries.{Entries}
use Rattle.check_perform.specs.Performs.{Sound}
use Rattle.run.specs.Meaning.{Meaning}
use Rattle.check_run.specs.declared.Check.{Check}

-- the entries with another number of words
abbrev pub with_words : ℕ → Entries → Entries
with_words v s = record s { state = record s.state { words = v } }

-- the entries are those of the machine m, which has counted as many words as are noted
pub record Counts (charge : ℕ) (noted : List Name) (s : Entries) (m : Shapes) : Type 0 where
  pub is : m ≡ machine_of (with_words (length noted) s)
  pub sound : Sound charge s

-- the same entries are lent, and only the first numbers of the workspace are written
pub record Wrote (c d : Check) : Type 0 where
  pub lent : d.entries.ghost_name ≡ c.entries.ghost_name
  pub entries : E.Wrote c.entries.now d.entries.now

abbrev pub meant : Meaning Check
meant = record {
  Item = Entry;
  Noted = ℕ;
  fresh = 0;
  ceiling = λ c. c.entries.now.ceiling;
  performs = λ N op. C.run_row N (C.row op);
  copied = λ N times e. C.copied N times e;
  one = λ N t. Ch.one N t;
  holds = λ charge text noted c m. Counts charge noted c.entries.now m;
  knows = λ text c words. c.entries.now.state.words ≡ length words;
  wrote = λ c d. Wrote c d;
  begins_at = λ place. Unit;
  ready = λ charge c. Sound charge c.entries.now;
}
