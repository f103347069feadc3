-- What the entries' steps say about the check's machine, however many words are counted. Assumes
-- nothing.
use Rattle.std.specs.Prelude.{Result, Ok, Err}
use mathlib.Core.Path.{◌≡◌, refl, ap, ◌∙◌}
use Prim.Native.Nat.{ℕ}
use lib.ListN.{length}
use Rattle.definition.specs.Base.{Done}
use Rattle.definition.specs.Text.{Text}
use Rattle.definition.specs.Shape as C
use Rattle.definition.specs.declared.Refusal.{Refusal}
use Rattle.definition.proofs.WordsApart.{reworded, Apart, keeps_words}
use Rattle.text_words.proofs.Counting.{some_words, some_many}
use Rattle.check_entries.specs.Lies.{machine_of}
use Rattle.check_entries.specs.EntriesTaken.{Begins}
use Rattle.check_entries.specs.Stores.{Did, Performing}
use Rattle.check_perform.specs.Performs.{Sound}
use Rattle.run.specs.Meaning.{Knowing, begun, Steps}
use Rattle.check_run.specs.Meant.{with_words, meant}
use Rattle.check_run.specs.declared.Check.{Check}
use Rattle.check_run.proofs.Beginnings as B
use Rattle.check_run.proofs.Beginnings.{begin, begin_refused, not_begun, begin_charged, same_words, begin_sound}

-- as many words as are counted
some_count : (c d : Check) (text : Text) → Knowing meant text c → Knowing meant text d
some_count c d text h = record { words = some_words d.entries.now.state.words; knows = some_many d.entries.now.state.words }

pub begins : (c d : Check) → d.entries.ghost_name ≡ c.entries.ghost_name → (r : Result Done Refusal) → Begins c.entries.now d.entries.now r → Steps meant (begun meant c.entries.now.ceiling) 0 1 c d r
begins c d l (Ok u) a = record {
  does = λ text noted m h. record {
    machine = machine_of (with_words (length noted) d.entries.now);
    is = ap (begin c.entries.now.ceiling) h.is ∙ begin_charged a (length noted);
    holds = record { is = refl; sound = begin_sound a h.sound };
  };
  ready = begin_sound a;
  knows = λ text words q. same_words a ∙ q;
  wrote = record { lent = l; entries = B.begun a };
}
begins c d l (Err x) a = record {
  refuses = λ text noted m h. ap (begin c.entries.now.ceiling) h.is ∙ begin_refused a (length noted);
  knowing = some_count c d;
  wrote = record { lent = l; entries = not_begun a };
}

-- a step that does not look at the words
pub any_words : (f : C.Check Done) → Apart f → (c d : Check) → d.entries.ghost_name ≡ c.entries.ghost_name → (i : ℕ) → (Sound i c.entries.now → Did f c.entries.now d.entries.now → Sound 0 d.entries.now) → (r : Result Done Refusal) → Performing f c.entries.now d.entries.now r → Steps meant f i 0 c d r
any_words f apart c d l i settles (Ok u) g = record {
  does = λ text noted m h. record {
    machine = machine_of (with_words (length noted) d.entries.now);
    is = ap f h.is ∙ (apart (length noted) (machine_of c.entries.now) ∙ ap (reworded (length noted)) g.is);
    holds = record { is = refl; sound = settles h.sound g };
  };
  ready = λ h. settles h g;
  knows = λ text words q. keeps_words f apart (machine_of c.entries.now) (machine_of d.entries.now) g.is ∙ q;
  wrote = record { lent = l; entries = g.wrote };
}
any_words f apart c d l i settles (Err x) g = record {
  refuses = λ text noted m h. ap f h.is ∙ (apart (length noted) (machine_of c.entries.now) ∙ ap (reworded (length noted)) g.is);
  knowing = some_count c d;
  wrote = record { lent = l; entries = g.wrote };
}
