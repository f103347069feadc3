-- What the reading's machine is in the definition.
use Rattle.std.specs.Prelude.{◌≡◌, List, [], ℕ, ◌*◌, ◌<◌}
use Rattle.definition.specs.Base.{Name}
use Rattle.definition.specs.Text.{Text}
use Rattle.definition.specs.Node.{Node}
use Rattle.definition.specs.Perform as R
use Rattle.definition.specs.Perform.{Demangler}
use Rattle.definition.specs.Reading as D
use Rattle.machine.specs.Beyond.{Beyond}
use Rattle.text_words.specs.Table.{Lists, table}
use Rattle.tree_nodes.specs.Gives.{spare}
use Rattle.tree_records.specs.Holds.{Spare, Holds, Ready}
use Rattle.tree_records.specs.NamesOf.{noted, names_of}
use Rattle.tree_records.specs.Trees.{Stays}
use Rattle.tree_records.specs.declared.Trees.{Trees}
use Rattle.run.specs.Meaning.{Meaning}
use Rattle.tree_run.specs.declared.Reading.{Reading}

-- what a charge that is not used gives to spare
abbrev pub room : ℕ → Spare
room charge = spare (15 * charge) charge (4 * charge) charge

-- The trees are those of the machine m, which has noted these words. Names are spelled with those of
-- the table
abbrev pub Reads : (charge : ℕ) → Text → List Name → Reading → Demangler → Type 0
Reads charge text all s m = Holds (names_of text (noted (table text s.words) all)) s.trees.now.ws.now s.trees.now.n s.trees.now.state (room charge) m

-- only the first numbers of the lent workspace are written
pub record Wrote (s t : Trees) : Type 0 where
  pub stays : Stays s t
  pub beyond : Beyond 64 s.n s.ws.now t.ws.now

-- and the same trees are lent
pub record Lent (s t : Reading) : Type 0 where
  pub trees : t.trees.ghost_name ≡ s.trees.ghost_name
  pub wrote : Wrote s.trees.now t.trees.now

abbrev pub meant : Meaning Reading
meant = record {
  Item = Node;
  Noted = List Name;
  fresh = [];
  ceiling = λ s. s.trees.now.n;
  performs = λ N op. R.perform N op;
  copied = λ N times x. R.copied N times x;
  one = λ N t. D.one N t;
  holds = λ charge text all s m. Reads charge text all s m;
  knows = λ text s words. Lists text s.words words;
  wrote = λ s t. Lent s t;
  begins_at = λ place. place < 65536;
  ready = λ charge s. Ready s.trees.now.ws.now s.trees.now.n s.trees.now.state (room charge);
}
