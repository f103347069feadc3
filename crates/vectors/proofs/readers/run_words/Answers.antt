-- The text has no ill-formed sequence, and no words fit any text.
use Rattle.std.proofs.Common.{rules}
use Rattle.text_utf8.proofs.Characters.{well_formed_all}
use Rattle.text_words.proofs.Keeping.{fitting_none}
use Rattle.vectors.proofs.readers.run_words.Goals as goal

pub identifiers-requires : goal.identifiers-requires
identifiers-requires c = (search rules, fitting_none c.args.text.now c.new.result c.new.ensures, well_formed_all c.args.text.now c.in-None.ensures)

pub spelled-requires : goal.spelled-requires
spelled-requires c = (search rules, fitting_none c.args.text.now c.new-in-112.result c.new-in-112.ensures, well_formed_all c.args.text.now c.in-None.ensures)

pub counted-requires : goal.counted-requires
counted-requires c = (search rules, well_formed_all c.args.text.now c.in-None.ensures)
