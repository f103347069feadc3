use Rattle.std.proofs.Common.{refl}
use Rattle.definition.specs.Enums as Enums
use Rattle.definition.specs.Shape as C
use Rattle.definition.proofs.WordsApart.{row_apart}
use Rattle.operator_names.specs.Fixed.{fixed}
use Rattle.check_perform.proofs.Sounds.{sound_row}
use Rattle.check_run.proofs.Steps.{any_words}
use Rattle.check_run.proofs.CheckMachine.perform.Goals as goal

pub perform-requires : goal.perform-requires
perform-requires c = c.requires

pub returns : goal.returns
returns c =
    let N = c.args.self.now.entries.now.ceiling in
    let op = Enums.operator fixed c.args.op in
    any_words (C.run_row N (C.row op)) (row_apart N (C.row op)) c.args.self.now _ refl 1 (sound_row op) c.perform.result (c.perform.ensures fixed)
