use Rattle.std.proofs.Common.{refl}
use Rattle.definition.proofs.WordsApart.{recall_apart}
use Rattle.check_perform.specs.Performs.{recall_copies}
use Rattle.check_perform.proofs.Sounds.{sound_recall}
use Rattle.check_run.proofs.Steps.{any_words}
use Rattle.check_run.proofs.CheckMachine.recall.Goals as goal

pub returns : goal.returns
returns c =
    let N = c.args.self.now.entries.now.ceiling in
    any_words (recall_copies N c.args.times c.args.index) (recall_apart N c.args.times c.args.index) c.args.self.now _ refl 0 (sound_recall c.args.times c.args.index) c.recall.result c.recall.ensures
