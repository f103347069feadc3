use Rattle.tree_run.proofs.Steps.{notes}
use Rattle.tree_run.proofs.ReadingMachine.note.Goals as goal

pub returns : goal.returns
returns c = notes c.args.text.now c.args.waiting.now c.args.self.now c.note_waiting.new.known c.note_waiting.ensures
