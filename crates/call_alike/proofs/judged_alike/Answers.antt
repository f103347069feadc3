use Rattle.call_alike.proofs.Judging.{judges}
use Rattle.call_alike.proofs.judged_alike.Goals as goal

pub returns : goal.returns
returns c = judges c.args.text.now c.args.ceiling c.args.k c.whole-symbols_agree.ensures c.whole-types_agree.ensures c.stopped-stopped_symbols_agree.ensures c.stopped-stopped_types_agree.ensures c.whole-symbols_agree.auto.out c.stopped-stopped_symbols_agree.auto.reading_stack c.stopped-stopped_symbols_agree.auto.check_stack
