use lib.ListN.{length}
use Rattle.call_alike.proofs.Judging.{still_fits, read_wrote, check_wrote, stopped_is}
use Rattle.call_alike.proofs.stopped.Goals as goal

pub stopped_agrees-requires : goal.stopped_agrees-requires
stopped_agrees-requires c = (still_fits c.read_stopped-reading.result (read_wrote c.args.text.now c.args.what c.args.ceiling c.args.k (length c.args.reading_workspace.now) c.read_stopped-reading.ensures.0), still_fits c.check_stopped-check.result (check_wrote c.args.text.now c.args.what c.args.ceiling c.args.k (length c.args.check_workspace.now) c.check_stopped-check.ensures.0))

pub returns : goal.returns
returns c = stopped_is c.args.text.now c.args.what c.args.ceiling c.args.k c.read_stopped-reading.result c.check_stopped-check.result c.stopped_agrees.result c.read_stopped-reading.ensures c.check_stopped-check.ensures c.stopped_agrees.ensures
