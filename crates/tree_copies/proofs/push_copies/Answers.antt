use Rattle.std.proofs.Common.{sym, add-one}
use Rattle.tree_nodes.proofs.Trees.{stays_then}
use Rattle.tree_copies.proofs.Copies.{one_push, pushes_to}
use Rattle.tree_copies.proofs.push_copies.Goals as goal

pub loop-i-preserved : goal.loop-i-preserved
loop-i-preserved c =
    let s = c.loop-i.invariant.stays in
    record {
      stays = stays_then s c.push.ensures.stays;
      pushes = pushes_to (sym (add-one _)) (one_push c.loop-i.invariant.pushes (rw s.ceiling at c.push.ensures.pushed));
    }
