use Rattle.std.proofs.Common.{arith}
use Rattle.tree_records.proofs.Exits.{failed}
use Rattle.tree_nodes.proofs.Ready.{small_place}
use Rattle.tree_copies.proofs.Copies.{copies_room, copied_done, copied_refused}
use Rattle.tree_copies.proofs.copied.Goals as goal

pub returns-in_err-trees-clause-copied : goal.returns-in_err-trees-clause-copied
returns-in_err-trees-clause-copied c = rw (failed c.from_residual.ensures.1) (copied_refused _ _ _ _ c.field-size.ensures c.in_err-trees.ensures)

pub push_copies-requires-clause-inside : goal.push_copies-requires-clause-inside
push_copies-requires-clause-inside c = copies_room _ _ _ _ _ _ (omega (arith, c.field-size.ensures, c.requires.place_lt_top.1)) c.in_ok-trees.ensures c.requires.ready

pub push_copies-requires-clause-place_bound : goal.push_copies-requires-clause-place_bound
push_copies-requires-clause-place_bound c = small_place _ c.requires.place_lt_top.0 c.requires.ready

pub returns-clause-copied : goal.returns-clause-copied
returns-clause-copied c = copied_done _ _ _ _ (omega (arith, c.field-size.ensures, c.requires.place_lt_top.1)) c.field-size.ensures c.requires.place_lt_top.0 c.in_ok-trees.ensures c.push_copies.ensures.pushes
