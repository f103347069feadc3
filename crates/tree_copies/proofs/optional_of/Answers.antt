use Rattle.std.proofs.Common.{ap, arith}
use Rattle.tree_records.specs.declared.State.{State}
use Rattle.tree_nodes.specs.Gives.{spare}
use Rattle.tree_nodes.specs.Trees.{step_of}
use Rattle.tree_nodes.proofs.Ready.{room, after_grew}
use Rattle.tree_nodes.proofs.Trees.{place_at}
use Rattle.tree_copies.proofs.LeafNodes.{made_ready, tree_ready, option_of, option_copies, optioned}
use Rattle.tree_copies.proofs.optional_of.Goals as goal

pub grow-cell-requires : goal.grow-cell-requires
grow-cell-requires c = rw c.standard_nominal-base.ensures.stays.ceiling (room (omega arith) (omega arith) (omega arith) (made_ready (spare 4 0 0 1) (omega arith) (omega arith) (omega arith) (omega arith) c.standard_nominal-base.ensures.makes (tree_ready c.requires.ready_tree)))

pub overflow_cast-base : goal.overflow_cast-base
overflow_cast-base c = place_at (after_grew (rw c.standard_nominal-base.ensures.stays.ceiling at c.grow-cell.ensures.grew) (omega arith) (made_ready (spare 4 0 0 1) (omega arith) (omega arith) (omega arith) (omega arith) c.standard_nominal-base.ensures.makes (tree_ready c.requires.ready_tree))) _ (omega (arith, c.standard_nominal-base.ensures.makes.below, ap (λ (s : State). s.top) c.grow-cell.ensures.grew.state))

pub overflow_cast-cell : goal.overflow_cast-cell
overflow_cast-cell c = place_at (after_grew (rw c.standard_nominal-base.ensures.stays.ceiling at c.grow-cell.ensures.grew) (omega arith) (made_ready (spare 4 0 0 1) (omega arith) (omega arith) (omega arith) (omega arith) c.standard_nominal-base.ensures.makes (tree_ready c.requires.ready_tree))) _ (omega (arith, c.grow-cell.ensures.place, ap (λ (s : State). s.top) c.grow-cell.ensures.grew.state))

pub grow-whole-requires : goal.grow-whole-requires
grow-whole-requires c = rw (c.grow-cell.ensures.stays.ceiling, c.standard_nominal-base.ensures.stays.ceiling) (room (omega arith) (omega arith) (omega arith) (after_grew (rw c.standard_nominal-base.ensures.stays.ceiling at c.grow-cell.ensures.grew) (omega arith) (made_ready (spare 4 0 0 1) (omega arith) (omega arith) (omega arith) (omega arith) c.standard_nominal-base.ensures.makes (tree_ready c.requires.ready_tree))))

pub remember-requires-clause-inside : goal.remember-requires-clause-inside
remember-requires-clause-inside c = rw (c.grow-whole.ensures.stays.ceiling, c.grow-cell.ensures.stays.ceiling, c.standard_nominal-base.ensures.stays.ceiling) (room (omega arith) (omega arith) (omega arith) (after_grew (rw (c.grow-cell.ensures.stays.ceiling, c.standard_nominal-base.ensures.stays.ceiling) at c.grow-whole.ensures.grew) (omega arith) (after_grew (rw c.standard_nominal-base.ensures.stays.ceiling at c.grow-cell.ensures.grew) (omega arith) (made_ready (spare 4 0 0 1) (omega arith) (omega arith) (omega arith) (omega arith) c.standard_nominal-base.ensures.makes (tree_ready c.requires.ready_tree)))))

pub remember-requires-clause-place_bound : goal.remember-requires-clause-place_bound
remember-requires-clause-place_bound c = (place_at (after_grew (rw (c.grow-cell.ensures.stays.ceiling, c.standard_nominal-base.ensures.stays.ceiling) at c.grow-whole.ensures.grew) (omega arith) (after_grew (rw c.standard_nominal-base.ensures.stays.ceiling at c.grow-cell.ensures.grew) (omega arith) (made_ready (spare 4 0 0 1) (omega arith) (omega arith) (omega arith) (omega arith) c.standard_nominal-base.ensures.makes (tree_ready c.requires.ready_tree)))) _ (omega (arith, c.grow-whole.ensures.place, ap (λ (s : State). s.top) c.grow-whole.ensures.grew.state))).fits

pub copied-requires-clause-ready : goal.copied-requires-clause-ready
copied-requires-clause-ready c = rw (c.remember.ensures.stays.ceiling, c.grow-whole.ensures.stays.ceiling, c.grow-cell.ensures.stays.ceiling, c.standard_nominal-base.ensures.stays.ceiling) (option_copies (option_of c.requires.place_lt_top.0 (cc) c.standard_nominal-base.ensures.stays c.standard_nominal-base.ensures.makes c.grow-cell.ensures.stays c.grow-cell.ensures.grew c.grow-cell.ensures.place c.grow-whole.ensures.stays c.grow-whole.ensures.grew c.grow-whole.ensures.place c.remember.ensures.stays c.remember.ensures.remembered) c.requires.ready_tree).0

pub copied-requires-clause-place_lt_top : goal.copied-requires-clause-place_lt_top
copied-requires-clause-place_lt_top c = rw c.grow-whole.ensures.place (option_copies (option_of c.requires.place_lt_top.0 (cc) c.standard_nominal-base.ensures.stays c.standard_nominal-base.ensures.makes c.grow-cell.ensures.stays c.grow-cell.ensures.grew c.grow-cell.ensures.place c.grow-whole.ensures.stays c.grow-whole.ensures.grew c.grow-whole.ensures.place c.remember.ensures.stays c.remember.ensures.remembered) c.requires.ready_tree).1

pub returns-clause-optioned : goal.returns-clause-optioned
returns-clause-optioned c =
    optioned (option_of c.requires.place_lt_top.0 (cc) c.standard_nominal-base.ensures.stays c.standard_nominal-base.ensures.makes c.grow-cell.ensures.stays c.grow-cell.ensures.grew c.grow-cell.ensures.place c.grow-whole.ensures.stays c.grow-whole.ensures.grew c.grow-whole.ensures.place c.remember.ensures.stays c.remember.ensures.remembered) c.args.repeat (step_of c.copied.result c.copied.new.trees.state) (rw (c.remember.ensures.stays.ceiling, c.grow-whole.ensures.stays.ceiling, c.grow-cell.ensures.stays.ceiling, c.standard_nominal-base.ensures.stays.ceiling, c.grow-whole.ensures.place) at c.copied.ensures.copied)
