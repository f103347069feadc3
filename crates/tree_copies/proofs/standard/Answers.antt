use Rattle.std.proofs.Common.{arith}
use Rattle.tree_nodes.specs.Gives.{nothing_spare}
use Rattle.tree_nodes.specs.Trees.{step_of}
use Rattle.tree_copies.proofs.LeafNodes.{made_ready, leaf_copied}
use Rattle.tree_copies.proofs.standard.Goals as goal

pub copied-requires-clause-ready : goal.copied-requires-clause-ready
copied-requires-clause-ready c = rw c.leaf-place.ensures.stays.ceiling (made_ready nothing_spare (omega arith) (omega arith) (omega arith) (omega arith) c.leaf-place.ensures.makes c.requires)

pub copied-requires-clause-place_lt_top : goal.copied-requires-clause-place_lt_top
copied-requires-clause-place_lt_top c = (c.leaf-place.ensures.makes.below, c.leaf-place.ensures.makes.some)

pub returns-clause-operates : goal.returns-clause-operates
returns-clause-operates c = leaf_copied c.args.l c.args.repeat (step_of c.copied.result c.copied.new.trees.state) c.leaf-place.ensures.makes (rw c.leaf-place.ensures.stays.ceiling at c.copied.ensures.copied)
