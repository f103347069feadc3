use Rattle.std.proofs.Common.{arith}
use Rattle.tree_nodes.specs.Gives.{spare}
use Rattle.tree_nodes.proofs.Ready.{room, small_place}
use Rattle.tree_copies.proofs.LeafNodes.{made_ready, leaf_pushed}
use Rattle.tree_copies.proofs.push_leaf.Goals as goal

pub push-requires-clause-inside : goal.push-requires-clause-inside
push-requires-clause-inside c = rw c.leaf-place.ensures.stays.ceiling (room (omega arith) (omega arith) (omega arith) (made_ready (spare 11 1 4 1) (omega arith) (omega arith) (omega arith) (omega arith) c.leaf-place.ensures.makes c.requires))

pub push-requires-clause-place_bound : goal.push-requires-clause-place_bound
push-requires-clause-place_bound c = small_place _ c.leaf-place.ensures.makes.below (made_ready (spare 11 1 4 1) (omega arith) (omega arith) (omega arith) (omega arith) c.leaf-place.ensures.makes c.requires)

pub returns-clause-operates : goal.returns-clause-operates
returns-clause-operates c = leaf_pushed c.args.l c.leaf-place.ensures.makes (rw c.leaf-place.ensures.stays.ceiling at c.push.ensures.pushed)
