use Rattle.definition.specs.declared.Leaf.TheVariants as Leaf
use Rattle.tree_copies.proofs.LeafNodes.{leaf_is, module_leaf, standard_leaf, param_leaf, empty_leaf, first_leaf, variadic_leaf, throws_leaf, async_leaf}
use Rattle.tree_copies.proofs.leaf.Goals as goal

pub returns-in-Module-clause-makes : goal.returns-in-Module-clause-makes
returns-in-Module-clause-makes c = leaf_is _ c.in-Module.is (module_leaf _ _ c.fixed_number.ensures (c.lone.ensures.grew, c.lone.ensures.place))

pub returns-in-StandardNominal-clause-makes : goal.returns-in-StandardNominal-clause-makes
returns-in-StandardNominal-clause-makes c = leaf_is _ c.in-StandardNominal.is (standard_leaf _ _ c.standard_nominal.ensures.makes)

pub returns-in-GenericParam-clause-makes : goal.returns-in-GenericParam-clause-makes
returns-in-GenericParam-clause-makes c = leaf_is _ c.in-GenericParam.is (param_leaf _ c.generic_param.ensures.makes)

pub returns-in-EmptyList-clause-makes : goal.returns-in-EmptyList-clause-makes
returns-in-EmptyList-clause-makes c = leaf_is Leaf.EmptyList c.in-EmptyList.is (empty_leaf (c.lone-in-EmptyList.ensures.grew, c.lone-in-EmptyList.ensures.place))

pub returns-in-FirstElementMarker-clause-makes : goal.returns-in-FirstElementMarker-clause-makes
returns-in-FirstElementMarker-clause-makes c = leaf_is Leaf.FirstElementMarker c.in-FirstElementMarker.is (first_leaf (c.lone-in-FirstElementMarker.ensures.grew, c.lone-in-FirstElementMarker.ensures.place))

pub returns-in-VariadicMarker-clause-makes : goal.returns-in-VariadicMarker-clause-makes
returns-in-VariadicMarker-clause-makes c = leaf_is Leaf.VariadicMarker c.in-VariadicMarker.is (variadic_leaf (c.lone-in-VariadicMarker.ensures.grew, c.lone-in-VariadicMarker.ensures.place))

pub returns-in-Throws-clause-makes : goal.returns-in-Throws-clause-makes
returns-in-Throws-clause-makes c = leaf_is Leaf.Throws c.in-Throws.is (throws_leaf (c.lone-in-Throws.ensures.grew, c.lone-in-Throws.ensures.place))

pub returns-in-Async-clause-makes : goal.returns-in-Async-clause-makes
returns-in-Async-clause-makes c = leaf_is Leaf.Async c.in-Async.is (async_leaf (c.lone-in-Async.ensures.grew, c.lone-in-Async.ensures.place))
