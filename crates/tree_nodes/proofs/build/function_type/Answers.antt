use Rattle.definition.specs.Perform as R
use Rattle.tree_records.proofs.Exits.{failed}
use Rattle.tree_nodes.proofs.Cases.{function_type_of}
use Rattle.tree_nodes.proofs.Ready.{ready_none}
use Rattle.tree_nodes.proofs.Steps.{refuses_first}
use Rattle.tree_nodes.proofs.Trees.{has_wrapped, has_marked}
use Rattle.tree_nodes.proofs.build.function_type.Goals as goal

pub returns-in_err-wrap-clause-builds : goal.returns-in_err-wrap-clause-builds
unfolding R.function_type
returns-in_err-wrap-clause-builds c = rw (failed c.from_residual.ensures.1) (refuses_first _ c.in_err-wrap.ensures.wraps)

pub took-throws-requires : goal.took-throws-requires
took-throws-requires c = ready_none (has_wrapped c.wrap.ensures.reads c.in_ok-wrap.ensures.wraps c.requires)

pub took-is_async-requires : goal.took-is_async-requires
took-is_async-requires c = ready_none (has_marked c.took-throws.ensures.reads c.took-throws.ensures.marks (has_wrapped c.wrap.ensures.reads c.in_ok-wrap.ensures.wraps c.requires))

pub between-requires : goal.between-requires
between-requires c = has_marked c.took-is_async.ensures.reads c.took-is_async.ensures.marks (has_marked c.took-throws.ensures.reads c.took-throws.ensures.marks (has_wrapped c.wrap.ensures.reads c.in_ok-wrap.ensures.wraps c.requires))

pub returns-clause-builds : goal.returns-clause-builds
returns-clause-builds c =
    function_type_of _ c.took-throws.result c.took-is_async.result c.between.result c.requires c.wrap.ensures.reads c.in_ok-wrap.ensures.wraps c.took-throws.ensures.reads c.took-throws.ensures.marks c.took-is_async.ensures.reads c.took-is_async.ensures.marks c.between.ensures.builds
