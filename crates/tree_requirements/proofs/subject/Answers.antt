use Rattle.std.proofs.Common.{arith}
use Rattle.tree_records.proofs.Exits.{failed}
use Rattle.tree_nodes.proofs.Ready.{ready_none, ready_less}
use Rattle.tree_nodes.proofs.Trees.{has_named}
use Rattle.tree_requirements.proofs.Requirements.{subject_param, subject_member, subject_popped, subject_no_name}
use Rattle.tree_requirements.proofs.subject.Goals as goal

pub pop_if-requires : goal.pop_if-requires
pop_if-requires c = ready_none c.requires

pub assoc_type_name-requires : goal.assoc_type_name-requires
assoc_type_name-requires c = ready_none c.requires

pub returns-in_err-name-in-OfMember-clause-takes : goal.returns-in_err-name-in-OfMember-clause-takes
returns-in_err-name-in-OfMember-clause-takes c = rw (failed c.from_residual.ensures.1) (subject_no_name c.args.on _ _ c.in-OfMember.is c.in_err-name-in-OfMember.ensures.takes)

pub member-requires : goal.member-requires
member-requires c = ready_less _ (omega arith) (omega arith) (omega arith) (omega arith) (has_named c.assoc_type_name.ensures.reads c.in_ok-name-in-OfMember.ensures.takes c.requires)

pub returns-in-OfParam-clause-takes : goal.returns-in-OfParam-clause-takes
returns-in-OfParam-clause-takes c = subject_param c.args.on c.in-OfParam.is c.generic_param.ensures.makes

pub returns-in-OfStack-clause-takes : goal.returns-in-OfStack-clause-takes
returns-in-OfStack-clause-takes c = subject_popped c.args.on _ _ c.pop_if.result c.in-OfStack.is c.pop_if.ensures.reads c.pop_if.ensures.takes

pub returns-in_ok-name-in-OfMember-clause-takes : goal.returns-in_ok-name-in-OfMember-clause-takes
returns-in_ok-name-in-OfMember-clause-takes c = let r = c.assoc_type_name.ensures.reads in subject_member c.args.on c.in-OfMember.is c.in_ok-name-in-OfMember.ensures.takes (rw (r.slice, r.ceiling) at c.member.ensures.makes)
