use Rattle.tree_records.proofs.Exits.{failed}
use Rattle.tree_entities.proofs.Signatures.{signing, signing_at, under_some, under_none, under_refused, under_at}
use Rattle.tree_entities.proofs.under_signature.Goals as goal

pub returns-in-None-clause-takes : goal.returns-in-None-clause-takes
returns-in-None-clause-takes c = under_at c.in-None.is (under_none c.requires.below)

pub returns-in_err-wrap-in-Some-clause-takes : goal.returns-in_err-wrap-in-Some-clause-takes
returns-in_err-wrap-in-Some-clause-takes c = let k = c.in_err-wrap-in-Some.ensures.wraps in rw (failed c.from_residual.ensures.1, c.wrap.ensures.reads.slice) (under_refused c.wrap.new.trees.state _ _ c.args.ty _ c.in-Some.is k.refuses)

pub returns-in_ok-wrap-in-Some-clause-takes : goal.returns-in_ok-wrap-in-Some-clause-takes
returns-in_ok-wrap-in-Some-clause-takes c = let r = c.wrap.ensures.reads in rw c.grow.ensures.place (under_at c.in-Some.is (under_some (signing_at (signing c.in-Some.is c.requires)) c.in_ok-wrap-in-Some.ensures.wraps (cc) (rw (r.slice, r.ceiling) at c.grow.ensures.grew)))
