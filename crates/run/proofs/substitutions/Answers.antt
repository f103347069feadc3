use Rattle.std.proofs.lemmas.Result.{err_from_is_err_and}
use Rattle.run.proofs.Chains.{chain_first, chain_more, chain_last, chain_refused, goes_onward}
use Rattle.run.proofs.substitutions.Goals as goal

pub loop-init : goal.loop-init
loop-init g c = chain_first g.M.Machine.meaning g.met.M.Machine.laws c.requires

pub item-requires : goal.item-requires
item-requires g c = c.loop.invariant.ready

pub loop-preserved : goal.loop-preserved
loop-preserved g c =
    let h = rw c.if-branch.false at c.in_ok-item.ensures in
    chain_more g.M.Machine.meaning g.met.M.Machine.laws c.loop.invariant h

pub loop-smaller : goal.loop-smaller
loop-smaller g c =
    let h = rw c.if-branch.false at c.in_ok-item.ensures in
    goes_onward g.M.Machine.meaning c.args.text.now c.loop.invariant.text h

pub returns-then-branch : goal.returns-then-branch
returns-then-branch g c =
    let h = rw c.if-branch.true at c.in_ok-item.ensures in
    chain_last g.M.Machine.meaning g.met.M.Machine.laws c.loop.invariant h

pub returns-in_err-item : goal.returns-in_err-item
returns-in_err-item g c =
    let p = err_from_is_err_and c.from_residual.result c.from_residual.ensures.1 in
    rw (p.1, p.2) (chain_refused g.M.Machine.meaning g.met.M.Machine.laws c.loop.invariant c.in_err-item.ensures)
