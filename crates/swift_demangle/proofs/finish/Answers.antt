use Rattle.call_admission.specs.Admits.{parts}
use Rattle.swift_demangle.proofs.Ends.{left_inside, left_prints, finishes_at, finishes_not}
use Rattle.swift_demangle.proofs.finish.Goals as goal

pub render-n-requires-clause-inside : goal.render-n-requires-clause-inside
render-n-requires-clause-inside c = left_inside c.args.admitted.body.now c.args.words.now c.args.trees.now.ws.now c.args.what c.args.trees.now.n c.args.trees.now.state _ c.requires c.in-Some.ensures

pub render-n-requires-clause-some : goal.render-n-requires-clause-some
render-n-requires-clause-some c = left_prints c.args.what (parts c.args.admitted) c.args.words.now c.args.trees.now.ws.now c.args.trees.now.n c.args.trees.now.state _ c.requires c.in-Some.ensures

pub returns : goal.returns
returns c = finishes_at c.args.what (parts c.args.admitted) c.args.words.now c.args.trees.now.ws.now c.args.trees.now.n c.args.trees.now.state _ _ c.args.out.now _ _ c.in-Some.ensures c.render-n.ensures c.measured.ensures

pub returns-in_default : goal.returns-in_default
returns-in_default c = rw c.at_end.ensures (finishes_not c.args.what (parts c.args.admitted) c.args.words.now c.args.trees.now.ws.now c.args.trees.now.n c.args.trees.now.state c.args.out.now c.in_default.ensures)
