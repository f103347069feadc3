use Rattle.std.proofs.Common.{rules, ◌≡◌}
use Rattle.std.proofs.lemmas.Result.{err_from_is_err_and}
use Rattle.line_forms.specs.Lines.{line_of}
use Rattle.line_buffers.specs.declared.Failure.{Failure}
use Rattle.line_stream.proofs.Steps.{stepped, failed_write}
use Rattle.line_stream.proofs.step.Goals as goal

pub returns-clause-stepped : goal.returns-clause-stepped
returns-clause-stepped g c = stepped c.requires.holds c.in_ok-held.ensures (line_of c.args.asked) c.turn-t.ensures

pub returns-in_err-map_err-clause-failed : goal.returns-in_err-map_err-clause-failed
returns-in_err-map_err-clause-failed g c =
    let f : c.in_err-map_err.field-0.0 ≡ Failure.Write = search rules in
    let p = err_from_is_err_and c.from_residual-in_err-map_err.result c.from_residual-in_err-map_err.ensures.1 in
    rw (p.1, p.2, f) (failed_write c.requires.holds c.in_ok-held.ensures (line_of c.args.asked) c.turn-t.ensures c.args.stdout.now c.write_all.new.self)
