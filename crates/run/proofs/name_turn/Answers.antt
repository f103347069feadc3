use Rattle.std.proofs.lemmas.Result.{err_from_is_err_and}
use Rattle.text_words.proofs.Later.{waits_none}
use Rattle.run.proofs.OneOperator.{name_not_begun, begun_knowing, noted_knowing, turn_named}
use Rattle.run.proofs.name_turn.Goals as goal

pub returns-in_err-begin : goal.returns-in_err-begin
returns-in_err-begin g c =
    let p = err_from_is_err_and c.from_residual.result c.from_residual.ensures.1 in
    rw (p.1, p.2) (name_not_begun g.M.Machine.meaning g.met.M.Machine.laws c.args.text.now c.in_err-begin.ensures c.args.waiting.now)

pub note-requires : goal.note-requires
note-requires g c = (c.requires.1, c.requires.3)

pub identifier-requires : goal.identifier-requires
identifier-requires g c =
    let h = c.requires.0 in
    let b = c.in_ok-begin.ensures in (
      record { ready = c.note.ensures.ready 1 (b.ready h.ready); inside = h.inside; begins = h.begins; formed = h.formed },
      c.requires.1,
      noted_knowing g.M.Machine.meaning g.met.M.Machine.laws c.note.ensures (begun_knowing g.M.Machine.meaning g.met.M.Machine.laws c.args.text.now b c.requires.2),
    )

pub returns : goal.returns
returns g c =
    turn_named g.M.Machine.meaning g.met.M.Machine.laws c.args.text.now c.in_ok-begin.ensures c.args.waiting.now c.note.ensures c.identifier.new.text c.identifier.new.self c.new.result c.new.ensures (waits_none _ c.new.result c.new.ensures) c.identifier.result c.identifier.ensures
