use Rattle.std.proofs.Common.{List, subst}
use denote.Ref.{Bor}
use Rattle.definition.specs.Base.{Name}
use Rattle.definition.specs.Words as W
use Rattle.text_words.specs.Table.{part}
use Rattle.text_identifiers.proofs.Steps.{refused_as}
use Rattle.text_identifiers.proofs.OneLiteral.{plain_found, plain_missed}
use Rattle.text_identifiers.proofs.plain.Goals as goal

pub returns-in_err-bytes : goal.returns-in_err-bytes
returns-in_err-bytes g c words h f l =
    let r = c.args.text.now in
    rw (refused_as c.from_residual.result c.from_residual.ensures.1)
    (plain_missed (λ k ws. g.K.Known.stands r.text.now k ws) r c.literal.new.text c.requires.1 f l words h c.in_err-bytes.ensures)

pub returns : goal.returns
returns g c words h f l =
    let r = c.args.text.now in
    let t = c.in_ok-bytes.ensures in
    plain_found (λ k ws. g.K.Known.stands r.text.now k ws) r c.literal.new.text c.requires.1 f l words h t
    (subst (λ (s : Bor (List _)). (ws : List Name) → g.K.Known.stands s.now c.args.known.now ws → g.K.Known.stands s.now c.note.new.known (W.note_words (part s.now c.in_ok-bytes.bytes.from c.in_ok-bytes.bytes.to) ws)) t.text c.note.ensures)
