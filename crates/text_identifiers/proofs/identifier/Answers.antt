use Rattle.std.proofs.Common.{refl}
use Rattle.text_words.specs.Table.{table}
use Rattle.text_identifiers.proofs.Identifying.{identifies}
use Rattle.text_identifiers.proofs.identifier.Goals as goal

pub returns : goal.returns
returns c =
    let r = c.args.text.now in
    identifies r c.read.new.text c.args.words.now c.read.new.known c.requires.1 c.read.result
    (c.read.ensures (table r.text.now c.args.words.now) (record { is = refl; fitting = c.requires.1 }))
