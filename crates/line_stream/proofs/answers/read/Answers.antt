use Rattle.std.proofs.Common.{refl, rules}
use Rattle.line_stream.proofs.answers.Laws.{read_part, put_back}
use Rattle.line_stream.proofs.answers.read.Goals as goal

-- src/answers.rt:24:1
pub returns : goal.returns
returns c =
    let y = read_part {o = c.args.out.now.out.now} {at = c.args.out.now.at} c.args.line.now c.requires (search rules) refl c.demangle.ensures.0 (put_back c.args.out.now.out.now c.demangle.new.out c.args.out.now.at) in
    record { same = record { slice = refl; room = refl }; at = refl; values = y.values; written = y.written }
