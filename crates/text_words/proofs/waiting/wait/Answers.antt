use Rattle.std.proofs.Common.{◌<◌, length, arith}
use Rattle.text_words.proofs.Later.{more}
use Rattle.text_words.proofs.waiting.wait.Goals as goal

pub returns : goal.returns
returns c text h w =
    let room : c.args.q.now.count < length c.args.q.now.spans = omega arith in
    more text c.args.q.now c.push.new.self c.args.from c.args.to c.new.result room c.push.ensures c.new.ensures c.requires.0 c.requires.1 h w
